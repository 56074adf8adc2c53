use Rattle.std.proofs.Common.{vec_len, ◌≡◌, true, List, [], vec_items, sym, refl, ap, ◌∙◌, subst, arith}
use Rattle.std.specs.List.{remove}
use Rattle.promise.specs.Bytes.{every}
use Rattle.promise.specs.Sheets.{Sheet, weight}
use Rattle.table.specs.declared.heads.Head.{Head}
use Rattle.table.specs.View.{below, apart, rising, sheets_of, blank_sheet}
use Rattle.table.specs.Tables.{state_of}
use Rattle.table.proofs.Apart.{every_removed, apart_removed}
use Rattle.table.proofs.Weights.{weight_removed, rising_removed}
use Rattle.table.proofs.Laying.{sheets_removed}
use Rattle.table.proofs.tables.Table.forget.Goals as goal

pub overflow_sub-self : goal.overflow_sub-self
overflow_sub-self c = let t = c.args.self.now in omega (arith, weight_removed (state_of t).sheets c.args.i blank_sheet c.requires, t.weighed, c.head-h.ensures.len)

pub invariant_of-self : goal.invariant_of-self
invariant_of-self c =
    let t = c.args.self.now in
    let q = c.remove.ensures.items in
    let s = ap (sheets_of (vec_items t.log)) q ∙ sheets_removed (vec_items t.log) (vec_items t.heads) c.args.i in
    let w = weight_removed (state_of t).sheets c.args.i blank_sheet c.requires in
    let z : weight (sheets_of (vec_items t.log) (vec_items c.remove.new.self)) ≡ weight (remove (state_of t).sheets c.args.i) = ap weight s in record {
      inside = subst (λ (hs : List Head). every (below (vec_len t.log)) hs ≡ true) (sym q) (every_removed (below (vec_len t.log)) (vec_items t.heads) c.args.i t.inside);
      pieces = subst (λ (hs : List Head). apart hs ≡ true) (sym q) (apart_removed (vec_items t.heads) c.args.i t.pieces);
      sorted = subst (λ (x : List Sheet). rising x ≡ true) (sym s) (rising_removed (state_of t).sheets c.args.i t.sorted);
      weighed = omega (arith, t.weighed, c.head-h.ensures.len);
      light = omega (arith, t.light);
      small = t.small;
      wide = t.wide;
      held = omega (arith, t.held, c.remove.ensures.capacity);
      noted = t.noted;
      counted = t.counted;
    }

pub returns : goal.returns
returns c =
    let t = c.args.self.now in
    record {
      state = ap (λ (x : List Sheet). record { sheets = x; holds = []; changes' = t.changes }) (ap (sheets_of (vec_items t.log)) c.remove.ensures.items ∙ sheets_removed (vec_items t.log) (vec_items t.heads) c.args.i);
      room = refl;
    }
