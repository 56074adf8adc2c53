use Rattle.std.proofs.Common.{vec_len, set, ◌≡◌, ℕ, ◌+◌, ◌≤◌, true, List, [], vec_items, sym, refl, ap, ◌∙◌, subst, arith}
use Rattle.promise.specs.Bytes.{every}
use Rattle.promise.specs.Sheets.{Sheet, weight}
use Rattle.table.specs.declared.heads.Head.{Head}
use Rattle.table.specs.View.{rising, below, filled_sheet}
use Rattle.table.specs.Tables.{state_of}
use Rattle.table.proofs.Fits.{lies, below_from}
use Rattle.table.proofs.Apart.{every_set}
use Rattle.table.proofs.Holds.{sound, within}
use Rattle.table.proofs.Changing.{filled_length}
use Rattle.table.proofs.Laying.{filled_sheets, same_piece, rising_named}
use Rattle.table.proofs.tables.Table.fill.Goals as goal

abbrev new_head : Head → ℕ → ℕ → Head
new_head h len e = record { at = h.at; width = h.width; len = len; size = h.size; edition = record { 0 = e } }

pub weigh-load-requires-clause-small : goal.weigh-load-requires-clause-small
weigh-load-requires-clause-small c =
    let l = lies (vec_len c.args.self.now.log) c.head-h.result c.head-h.ensures.lies in
    let f : c.args.len ≤ c.head-h.result.size = subst (λ (g : Head). c.args.len ≤ g.size) (sym c.head-h.ensures.value) c.requires.fits in
    omega (arith, l.short)

pub invariant_of-self : goal.invariant_of-self
invariant_of-self c =
    let t = c.args.self.now in
    let h = c.head-h.result in
    let eh = c.head-h.ensures.value in
    let el = c.head-h.ensures.len in
    let a = (filled_sheets (vec_items t.log) (vec_items c.overwrite.new.log) (vec_items t.heads) c.args.i c.args.offset c.args.len (t.changes + 1) c.args.bytes.now h
    (within t c.args.i c.requires.within) eh (sound t).inside t.pieces (omega (arith, c.requires.begun, el)) c.requires.whole (subst (λ (g : Head). c.args.len ≤ g.size) (sym eh) c.requires.fits) (omega (arith, c.requires.known, el)) c.overwrite.ensures.items) in
    let l = lies (vec_len t.log) h c.head-h.ensures.lies in
    let n = c.overwrite.ensures.len in
    let w = c.weigh-load.ensures (filled_sheet (state_of t).sheets c.args.i c.args.offset c.args.bytes.now c.args.len (t.changes + 1))
    (filled_length (state_of t).sheets c.args.i c.args.offset c.args.bytes.now c.args.len (t.changes + 1) c.requires.begun c.requires.known) in
    let f : c.args.len ≤ h.size = subst (λ (g : Head). c.args.len ≤ g.size) (sym eh) c.requires.fits in record {
      inside = subst (λ (k : ℕ). every (below k) (set (vec_items t.heads) c.args.i (new_head h c.args.len (t.changes + 1))) ≡ true) (sym n) (every_set (below (vec_len t.log)) (vec_items t.heads) c.args.i (new_head h c.args.len (t.changes + 1)) t.inside (below_from (vec_len t.log) (new_head h c.args.len (t.changes + 1)) (record { piece = l.piece; filled = f; named = l.named; narrow = l.narrow; short = l.short })));
      pieces = same_piece (vec_items t.heads) c.args.i h (new_head h c.args.len (t.changes + 1)) (within t c.args.i c.requires.within) eh refl refl refl t.pieces;
      sorted = subst (λ (x : List Sheet). rising x ≡ true) (sym a) (rising_named (state_of t).sheets c.args.i (filled_sheet (state_of t).sheets c.args.i c.args.offset c.args.bytes.now c.args.len (t.changes + 1)) refl ∙ t.sorted);
      weighed = w ∙ ap weight (sym a);
      light = subst (λ (w : ℕ). w ≤ t.room) (sym w) c.requires.admitted.light;
      small = t.small;
      wide = omega (arith, t.wide, c.overwrite.ensures.capacity);
      held = t.held;
      noted = t.noted;
      counted = omega (arith, c.requires.admitted.counted);
    }

pub returns : goal.returns
returns c =
    let t = c.args.self.now in
    let h = c.head-h.result in
    let eh = c.head-h.ensures.value in
    let el = c.head-h.ensures.len in
    record {
      state = ap (λ (x : List Sheet). record { sheets = x; holds = []; changes' = c.args.self.now.changes + 1 })
          (filled_sheets (vec_items t.log) (vec_items c.overwrite.new.log) (vec_items t.heads) c.args.i c.args.offset c.args.len (t.changes + 1) c.args.bytes.now h
          (within t c.args.i c.requires.within) eh (sound t).inside t.pieces (omega (arith, c.requires.begun, el)) c.requires.whole (subst (λ (g : Head). c.args.len ≤ g.size) (sym eh) c.requires.fits) (omega (arith, c.requires.known, el)) c.overwrite.ensures.items);
      room = refl;
    }
