use Rattle.std.proofs.Common.{◌≡◌, ℕ, ◌+◌, ◌*◌, ◌<◌, ◌≤◌, true, List, [], ◌++◌, Result, Ok, Err, IsErr, length, vec_items, vec_len, vec_capacity, sym, refl, ap, ◌∙◌, subst, arith}
use Rattle.std.specs.List.Sorted.{IsSearchInRange}
use Rattle.std.proofs.lemmas.Bool.{false≢true}
use Rattle.std.proofs.lemmas.List.{append_assoc}
use Rattle.std.proofs.lemmas.List.Edits.{length-insert}
use Rattle.promise.specs.Bytes.{every}
use Rattle.promise.specs.Sheets.{Sheet, weight}
use Rattle.table.specs.declared.heads.Head.{Head}
use Rattle.table.specs.declared.tables.Table.{Table}
use Rattle.table.specs.View.{apart, below, rising, laid, sheets_of}
use Rattle.table.specs.Tables.{state_of, new_sheet}
use Rattle.table.proofs.Fits.{count}
use Rattle.table.proofs.Holds.{longer}
use Rattle.table.proofs.Weights.{weight_count}
use Rattle.table.proofs.Laying.{appended, laid_inside, laid_apart, new_below, new_head}
use Rattle.table.proofs.tables.Table.append.Goals as goal

-- a new sheet has a free head
free_head : (xs : List Sheet) (p : Result ℕ ℕ) (x : Sheet) (room most : ℕ) → IsSearchInRange p (length xs) → weight (laid xs p x) ≤ room → room < 512 * most + 512 → IsErr p → length xs < most
free_head xs (Ok i) x room most l r c e = absurd (false≢true e)
free_head xs (Err i) x room most l r c e =
    let q = weight_count (laid xs (Err i) x) in
    let n = length-insert xs i x l in
    omega arith

pub enter-requires-clause-free : goal.enter-requires-clause-free
enter-requires-clause-free c =
    let t = c.args.self.now in
    let k = count (vec_items t.log) (vec_items t.heads) in
    let o = t.heads.ok.0 in
    λ h. (let l = free_head (state_of t).sheets c.args.place (new_sheet c.args.name.now c.args.bytes.now (state_of t)) t.room (vec_capacity t.heads) c.requires.within c.requires.admitted.light t.held h in omega arith)

-- its heads lie below the end of the log
lain : (t : Table) (u : ℕ) → u ≡ vec_len t.log → every (below u) (vec_items t.heads) ≡ true
lain t u e = subst (λ (k : ℕ). every (below k) (vec_items t.heads) ≡ true) (sym e) t.inside

-- the log then
written : (m n bs a b : List ℕ) → b ≡ a ++ bs → a ≡ m ++ n → b ≡ m ++ (n ++ bs)
written m n bs a b e f = e ∙ ap (λ (q : List ℕ). q ++ bs) f ∙ append_assoc m n bs

after : (c : goal.After-enter) → sheets_of (vec_items c.append-2.new.log) (vec_items c.enter.new.heads) ≡ laid (state_of c.args.self.now).sheets c.args.place (new_sheet c.args.name.now c.args.bytes.now (state_of c.args.self.now))
after c =
    let t = c.args.self.now in
    appended (vec_items t.log) (vec_items c.append-2.new.log) c.args.name.now c.args.bytes.now (vec_items t.heads) (vec_items c.enter.new.heads) c.len-at.result (t.changes + 1) c.args.place (c.len-at.ensures ∙ t.log.ok.0) (lain t c.len-at.result c.len-at.ensures)
    (written (vec_items t.log) c.args.name.now c.args.bytes.now _ _ c.append-2.ensures.items c.append.ensures.items) c.enter.ensures.items

pub invariant_of-self : goal.invariant_of-self
invariant_of-self c =
    let t = c.args.self.now in
    let a = after c in
    let l = longer t.log c.append.new.log c.args.name.now c.append.ensures.items in
    let k = longer c.append.new.log c.append-2.new.log c.args.bytes.now c.append-2.ensures.items in
    let u = c.len-at.result in
    let eu : u ≡ vec_len t.log = c.len-at.ensures in
    let h = new_head u c.args.name.now c.args.bytes.now (t.changes + 1) in
    let v = vec_len c.append-2.new.log in
    let w = c.weigh-load.ensures (new_sheet c.args.name.now c.args.bytes.now (state_of t)) refl in
    let f = c.requires.fits in record {
      inside = subst (λ (hs : List Head). every (below v) hs ≡ true) (sym c.enter.ensures.items) (laid_inside (vec_items t.heads) u v c.args.place h (omega arith) (lain t u eu) (subst (λ (q : ℕ). below q h ≡ true) (omega arith) (new_below u c.args.name.now c.args.bytes.now (t.changes + 1) f.named f.narrow f.small)));
      pieces = subst (λ (hs : List Head). apart hs ≡ true) (sym c.enter.ensures.items) (laid_apart (vec_items t.heads) u c.args.place h (omega arith) (lain t u eu) t.pieces);
      sorted = subst (λ (x : List Sheet). rising x ≡ true) (sym a) c.requires.sorted;
      weighed = w ∙ ap weight (sym a);
      light = subst (λ (w : ℕ). w ≤ t.room) (sym w) c.requires.admitted.light;
      small = t.small;
      wide = omega (arith, t.wide, c.append.ensures.capacity, c.append-2.ensures.capacity);
      held = omega (arith, t.held, c.enter.ensures.capacity);
      noted = t.noted;
      counted = omega (arith, c.requires.admitted.counted);
    }

pub returns : goal.returns
returns c =
    let t = c.args.self.now in
    record {
      state = ap (λ (x : List Sheet). record { sheets = x; holds = []; changes' = t.changes + 1 })
          (appended (vec_items t.log) (vec_items c.append-2.new.log) c.args.name.now c.args.bytes.now (vec_items t.heads) (vec_items c.enter.new.heads) c.len-at.result (t.changes + 1) c.args.place (c.len-at.ensures ∙ t.log.ok.0) (lain t c.len-at.result c.len-at.ensures)
          (written (vec_items t.log) c.args.name.now c.args.bytes.now _ _ c.append-2.ensures.items c.append.ensures.items) c.enter.ensures.items);
      room = refl;
    }
