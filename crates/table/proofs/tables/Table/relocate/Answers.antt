use Rattle.std.proofs.Common.{◌≡◌, ℕ, ◌+◌, ◌-◌, ◌≤◌, true, List, [], Ok, ◌++◌, length, replicate, drop, vec_items, vec_len, sym, refl, ap, ◌∙◌, subst, arith}
use Rattle.std.specs.List.{slice_range}
use Rattle.std.proofs.lemmas.List.{length-append, length-replicate, length-drop, length-take-le}
use Rattle.promise.specs.Bytes.{every}
use Rattle.promise.specs.Sheets.{Sheet, weight}
use Rattle.table.specs.declared.heads.Head.{Head}
use Rattle.table.specs.View.{below, rising}
use Rattle.table.proofs.Fits.{Lies, lies, below_from}
use Rattle.table.proofs.Holds.{within, longer}
use Rattle.table.proofs.Laying.{moved_sheets, laid_inside, laid_apart}
use Rattle.table.proofs.tables.Table.relocate.Goals as goal

abbrev new_head : Head → ℕ → ℕ → Head
new_head h at size = record { at = at; width = h.width; len = h.len; size = size; edition = h.edition }

-- how much a piece that is copied, with zeros up to its size, takes
taken : (m : List ℕ) (h : Head) (size : ℕ) → h.at + (h.width + h.len) ≤ length m → h.len ≤ size → length (slice_range m h.at (h.at + (h.width + h.len)) ++ replicate (h.width + size - (h.width + h.len)) 0) ≡ h.width + size
taken m h size l f =
    let d = length-drop h.at m in
    let p : List ℕ = slice_range m h.at (h.at + (h.width + h.len)) in
    let z : List ℕ = replicate (h.width + size - (h.width + h.len)) 0 in
    let s : length p ≡ h.at + (h.width + h.len) - h.at = length-take-le (h.at + (h.width + h.len) - h.at) (drop h.at m) (omega arith) in
    let r : length z ≡ h.width + size - (h.width + h.len) = length-replicate (h.width + size - (h.width + h.len)) 0 in
    let q : length p + length z ≡ h.width + size = rw (s, r) (omega arith) in
    length-append p z ∙ q

pub invariant_of-self : goal.invariant_of-self
invariant_of-self c =
    let t = c.args.self.now in
    let h = c.head-h.result in
    let e = c.head-h.ensures in
    let l = lies (vec_len t.log) h e.lies in
    let u = c.len-at.result in
    let eu : u ≡ vec_len t.log = c.len-at.ensures in
    let b : every (below u) (vec_items t.heads) ≡ true = subst (λ (k : ℕ). every (below k) (vec_items t.heads) ≡ true) (sym eu) t.inside in
    let a = (moved_sheets (vec_items t.log) (vec_items c.copy_behind.new.log) (replicate (h.width + c.args.size - (h.width + h.len)) 0) (vec_items t.heads) u c.args.i c.args.size h (within t c.args.i c.requires.within) e.value (eu ∙ t.log.ok.0) (subst (λ (k : ℕ). Lies k h) (sym eu) l) b c.copy_behind.ensures.items) in
    let n = longer t.log c.copy_behind.new.log _ c.copy_behind.ensures.items ∙ ap (λ (k : ℕ). vec_len t.log + k) (taken (vec_items t.log) h c.args.size (omega (arith, l.piece, l.filled, t.log.ok.0)) (omega (arith, c.requires.holds, e.len))) in record {
      inside = laid_inside (vec_items t.heads) u (vec_len c.copy_behind.new.log) (Ok c.args.i) (new_head h u c.args.size) (omega (arith, n, eu)) b (below_from (vec_len c.copy_behind.new.log) (new_head h u c.args.size) (record { piece = omega (arith, n, eu); filled = omega (arith, c.requires.holds, e.len); named = l.named; narrow = l.narrow; short = c.requires.small }));
      pieces = laid_apart (vec_items t.heads) u (Ok c.args.i) (new_head h u c.args.size) (omega arith) b t.pieces;
      sorted = subst (λ (x : List Sheet). rising x ≡ true) (sym a) t.sorted;
      weighed = t.weighed ∙ ap weight (sym a);
      light = t.light;
      small = t.small;
      wide = omega (arith, t.wide, c.copy_behind.ensures.capacity);
      held = t.held;
      noted = t.noted;
      counted = t.counted;
    }

pub returns-clause-same : goal.returns-clause-same
returns-clause-same c =
    let t = c.args.self.now in
    let h = c.head-h.result in
    let e = c.head-h.ensures in
    let l = lies (vec_len t.log) h e.lies in
    let u = c.len-at.result in
    let eu : u ≡ vec_len t.log = c.len-at.ensures in
    let b : every (below u) (vec_items t.heads) ≡ true = subst (λ (k : ℕ). every (below k) (vec_items t.heads) ≡ true) (sym eu) t.inside in
    record {
      state = ap (λ (x : List Sheet). record { sheets = x; holds = []; changes' = t.changes })
          (moved_sheets (vec_items t.log) (vec_items c.copy_behind.new.log) (replicate (h.width + c.args.size - (h.width + h.len)) 0) (vec_items t.heads) u c.args.i c.args.size h (within t c.args.i c.requires.within) e.value (eu ∙ t.log.ok.0) (subst (λ (k : ℕ). Lies k h) (sym eu) l) b c.copy_behind.ensures.items);
      room = refl;
    }
