use Rattle.std.proofs.Common.{vec_len, ◌≡◌, ℕ, true, List, vec_items, sym, refl, subst, arith}
use Rattle.promise.specs.Bytes.{every}
use Rattle.promise.specs.Sheets.{weight}
use Rattle.table.specs.declared.heads.Head.{Head}
use Rattle.table.specs.View.{below, apart, rising, sheets_of}
use Rattle.table.proofs.tables.Table.begin.Goals as goal

pub invariant_of-result : goal.invariant_of-result
unfolding every rising weight apart
invariant_of-result c =
    let m = c.in_ok-heads.ensures in
    let log = c.in_ok-log.log in record {
      inside = subst (λ (hs : List Head). every (below (vec_len log)) hs ≡ true) (sym m.items) refl;
      pieces = subst (λ (hs : List Head). apart hs ≡ true) (sym m.items) refl;
      sorted = subst (λ (hs : List Head). rising (sheets_of (vec_items log) hs) ≡ true) (sym m.items) refl;
      weighed = subst (λ (hs : List Head). ◌≡◌ {A = ℕ} 0 (weight (sheets_of (vec_items log) hs))) (sym m.items) refl;
      light = omega arith;
      small = omega arith;
      wide = omega (arith, c.min-room.ensures, c.min.ensures, c.in_ok-log.ensures.exact);
      held = omega (arith, m.capacity);
      noted = omega (arith, c.in_ok-spots.ensures.capacity);
      counted = omega arith;
    }
