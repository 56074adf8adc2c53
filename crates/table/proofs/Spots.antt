-- Where pieces begin, noted and sorted.
use Rattle.std.proofs.Common.{◌≡◌, ℕ, ◌+◌, ◌<◌, ◌≤◌, false, ◌⊎◌, List, length, get_or, Ordering, Less, sym, refl, ap, ◌∙◌, subst, inl, inr, arith}
use Rattle.std.specs.Cmp.{nat_cmp_is}
use Rattle.std.specs.Ordering.{is_lt, ordering_then, nat_cmp}
use Rattle.std.specs.List.Sorted.{IsPermutation, IsSortedWithin}
use Rattle.std.specs.List.{ContainsAt as Has, AllByRecursion as All}
use Rattle.std.proofs.lemmas.List.Sorted.{IsNonDecreasingBy-from_all_adjacent}
use Rattle.std.proofs.ByRecursion.{all_shuffled, has_shuffled, All-from_get_or, All-get_or}
use Rattle.std.proofs.lemmas.List.{get_or_default}
use Rattle.std.proofs.lemmas.Bool.{cases_lt, false≢true}
use Rattle.table.specs.declared.heads.Head.{Head}
use Rattle.table.specs.View.{blank_head}
use Rattle.table.specs.Packing.{Ordered}

-- where each piece begins, with the index of its head
pub record Marked (hs : List Head) (ps : List (ℕ × ℕ)) : Type 0 where
  pub long : length ps ≡ length hs
  pub each : (q : ℕ) → q < length hs → get_or ps q (0, 0) ≡ ((get_or hs q blank_head).at, q)

-- of two pairs that are sorted the first parts are
firsts : (x y : ℕ × ℕ) → is_lt (ordering_then (nat_cmp y.0 x.0) (nat_cmp y.1 x.1)) ≡ false → x.0 ≤ y.0
firsts x y h = by (cases_lt y.0 x.0) where
  by : (y.0 < x.0) ⊎ (x.0 ≤ y.0) → x.0 ≤ y.0
  by (inr l) = l
  by (inl l) =
      let e : Less ≡ nat_cmp y.0 x.0 = nat_cmp_is y.0 x.0 Less l in
      absurd (false≢true (sym h ∙ sym (ap (λ (k : Ordering). is_lt (ordering_then k (nat_cmp y.1 x.1))) e)))

RightIn : (hs : List Head) → ℕ × ℕ → Type 0
RightIn hs p = (p.1 < length hs) × (p.0 ≡ (get_or hs p.1 blank_head).at)

pub ordered : (hs : List Head) (ps qs : List (ℕ × ℕ)) (n : ℕ) → Marked hs ps → IsPermutation ps qs → n ≡ length qs → IsSortedWithin (λ x y. is_lt (ordering_then (nat_cmp x.0 y.0) (nat_cmp x.1 y.1))) qs 0 n → Ordered hs qs
unfolding RightIn
ordered hs ps qs n m s e up = record {
  right = λ q l. All-get_or (RightIn hs) qs q (0, 0) l all;
  whole = λ j l. found j l (has_shuffled ps qs ((get_or hs j blank_head).at, j) s (j, rw m.long l, λ d. get_or_default ps j d (0, 0) (rw m.long l) ∙ m.each j l));
  rises = λ q r a b. IsNonDecreasingBy-from_all_adjacent (λ (p : ℕ × ℕ). p.0) qs (λ k d h. firsts (get_or qs k d) (get_or qs (k + 1) d) (up k d (omega arith) (omega arith))) q r (0, 0) a b;
} where
  each : (q : ℕ) → q < length ps → RightIn hs (get_or ps q (0, 0))
  each q l = let k : q < length hs = omega (arith, m.long) in subst (RightIn hs) (sym (m.each q k)) (k, refl)

  all : All (RightIn hs) qs
  all = all_shuffled (RightIn hs) ps qs s (All-from_get_or (RightIn hs) ps (0, 0) each)

  found : (j : ℕ) → j < length hs → Has qs ((get_or hs j blank_head).at, j) → (q : ℕ) × (q < length qs) × ((get_or qs q (0, 0)).1 ≡ j)
  found j l (q, b, f) = (q, b, ap (λ (p : ℕ × ℕ). p.1) (f (0, 0)))
