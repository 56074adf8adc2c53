-- The order of names: step by step, and its laws.
use Rattle.std.proofs.Common.{◌≡◌, Bool, not, Some, ℕ, true, false, List, [], ◌∷◌, sym, refl, ◌∙◌, arith}
use Rattle.std.proofs.lemmas.Bool.Decides.{nat_tests}
use Rattle.std.proofs.lemmas.Bool.{false≢true}
use Rattle.std.specs.Ordering.{is_lt, is_le, is_some_and, nat_cmp}
use Rattle.std.specs.Cmp.Lexicographic.{slice_partial_cmp}
use Rattle.std.proofs.lemmas.Cmp.{same_from_slice_cmp_tested}
use Rattle.promise.specs.Sheets.{less}

less_nil_right : (a : List ℕ) → less a [] ≡ false
unfolding less
less_nil_right [] = refl
less_nil_right (x ∷ a) = refl

pub less_trans : (a b c : List ℕ) → less a b ≡ true → less b c ≡ true → less a c ≡ true
unfolding less
less_trans a [] c p q = absurd (false≢true (sym (less_nil_right a) ∙ p))
less_trans a (y ∷ b) [] p q = absurd (false≢true q)
less_trans [] (y ∷ b) (z ∷ c) p q = refl
less_trans (x ∷ a) (y ∷ b) (z ∷ c) p q = let h = less_trans a b c in grind (arith, nat_tests)

pub less_asym : (a b : List ℕ) → less a b ≡ true → less b a ≡ false
unfolding less
less_asym a [] p = absurd (false≢true (sym (less_nil_right a) ∙ p))
less_asym [] (y ∷ b) p = refl
less_asym (x ∷ a) (y ∷ b) p = let h = less_asym a b in grind (arith, nat_tests)

pub less_same : (a b : List ℕ) → less a b ≡ false → less b a ≡ false → a ≡ b
unfolding less
less_same [] [] p q = refl
less_same [] (y ∷ b) p q = absurd (false≢true (sym p))
less_same (x ∷ a) [] p q = absurd (false≢true (sym q))
less_same (x ∷ a) (y ∷ b) p q =
    let e : x ≡ y = grind (arith, nat_tests) in
    let l : less a b ≡ false = grind (arith, nat_tests) in
    let r : less b a ≡ false = grind (arith, nat_tests) in
    let i = less_same a b l r in
    cc

pub less_self : (a : List ℕ) → less a a ≡ false
unfolding less
less_self [] = refl
less_self (x ∷ a) = let h = less_self a in grind (arith, nat_tests)

-- what `<` and `<=` on slices test
pub less_lt : (a b : List ℕ) (r : Bool) → r ≡ is_some_and is_lt (slice_partial_cmp (λ x y. Some (nat_cmp x y)) a b) → r ≡ less a b
unfolding less
less_lt = same_from_slice_cmp_tested nat_cmp is_lt less refl (λ _ _. refl) (λ _ _. refl) (λ x y xs ys o h. grind (arith, nat_tests))

pub less_le : (a b : List ℕ) (r : Bool) → r ≡ is_some_and is_le (slice_partial_cmp (λ x y. Some (nat_cmp x y)) a b) → r ≡ not (less b a)
unfolding less
less_le = same_from_slice_cmp_tested nat_cmp is_le (λ a b. not (less b a)) refl (λ _ _. refl) (λ _ _. refl) (λ x y xs ys o h. grind (arith, nat_tests))
