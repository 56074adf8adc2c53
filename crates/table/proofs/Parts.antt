-- Parts of lists of bytes.
use Rattle.std.proofs.Common.{◌≡◌, ℕ, zero, suc, ◌+◌, ◌≤◌, List, [], ◌∷◌, length, take, drop, refl, ap, subst, arith}
use Rattle.std.proofs.lemmas.List.{length-drop, length-take-le}
use Rattle.promise.specs.Sheets.{first_of, drop_of}
use Rattle.table.specs.View.{cut}

pub first_take : {A : Type 0} (n : ℕ) (xs : List A) → first_of n xs ≡ take n xs
unfolding first_of
first_take zero xs = refl
first_take (suc n) [] = refl
first_take (suc n) (x ∷ xs) = ap (λ l. x ∷ l) (first_take n xs)

pub drop_drops : {A : Type 0} (n : ℕ) (xs : List A) → drop_of n xs ≡ drop n xs
unfolding drop_of
drop_drops zero xs = refl
drop_drops (suc n) [] = refl
drop_drops (suc n) (x ∷ xs) = drop_drops n xs

pub cut_length : (m : List ℕ) (a n : ℕ) → a + n ≤ length m → length (cut a n m) ≡ n
cut_length m a n h = let d = length-drop a m in length-take-le n (drop a m) (omega arith)

-- what holds of two lists holds of their equals
pub moved2 : {X Y : Type 0} (P : X → Y → Type 0) {a a' : X} {b b' : Y} → a ≡ a' → b ≡ b' → P a b → P a' b'
moved2 P {a} {a'} {b} {b'} p q h = subst (P a') q (subst (λ x. P x b) p h)
