-- The order of names, and what it is to be the same name.
use Rattle.std.proofs.Common.{◌≡◌, true, false, [], ◌∷◌, sym, refl, ◌∙◌, arith}
use Rattle.std.proofs.lemmas.Bool.Decides.{nat_tests}
use Rattle.std.proofs.lemmas.Bool.{false≢true, le-ltb}
use Rattle.promise.specs.Sheets.{Name, less, same}

less_nil : (a : Name) → less a [] ≡ false
unfolding less
less_nil [] = refl
less_nil (x ∷ a) = refl

pub less_self : (n : Name) → less n n ≡ false
unfolding less
less_self [] = refl
less_self (x ∷ xs) = let a = le-ltb x x (omega arith) in let b = less_self xs in grind (arith, nat_tests)

pub less_trans : (a b c : Name) → less a b ≡ true → less b c ≡ true → less a c ≡ true
unfolding less
less_trans a [] c p q = absurd (false≢true (sym (less_nil a) ∙ p))
less_trans a (y ∷ b) [] p q = absurd (false≢true q)
less_trans [] (y ∷ b) (z ∷ c) p q = refl
less_trans (x ∷ a) (y ∷ b) (z ∷ c) p q = let h = less_trans a b c in grind (arith, nat_tests)

pub less_same : (a b : Name) → less a b ≡ false → less b a ≡ false → a ≡ b
unfolding less
less_same [] [] p q = refl
less_same [] (y ∷ b) p q = absurd (false≢true (sym p))
less_same (x ∷ a) [] p q = absurd (false≢true (sym q))
less_same (x ∷ a) (y ∷ b) p q =
    let e : x ≡ y = grind (arith, nat_tests) in
    let l : less a b ≡ false = grind (arith, nat_tests) in
    let r : less b a ≡ false = grind (arith, nat_tests) in
    let i = less_same a b l r in
    cc

pub same_self : (n : Name) → same n n ≡ true
same_self n = let a = less_self n in grind arith

pub same_is : (a b : Name) → same a b ≡ true → a ≡ b
same_is a b e =
    let p : less a b ≡ false = grind (arith, nat_tests) in
    let q : less b a ≡ false = grind (arith, nat_tests) in
    less_same a b p q
