-- What keeping some of a list leaves.
use Rattle.std.proofs.Common.{◌≡◌, ◌≤◌, Bool, true, false, cond, ◌&&◌, ◌||◌, ◌⊎◌, List, [], ◌∷◌, length, sym, refl, ap, ◌∙◌, inl, inr, arith}
use mathlib.Core.List.Memᴰ
use mathlib.Core.List.{Memᴰ}
use Rattle.std.proofs.lemmas.Bool.{both_ways, false≢true}
use Rattle.promise.specs.Bytes.{every}
use Rattle.promise.specs.Sheets.{keep, some, none}

pub keep_in : {A : Type 0} (f : A → Bool) (xs : List A) (x : A) → f x ≡ true → Memᴰ x xs → Memᴰ x (keep f xs)
unfolding keep
keep_in f [] x t m = absurd (Memᴰ.not-nil m)
keep_in {A} f (y ∷ ys) x t m = go (λ m'. keep_in f ys x t m') (f y) refl (Memᴰ.cases_cons m)
  where
    go : (Memᴰ x ys → Memᴰ x (keep f ys)) → (b : Bool) → f y ≡ b → (x ≡ y) ⊎ Memᴰ x ys → Memᴰ x (cond b (y ∷ keep f ys) (keep f ys))
    go ih true e (inl p) = Memᴰ.head p
    go ih true e (inr m') = Memᴰ.tail (ih m')
    go ih false e (inl p) = absurd (both_ways (f y) e (ap f (sym p) ∙ t))
    go ih false e (inr m') = ih m'

pub every_keep : {A : Type 0} (p f : A → Bool) (xs : List A) → every p xs ≡ true → every p (keep f xs) ≡ true
unfolding keep every
every_keep p f [] e = refl
every_keep p f (y ∷ ys) e = go (every_keep p f ys) (f y) (p y) refl e
  where
    go : (every p ys ≡ true → every p (keep f ys) ≡ true) → (b t : Bool) → p y ≡ t → (t && every p ys) ≡ true → every p (cond b (y ∷ keep f ys) (keep f ys)) ≡ true
    go ih b false q e' = absurd (false≢true e')
    go ih true true q e' = rw q (ih e')
    go ih false true q e' = ih e'

pub length_keep : {A : Type 0} (f : A → Bool) (xs : List A) → length (keep f xs) ≤ length xs
unfolding keep
length_keep f [] = omega arith
length_keep f (y ∷ ys) = go (length_keep f ys) (f y)
  where
    go : length (keep f ys) ≤ length ys → (b : Bool) → length (cond b (y ∷ keep f ys) (keep f ys)) ≤ length (y ∷ ys)
    go ih true = omega arith
    go ih false = omega arith

pub none_is : {A : Type 0} (xs : List A) → none xs ≡ true → xs ≡ []
unfolding none
none_is [] e = refl
none_is (x ∷ xs) e = absurd (false≢true e)

pub none_not_in : {A : Type 0} (xs : List A) (x : A) → none xs ≡ true → Memᴰ x xs → ⊥
unfolding none
none_not_in [] x e m = Memᴰ.not-nil m
none_not_in (y ∷ ys) x e m = absurd (false≢true e)

pub some_none : {A : Type 0} (f : A → Bool) (xs : List A) → none xs ≡ true → some f xs ≡ false
unfolding some
some_none f xs e = ap (some f) (none_is xs e)

pub some_in : {A : Type 0} (f : A → Bool) (xs : List A) (x : A) → Memᴰ x xs → f x ≡ true → some f xs ≡ true
unfolding some
some_in f [] x m t = absurd (Memᴰ.not-nil m)
some_in {A} f (y ∷ ys) x m t = go (λ m'. some_in f ys x m' t) (f y) refl (Memᴰ.cases_cons m)
  where
    go : (Memᴰ x ys → some f ys ≡ true) → (b : Bool) → f y ≡ b → (x ≡ y) ⊎ Memᴰ x ys → (b || some f ys) ≡ true
    go ih true e c = refl
    go ih false e (inl p) = absurd (both_ways (f y) e (ap f (sym p) ∙ t))
    go ih false e (inr m') = ih m'
