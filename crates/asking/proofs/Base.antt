-- Functions changed at a place, numbers that were drawn, and members of lists.
use Rattle.std.proofs.Common.{◌≡◌, ℕ, ◌+◌, ◌≤◌, Bool, true, false, cond, not, ◌&&◌, ◌||◌, T, eqb, ◌⊎◌, List, [], ◌∷◌, ◌++◌, sym, refl, ap, subst, inl, inr, ⊎_elim, arith, T_not}
use mathlib.Core.List.Memᴰ
use mathlib.Core.List.{Memᴰ}
use Rattle.std.proofs.lemmas.Bool.{cond_both, eq-eqb, ne_eqb, cond-true, cond-false, cases_eq, eqb-true, eqb-false, and_from}
use Rattle.promise.specs.Desks.{at, is_in, more}

pub at_same : {A : Type 0} (i : ℕ) (x : A) (f : ℕ → A) → at i x f i ≡ x
at_same i x f = cond-true (eqb i i) x (f i) (eq-eqb i i refl)

pub at_other : {A : Type 0} (i : ℕ) (x : A) (f : ℕ → A) (j : ℕ) → (j ≡ i → ⊥) → at i x f j ≡ f j
at_other i x f j n = cond-false (eqb j i) x (f j) (ne_eqb j i n)

pub at_cases : {A : Type 0} (i : ℕ) (x : A) (f : ℕ → A) (j : ℕ) → ((j ≡ i) × (at i x f j ≡ x)) ⊎ ((j ≡ i → ⊥) × (at i x f j ≡ f j))
at_cases {A} i x f j = ⊎_elim {B = (j ≡ i → ⊥)} {C = ((j ≡ i) × (at i x f j ≡ x)) ⊎ ((j ≡ i → ⊥) × (at i x f j ≡ f j))} (λ e. inl (e, cond-true (eqb j i) x (f j) (eq-eqb j i e))) (λ n. inr (n, at_other i x f j n)) (cases_eq j i)

abbrev pub put : {A : Type 0} → ℕ → ℕ → A → (ℕ → ℕ → A) → ℕ → ℕ → A
put c j x f c' j' = cond (eqb c' c && eqb j' j) x (f c' j')

pub put_same : {A : Type 0} (c j : ℕ) (x : A) (f : ℕ → ℕ → A) → put c j x f c j ≡ x
put_same c j x f = cond-true (eqb c c && eqb j j) x (f c j) (and_from (eqb c c) (eqb j j) (eq-eqb c c refl) (eq-eqb j j refl))

pub put_cases : {A : Type 0} (c j : ℕ) (x : A) (f : ℕ → ℕ → A) (c' j' : ℕ) → ((c' ≡ c) × (j' ≡ j) × (put c j x f c' j' ≡ x)) ⊎ ((c' ≡ c → j' ≡ j → ⊥) × (put c j x f c' j' ≡ f c' j'))
put_cases {A} c j x f c' j' = go (eqb c' c) (eqb j' j) refl refl
  where
    go : (a b : Bool) → eqb c' c ≡ a → eqb j' j ≡ b → ((c' ≡ c) × (j' ≡ j) × (cond (a && b) x (f c' j') ≡ x)) ⊎ ((c' ≡ c → j' ≡ j → ⊥) × (cond (a && b) x (f c' j') ≡ f c' j'))
    go true true p q = inl (eqb-true c' c p, eqb-true j' j q, refl)
    go true false p q = inr ((λ _ e. eqb-false j' j q e), refl)
    go false b p q = inr ((λ e _. eqb-false c' c p e), refl)

pub put_other : {A : Type 0} (c j : ℕ) (x : A) (f : ℕ → ℕ → A) (c' j' : ℕ) → (c' ≡ c → j' ≡ j → ⊥) → put c j x f c' j' ≡ f c' j'
put_other c j x f c' j' n = ⊎_elim {A = (c' ≡ c) × (j' ≡ j) × (put c j x f c' j' ≡ x)} {B = (c' ≡ c → j' ≡ j → ⊥) × (put c j x f c' j' ≡ f c' j')} (λ a. absurd (n a.0 a.1)) (λ b. b.1) (put_cases c j x f c' j')

pub more_same : (i : ℕ) (f : ℕ → ℕ) → more i f i ≡ f i + 1
more_same i f = cond-true (eqb i i) (f i + 1) (f i) (eq-eqb i i refl)

pub more_other : (i : ℕ) (f : ℕ → ℕ) (j : ℕ) → (j ≡ i → ⊥) → more i f j ≡ f j
more_other i f j n = cond-false (eqb j i) (f j + 1) (f j) (ne_eqb j i n)

pub more_grows : (i : ℕ) (f : ℕ → ℕ) (j : ℕ) → f j ≤ more i f j
more_grows i f j = cond_both (eqb j i) (f j + 1) (f j) (λ x. f j ≤ x) (λ _. omega arith) (λ _. omega arith)

-- what is fresh differs from what was drawn
pub not_in : (r c : ℕ) (xs : List ℕ) → T (not (is_in r xs)) → T (is_in c xs) → c ≡ r → ⊥
not_in r c xs n h e = T_not (is_in r xs) n (subst (λ x. T (is_in x xs)) e h)

pub in_tail : (c r : ℕ) (xs : List ℕ) → T (is_in c xs) → T (is_in c (r ∷ xs))
unfolding is_in
in_tail c r xs h = go (eqb c r) (is_in c xs) h
  where
    go : (a b : Bool) → T b → T (a || b)
    go true b h = tt
    go false b h = h

pub in_head : (r : ℕ) (xs : List ℕ) → T (is_in r (r ∷ xs))
unfolding is_in
in_head r xs = subst (λ b. T (b || is_in r xs)) (sym (eq-eqb r r refl)) tt

pub in_cases : (c r : ℕ) (xs : List ℕ) → T (is_in c (r ∷ xs)) → (c ≡ r) ⊎ T (is_in c xs)
unfolding is_in
in_cases c r xs h = go (eqb c r) refl h
  where
    go : (a : Bool) → eqb c r ≡ a → T (a || is_in c xs) → (c ≡ r) ⊎ T (is_in c xs)
    go true p h = inl (eqb-true c r p)
    go false p h = inr h

-- a member has a place
pub record Place {A : Type 0} (x : A) (l : List A) : Type 0 where
  pub before : List A
  pub after : List A
  pub whole : l ≡ before ++ x ∷ after

pub place : {A : Type 0} (x : A) (l : List A) → Memᴰ x l → Place x l
place x [] m = elim m [ ]
place x (y ∷ ys) (Memᴰ.head e) = record { before = []; after = ys; whole = ap (λ z. z ∷ ys) (sym e) }
place x (y ∷ ys) (Memᴰ.tail m) = let p = place x ys m in record { before = y ∷ p.before; after = p.after; whole = ap (λ z. y ∷ z) p.whole }

pub other_stays : {A : Type 0} (x y : A) (xs ys : List A) → (y ≡ x → ⊥) → Memᴰ y (xs ++ x ∷ ys) → Memᴰ y (xs ++ ys)
other_stays {A} x y xs ys n m = ⊎_elim {B = Memᴰ y (x ∷ ys)} (λ a. Memᴰ.append_left ys a) (λ b. ⊎_elim {A = y ≡ x} {C = Memᴰ y (xs ++ ys)} (λ e. absurd (n e)) (λ m'. Memᴰ.append_right xs m') (Memᴰ.cases_cons b)) (Memᴰ.append_cases xs m)

-- what holds of each, after one was changed
pub at_ind : {A : Type 0} (P : ℕ → A → Type 0) (i : ℕ) (x : A) (f : ℕ → A) → P i x → ((j : ℕ) → (j ≡ i → ⊥) → P j (f j)) → (j : ℕ) → P j (at i x f j)
at_ind {A} P i x f a b j = go (at_cases i x f j)
  where
    go : ((j ≡ i) × (at i x f j ≡ x)) ⊎ ((j ≡ i → ⊥) × (at i x f j ≡ f j)) → P j (at i x f j)
    go (inl e) = subst (P j) (sym e.1) (subst (λ z. P z x) (sym e.0) a)
    go (inr e) = subst (P j) (sym e.1) (b j e.0)
