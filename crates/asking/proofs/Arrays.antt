-- Lists with a value in one place changed, read by place; the first idle slot; what a map over slots leaves.
use Rattle.std.proofs.Common.{◌≡◌, ℕ, zero, suc, ◌+◌, ◌<◌, ◌⊎◌, List, [], ◌∷◌, map, length, get_or, set, replicate, sym, refl, ap, ◌∙◌, subst, inl, inr, le_of_suc-le-suc, arith, get_or-set_other, get_or-set_same}
use Rattle.std.proofs.lemmas.Bool.{cases_eq}
use Rattle.promise.specs.Bytes.{Bytes}
use Rattle.promise.specs.Desks.{at}
use Rattle.asking.specs.Desk.{Slot, Idle, Waiting, full, free, first_idle}
use Rattle.asking.proofs.View.{waiting, abs_slot, slots_of}
use Rattle.asking.proofs.Base.{at_same, at_other}

-- as a changed function
pub get_d_at : {A B : Type 0} (f : A → B) (xs : List A) (i : ℕ) (x d : A) → i < length xs → (j : ℕ) → f (get_or (set xs i x) j d) ≡ at i (f x) (λ j'. f (get_or xs j' d)) j
get_d_at {A} {B} f xs i x d l j = go (cases_eq j i)
  where
    go : (j ≡ i) ⊎ (j ≡ i → ⊥) → f (get_or (set xs i x) j d) ≡ at i (f x) (λ j'. f (get_or xs j' d)) j
    go (inl e) = subst (λ b. f (get_or (set xs i x) b d) ≡ at i (f x) (λ j'. f (get_or xs j' d)) b) (sym e) (ap f (get_or-set_same xs i x d l) ∙ sym (at_same i (f x) (λ j'. f (get_or xs j' d))))
    go (inr n) = ap f (get_or-set_other xs i j x d n) ∙ sym (at_other i (f x) (λ j'. f (get_or xs j' d)) j n)

-- what holds of each holds after one was changed
pub set_ind : {A : Type 0} (P : ℕ → A → Type 0) (xs : List A) (i : ℕ) (x d : A) → P i x → ((j : ℕ) → P j (get_or xs j d)) → (j : ℕ) → P j (get_or (set xs i x) j d)
set_ind P [] i x d p f j = f j
set_ind P (y ∷ ys) zero x d p f zero = p
set_ind P (y ∷ ys) zero x d p f (suc j) = f (suc j)
set_ind P (y ∷ ys) (suc i) x d p f zero = f zero
set_ind P (y ∷ ys) (suc i) x d p f (suc j) = set_ind (λ k. P (suc k)) ys i x d p (λ k. f (suc k)) j

pub map_ind : {A B : Type 0} (P : A → Type 0) (Q : B → Type 0) (f : A → B) (xs : List A) (d : A) (d' : B) → ((x : A) → P x → Q (f x)) → Q d' → ((j : ℕ) → P (get_or xs j d)) → (j : ℕ) → Q (get_or (map f xs) j d')
map_ind P Q f [] d d' g q p j = q
map_ind P Q f (x ∷ xs) d d' g q p zero = g x (p zero)
map_ind P Q f (x ∷ xs) d d' g q p (suc j) = map_ind P Q f xs d d' g q (λ k. p (suc k)) j

pub replicate_ind : {A : Type 0} (P : A → Type 0) (n : ℕ) (x d : A) → P x → P d → (j : ℕ) → P (get_or (replicate n x) j d)
replicate_ind P zero x d p q j = q
replicate_ind P (suc n) x d p q zero = p
replicate_ind P (suc n) x d p q (suc j) = replicate_ind P n x d p q j

pub replicate_same : {A : Type 0} (n : ℕ) (d : A) (j : ℕ) → get_or (replicate n d) j d ≡ d
replicate_same {A} n d j = replicate_ind (λ x. x ≡ d) n d d refl refl j

-- SLOTS

-- a slot that is not the default is inside
pub waits_inside : (xs : List Slot) (j q k : ℕ) (c : Bytes) → slots_of xs j ≡ waiting q k c → j < length xs
waits_inside [] j q k c e = absurd (let z : ◌≡◌ {A = ℕ} 0 1 = cc in omega arith)
waits_inside (x ∷ xs) zero q k c e = omega arith
waits_inside (x ∷ xs) (suc j) q k c e = let z = waits_inside xs j q k c e in omega arith

-- what a map over slots leaves as it was
pub slots_map : (f : Slot → Slot) → ((x : Slot) → abs_slot (f x) ≡ abs_slot x) → (xs : List Slot) (j : ℕ) → slots_of (map f xs) j ≡ slots_of xs j
slots_map f e [] j = refl
slots_map f e (x ∷ xs) zero = e x
slots_map f e (x ∷ xs) (suc j) = slots_map f e xs j

-- the first idle slot is idle, and inside
pub record IsIdle (j0 : ℕ) (xs : List Slot) (j q : ℕ) : Type 0 where
  pub p : ℕ
  pub is' : j ≡ j0 + p
  pub inside : p < length xs
  pub idle' : get_or xs p (Idle 0) ≡ Idle q

pub first_idle_lem : (j0 : ℕ) (xs : List Slot) (j q : ℕ) → first_idle j0 xs ≡ free j q → IsIdle j0 xs j q
unfolding first_idle
first_idle_lem j0 [] j q e = absurd (let z : ◌≡◌ {A = ℕ} 0 1 = cc in omega arith)
first_idle_lem j0 (Idle p ∷ xs) j q e = let a : j0 ≡ j = cc in let b : p ≡ q = cc in record { p = 0; is' = omega arith; inside = omega arith; idle' = ap Idle b }
first_idle_lem j0 (Waiting p k c b f l ∷ xs) j q e = let y = first_idle_lem (j0 + 1) xs j q e in record { p = suc y.p; is' = (let a = y.is' in omega arith); inside = (let a = y.inside in omega arith); idle' = y.idle' }

pub record FirstIdle (xs : List Slot) (j q : ℕ) : Type 0 where
  pub inside : j < length xs
  pub idle' : get_or xs j (Idle 0) ≡ Idle q

pub first_idle_0 : (xs : List Slot) (j q : ℕ) → first_idle 0 xs ≡ free j q → FirstIdle xs j q
first_idle_0 xs j q e =
    let y = first_idle_lem 0 xs j q e in
    let a : y.p ≡ j = (let b = y.is' in omega arith) in
    record { inside = (let b = y.inside in omega arith); idle' = ap (λ z. get_or xs z (Idle 0)) (sym a) ∙ y.idle' }

-- where none is idle all wait
pub full_waits : (j0 : ℕ) (xs : List Slot) → first_idle j0 xs ≡ full → (j : ℕ) → j < length xs → (q : ℕ) × (k : ℕ) × (c : Bytes) × (slots_of xs j ≡ waiting q k c)
unfolding first_idle
full_waits j0 [] e j l = absurd (omega arith)
full_waits j0 (Idle p ∷ xs) e j l = absurd (let z : ◌≡◌ {A = ℕ} 0 1 = cc in omega arith)
full_waits j0 (Waiting p k c b f x ∷ xs) e zero l = (p, k, c, refl)
full_waits j0 (Waiting p k c b f x ∷ xs) e (suc j) l = full_waits (j0 + 1) xs e j (le_of_suc-le-suc l)
