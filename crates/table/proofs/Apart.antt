-- Heads changed one by one: what holds of each, and pieces that lie apart.
use Rattle.std.proofs.Common.{◌≡◌, ℕ, zero, suc, ◌+◌, ◌<◌, ◌≤◌, Bool, true, false, ◌&&◌, leb, ◌⊎◌, List, [], ◌∷◌, length, get_or, set, sym, refl, ap, subst, inl, inr, ⊎_elim, arith}
use Rattle.std.specs.List.{insert, remove}
use Rattle.std.proofs.lemmas.Bool.Decides.{nat_tests}
use Rattle.std.proofs.lemmas.Bool.{and_parts, and_from, cases_eq}
use Rattle.std.proofs.lemmas.List.{get_or-set_same, get_or-set_other}
use Rattle.promise.specs.Bytes.{every}
use Rattle.table.specs.declared.heads.Head.{Head}
use Rattle.table.specs.View.{clear, apart, blank_head, below}
use Rattle.table.proofs.Ranks.{every_at}
use Rattle.table.proofs.Fits.{lies}

pub every_set : {A : Type 0} (f : A → Bool) (xs : List A) (i : ℕ) (x : A) → every f xs ≡ true → f x ≡ true → every f (set xs i x) ≡ true
unfolding every
every_set f [] i x e h = refl
every_set f (y ∷ ys) zero x e h = and_from (f x) (every f ys) h (and_parts (f y) (every f ys) e).1
every_set f (y ∷ ys) (suc i) x e h = let p = and_parts (f y) (every f ys) e in and_from (f y) (every f (set ys i x)) p.0 (every_set f ys i x p.1 h)

pub every_inserted : {A : Type 0} (f : A → Bool) (xs : List A) (i : ℕ) (x : A) → every f xs ≡ true → f x ≡ true → every f (insert xs i x) ≡ true
unfolding every
every_inserted f [] zero x e h = and_from (f x) true h refl
every_inserted f [] (suc i) x e h = and_from (f x) true h refl
every_inserted f (y ∷ ys) zero x e h = and_from (f x) (f y && every f ys) h e
every_inserted f (y ∷ ys) (suc i) x e h = let p = and_parts (f y) (every f ys) e in and_from (f y) (every f (insert ys i x)) p.0 (every_inserted f ys i x p.1 h)

pub every_removed : {A : Type 0} (f : A → Bool) (xs : List A) (i : ℕ) → every f xs ≡ true → every f (remove xs i) ≡ true
unfolding every
every_removed f [] zero e = refl
every_removed f [] (suc i) e = refl
every_removed f (y ∷ ys) zero e = (and_parts (f y) (every f ys) e).1
every_removed f (y ∷ ys) (suc i) e = let p = and_parts (f y) (every f ys) e in and_from (f y) (every f (remove ys i)) p.0 (every_removed f ys i p.1)

pub every_from : {A : Type 0} (f : A → Bool) (xs : List A) (d : A) → ((k : ℕ) → k < length xs → f (get_or xs k d) ≡ true) → every f xs ≡ true
unfolding every
every_from f [] d h = refl
every_from f (x ∷ xs) d h = and_from (f x) (every f xs) (h zero (omega arith)) (every_from f xs d (λ k l. h (suc k) (omega arith)))

-- what holds of the new head and of all others holds of each
pub set_each : (P : ℕ → Head → Type 0) (hs : List Head) (i : ℕ) (h : Head) → i < length hs → P i h → ((j : ℕ) → (j ≡ i → ⊥) → P j (get_or hs j blank_head)) → (j : ℕ) → P j (get_or (set hs i h) j blank_head)
set_each P hs i h l p q j = ⊎_elim
    (λ (e : j ≡ i). subst (λ (k : ℕ). P k (get_or (set hs i h) k blank_head)) (sym e) (subst (P i) (sym (get_or-set_same hs i h blank_head l)) p))
    (λ (ne : j ≡ i → ⊥). subst (P j) (sym (get_or-set_other hs i j h blank_head ne)) (q j ne))
    (cases_eq j i)

pub clear_sym : (g h : Head) → clear g h ≡ true → clear h g ≡ true
clear_sym g h e = grind (arith, nat_tests)

pub clear_cases : (g h : Head) → clear g h ≡ true → (g.at + g.width + g.size ≤ h.at) ⊎ (h.at + h.width + h.size ≤ g.at)
clear_cases g h e = by (leb (g.at + g.width + g.size) h.at) refl where
  by : (b : Bool) → leb (g.at + g.width + g.size) h.at ≡ b → (g.at + g.width + g.size ≤ h.at) ⊎ (h.at + h.width + h.size ≤ g.at)
  by true p = inl (grind (arith, nat_tests))
  by false p = inr (grind (arith, nat_tests))

pub clear_before : (g h : Head) → g.at + g.width + g.size ≤ h.at → clear g h ≡ true
clear_before g h l = grind (arith, nat_tests)

pub apart_at : (hs : List Head) (j k : ℕ) → apart hs ≡ true → j < length hs → k < length hs → (j ≡ k → ⊥) → clear (get_or hs j blank_head) (get_or hs k blank_head) ≡ true
unfolding apart
apart_at [] j k a l m ne = absurd (omega arith)
apart_at (h ∷ hs) zero zero a l m ne = absurd (ne refl)
apart_at (h ∷ hs) zero (suc k) a l m ne = every_at (clear h) hs k blank_head (and_parts (every (clear h) hs) (apart hs) a).0 (omega arith)
apart_at (h ∷ hs) (suc j) zero a l m ne = clear_sym h (get_or hs j blank_head) (every_at (clear h) hs j blank_head (and_parts (every (clear h) hs) (apart hs) a).0 (omega arith))
apart_at (h ∷ hs) (suc j) (suc k) a l m ne = apart_at hs j k (and_parts (every (clear h) hs) (apart hs) a).1 (omega arith) (omega arith) (λ e. ne (ap suc e))

pub apart_set : (hs : List Head) (i : ℕ) (h : Head) → apart hs ≡ true → ((j : ℕ) → j < length hs → (j ≡ i → ⊥) → clear h (get_or hs j blank_head) ≡ true) → apart (set hs i h) ≡ true
unfolding apart
apart_set [] i h a f = refl
apart_set (x ∷ xs) zero h a f = and_from (every (clear h) xs) (apart xs) (every_from (clear h) xs blank_head (λ k l. f (suc k) (omega arith) (λ e. omega arith))) (and_parts (every (clear x) xs) (apart xs) a).1
apart_set (x ∷ xs) (suc i) h a f =
    let p = and_parts (every (clear x) xs) (apart xs) a in
    and_from (every (clear x) (set xs i h)) (apart (set xs i h)) (every_set (clear x) xs i h p.0 (clear_sym h x (f zero (omega arith) (λ e. omega arith)))) (apart_set xs i h p.1 (λ j l ne. f (suc j) (omega arith) (λ e. ne (omega arith))))

pub apart_inserted : (hs : List Head) (i : ℕ) (h : Head) → apart hs ≡ true → every (clear h) hs ≡ true → apart (insert hs i h) ≡ true
unfolding apart every
apart_inserted [] zero h a f = refl
apart_inserted [] (suc i) h a f = refl
apart_inserted (x ∷ xs) zero h a f = and_from (clear h x && every (clear h) xs) (every (clear x) xs && apart xs) f a
apart_inserted (x ∷ xs) (suc i) h a f =
    let p = and_parts (every (clear x) xs) (apart xs) a in
    let q = and_parts (clear h x) (every (clear h) xs) f in
    and_from (every (clear x) (insert xs i h)) (apart (insert xs i h)) (every_inserted (clear x) xs i h p.0 (clear_sym h x q.0)) (apart_inserted xs i h p.1 q.1)

pub apart_removed : (hs : List Head) (i : ℕ) → apart hs ≡ true → apart (remove hs i) ≡ true
unfolding apart
apart_removed [] zero a = refl
apart_removed [] (suc i) a = refl
apart_removed (x ∷ xs) zero a = (and_parts (every (clear x) xs) (apart xs) a).1
apart_removed (x ∷ xs) (suc i) a =
    let p = and_parts (every (clear x) xs) (apart xs) a in
    and_from (every (clear x) (remove xs i)) (apart (remove xs i)) (every_removed (clear x) xs i p.0) (apart_removed xs i p.1)

-- a piece behind all others is apart from them
pub clear_behind : (u : ℕ) (hs : List Head) (h : Head) → every (below u) hs ≡ true → u ≤ h.at → every (clear h) hs ≡ true
unfolding every
clear_behind u [] h b l = refl
clear_behind u (x ∷ xs) h b l =
    let p = and_parts (below u x) (every (below u) xs) b in
    let q = lies u x p.0 in
    and_from (clear h x) (every (clear h) xs) (clear_sym x h (clear_before x h (omega arith))) (clear_behind u xs h p.1 l)
