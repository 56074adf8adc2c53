-- The place of a name among sheets by rising names.
use Rattle.std.proofs.Common.{◌≡◌, ℕ, zero, suc, ◌<◌, ◌≤◌, Bool, true, false, cond, List, [], ◌∷◌, length, get_or, refl, arith}
use Rattle.std.proofs.lemmas.Bool.{and_parts}
use Rattle.promise.specs.Bytes.{every}
use Rattle.promise.specs.Sheets.{Sheet, Name, less}
use Rattle.table.specs.View.{rising, rank}
use Rattle.table.proofs.Order.{less_trans}

pub every_at : {A : Type 0} (f : A → Bool) (xs : List A) (k : ℕ) (d : A) → every f xs ≡ true → k < length xs → f (get_or xs k d) ≡ true
unfolding every
every_at f [] k d e h = absurd (omega arith)
every_at f (x ∷ xs) zero d e h = (and_parts (f x) (every f xs) e).0
every_at f (x ∷ xs) (suc k) d e h = every_at f xs k d (and_parts (f x) (every f xs) e).1 (omega arith)

pub rank_le : (n : Name) (xs : List Sheet) → rank n xs ≤ length xs
unfolding rank
rank_le n [] = omega arith
rank_le n (x ∷ xs) = let h = rank_le n xs in elim (less x.name n) as (λ v. cond v (suc (rank n xs)) zero ≤ suc (length xs)) [ true ↦ omega arith | false ↦ omega arith ]

pub rank_below : (n : Name) (xs : List Sheet) (k : ℕ) (d : Sheet) → k < length xs → less (get_or xs k d).name n ≡ false → rank n xs ≤ k
unfolding rank
rank_below n [] k d h e = absurd (omega arith)
rank_below n (x ∷ xs) zero d h e = rw e (omega arith)
rank_below n (x ∷ xs) (suc k) d h e = let i = rank_below n xs k d (omega arith) e in elim (less x.name n) as (λ v. cond v (suc (rank n xs)) zero ≤ suc k) [ true ↦ omega arith | false ↦ omega arith ]

pub rank_above : (n : Name) (xs : List Sheet) (k : ℕ) (d : Sheet) → rising xs ≡ true → k < length xs → less (get_or xs k d).name n ≡ true → k < rank n xs
unfolding rank rising
rank_above n [] k d r h e = absurd (omega arith)
rank_above n (x ∷ xs) zero d r h e = rw e (omega arith)
rank_above n (x ∷ xs) (suc k) d r h e =
    let rs = and_parts (every (λ (y : Sheet). less x.name y.name) xs) (rising xs) r in
    let l : less x.name n ≡ true = less_trans x.name (get_or xs k d).name n (every_at (λ (y : Sheet). less x.name y.name) xs k d rs.0 (omega arith)) e in
    let i = rank_above n xs k d rs.1 (omega arith) e in
    rw l (omega arith)

rank_here_by : (n : Name) (x : Sheet) (xs : List Sheet) (d : Sheet) (b : Bool) → less x.name n ≡ b → (rank n xs < length xs → less (get_or xs (rank n xs) d).name n ≡ false) → cond b (suc (rank n xs)) zero < suc (length xs) → less (get_or (x ∷ xs) (cond b (suc (rank n xs)) zero) d).name n ≡ false
rank_here_by n x xs d true e f l = f (omega arith)
rank_here_by n x xs d false e f l = e

-- the name at the rank does not come before
pub rank_here : (n : Name) (xs : List Sheet) (d : Sheet) → rank n xs < length xs → less (get_or xs (rank n xs) d).name n ≡ false
unfolding rank
rank_here n [] d h = absurd (omega arith)
rank_here n (x ∷ xs) d h = rank_here_by n x xs d (less x.name n) refl (rank_here n xs d) h
