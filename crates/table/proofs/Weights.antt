-- What sheets weigh, and their order, where one is laid or removed.
use Rattle.std.proofs.Common.{◌≡◌, ℕ, zero, suc, ◌+◌, ◌-◌, ◌*◌, ◌<◌, ◌≤◌, Bool, true, false, cond, ◌&&◌, List, [], ◌∷◌, length, get_or, set, sym, refl, subst, arith}
use Rattle.std.specs.List.{insert, remove}
use Rattle.std.proofs.lemmas.Bool.{and_parts, and_from}
use Rattle.promise.specs.Bytes.{every}
use Rattle.promise.specs.Sheets.{Sheet, Name, less, put, weight}
use Rattle.table.specs.View.{rising, blank_sheet}
use Rattle.table.proofs.Order.{less_same}
use Rattle.table.proofs.Finds.{every_above}
use Rattle.table.proofs.Apart.{every_removed}

every_put : (f : Sheet → Bool) (x : Sheet) (ys : List Sheet) → every f ys ≡ true → f x ≡ true → every f (put x ys) ≡ true
unfolding every put
every_put f x [] e h = and_from (f x) true h refl
every_put f x (y ∷ ys) e h =
    let p = and_parts (f y) (every f ys) e in
    elim (less x.name y.name) as (λ v. every f (cond v (x ∷ y ∷ ys) (cond (less y.name x.name) (y ∷ put x ys) (x ∷ ys))) ≡ true) [
      | true ↦ and_from (f x) (f y && every f ys) h e
      | false ↦ elim (less y.name x.name) as (λ v. every f (cond v (y ∷ put x ys) (x ∷ ys)) ≡ true) [
        | true ↦ and_from (f y) (every f (put x ys)) p.0 (every_put f x ys p.1 h)
        | false ↦ and_from (f x) (every f ys) h p.1
      ]
    ]

rising_step : (x y : Sheet) (ys : List Sheet) (a b : Bool) → less x.name y.name ≡ a → less y.name x.name ≡ b → rising (y ∷ ys) ≡ true → rising (put x ys) ≡ true → rising (put x (y ∷ ys)) ≡ true
unfolding rising put every
rising_step x y ys true b p q r h =
    let rs = and_parts (every (λ (z : Sheet). less y.name z.name) ys) (rising ys) r in
    rw p (and_from (less x.name y.name && every (λ (z : Sheet). less x.name z.name) ys) (every (λ (z : Sheet). less y.name z.name) ys && rising ys)
    (and_from (less x.name y.name) (every (λ (z : Sheet). less x.name z.name) ys) p (every_above x.name y.name ys p rs.0)) r)
rising_step x y ys false true p q r h =
    let rs = and_parts (every (λ (z : Sheet). less y.name z.name) ys) (rising ys) r in
    rw (p, q) (and_from (every (λ (z : Sheet). less y.name z.name) (put x ys)) (rising (put x ys)) (every_put (λ (z : Sheet). less y.name z.name) x ys rs.0 q) h)
rising_step x y ys false false p q r h =
    let e : x.name ≡ y.name = less_same x.name y.name p q in
    rw (p, q) (subst (λ (n : Name). (every (λ (z : Sheet). less n z.name) ys && rising ys) ≡ true) (sym e) r)

pub rising_put : (x : Sheet) (xs : List Sheet) → rising xs ≡ true → rising (put x xs) ≡ true
unfolding rising put every
rising_put x [] r = refl
rising_put x (y ∷ ys) r =
    rising_step x y ys (less x.name y.name) (less y.name x.name) refl refl r (rising_put x ys (and_parts (every (λ (z : Sheet). less y.name z.name) ys) (rising ys) r).1)

pub rising_removed : (xs : List Sheet) (i : ℕ) → rising xs ≡ true → rising (remove xs i) ≡ true
unfolding rising
rising_removed [] zero e = refl
rising_removed [] (suc i) e = refl
rising_removed (y ∷ ys) zero e = (and_parts (every (λ (z : Sheet). less y.name z.name) ys) (rising ys) e).1
rising_removed (y ∷ ys) (suc i) e =
    let p = and_parts (every (λ (z : Sheet). less y.name z.name) ys) (rising ys) e in
    and_from (every (λ (z : Sheet). less y.name z.name) (remove ys i)) (rising (remove ys i)) (every_removed (λ (z : Sheet). less y.name z.name) ys i p.0) (rising_removed ys i p.1)

pub weight_set : (xs : List Sheet) (i : ℕ) (x d : Sheet) → i < length xs → weight (set xs i x) + length (get_or xs i d).bytes ≡ weight xs + length x.bytes
unfolding weight
weight_set [] i x d h = absurd (omega arith)
weight_set (y ∷ ys) zero x d h = omega arith
weight_set (y ∷ ys) (suc i) x d h = let w = weight_set ys i x d (omega arith) in omega arith

pub weight_inserted : (xs : List Sheet) (i : ℕ) (x : Sheet) → weight (insert xs i x) ≡ weight xs + 512 + length x.bytes
unfolding weight
weight_inserted [] zero x = omega arith
weight_inserted [] (suc i) x = omega arith
weight_inserted (y ∷ ys) zero x = omega arith
weight_inserted (y ∷ ys) (suc i) x = let w = weight_inserted ys i x in omega arith

pub weight_removed : (xs : List Sheet) (i : ℕ) (d : Sheet) → i < length xs → weight (remove xs i) + (512 + length (get_or xs i d).bytes) ≡ weight xs
unfolding weight
weight_removed [] i d h = absurd (omega arith)
weight_removed (y ∷ ys) zero d h = omega arith
weight_removed (y ∷ ys) (suc i) d h = let w = weight_removed ys i d (omega arith) in omega arith

pub weight_count : (xs : List Sheet) → 512 * length xs ≤ weight xs
unfolding weight
weight_count [] = omega arith
weight_count (x ∷ xs) = let w = weight_count xs in omega arith

-- what is laid weighs, where something stands and where nothing does
pub weighs_there : (xs : List Sheet) (i load len old : ℕ) → load ≡ weight xs → i < length xs → old ≡ length (get_or xs i blank_sheet).bytes → (x : Sheet) → length x.bytes ≡ len → load - old + len ≡ weight (set xs i x)
weighs_there xs i load len old w l o x e =
    let r = weight_set xs i x blank_sheet l in
    let s = weight_removed xs i blank_sheet l in
    omega arith

pub weighs_away : (xs : List Sheet) (i load len : ℕ) → load ≡ weight xs → (x : Sheet) → length x.bytes ≡ len → load + 512 + len ≡ weight (insert xs i x)
weighs_away xs i load len w x e = let r = weight_inserted xs i x in omega arith
