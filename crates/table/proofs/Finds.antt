-- What is found, and what a put does, by the rank of a name.
use Rattle.std.proofs.Common.{◌≡◌, ◌<◌, ◌≤◌, Bool, true, false, cond, not, ◌&&◌, List, [], ◌∷◌, ◌++◌, length, get_or, take, drop, set, sym, refl, ap, ◌∙◌, subst, add-one}
use Rattle.std.specs.List.{insert, remove}
use Rattle.std.proofs.lemmas.List.{drop_more, drop_all, set_split}
use Rattle.std.proofs.lemmas.Bool.{and_parts, and_from, false≢true}
use Rattle.promise.specs.Bytes.{every}
use Rattle.promise.specs.Sheets.{Sheet, Name, less, find, is_sheet, put, keep, without}
use Rattle.table.specs.View.{rising, rank}
use Rattle.table.proofs.Order.{less_trans, less_asym, less_same}

-- what is found at the front of what is left
abbrev pub front : Name → List Sheet → List Sheet
front n [] = []
front n (y ∷ ys) = cond (less n y.name) [] (y ∷ [])

-- what stays of what is left
abbrev pub rest : Name → List Sheet → List Sheet
rest n [] = []
rest n (y ∷ ys) = cond (less n y.name) (y ∷ ys) ys

and_false : (b : Bool) → (b && false) ≡ false
and_false true = refl
and_false false = refl

find_none : (n m : Name) (xs : List Sheet) → less n m ≡ true → every (λ (y : Sheet). less m y.name) xs ≡ true → find (is_sheet n) xs ≡ []
unfolding every find
find_none n m [] l e = refl
find_none n m (x ∷ xs) l e =
    let p = and_parts (less m x.name) (every (λ (y : Sheet). less m y.name) xs) e in
    rw (less_trans n m x.name l p.0) (find_none n m xs l p.1)

find_step : (n : Name) (x : Sheet) (xs : List Sheet) (a b : Bool) → less x.name n ≡ a → less n x.name ≡ b → rising (x ∷ xs) ≡ true → find (is_sheet n) xs ≡ front n (drop (rank n xs) xs) → find (is_sheet n) (x ∷ xs) ≡ front n (drop (rank n (x ∷ xs)) (x ∷ xs))
unfolding find rank rising
find_step n x xs true b p q r h = rw (p, and_false (not (less n x.name))) h
find_step n x xs false true p q r h = rw (p, q) (find_none n x.name xs q (and_parts (every (λ (y : Sheet). less x.name y.name) xs) (rising xs) r).0)
find_step n x xs false false p q r h = rw (p, q)

pub find_rank : (n : Name) (xs : List Sheet) → rising xs ≡ true → find (is_sheet n) xs ≡ front n (drop (rank n xs) xs)
unfolding rising find rank
find_rank n [] r = refl
find_rank n (x ∷ xs) r = find_step n x xs (less x.name n) (less n x.name) refl refl r (find_rank n xs (and_parts (every (λ (y : Sheet). less x.name y.name) xs) (rising xs) r).1)

put_step : (x y : Sheet) (ys : List Sheet) (a b : Bool) → less y.name x.name ≡ a → less x.name y.name ≡ b → put x ys ≡ take (rank x.name ys) ys ++ x ∷ rest x.name (drop (rank x.name ys) ys) → put x (y ∷ ys) ≡ take (rank x.name (y ∷ ys)) (y ∷ ys) ++ x ∷ rest x.name (drop (rank x.name (y ∷ ys)) (y ∷ ys))
unfolding put rank
put_step x y ys true true p q h = absurd (false≢true (sym (less_asym y.name x.name p) ∙ q))
put_step x y ys true false p q h = rw (p, q) (ap (λ (l : List Sheet). y ∷ l) h)
put_step x y ys false true p q h = rw (p, q)
put_step x y ys false false p q h = rw (p, q)

pub put_rank : (x : Sheet) (xs : List Sheet) → put x xs ≡ take (rank x.name xs) xs ++ x ∷ rest x.name (drop (rank x.name xs) xs)
unfolding put rank
put_rank x [] = refl
put_rank x (y ∷ ys) = put_step x y ys (less y.name x.name) (less x.name y.name) refl refl (put_rank x ys)

-- the same, by what stands at the place
pub find_here : (n : Name) (xs : List Sheet) (d : Sheet) → rising xs ≡ true → rank n xs < length xs → less n (get_or xs (rank n xs) d).name ≡ false → find (is_sheet n) xs ≡ get_or xs (rank n xs) d ∷ []
find_here n xs d r h e = rw (find_rank n xs r, drop_more xs (rank n xs) d h, e)

pub find_past : (n : Name) (xs : List Sheet) (d : Sheet) → rising xs ≡ true → rank n xs < length xs → less n (get_or xs (rank n xs) d).name ≡ true → find (is_sheet n) xs ≡ []
find_past n xs d r h e = rw (find_rank n xs r, drop_more xs (rank n xs) d h, e)

pub find_end : (n : Name) (xs : List Sheet) → rising xs ≡ true → length xs ≤ rank n xs → find (is_sheet n) xs ≡ []
find_end n xs r h = rw (find_rank n xs r, drop_all (rank n xs) xs h)

pub put_here : (x : Sheet) (xs : List Sheet) (d : Sheet) → rank x.name xs < length xs → less x.name (get_or xs (rank x.name xs) d).name ≡ false → put x xs ≡ set xs (rank x.name xs) x
put_here x xs d h e = rw (put_rank x xs, drop_more xs (rank x.name xs) d h, e, set_split xs (rank x.name xs) x h, add-one)

pub put_past : (x : Sheet) (xs : List Sheet) (d : Sheet) → rank x.name xs < length xs → less x.name (get_or xs (rank x.name xs) d).name ≡ true → put x xs ≡ insert xs (rank x.name xs) x
put_past x xs d h e = rw (put_rank x xs, drop_more xs (rank x.name xs) d h, e)

pub put_end : (x : Sheet) (xs : List Sheet) → length xs ≤ rank x.name xs → put x xs ≡ insert xs (rank x.name xs) x
put_end x xs h = rw (put_rank x xs, drop_all (rank x.name xs) xs h)

without_none : (n m : Name) (xs : List Sheet) → less n m ≡ true → every (λ (y : Sheet). less m y.name) xs ≡ true → without n xs ≡ xs
unfolding every keep
without_none n m [] l e = refl
without_none n m (x ∷ xs) l e =
    let p = and_parts (less m x.name) (every (λ (y : Sheet). less m y.name) xs) e in
    rw (less_trans n m x.name l p.0) (ap (λ (l : List Sheet). x ∷ l) (without_none n m xs l p.1))

without_all : (n : Name) (xs : List Sheet) → every (λ (y : Sheet). less n y.name) xs ≡ true → without n xs ≡ xs
unfolding every keep
without_all n [] e = refl
without_all n (x ∷ xs) e =
    let p = and_parts (less n x.name) (every (λ (y : Sheet). less n y.name) xs) e in
    rw p.0 (ap (λ (l : List Sheet). x ∷ l) (without_all n xs p.1))

-- past the place of a name that is there, all names are above it
without_step : (n : Name) (x : Sheet) (xs : List Sheet) (a b : Bool) → less x.name n ≡ a → less n x.name ≡ b → rising (x ∷ xs) ≡ true → without n xs ≡ take (rank n xs) xs ++ rest n (drop (rank n xs) xs) → without n (x ∷ xs) ≡ take (rank n (x ∷ xs)) (x ∷ xs) ++ rest n (drop (rank n (x ∷ xs)) (x ∷ xs))
unfolding keep rank rising
without_step n x xs true b p q r h = rw (p, and_false (not (less n x.name))) (ap (λ (l : List Sheet). x ∷ l) h)
without_step n x xs false true p q r h =
    rw (p, q) (ap (λ (l : List Sheet). x ∷ l) (without_none n x.name xs q (and_parts (every (λ (y : Sheet). less x.name y.name) xs) (rising xs) r).0))
without_step n x xs false false p q r h =
    let e : every (λ (y : Sheet). less n y.name) xs ≡ true = subst (λ (k : Name). every (λ (y : Sheet). less k y.name) xs ≡ true) (less_same x.name n p q) (and_parts (every (λ (y : Sheet). less x.name y.name) xs) (rising xs) r).0 in
    rw (p, q) (without_all n xs e)

pub without_rank : (n : Name) (xs : List Sheet) → rising xs ≡ true → without n xs ≡ take (rank n xs) xs ++ rest n (drop (rank n xs) xs)
unfolding rising keep rank
without_rank n [] r = refl
without_rank n (x ∷ xs) r = without_step n x xs (less x.name n) (less n x.name) refl refl r (without_rank n xs (and_parts (every (λ (y : Sheet). less x.name y.name) xs) (rising xs) r).1)

pub without_here : (n : Name) (xs : List Sheet) (d : Sheet) → rising xs ≡ true → rank n xs < length xs → less n (get_or xs (rank n xs) d).name ≡ false → without n xs ≡ remove xs (rank n xs)
without_here n xs d r h e = rw (without_rank n xs r, drop_more xs (rank n xs) d h, e, add-one)

keep_above : (n : Name) (xs : List Sheet) → every (λ (y : Sheet). less n y.name) xs ≡ true → keep (λ (y : Sheet). less n y.name) xs ≡ xs
unfolding every keep
keep_above n [] e = refl
keep_above n (x ∷ xs) e =
    let p = and_parts (less n x.name) (every (λ (y : Sheet). less n y.name) xs) e in
    rw p.0 (ap (λ (l : List Sheet). x ∷ l) (keep_above n xs p.1))

pub every_above : (a b : Name) (xs : List Sheet) → less a b ≡ true → every (λ (y : Sheet). less b y.name) xs ≡ true → every (λ (y : Sheet). less a y.name) xs ≡ true
unfolding every
every_above a b [] l e = refl
every_above a b (x ∷ xs) l e =
    let p = and_parts (less b x.name) (every (λ (y : Sheet). less b y.name) xs) e in
    and_from (less a x.name) (every (λ (y : Sheet). less a y.name) xs) (less_trans a b x.name l p.0) (every_above a b xs l p.1)

after_step : (n : Name) (x : Sheet) (xs : List Sheet) (a b : Bool) → less x.name n ≡ a → less n x.name ≡ b → rising (x ∷ xs) ≡ true → keep (λ (y : Sheet). less n y.name) xs ≡ rest n (drop (rank n xs) xs) → keep (λ (y : Sheet). less n y.name) (x ∷ xs) ≡ rest n (drop (rank n (x ∷ xs)) (x ∷ xs))
unfolding keep rank rising
after_step n x xs true b p q r h = rw (p, less_asym x.name n p) h
after_step n x xs false true p q r h =
    rw (p, q) (ap (λ (l : List Sheet). x ∷ l) (keep_above n xs (every_above n x.name xs q (and_parts (every (λ (y : Sheet). less x.name y.name) xs) (rising xs) r).0)))
after_step n x xs false false p q r h =
    let e : every (λ (y : Sheet). less n y.name) xs ≡ true = subst (λ (k : Name). every (λ (y : Sheet). less k y.name) xs ≡ true) (less_same x.name n p q) (and_parts (every (λ (y : Sheet). less x.name y.name) xs) (rising xs) r).0 in
    rw (p, q) (keep_above n xs e)

pub after_rank : (n : Name) (xs : List Sheet) → rising xs ≡ true → keep (λ (y : Sheet). less n y.name) xs ≡ rest n (drop (rank n xs) xs)
unfolding rising keep rank
after_rank n [] r = refl
after_rank n (x ∷ xs) r = after_step n x xs (less x.name n) (less n x.name) refl refl r (after_rank n xs (and_parts (every (λ (y : Sheet). less x.name y.name) xs) (rising xs) r).1)
