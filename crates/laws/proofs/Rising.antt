-- Sheets by rising names, and what they weigh.
use Rattle.std.proofs.Common.{◌≡◌, ℕ, ◌+◌, ◌≤◌, Bool, true, false, cond, not, ◌&&◌, List, [], ◌∷◌, length, sym, refl, ap, ◌∙◌, arith}
use Rattle.std.proofs.lemmas.Bool.{and_parts, and_from}
use Rattle.promise.specs.Bytes.{every}
use Rattle.promise.specs.Sheets.{Name, Sheet, less, put, keep, find, is_sheet, without, weight}
use Rattle.promise.specs.Promise.{rising}
use Rattle.laws.proofs.Order.{less_trans, less_same}

-- what follows a sheet of the same name follows it too
rising_same : (x z : Sheet) (zs : List Sheet) → z.name ≡ x.name → rising (z ∷ zs) ≡ true → rising (x ∷ zs) ≡ true
unfolding rising
rising_same x z [] e r = refl
rising_same x z (y ∷ ys) e r = ap (λ n. less n y.name && rising (y ∷ ys)) (sym e) ∙ r

-- a sheet put among those behind one that is before it
rising_behind : (y x : Sheet) (ys : List Sheet) → less y.name x.name ≡ true → rising (y ∷ ys) ≡ true → rising (y ∷ put x ys) ≡ true
unfolding rising put
rising_behind y x [] l r = rw l
rising_behind y x (z ∷ zs) l r = go (λ l' r'. rising_behind z x zs l' r') (less x.name z.name) (less z.name x.name) refl refl
  where
    rest : rising (z ∷ zs) ≡ true
    rest = (and_parts (less y.name z.name) (rising (z ∷ zs)) r).1

    first : less y.name z.name ≡ true
    first = (and_parts (less y.name z.name) (rising (z ∷ zs)) r).0

    go : (less z.name x.name ≡ true → rising (z ∷ zs) ≡ true → rising (z ∷ put x zs) ≡ true) → (a b : Bool) → less x.name z.name ≡ a → less z.name x.name ≡ b →
        rising (y ∷ cond a (x ∷ z ∷ zs) (cond b (z ∷ put x zs) (x ∷ zs))) ≡ true
    go ih true b ea eb = rw (l, ea) rest
    go ih false true ea eb = rw first (ih eb rest)
    go ih false false ea eb = rw l (rising_same x z zs (less_same z.name x.name eb ea) rest)

pub rising_put : (x : Sheet) (xs : List Sheet) → rising xs ≡ true → rising (put x xs) ≡ true
unfolding rising put
rising_put x [] r = refl
rising_put x (z ∷ zs) r = go (less x.name z.name) (less z.name x.name) refl refl
  where
    go : (a b : Bool) → less x.name z.name ≡ a → less z.name x.name ≡ b → rising (cond a (x ∷ z ∷ zs) (cond b (z ∷ put x zs) (x ∷ zs))) ≡ true
    go true b ea eb = rw ea r
    go false true ea eb = rising_behind z x zs eb r
    go false false ea eb = rising_same x z zs (less_same z.name x.name eb ea) r

-- what is behind the next one is behind this one
rising_skip : (y z : Sheet) (zs : List Sheet) → rising (y ∷ z ∷ zs) ≡ true → rising (y ∷ zs) ≡ true
unfolding rising
rising_skip y z [] r = refl
rising_skip y z (w ∷ ws) r =
    let a = and_parts (less y.name z.name) (less z.name w.name && rising (w ∷ ws)) r in
    let b = and_parts (less z.name w.name) (rising (w ∷ ws)) a.1 in
    and_from (less y.name w.name) (rising (w ∷ ws)) (less_trans y.name z.name w.name a.0 b.0) b.1

rising_keep_behind : (f : Sheet → Bool) (y : Sheet) (ys : List Sheet) → rising (y ∷ ys) ≡ true → rising (y ∷ keep f ys) ≡ true
unfolding rising keep
rising_keep_behind f y [] r = refl
rising_keep_behind f y (z ∷ zs) r = go (rising_keep_behind f z zs) (rising_keep_behind f y zs) (f z)
  where
    parts : (less y.name z.name ≡ true) × (rising (z ∷ zs) ≡ true)
    parts = and_parts (less y.name z.name) (rising (z ∷ zs)) r

    go : (rising (z ∷ zs) ≡ true → rising (z ∷ keep f zs) ≡ true) → (rising (y ∷ zs) ≡ true → rising (y ∷ keep f zs) ≡ true) → (b : Bool) → rising (y ∷ cond b (z ∷ keep f zs) (keep f zs)) ≡ true
    go ih ih' true = and_from (less y.name z.name) (rising (z ∷ keep f zs)) parts.0 (ih parts.1)
    go ih ih' false = ih' (rising_skip y z zs r)

rising_tail : (z : Sheet) (zs : List Sheet) → rising (z ∷ zs) ≡ true → rising zs ≡ true
unfolding rising
rising_tail z [] r = refl
rising_tail z (w ∷ ws) r = (and_parts (less z.name w.name) (rising (w ∷ ws)) r).1

pub rising_keep : (f : Sheet → Bool) (xs : List Sheet) → rising xs ≡ true → rising (keep f xs) ≡ true
unfolding keep rising
rising_keep f [] r = refl
rising_keep f (z ∷ zs) r = go (rising_keep f zs) (f z)
  where
    go : (rising zs ≡ true → rising (keep f zs) ≡ true) → (b : Bool) → rising (cond b (z ∷ keep f zs) (keep f zs)) ≡ true
    go ih true = rising_keep_behind f z zs r
    go ih false = ih (rising_tail z zs r)

-- EACH SHEET

pub every_put : (p : Sheet → Bool) (x : Sheet) (xs : List Sheet) → p x ≡ true → every p xs ≡ true → every p (put x xs) ≡ true
unfolding every put
every_put p x [] t e = rw t
every_put p x (y ∷ ys) t e = go (every_put p x ys t) (less x.name y.name) (less y.name x.name)
  where
    parts : (p y ≡ true) × (every p ys ≡ true)
    parts = and_parts (p y) (every p ys) e

    go : (every p ys ≡ true → every p (put x ys) ≡ true) → (a b : Bool) → every p (cond a (x ∷ y ∷ ys) (cond b (y ∷ put x ys) (x ∷ ys))) ≡ true
    go ih true b = and_from (p x) (p y && every p ys) t e
    go ih false true = and_from (p y) (every p (put x ys)) parts.0 (ih parts.1)
    go ih false false = and_from (p x) (every p ys) t parts.1

pub every_found : (p : Sheet → Bool) (n : Name) (xs : List Sheet) (y : Sheet) (ys : List Sheet) → every p xs ≡ true → find (is_sheet n) xs ≡ y ∷ ys → p y ≡ true
unfolding every find
every_found p n [] y ys e q = absurd (let z : ◌≡◌ {A = ℕ} 0 1 = cc in omega arith)
every_found p n (x ∷ xs) y ys e q = go (λ q'. every_found p n xs y ys parts.1 q') (is_sheet n x) q
  where
    parts : (p x ≡ true) × (every p xs ≡ true)
    parts = and_parts (p x) (every p xs) e

    go : (find (is_sheet n) xs ≡ y ∷ ys → p y ≡ true) → (b : Bool) → cond b (x ∷ []) (find (is_sheet n) xs) ≡ y ∷ ys → p y ≡ true
    go ih true q' = let z : x ≡ y = cc in ap p (sym z) ∙ parts.0
    go ih false q' = ih q'

-- WEIGHT

pub weight_keep : (f : Sheet → Bool) (xs : List Sheet) → weight (keep f xs) ≤ weight xs
unfolding weight keep
weight_keep f [] = omega arith
weight_keep f (x ∷ xs) = go (weight_keep f xs) (f x)
  where
    go : weight (keep f xs) ≤ weight xs → (b : Bool) → weight (cond b (x ∷ keep f xs) (keep f xs)) ≤ 512 + length x.bytes + weight xs
    go ih true = omega arith
    go ih false = omega arith

pub weight_put : (x : Sheet) (xs : List Sheet) → weight (put x xs) ≤ 512 + length x.bytes + weight xs
unfolding weight put
weight_put x [] = omega arith
weight_put x (y ∷ ys) = go (weight_put x ys) (less x.name y.name) (less y.name x.name)
  where
    go : weight (put x ys) ≤ 512 + length x.bytes + weight ys → (a b : Bool) → weight (cond a (x ∷ y ∷ ys) (cond b (y ∷ put x ys) (x ∷ ys))) ≤ 512 + length x.bytes + (512 + length y.bytes + weight ys)
    go ih true b = omega arith
    go ih false true = omega arith
    go ih false false = omega arith

-- without a sheet that was found there is that much less
pub weight_found : (n : Name) (xs : List Sheet) (y : Sheet) (ys : List Sheet) → find (is_sheet n) xs ≡ y ∷ ys → weight (without n xs) + (512 + length y.bytes) ≤ weight xs
unfolding weight keep find
weight_found n [] y ys q = absurd (let z : ◌≡◌ {A = ℕ} 0 1 = cc in omega arith)
weight_found n (x ∷ xs) y ys q = go (λ q'. weight_found n xs y ys q') (is_sheet n x) q
  where
    go : (find (is_sheet n) xs ≡ y ∷ ys → weight (without n xs) + (512 + length y.bytes) ≤ weight xs) → (b : Bool) → cond b (x ∷ []) (find (is_sheet n) xs) ≡ y ∷ ys →
        weight (cond (not b) (x ∷ without n xs) (without n xs)) + (512 + length y.bytes) ≤ 512 + length x.bytes + weight xs
    go ih true q' =
        let z : x ≡ y = cc in
        let l : length x.bytes ≡ length y.bytes = ap (λ (s : Sheet). length s.bytes) z in
        let w = weight_keep (λ (s : Sheet). not (is_sheet n s)) xs in
        omega arith
    go ih false q' = let h = ih q' in omega arith
