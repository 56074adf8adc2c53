-- Reading gives what was put.
use Rattle.std.proofs.Common.{◌≡◌, ℕ, ◌+◌, Bool, true, false, cond, not, ◌&&◌, leb, List, [], ◌∷◌, length, refl, ap, arith}
use Rattle.std.proofs.lemmas.Bool.{le-leb}
use Rattle.promise.specs.Sheets.{Sheet, Hold, Out, Read, No, Edition, Got, no, less, put, find, is_sheet, none, others, as_expected, edition_of, name_ok, bytes_ok, does, reads, first_of, drop_of}
use Rattle.promise.specs.Promise.{PutThenRead}
use Rattle.laws.proofs.Order.{same_self}
use Rattle.laws.proofs.Kept.{some_none}
use Rattle.laws.proofs.Outcomes.{after_put, put_one, heavy}

find_put : (x : Sheet) (xs : List Sheet) → find (is_sheet x.name) (put x xs) ≡ x ∷ []
unfolding find put
find_put x [] = let a = same_self x.name in grind arith
find_put x (y ∷ ys) = go (find_put x ys) (less x.name y.name) (less y.name x.name) refl refl
  where
    go : find (is_sheet x.name) (put x ys) ≡ x ∷ [] → (a b : Bool) → less x.name y.name ≡ a → less y.name x.name ≡ b →
        find (is_sheet x.name) (cond a (x ∷ y ∷ ys) (cond b (y ∷ put x ys) (x ∷ ys))) ≡ x ∷ []
    go ih true b ea eb = rw (same_self x.name) refl
    go ih false true ea eb = rw (ea, eb) ih
    go ih false false ea eb = rw (same_self x.name) refl

pub put_then_read : PutThenRead
unfolding does reads
put_then_read room s run i f m e n bs x le h =
    go (name_ok n) (bytes_ok bs) (none (others i n s)) (as_expected x (edition_of (find (is_sheet n) s.sheets))) (leb 4611686018427387904 s.changes') (heavy room n bs s) refl refl h
  where
    outcome : (a a' b c d r : Bool) → Out
    outcome a a' b c d r =
        cond (a && a') (cond (not b) (no 5 s) (cond (not c) (no 4 s) (cond d (no 8 s) (cond r (no 9 s) (record { reply = Edition (s.changes' + 1); state = after_put n bs s }))))) (no 1 s)

    never : (k : ℕ) → No k ≡ Edition e → ⊥
    never k p = let z : ◌≡◌ {A = ℕ} 0 1 = cc in omega arith

    go : (a a' b c d r : Bool) → name_ok n ≡ a → none (others i n s) ≡ b → (outcome a a' b c d r).reply ≡ Edition e →
        (does room i (Read n f m) (outcome a a' b c d r).state).reply ≡ Got e (length bs) (first_of m (drop_of f bs))
    go false a' b c d r ea eb q = absurd (never 1 q)
    go true false b c d r ea eb q = absurd (never 1 q)
    go true true false c d r ea eb q = absurd (never 5 q)
    go true true true false d r ea eb q = absurd (never 4 q)
    go true true true true true r ea eb q = absurd (never 8 q)
    go true true true true false true ea eb q = absurd (never 9 q)
    go true true true true false false ea eb q =
        let k : s.changes' + 1 ≡ e = cc in
        rw (ea, le-leb m 1048576 le, some_none (λ (z : Hold). z.alone) (others i n s) eb, find_put (put_one n bs s) s.sheets) (ap (λ z. Got z (length bs) (first_of m (drop_of f bs))) k)
