-- Why a change is turned away, where nobody holds anything.
use Rattle.std.proofs.Common.{◌≡◌, ℕ, ◌+◌, ◌<◌, ◌≤◌, Bool, true, false, cond, not, ◌&&◌, ltb, leb, List, Result, Ok, Err, IsErrAnd, refl, ap, ◌∙◌, arith}
use Rattle.std.proofs.lemmas.Bool.Decides.{nat_tests}
use Rattle.codec.specs.declared.answer.Changed.{Changed}
use Rattle.codec.specs.declared.answer.Refusal.{Refusal}
use Rattle.codec.specs.declared.answer.Refusal.TheVariants.{Missing}
use Rattle.codec.specs.Answers.{refusal_number}
use Rattle.promise.specs.Sheets.{Sheet, Name, State, Expect, Out, Edition, changes, no, find, is_sheet, put, weight, edition_of, as_expected, keep, none, missing, other_edition, used_up, no_room}
use Rattle.table.specs.Tables.{new_sheet, after_put, out_of, Admits}
use Rattle.table.proofs.Readings.{plain}

-- what is admitted of a table is admitted of its equal
pub admits_as : (room room' : ℕ) (s s' : State) (xs xs' : List Sheet) → room' ≡ room → s' ≡ s → xs' ≡ xs → Admits room s xs → Admits room' s' xs'
admits_as room room' s s' xs xs' r e x a = record { light = omega (arith, r, ap weight x, a.light); counted = omega (arith, ap (λ (q : State). q.changes') e, a.counted) }

-- a change, where nobody holds anything
abbrev open_to : (room : ℕ) → Name → List ℕ → List Sheet → ℕ → (expected used heavy : Bool) → Out
open_to room n bs xs k a u h =
    cond (not a) (no other_edition (plain xs k)) (cond u (no used_up (plain xs k)) (cond h (no no_room (plain xs k)) (record { reply = Edition (k + 1); state = after_put n bs (plain xs k) })))

changes_by : (room d : ℕ) (n : Name) (e : Expect) (bs : List ℕ) (xs : List Sheet) (k : ℕ) (a u h : Bool) → as_expected e (edition_of (find (is_sheet n) xs)) ≡ a → leb 4611686018427387904 k ≡ u → (ltb room (weight (put (new_sheet n bs (plain xs k)) xs)) && ltb (weight xs) (weight (put (new_sheet n bs (plain xs k)) xs))) ≡ h → changes room d n e bs (plain xs k) ≡ open_to room n bs xs k a u h
unfolding keep none
changes_by room d n e bs xs k a u h p q r = rw (p, q, r)

pub not_expected : (room d : ℕ) (n : Name) (e : Expect) (bs : List ℕ) (xs : List Sheet) (k : ℕ) → as_expected e (edition_of (find (is_sheet n) xs)) ≡ false → changes room d n e bs (plain xs k) ≡ no other_edition (plain xs k)
not_expected room d n e bs xs k p = changes_by room d n e bs xs k false _ _ p refl refl

pub used_up_lem : (room d : ℕ) (n : Name) (e : Expect) (bs : List ℕ) (xs : List Sheet) (k : ℕ) → as_expected e (edition_of (find (is_sheet n) xs)) ≡ true → 4611686018427387904 ≤ k → changes room d n e bs (plain xs k) ≡ no used_up (plain xs k)
used_up_lem room d n e bs xs k p q = let u : leb 4611686018427387904 k ≡ true = grind (arith, nat_tests) in changes_by room d n e bs xs k true true _ p u refl

pub no_room_lem : (room d : ℕ) (n : Name) (e : Expect) (bs : List ℕ) (xs : List Sheet) (k w : ℕ) → as_expected e (edition_of (find (is_sheet n) xs)) ≡ true → k < 4611686018427387904 → weight xs ≤ room → w ≡ weight (put (new_sheet n bs (plain xs k)) xs) → room < w → changes room d n e bs (plain xs k) ≡ no no_room (plain xs k)
no_room_lem room d n e bs xs k w p q l z r =
    let u : leb 4611686018427387904 k ≡ false = grind (arith, nat_tests) in
    let h : (ltb room (weight (put (new_sheet n bs (plain xs k)) xs)) && ltb (weight xs) (weight (put (new_sheet n bs (plain xs k)) xs))) ≡ true = grind (arith, nat_tests) in
    changes_by room d n e bs xs k true false true p u h

pub admitted : (room d : ℕ) (n : Name) (e : Expect) (bs : List ℕ) (xs : List Sheet) (k w : ℕ) → as_expected e (edition_of (find (is_sheet n) xs)) ≡ true → k < 4611686018427387904 → w ≡ weight (put (new_sheet n bs (plain xs k)) xs) → w ≤ room → changes room d n e bs (plain xs k) ≡ record { reply = Edition (k + 1); state = after_put n bs (plain xs k) }
admitted room d n e bs xs k w p q z r =
    let u : leb 4611686018427387904 k ≡ false = grind (arith, nat_tests) in
    let h : (ltb room (weight (put (new_sheet n bs (plain xs k)) xs)) && ltb (weight xs) (weight (put (new_sheet n bs (plain xs k)) xs))) ≡ false = grind (arith, nat_tests) in
    changes_by room d n e bs xs k true false false p u h

-- a call that is turned away is answered by the reason, and leaves all as it was
pub turned_away : (r : Result Changed Refusal) (k : Refusal) (s : State) → IsErrAnd r (λ e. e ≡ k) → out_of r s ≡ no (refusal_number k) s
turned_away (Ok r) k s h = absurd h
turned_away (Err e) k s h = ap (λ (q : Refusal). no (refusal_number q) s) h

-- and so is one for a sheet that is missing
pub missed : (r : Result Changed Refusal) (k : Refusal) (s : State) → IsErrAnd r (λ e. e ≡ k) → k ≡ Missing → out_of r s ≡ no missing s
missed r k s h e = turned_away r k s h ∙ ap (λ (q : Refusal). no (refusal_number q) s) e
