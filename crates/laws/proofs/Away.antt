-- What is turned away leaves the table as it was.
use Rattle.std.proofs.Common.{◌≡◌, ℕ, Bool, List, [], ◌∷◌, refl, arith}
use Rattle.std.proofs.lemmas.Bool.Decides.{nat_tests}
use Rattle.promise.specs.Bytes.{Bytes}
use Rattle.promise.specs.Sheets.{Name, Sheet, State, Read, Put, Patch, Remove, Rename, Names, Take, LetGo, No, Expect, does, reads, changes, patches, patched, removes, renames, takes, lets_go, find, is_sheet}
use Rattle.promise.specs.Promise.{TurnedAwayLeaves}

-- whichever way its tests go
changes_leaves : (room i k : ℕ) (n : Name) (x : Expect) (bs : Bytes) (s : State) → (changes room i n x bs s).reply ≡ No k → (changes room i n x bs s).state ≡ s
changes_leaves room i k n x bs s e = grind (arith, nat_tests)

reads_leaves : (f m : ℕ) (xs : List Sheet) (s : State) → (reads f m xs s).state ≡ s
unfolding reads
reads_leaves f m [] s = refl
reads_leaves f m (x ∷ xs) s = refl

patches_leaves : (room i k : ℕ) (n : Name) (at : ℕ) (bs : Bytes) (x : Expect) (xs : List Sheet) (s : State) → (patches room i n at bs x xs s).reply ≡ No k → (patches room i n at bs x xs s).state ≡ s
unfolding patches
patches_leaves room i k n at bs x [] s e = refl
patches_leaves room i k n at bs x (y ∷ ys) s e = let h = changes_leaves room i k n x (patched at bs y.bytes) s in grind (arith, nat_tests)

removes_leaves : (i k : ℕ) (n : Name) (x : Expect) (xs : List Sheet) (s : State) → (removes i n x xs s).reply ≡ No k → (removes i n x xs s).state ≡ s
unfolding removes
removes_leaves i k n x [] s e = refl
removes_leaves i k n x (y ∷ ys) s e = grind (arith, nat_tests)

renames_leaves : (i k : ℕ) (n new : Name) (xs : List Sheet) (s : State) → (renames i n new xs s).reply ≡ No k → (renames i n new xs s).state ≡ s
unfolding renames
renames_leaves i k n new [] s e = refl
renames_leaves i k n new (y ∷ ys) s e = grind (arith, nat_tests)

takes_leaves : (i k : ℕ) (n : Name) (a : Bool) (s : State) → (takes i n a s).reply ≡ No k → (takes i n a s).state ≡ s
takes_leaves i k n a s e = grind (arith, nat_tests)

lets_go_leaves : (i k : ℕ) (n : Name) (s : State) → (lets_go i n s).reply ≡ No k → (lets_go i n s).state ≡ s
lets_go_leaves i k n s e = grind (arith, nat_tests)

pub turned_away_leaves : TurnedAwayLeaves
unfolding does
turned_away_leaves room i k (Read n f m) s e = let h = reads_leaves f m (find (is_sheet n) s.sheets) s in grind (arith, nat_tests)
turned_away_leaves room i k (Put n bs x) s e = let h = changes_leaves room i k n x bs s in grind (arith, nat_tests)
turned_away_leaves room i k (Patch n at bs x) s e = let h = patches_leaves room i k n at bs x (find (is_sheet n) s.sheets) s in grind (arith, nat_tests)
turned_away_leaves room i k (Remove n x) s e = let h = removes_leaves i k n x (find (is_sheet n) s.sheets) s in grind (arith, nat_tests)
turned_away_leaves room i k (Rename n new) s e = let h = renames_leaves i k n new (find (is_sheet n) s.sheets) s in grind (arith, nat_tests)
turned_away_leaves room i k (Names a m) s e = grind (arith, nat_tests)
turned_away_leaves room i k (Take n a) s e = let h = takes_leaves i k n a s in grind (arith, nat_tests)
turned_away_leaves room i k (LetGo n) s e = let h = lets_go_leaves i k n s in grind (arith, nat_tests)
