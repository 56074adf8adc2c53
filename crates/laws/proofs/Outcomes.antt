-- What a call leaves: the table as it was, or, if nothing turns it away, the one state that it makes.
use Rattle.std.proofs.Common.{◌≡◌, ℕ, ◌+◌, Bool, true, false, cond, not, ◌&&◌, ◌||◌, ltb, leb, List, [], ◌∷◌, length, refl}
use Rattle.std.proofs.lemmas.Bool.{both_ways, and_parts}
use Rattle.promise.specs.Bytes.{Bytes, all_bytes}
use Rattle.promise.specs.Sheets.{Name, Sheet, Hold, State, Out, Call, Read, Put, Patch, Remove, Rename, Names, Take, LetGo, Yes, Edition, Found, Expect, no, some, none, keep, same, others, barred, its, not_its, as_expected, edition_of, find, is_sheet, put, without, weight, name_ok, bytes_ok, does, reads, changes, patches, patched, removes, renames, takes, lets_go, names_after}

-- the states that calls make

abbrev pub put_one : Name → Bytes → State → Sheet
put_one n bs s = record { name = n; bytes = bs; edition = s.changes' + 1 }

abbrev pub after_put : Name → Bytes → State → State
after_put n bs s = record { sheets = put (put_one n bs s) s.sheets; holds = s.holds; changes' = s.changes' + 1 }

abbrev pub let_go_all : Name → State → List Hold
let_go_all n s = keep (λ (h : Hold). not (same n h.name)) s.holds

abbrev pub after_remove : Name → State → State
after_remove n s = record { sheets = without n s.sheets; holds = let_go_all n s; changes' = s.changes' }

abbrev pub renamed : Name → Sheet → Sheet
renamed k x = record { name = k; bytes = x.bytes; edition = x.edition }

abbrev pub after_rename : (n k : Name) → Sheet → State → State
after_rename n k x s = record { sheets = put (renamed k x) (without n s.sheets); holds = let_go_all n s; changes' = s.changes' }

abbrev pub after_take : ℕ → Name → Bool → State → State
after_take i n a s = record { sheets = s.sheets; holds = record { desk = i; name = n; alone = a } ∷ not_its i n s.holds; changes' = s.changes' }

abbrev pub after_let_go : ℕ → Name → State → State
after_let_go i n s = record { sheets = s.sheets; holds = not_its i n s.holds; changes' = s.changes' }

-- the change would weigh too much
abbrev pub heavy : (room : ℕ) → Name → Bytes → State → Bool
heavy room n bs s = ltb room (weight (after_put n bs s).sheets) && ltb (weight s.sheets) (weight (after_put n bs s).sheets)

module _ (P : State → Type 0) where
  changes_leave : (room i : ℕ) (n : Name) (x : Expect) (bs : Bytes) (s : State) → P s → (none (others i n s) ≡ true → heavy room n bs s ≡ false → P (after_put n bs s)) → P (changes room i n x bs s).state
  changes_leave room i n x bs s p q = go (none (others i n s)) (as_expected x (edition_of (find (is_sheet n) s.sheets))) (leb 4611686018427387904 s.changes') (heavy room n bs s) refl refl
    where
      go : (a b c d : Bool) → none (others i n s) ≡ a → heavy room n bs s ≡ d →
          P (cond (not a) (no 5 s) (cond (not b) (no 4 s) (cond c (no 8 s) (cond d (no 9 s) (record { reply = Edition (s.changes' + 1); state = after_put n bs s }))))).state
      go false b c d ea ed = p
      go true false c d ea ed = p
      go true true true d ea ed = p
      go true true false true ea ed = p
      go true true false false ea ed = q ea ed

  patches_leave : (room i : ℕ) (n : Name) (at : ℕ) (bs : Bytes) (x : Expect) (xs : List Sheet) (s : State) → P s →
      ((y : Sheet) (ys : List Sheet) → xs ≡ y ∷ ys → ltb (length y.bytes) at ≡ false → ltb 1048576 (at + length bs) ≡ false → none (others i n s) ≡ true → heavy room n (patched at bs y.bytes) s ≡ false → P (after_put n (patched at bs y.bytes) s)) →
      P (patches room i n at bs x xs s).state
  unfolding patches
  patches_leave room i n at bs x [] s p q = p
  patches_leave room i n at bs x (y ∷ ys) s p q = go (ltb (length y.bytes) at) (ltb 1048576 (at + length bs)) refl refl
    where
      go : (a b : Bool) → ltb (length y.bytes) at ≡ a → ltb 1048576 (at + length bs) ≡ b → P (cond (a || b) (no 1 s) (changes room i n x (patched at bs y.bytes) s)).state
      go true b ea eb = p
      go false true ea eb = p
      go false false ea eb = changes_leave room i n x (patched at bs y.bytes) s p (q y ys refl ea eb)

  removes_leave : (i : ℕ) (n : Name) (x : Expect) (xs : List Sheet) (s : State) → P s → (none (others i n s) ≡ true → P (after_remove n s)) → P (removes i n x xs s).state
  unfolding removes
  removes_leave i n x [] s p q = p
  removes_leave i n x (y ∷ ys) s p q = go (none (others i n s)) (as_expected x y.edition) refl
    where
      go : (a b : Bool) → none (others i n s) ≡ a → P (cond (not a) (no 5 s) (cond (not b) (no 4 s) (record { reply = Yes; state = after_remove n s }))).state
      go false b ea = p
      go true false ea = p
      go true true ea = q ea

  renames_leave : (i : ℕ) (n k : Name) (xs : List Sheet) (s : State) → P s →
      ((y : Sheet) (ys : List Sheet) → xs ≡ y ∷ ys → none (others i n s) ≡ true → none (others i k s) ≡ true → none (find (is_sheet k) s.sheets) ≡ true → P (after_rename n k y s)) →
      P (renames i n k xs s).state
  unfolding renames
  renames_leave i n k [] s p q = p
  renames_leave i n k (y ∷ ys) s p q = go (none (others i n s)) (none (others i k s)) (none (find (is_sheet k) s.sheets)) refl refl refl
    where
      go : (a b c : Bool) → none (others i n s) ≡ a → none (others i k s) ≡ b → none (find (is_sheet k) s.sheets) ≡ c →
          P (cond (not a || not b) (no 5 s) (cond (not c) (no 3 s) (record { reply = Yes; state = after_rename n k y s }))).state
      go false b c ea eb ec = p
      go true false c ea eb ec = p
      go true true false ea eb ec = p
      go true true true ea eb ec = q y ys refl ea eb ec

  takes_leave : (i : ℕ) (n : Name) (a : Bool) (s : State) → P s → (barred i n s ≡ false → (a ≡ true → none (others i n s) ≡ true) → P (after_take i n a s)) → P (takes i n a s).state
  takes_leave i n a s p q = go (barred i n s) a (none (others i n s)) (leb 64 (length (its i (not_its i n s.holds)))) refl refl refl
    where
      go : (x y z f : Bool) → barred i n s ≡ x → a ≡ y → none (others i n s) ≡ z → P (cond (x || (y && not z)) (no 5 s) (cond f (no 8 s) (record { reply = Yes; state = after_take i n a s }))).state
      go true y z f ex ey ez = p
      go false true false f ex ey ez = p
      go false true true true ex ey ez = p
      go false true true false ex ey ez = q ex (λ e. ez)
      go false false z true ex ey ez = p
      go false false true false ex ey ez = q ex (λ e. ez)
      go false false false false ex ey ez = q ex (λ e. absurd (both_ways a ey e))

  lets_go_leave : (i : ℕ) (n : Name) (s : State) → P s → P (after_let_go i n s) → P (lets_go i n s).state
  lets_go_leave i n s p q = go (some (λ (h : Hold). same n h.name) (its i s.holds))
    where
      go : (a : Bool) → P (cond a (record { reply = Yes; state = after_let_go i n s }) (no 2 s)).state
      go true = q
      go false = p

  -- if it is in range
  ranged : (b : Bool) (x : Out) (s : State) → P s → (b ≡ true → P x.state) → P (cond b x (no 1 s)).state
  ranged true x s p q = q refl
  ranged false x s p q = p

  reads_leave : (f m : ℕ) (xs : List Sheet) (s : State) → P s → P (reads f m xs s).state
  unfolding reads
  reads_leave f m [] s p = p
  reads_leave f m (x ∷ xs) s p = p

  read_leaves : (i f m : ℕ) (n : Name) (s : State) → P s → P (cond (barred i n s) (no 5 s) (reads f m (find (is_sheet n) s.sheets) s)).state
  read_leaves i f m n s p = go (barred i n s)
    where
      go : (b : Bool) → P (cond b (no 5 s) (reads f m (find (is_sheet n) s.sheets) s)).state
      go true = p
      go false = reads_leave f m (find (is_sheet n) s.sheets) s p

  -- WHAT ANY CALL LEAVES
  pub record Kept (room i : ℕ) (s : State) : Type 0 where
    pub was : P s
    pub puts : (n : Name) (bs : Bytes) → name_ok n ≡ true → leb (length bs) 1048576 ≡ true → all_bytes bs ≡ true → none (others i n s) ≡ true → heavy room n bs s ≡ false → P (after_put n bs s)
    pub patches_at : (n : Name) (at : ℕ) (bs : Bytes) (y : Sheet) (ys : List Sheet) → name_ok n ≡ true → all_bytes bs ≡ true → find (is_sheet n) s.sheets ≡ y ∷ ys → ltb (length y.bytes) at ≡ false → ltb 1048576 (at + length bs) ≡ false →
        none (others i n s) ≡ true → heavy room n (patched at bs y.bytes) s ≡ false → P (after_put n (patched at bs y.bytes) s)
    pub removes_it : (n : Name) → none (others i n s) ≡ true → P (after_remove n s)
    pub renames_it : (n k : Name) (y : Sheet) (ys : List Sheet) → name_ok k ≡ true → find (is_sheet n) s.sheets ≡ y ∷ ys → none (others i n s) ≡ true → none (others i k s) ≡ true → none (find (is_sheet k) s.sheets) ≡ true → P (after_rename n k y s)
    pub takes_it : (n : Name) (a : Bool) → barred i n s ≡ false → (a ≡ true → none (others i n s) ≡ true) → P (after_take i n a s)
    pub lets_it_go : (n : Name) → P (after_let_go i n s)

  pub call_leaves : (room i : ℕ) (c : Call) (s : State) → Kept room i s → P (does room i c s).state
  unfolding does
  call_leaves room i (Read n f m) s k = ranged (name_ok n && leb m 1048576) (cond (barred i n s) (no 5 s) (reads f m (find (is_sheet n) s.sheets) s)) s k.was (λ e. read_leaves i f m n s k.was)
  call_leaves room i (Put n bs x) s k =
      ranged (name_ok n && bytes_ok bs) (changes room i n x bs s) s k.was (λ e. changes_leave room i n x bs s k.was
      (k.puts n bs (and_parts (name_ok n) (bytes_ok bs) e).0 (and_parts (leb (length bs) 1048576) (all_bytes bs) (and_parts (name_ok n) (bytes_ok bs) e).1).0 (and_parts (leb (length bs) 1048576) (all_bytes bs) (and_parts (name_ok n) (bytes_ok bs) e).1).1))
  call_leaves room i (Patch n at bs x) s k =
      ranged (name_ok n && bytes_ok bs) (patches room i n at bs x (find (is_sheet n) s.sheets) s) s k.was (λ e. patches_leave room i n at bs x (find (is_sheet n) s.sheets) s k.was
      (λ y ys. k.patches_at n at bs y ys (and_parts (name_ok n) (bytes_ok bs) e).0 (and_parts (leb (length bs) 1048576) (all_bytes bs) (and_parts (name_ok n) (bytes_ok bs) e).1).1))
  call_leaves room i (Remove n x) s k = ranged (name_ok n) (removes i n x (find (is_sheet n) s.sheets) s) s k.was (λ e. removes_leave i n x (find (is_sheet n) s.sheets) s k.was (k.removes_it n))
  call_leaves room i (Rename n new) s k =
      ranged (name_ok n && name_ok new) (renames i n new (find (is_sheet n) s.sheets) s) s k.was (λ e. renames_leave i n new (find (is_sheet n) s.sheets) s k.was (λ y ys. k.renames_it n new y ys (and_parts (name_ok n) (name_ok new) e).1))
  call_leaves room i (Names a m) s k = ranged (leb (length a) 255 && all_bytes a && leb m 1024) (record { reply = Found (names_after a m s.sheets); state = s }) s k.was (λ e. k.was)
  call_leaves room i (Take n a) s k = ranged (name_ok n) (takes i n a s) s k.was (λ e. takes_leave i n a s k.was (k.takes_it n a))
  call_leaves room i (LetGo n) s k = ranged (name_ok n) (lets_go i n s) s k.was (λ e. lets_go_leave i n s k.was (k.lets_it_go n))
