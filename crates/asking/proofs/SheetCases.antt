-- What a call does on the table of sheets, by cases: a property of an outcome is shown for each way in which a call can end.
use Rattle.std.proofs.Common.{◌≡◌, ℕ, zero, suc, ◌+◌, ◌%◌, ◌≤◌, Bool, true, false, cond, not, ◌&&◌, ◌||◌, T, eqb, ltb, leb, List, [], ◌∷◌, ◌++◌, length, sym, refl, subst}
use Rattle.std.proofs.lemmas.Bool.{and_parts, leb-true}
use Rattle.promise.specs.Bytes.{Bytes, every, all_bytes}
use Rattle.promise.specs.Sheets.{Name, Sheet, Hold, State, find, none, same, is_sheet, put, without, keep, first_of, drop_of, patched, weight, others, barred, its, not_its, some, Expect, Call, Read, Put, Patch, Remove, Rename, Names, Take, LetGo, Yes, Edition, Got, Found, Out, name_ok, bytes_ok, set_to, changes, reads, patches, removes, renames, names_after, does, as_expected, edition_of, out_of_range, missing, present, other_edition, in_others_hand, used_up, no_room}
use Rattle.promise.specs.Sheets as S

-- a sheet in the table
abbrev pub SheetOk : Sheet → Bool
SheetOk x = name_ok x.name && all_bytes x.bytes

abbrev pub TableOk : State → Type 0
TableOk s = T (every SheetOk s.sheets)

module _ (P : Out → Type 0) (room i : ℕ) (s : State) where
  pub record Cases : Type 0 where
    -- it is turned away
    pub refused : (k : ℕ) → eqb (k % 256) 11 ≡ false → P (S.no k s)
    pub set' : (n : Name) (bs : Bytes) → name_ok n ≡ true → (TableOk s → T (all_bytes bs)) → P (record { reply = Edition (s.changes' + 1); state = record { sheets = put (record { name = n; bytes = bs; edition = s.changes' + 1 }) s.sheets; holds = s.holds; changes' = s.changes' + 1 } })
    pub got : (e w f m : ℕ) (bs : Bytes) → m ≤ 1048576 → (TableOk s → T (all_bytes bs)) → P (record { reply = Got e w (first_of m (drop_of f bs)); state = s })
    pub removed : (n : Name) → P (record { reply = Yes; state = record { sheets = without n s.sheets; holds = keep (λ (h : Hold). not (same n h.name)) s.holds; changes' = s.changes' } })
    pub renamed : (n k : Name) (bs : Bytes) (e : ℕ) → name_ok k ≡ true → (TableOk s → T (all_bytes bs)) → P (record { reply = Yes; state = record { sheets = put (record { name = k; bytes = bs; edition = e }) (without n s.sheets); holds = keep (λ (h : Hold). not (same n h.name)) s.holds; changes' = s.changes' } })
    pub found : (a : Name) (m : ℕ) → m ≤ 1024 → P (record { reply = Found (names_after a m s.sheets); state = s })
    pub took : (n : Name) (a : Bool) → P (record { reply = Yes; state = record { sheets = s.sheets; holds = record { desk = i; name = n; alone = a } ∷ not_its i n s.holds; changes' = s.changes' } })
    pub let_go : (n : Name) → P (record { reply = Yes; state = record { sheets = s.sheets; holds = not_its i n s.holds; changes' = s.changes' } })

  either : (b : Bool) (x y : Out) → (b ≡ true → P x) → (b ≡ false → P y) → P (cond b x y)
  either true x y p q = p refl
  either false x y p q = q refl

  module _ (c : Cases) where
    c_set : (n : Name) (bs : Bytes) → name_ok n ≡ true → (TableOk s → T (all_bytes bs)) → P (set_to room (record { name = n; bytes = bs; edition = s.changes' + 1 }) s)
    c_set n bs o t = either (ltb room (weight (put (record { name = n; bytes = bs; edition = s.changes' + 1 }) s.sheets)) && ltb (weight s.sheets) (weight (put (record { name = n; bytes = bs; edition = s.changes' + 1 }) s.sheets))) (S.no no_room s) _ (λ _. c.refused no_room refl) (λ _. c.set' n bs o t)

    c_changes : (n : Name) (e : Expect) (bs : Bytes) → name_ok n ≡ true → (TableOk s → T (all_bytes bs)) → P (changes room i n e bs s)
    c_changes n e bs o t =
        either (not (none (others i n s))) (S.no in_others_hand s) _ (λ _. c.refused in_others_hand refl) (λ _.
        either (not (as_expected e (edition_of (find (is_sheet n) s.sheets)))) (S.no other_edition s) _ (λ _. c.refused other_edition refl) (λ _.
        either (leb 4611686018427387904 s.changes') (S.no used_up s) _ (λ _. c.refused used_up refl) (λ _. c_set n bs o t)))

    -- the sheet that was found is one of the table
    abbrev FoundOk : List Sheet → Type 0
    FoundOk xs = TableOk s → T (every SheetOk xs)

    first_bytes : (x : Sheet) (xs : List Sheet) → FoundOk (x ∷ xs) → TableOk s → T (all_bytes x.bytes)
    unfolding every
    first_bytes x xs f o = go (name_ok x.name) (all_bytes x.bytes) (f o)
      where
        go : (a b : Bool) → T ((a && b) && every SheetOk xs) → T b
        go true true u = tt
        go true false u = absurd u
        go false b u = absurd u

    c_reads : (f m : ℕ) (xs : List Sheet) → m ≤ 1048576 → FoundOk xs → P (reads f m xs s)
    unfolding reads
    c_reads f m [] l o = c.refused missing refl
    c_reads f m (x ∷ xs) l o = c.got x.edition (length x.bytes) f m x.bytes l (first_bytes x xs o)

    c_patches : (n : Name) (at : ℕ) (bs : Bytes) (e : Expect) (xs : List Sheet) → name_ok n ≡ true → ((x : Sheet) (ys : List Sheet) → xs ≡ x ∷ ys → TableOk s → T (all_bytes (patched at bs x.bytes))) → P (patches room i n at bs e xs s)
    unfolding patches
    c_patches n at bs e [] o f = c.refused missing refl
    c_patches n at bs e (x ∷ xs) o f = either (ltb (length x.bytes) at || ltb 1048576 (at + length bs)) (S.no out_of_range s) _ (λ _. c.refused out_of_range refl) (λ _. c_changes n e (patched at bs x.bytes) o (f x xs refl))

    c_removes : (n : Name) (e : Expect) (xs : List Sheet) → P (removes i n e xs s)
    unfolding removes
    c_removes n e [] = c.refused missing refl
    c_removes n e (x ∷ xs) = either (not (none (others i n s))) (S.no in_others_hand s) _ (λ _. c.refused in_others_hand refl) (λ _. either (not (as_expected e x.edition)) (S.no other_edition s) _ (λ _. c.refused other_edition refl) (λ _. c.removed n))

    c_renames : (n k : Name) (xs : List Sheet) → name_ok k ≡ true → FoundOk xs → P (renames i n k xs s)
    unfolding renames
    c_renames n k [] o f = c.refused missing refl
    c_renames n k (x ∷ xs) o f = either (not (none (others i n s)) || not (none (others i k s))) (S.no in_others_hand s) _ (λ _. c.refused in_others_hand refl) (λ _. either (not (none (find (is_sheet k) s.sheets))) (S.no present s) _ (λ _. c.refused present refl) (λ _. c.renamed n k x.bytes x.edition o (first_bytes x xs f)))

-- BYTES OF LISTS

pub every_append : {A : Type 0} (f : A → Bool) (xs ys : List A) → T (every f xs) → T (every f ys) → T (every f (xs ++ ys))
unfolding every
every_append f [] ys p q = q
every_append f (x ∷ xs) ys p q = go (f x) (λ u. every_append f xs ys u q) p
  where
    go : (b : Bool) → (T (every f xs) → T (every f (xs ++ ys))) → T (b && every f xs) → T (b && every f (xs ++ ys))
    go true g u = g u
    go false g u = absurd u

pub every_first : {A : Type 0} (f : A → Bool) (n : ℕ) (xs : List A) → T (every f xs) → T (every f (first_of n xs))
unfolding every first_of
every_first f zero xs p = tt
every_first f (suc n) [] p = tt
every_first f (suc n) (x ∷ xs) p = go (f x) (λ u. every_first f n xs u) p
  where
    go : (b : Bool) → (T (every f xs) → T (every f (first_of n xs))) → T (b && every f xs) → T (b && every f (first_of n xs))
    go true g u = g u
    go false g u = absurd u

pub every_drop : {A : Type 0} (f : A → Bool) (n : ℕ) (xs : List A) → T (every f xs) → T (every f (drop_of n xs))
unfolding every drop_of
every_drop f zero xs p = p
every_drop f (suc n) [] p = tt
every_drop f (suc n) (x ∷ xs) p = go (f x) (λ u. every_drop f n xs u) p
  where
    go : (b : Bool) → (T (every f xs) → T (every f (drop_of n xs))) → T (b && every f xs) → T (every f (drop_of n xs))
    go true g u = g u
    go false g u = absurd u

pub every_keep : {A : Type 0} (f g : A → Bool) (xs : List A) → T (every f xs) → T (every f (keep g xs))
unfolding every keep
every_keep f g [] p = tt
every_keep f g (x ∷ xs) p = go (f x) (g x) refl (λ u. every_keep f g xs u) p
  where
    go : (b d : Bool) → f x ≡ b → (T (every f xs) → T (every f (keep g xs))) → T (b && every f xs) → T (every f (cond d (x ∷ keep g xs) (keep g xs)))
    go true true e h u = subst (λ c. T (c && every f (keep g xs))) (sym e) (h u)
    go true false e h u = h u
    go false d e h u = absurd u

every_find : {A : Type 0} (f g : A → Bool) (xs : List A) → T (every f xs) → T (every f (find g xs))
unfolding every find
every_find f g [] p = tt
every_find f g (x ∷ xs) p = go (f x) (g x) refl (λ u. every_find f g xs u) p
  where
    go : (b d : Bool) → f x ≡ b → (T (every f xs) → T (every f (find g xs))) → T (b && every f xs) → T (every f (cond d (x ∷ []) (find g xs)))
    go true true e h u = subst (λ c. T (c && true)) (sym e) tt
    go true false e h u = h u
    go false d e h u = absurd u

-- EVERY CALL

module _ (P : Out → Type 0) (room i : ℕ) (s : State) (c : Cases P room i s) where
  found_ok : (n : Name) → TableOk s → T (every SheetOk (find (is_sheet n) s.sheets))
  found_ok n o = every_find SheetOk (is_sheet n) s.sheets o

  bytes_of : (bs : Bytes) → bytes_ok bs ≡ true → T (all_bytes bs)
  bytes_of bs e = subst T (sym (and_parts (leb (length bs) 1048576) (all_bytes bs) e).1) tt

  patched_bytes : (n : Name) (at : ℕ) (bs : Bytes) → T (all_bytes bs) → (xs : List Sheet) → (TableOk s → T (every SheetOk xs)) → (x : Sheet) (ys : List Sheet) → xs ≡ x ∷ ys → TableOk s → T (all_bytes (patched at bs x.bytes))
  patched_bytes n at bs o xs f x ys e t =
      let old = first_bytes P room i s c x ys (λ u. subst (λ zs. T (every SheetOk zs)) e (f u)) t in
      every_append (λ (b : ℕ). ltb b 256) (first_of at x.bytes) (bs ++ drop_of (at + length bs) x.bytes) (every_first (λ (b : ℕ). ltb b 256) at x.bytes old) (every_append (λ (b : ℕ). ltb b 256) bs (drop_of (at + length bs) x.bytes) o (every_drop (λ (b : ℕ). ltb b 256) (at + length bs) x.bytes old))

  pub every_call : (x : Call) → P (does room i x s)
  unfolding does
  every_call (Read n f m) = either P room i s (name_ok n && leb m 1048576) _ (S.no out_of_range s) (λ e. either P room i s (barred i n s) (S.no in_others_hand s) _ (λ _. c.refused in_others_hand refl) (λ _. c_reads P room i s c f m (find (is_sheet n) s.sheets) (leb-true m 1048576 (and_parts (name_ok n) (leb m 1048576) e).1) (found_ok n))) (λ _. c.refused out_of_range refl)
  every_call (Put n bs e) = either P room i s (name_ok n && bytes_ok bs) _ (S.no out_of_range s) (λ t. let a = and_parts (name_ok n) (bytes_ok bs) t in c_changes P room i s c n e bs a.0 (λ _. bytes_of bs a.1)) (λ _. c.refused out_of_range refl)
  every_call (Patch n at bs e) = either P room i s (name_ok n && bytes_ok bs) _ (S.no out_of_range s) (λ t. let a = and_parts (name_ok n) (bytes_ok bs) t in c_patches P room i s c n at bs e (find (is_sheet n) s.sheets) a.0 (patched_bytes n at bs (bytes_of bs a.1) (find (is_sheet n) s.sheets) (found_ok n))) (λ _. c.refused out_of_range refl)
  every_call (Remove n e) = either P room i s (name_ok n) _ (S.no out_of_range s) (λ _. c_removes P room i s c n e (find (is_sheet n) s.sheets)) (λ _. c.refused out_of_range refl)
  every_call (Rename n k) = either P room i s (name_ok n && name_ok k) _ (S.no out_of_range s) (λ t. c_renames P room i s c n k (find (is_sheet n) s.sheets) (and_parts (name_ok n) (name_ok k) t).1 (found_ok n)) (λ _. c.refused out_of_range refl)
  every_call (Names a m) = either P room i s (leb (length a) 255 && all_bytes a && leb m 1024) _ (S.no out_of_range s) (λ t. c.found a m (leb-true m 1024 (and_parts (leb (length a) 255 && all_bytes a) (leb m 1024) t).1)) (λ _. c.refused out_of_range refl)
  every_call (Take n a) = either P room i s (name_ok n) _ (S.no out_of_range s) (λ _. either P room i s (barred i n s || (a && not (none (others i n s)))) (S.no in_others_hand s) _ (λ _. c.refused in_others_hand refl) (λ _. either P room i s (leb 64 (length (its i (not_its i n s.holds)))) (S.no used_up s) _ (λ _. c.refused used_up refl) (λ _. c.took n a))) (λ _. c.refused out_of_range refl)
  every_call (LetGo n) = either P room i s (name_ok n) _ (S.no out_of_range s) (λ _. either P room i s (some (λ (h : Hold). same n h.name) (its i s.holds)) _ (S.no missing s) (λ _. c.let_go n) (λ _. c.refused missing refl)) (λ _. c.refused out_of_range refl)
