-- Who holds a sheet finds it as it was, whatever others do.
use Rattle.std.proofs.Common.{◌≡◌, ℕ, Bool, true, false, cond, not, ◌&&◌, T, eqb, leb, List, [], ◌∷◌, sym, refl, ap, ◌∙◌, arith}
use mathlib.Core.List.{Memᴰ}
use Rattle.std.proofs.lemmas.Bool.{and_from, false≢true, ne_eqb, not_from_false}
use Rattle.std.proofs.lemmas.Bool.Decides.{nat_tests}
use Rattle.promise.specs.Bytes.{Bytes}
use Rattle.promise.specs.Sheets.{Name, Sheet, Hold, State, Read, No, no, reads, less, same, keep, none, find, put, is_sheet, without, others, barred, not_its, name_ok, does, in_others_hand}
use Rattle.promise.specs.Promise.{HeldStays}
use Rattle.laws.proofs.Order.{less_same, same_self, same_is}
use Rattle.laws.proofs.Kept.{keep_in, none_not_in, some_in}
use Rattle.laws.proofs.Outcomes.{Kept, call_leaves, after_put, after_remove, after_rename, put_one, renamed, let_go_all}

-- FINDING ANOTHER NAME

find_put_other : (n : Name) (x : Sheet) (xs : List Sheet) → same n x.name ≡ false → find (is_sheet n) (put x xs) ≡ find (is_sheet n) xs
unfolding find put
find_put_other n x [] e = rw e
find_put_other n x (y ∷ ys) e = go (find_put_other n x ys e) (less x.name y.name) (less y.name x.name) refl refl
  where
    go : find (is_sheet n) (put x ys) ≡ find (is_sheet n) ys → (a b : Bool) → less x.name y.name ≡ a → less y.name x.name ≡ b →
        find (is_sheet n) (cond a (x ∷ y ∷ ys) (cond b (y ∷ put x ys) (x ∷ ys))) ≡ cond (same n y.name) (y ∷ []) (find (is_sheet n) ys)
    go ih true b ea eb = rw e
    go ih false true ea eb = ap (cond (same n y.name) (y ∷ [])) ih
    go ih false false ea eb =
        let s : same n y.name ≡ false = ap (same n) (less_same y.name x.name eb ea) ∙ e in
        rw (e, s)

find_without_other : (n k : Name) (xs : List Sheet) → same n k ≡ false → find (is_sheet n) (without k xs) ≡ find (is_sheet n) xs
unfolding find keep
find_without_other n k [] e = refl
find_without_other n k (y ∷ ys) e = go (find_without_other n k ys e) (same k y.name) refl
  where
    go : find (is_sheet n) (without k ys) ≡ find (is_sheet n) ys → (b : Bool) → same k y.name ≡ b → find (is_sheet n) (cond (not b) (y ∷ without k ys) (without k ys)) ≡ cond (same n y.name) (y ∷ []) (find (is_sheet n) ys)
    go ih true eb = let s : same n y.name ≡ false = ap (same n) (sym (same_is k y.name eb)) ∙ e in rw s ih
    go ih false eb = ap (cond (same n y.name) (y ∷ [])) ih

same_sym : (a b : Name) → same a b ≡ same b a
same_sym a b = go (less a b) (less b a)
  where
    go : (x y : Bool) → (not x && not y) ≡ (not y && not x)
    go true true = refl
    go true false = refl
    go false true = refl
    go false false = refl

-- WHAT ANOTHER DESK LEAVES

-- the sheet that is held is as it was, and so is the hold
record Stays (s : State) (h : Hold) (t : State) : Type 0 where
  sheet : find (is_sheet h.name) t.sheets ≡ find (is_sheet h.name) s.sheets
  hold : Memᴰ h t.holds

module _ (j : ℕ) (s : State) (h : Hold) (m : Memᴰ h s.holds) (d : eqb j h.desk ≡ false) where
  -- it is in the way of changes to its name
  others_has : (n : Name) → same n h.name ≡ true → Memᴰ h (others j n s)
  others_has n e = keep_in (λ (x : Hold). not (eqb j x.desk) && same n x.name) s.holds h (and_from (not (eqb j h.desk)) (same n h.name) (not_from_false (eqb j h.desk) d) e) m

  -- so what is changed has another name
  another : (n : Name) → none (others j n s) ≡ true → same n h.name ≡ false
  another n e = go (same n h.name) refl
    where
      go : (b : Bool) → same n h.name ≡ b → b ≡ false
      go true p = absurd (none_not_in (others j n s) h e (others_has n p))
      go false p = refl

  let_go_other : (n : Name) → none (others j n s) ≡ true → Memᴰ h (let_go_all n s)
  let_go_other n e = keep_in (λ (x : Hold). not (same n x.name)) s.holds h (not_from_false (same n h.name) (another n e)) m

  not_its_lem : (n : Name) → Memᴰ h (not_its j n s.holds)
  not_its_lem n = keep_in (λ (x : Hold). not (eqb j x.desk && same n x.name)) s.holds h (let e = d in grind (arith, nat_tests)) m

  turned : (n : Name) → none (others j n s) ≡ true → same h.name n ≡ false
  turned n e = same_sym h.name n ∙ another n e

  put_stays : (n : Name) (bs : Bytes) → none (others j n s) ≡ true → Stays s h (after_put n bs s)
  put_stays n bs e = record { sheet = find_put_other h.name (put_one n bs s) s.sheets (turned n e); hold = m }

  remove_stays : (n : Name) → none (others j n s) ≡ true → Stays s h (after_remove n s)
  remove_stays n e = record { sheet = find_without_other h.name n s.sheets (turned n e); hold = let_go_other n e }

  rename_stays : (n k : Name) (y : Sheet) → none (others j n s) ≡ true → none (others j k s) ≡ true → Stays s h (after_rename n k y s)
  rename_stays n k y e g = record {
    sheet = find_put_other h.name (renamed k y) (without n s.sheets) (turned k g) ∙ find_without_other h.name n s.sheets (turned n e);
    hold = let_go_other n e;
  }

  kept : (room : ℕ) → Kept (Stays s h) room j s
  kept room = record {
    was = record { sheet = refl; hold = m };
    puts = λ n bs a b c o w. put_stays n bs o;
    patches_at = λ n at bs y ys a b f g e o w. put_stays n _ o;
    removes_it = remove_stays;
    renames_it = λ n k y ys a f o p e. rename_stays n k y o p;
    takes_it = λ n a b o. record { sheet = refl; hold = Memᴰ.tail (not_its_lem n) };
    lets_it_go = λ n. record { sheet = refl; hold = not_its_lem n };
  }

  read_barred : (room f k : ℕ) → h.alone ≡ true → T (name_ok h.name) → T (leb k 1048576) → (does room j (Read h.name f k) s).reply ≡ No in_others_hand
  unfolding does
  read_barred room f k a p q = go (name_ok h.name) (leb k 1048576) (barred j h.name s) (some_in (λ (x : Hold). x.alone) (others j h.name s) h (others_has h.name (same_self h.name)) a) p q
    where
      go : (x y z : Bool) → z ≡ true → T x → T y → (cond (x && y) (cond z (no 5 s) (reads f k (find (is_sheet h.name) s.sheets) s)) (no 1 s)).reply ≡ No in_others_hand
      go true true true e p' q' = refl
      go true true false e p' q' = absurd (false≢true e)
      go true false z e p' q' = absurd q'
      go false y z e p' q' = absurd p'

pub held_stays : HeldStays
held_stays room s r i j c h m e n =
    let d : eqb j h.desk ≡ false = ne_eqb j h.desk (λ p. n (sym (p ∙ e))) in
    let t = call_leaves (Stays s h) room j c s (kept j s h m d room) in
    (t.sheet, t.hold, λ a f k p q. read_barred j s h m d room f k a p q)
