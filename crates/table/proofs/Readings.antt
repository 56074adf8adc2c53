-- What a reading and a listing are answered, where nobody holds anything.
use Rattle.std.proofs.Common.{◌≡◌, ℕ, Bool, true, false, cond, ◌&&◌, leb, List, [], ◌∷◌, map, length, take, drop, sym, refl, ap, ◌∙◌}
use Rattle.std.proofs.lemmas.Bool.{false≢true}
use Rattle.promise.specs.Bytes.{all_bytes}
use Rattle.promise.specs.Sheets.{Sheet, Name, State, No, Got, Found, Read, Names, does, no, reads, find, is_sheet, keep, some, barred, less, names_after, name_ok, first_of, drop_of, out_of_range, missing, in_others_hand}
use Rattle.table.proofs.Parts.{first_take, drop_drops}

-- a table that nobody holds anything of
abbrev pub plain : List Sheet → ℕ → State
plain xs k = record { sheets = xs; holds = []; changes' = k }

pub read_out : (room d f m : ℕ) (n : Name) (s : State) → (name_ok n && leb m 1048576) ≡ false → No out_of_range ≡ (does room d (Read n f m) s).reply
unfolding does
read_out room d f m n s h = by (name_ok n && leb m 1048576) h where
  by : (b : Bool) → b ≡ false → No out_of_range ≡ (cond b (cond (barred d n s) (no in_others_hand s) (reads f m (find (is_sheet n) s.sheets) s)) (no out_of_range s)).reply
  by true h = absurd (false≢true (sym h))
  by false h = refl

read_in_lem : (room d f m : ℕ) (n : Name) (xs : List Sheet) (k : ℕ) → (name_ok n && leb m 1048576) ≡ true → (does room d (Read n f m) (plain xs k)).reply ≡ (reads f m (find (is_sheet n) xs) (plain xs k)).reply
unfolding does keep some
read_in_lem room d f m n xs k h = by (name_ok n && leb m 1048576) h where
  by : (b : Bool) → b ≡ true → (cond b (reads f m (find (is_sheet n) xs) (plain xs k)) (no out_of_range (plain xs k))).reply ≡ (reads f m (find (is_sheet n) xs) (plain xs k)).reply
  by true h = refl
  by false h = absurd (false≢true h)

pub read_none : (room d f m : ℕ) (n : Name) (xs : List Sheet) (k : ℕ) → (name_ok n && leb m 1048576) ≡ true → find (is_sheet n) xs ≡ [] → No missing ≡ (does room d (Read n f m) (plain xs k)).reply
unfolding reads
read_none room d f m n xs k h e = sym (read_in_lem room d f m n xs k h ∙ ap (λ l. (reads f m l (plain xs k)).reply) e)

pub read_some : (room d f m : ℕ) (n : Name) (xs : List Sheet) (k : ℕ) (x : Sheet) → (name_ok n && leb m 1048576) ≡ true → find (is_sheet n) xs ≡ x ∷ [] →
    (ed w : ℕ) (bs stretch : List ℕ) → ed ≡ x.edition → w ≡ length x.bytes → bs ≡ x.bytes → stretch ≡ take m (drop f bs) → Got ed w stretch ≡ (does room d (Read n f m) (plain xs k)).reply
unfolding reads
read_some room d f m n xs k x h e ed w bs stretch p q r t =
    let z : stretch ≡ first_of m (drop_of f x.bytes) = t ∙ ap (λ l. take m (drop f l)) r ∙ ap (take m) (sym (drop_drops f x.bytes)) ∙ sym (first_take m (drop_of f x.bytes)) in
    let y : Got ed w stretch ≡ Got x.edition (length x.bytes) (first_of m (drop_of f x.bytes)) = cc in
    y ∙ sym (read_in_lem room d f m n xs k h ∙ ap (λ l. (reads f m l (plain xs k)).reply) e)

pub names_out_lem : (room d m : ℕ) (a : Name) (s : State) → (leb (length a) 255 && all_bytes a && leb m 1024) ≡ false → No out_of_range ≡ (does room d (Names a m) s).reply
unfolding does
names_out_lem room d m a s h = by (leb (length a) 255 && all_bytes a && leb m 1024) h where
  by : (b : Bool) → b ≡ false → No out_of_range ≡ (cond b (record { reply = Found (names_after a m s.sheets); state = s }) (no out_of_range s)).reply
  by true h = absurd (false≢true (sym h))
  by false h = refl

pub names_in_lem : (room d m i : ℕ) (a : Name) (s : State) → (leb (length a) 255 && all_bytes a && leb m 1024) ≡ true → keep (λ (x : Sheet). less a x.name) s.sheets ≡ drop i s.sheets →
    Found (take m (map (λ (x : Sheet). x.name) (drop i s.sheets))) ≡ (does room d (Names a m) s).reply
unfolding does
names_in_lem room d m i a s h e = by (leb (length a) 255 && all_bytes a && leb m 1024) h where
  by : (b : Bool) → b ≡ true → Found (take m (map (λ (x : Sheet). x.name) (drop i s.sheets))) ≡ (cond b (record { reply = Found (names_after a m s.sheets); state = s }) (no out_of_range s)).reply
  by false h = absurd (false≢true h)
  by true h = ap Found (ap (λ l. take m (map (λ (x : Sheet). x.name) l)) (sym e) ∙ sym (first_take m _))
