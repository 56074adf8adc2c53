-- The table is tidy, whatever was called.
use Rattle.std.proofs.Common.{◌≡◌, ℕ, zero, suc, ◌+◌, ◌-◌, ◌≤◌, Bool, true, false, cond, not, ◌&&◌, T, eqb, ltb, leb, List, [], ◌∷◌, ◌++◌, length, refl, ap, arith, length-append}
use Rattle.std.proofs.lemmas.Bool.{and_parts, and_from, le-leb, lt-ltb, leb-true, ltb-false}
use Rattle.std.proofs.lemmas.Bool.Decides.{nat_tests}
use Rattle.promise.specs.Bytes.{Bytes, every, all_bytes}
use Rattle.promise.specs.Sheets.{Name, Sheet, Hold, State, find, same, is_sheet, without, put, weight, name_ok, bytes_ok, first_of, drop_of, patched}
use Rattle.promise.specs.Promise.{Run, laid, onward, emptied, rising, agree, Tidy}
use Rattle.laws.proofs.Kept.{every_keep}
use Rattle.laws.proofs.Rising.{rising_put, rising_keep, every_put, every_found, weight_keep, weight_put, weight_found}
use Rattle.laws.proofs.Hands.{agree_keep, agree_taken}
use Rattle.laws.proofs.Outcomes.{Kept, call_leaves, after_put, after_remove, after_rename, put_one, renamed, heavy}

abbrev sound : Sheet → Bool
sound x = name_ok x.name && bytes_ok x.bytes && ltb 0 x.edition

pub record TidyState (room : ℕ) (s : State) : Type 0 where
  pub by_name : rising s.sheets ≡ true
  pub agreed : agree s.holds ≡ true
  pub ranged : every sound s.sheets ≡ true
  pub light : weight s.sheets ≤ room

-- PATCHED BYTES

length_first : (n : ℕ) (bs : Bytes) → length (first_of n bs) ≤ n
unfolding first_of
length_first zero bs = omega arith
length_first (suc n) [] = omega arith
length_first (suc n) (b ∷ bs) = let h = length_first n bs in omega arith

length_dropped : (n : ℕ) (bs : Bytes) → length (drop_of n bs) ≡ length bs - n
unfolding drop_of
length_dropped zero bs = omega arith
length_dropped (suc n) [] = omega arith
length_dropped (suc n) (b ∷ bs) = let h = length_dropped n bs in omega arith

every_append : (p : ℕ → Bool) (xs ys : List ℕ) → every p xs ≡ true → every p ys ≡ true → every p (xs ++ ys) ≡ true
unfolding every
every_append p [] ys a b = b
every_append p (x ∷ xs) ys a b =
    let q = and_parts (p x) (every p xs) a in
    and_from (p x) (every p (xs ++ ys)) q.0 (every_append p xs ys q.1 b)

every_first : (p : ℕ → Bool) (n : ℕ) (xs : List ℕ) → every p xs ≡ true → every p (first_of n xs) ≡ true
unfolding every first_of
every_first p zero xs a = refl
every_first p (suc n) [] a = refl
every_first p (suc n) (x ∷ xs) a =
    let q = and_parts (p x) (every p xs) a in
    and_from (p x) (every p (first_of n xs)) q.0 (every_first p n xs q.1)

every_dropped : (p : ℕ → Bool) (n : ℕ) (xs : List ℕ) → every p xs ≡ true → every p (drop_of n xs) ≡ true
unfolding every drop_of
every_dropped p zero xs a = a
every_dropped p (suc n) [] a = refl
every_dropped p (suc n) (x ∷ xs) a = every_dropped p n xs (and_parts (p x) (every p xs) a).1

length_patched : (at : ℕ) (bs old : Bytes) → length old ≤ 1048576 → at + length bs ≤ 1048576 → length (patched at bs old) ≤ 1048576
length_patched at bs old h g =
    let a = length-append (first_of at old) (bs ++ drop_of (at + length bs) old) in
    let b = length-append bs (drop_of (at + length bs) old) in
    let c = length_first at old in
    let d = length_dropped (at + length bs) old in
    omega arith

bytes_patched : (at : ℕ) (bs old : Bytes) → all_bytes bs ≡ true → all_bytes old ≡ true → all_bytes (patched at bs old) ≡ true
bytes_patched at bs old b o =
    let p : ℕ → Bool = λ (x : ℕ). ltb x 256 in
    every_append p (first_of at old) (bs ++ drop_of (at + length bs) old) (every_first p at old o) (every_append p bs (drop_of (at + length bs) old) b (every_dropped p (at + length bs) old o))

-- WHAT EACH CALL LEAVES

sound_put : (n : Name) (bs : Bytes) (s : State) → name_ok n ≡ true → leb (length bs) 1048576 ≡ true → all_bytes bs ≡ true → sound (put_one n bs s) ≡ true
sound_put n bs s a b c =
    let e : ltb 0 (s.changes' + 1) ≡ true = lt-ltb 0 (s.changes' + 1) (omega arith) in
    grind (arith, nat_tests)

not_heavy : (room w v : ℕ) → w ≤ room → (ltb room v && ltb w v) ≡ false → v ≤ room
not_heavy room w v h e = grind (arith, nat_tests)

after_put_lem : (room : ℕ) (n : Name) (bs : Bytes) (s : State) → TidyState room s → name_ok n ≡ true → leb (length bs) 1048576 ≡ true → all_bytes bs ≡ true → heavy room n bs s ≡ false → TidyState room (after_put n bs s)
after_put_lem room n bs s t a b c h = record {
  by_name = rising_put (put_one n bs s) s.sheets t.by_name;
  agreed = t.agreed;
  ranged = every_put sound (put_one n bs s) s.sheets (sound_put n bs s a b c) t.ranged;
  light = not_heavy room (weight s.sheets) (weight (put (put_one n bs s) s.sheets)) t.light h;
}

after_patch : (room : ℕ) (n : Name) (at : ℕ) (bs : Bytes) (y : Sheet) (ys : List Sheet) (s : State) → TidyState room s → name_ok n ≡ true → all_bytes bs ≡ true → find (is_sheet n) s.sheets ≡ y ∷ ys →
    ltb 1048576 (at + length bs) ≡ false → heavy room n (patched at bs y.bytes) s ≡ false → TidyState room (after_put n (patched at bs y.bytes) s)
after_patch room n at bs y ys s t a b f g h =
    let w = every_found sound n s.sheets y ys t.ranged f in
    let o : leb (length y.bytes) 1048576 ≡ true = grind (arith, nat_tests) in
    let p : all_bytes y.bytes ≡ true = grind (arith, nat_tests) in
    after_put_lem room n (patched at bs y.bytes) s t a
    (le-leb (length (patched at bs y.bytes)) 1048576 (length_patched at bs y.bytes (leb-true (length y.bytes) 1048576 o) (ltb-false 1048576 (at + length bs) g)))
    (bytes_patched at bs y.bytes b p) h

after_remove_lem : (room : ℕ) (n : Name) (s : State) → TidyState room s → TidyState room (after_remove n s)
after_remove_lem room n s t = record {
  by_name = rising_keep (λ (x : Sheet). not (is_sheet n x)) s.sheets t.by_name;
  agreed = agree_keep (λ (h : Hold). not (same n h.name)) s.holds t.agreed;
  ranged = every_keep sound (λ (x : Sheet). not (is_sheet n x)) s.sheets t.ranged;
  light = let a = weight_keep (λ (x : Sheet). not (is_sheet n x)) s.sheets in let b = t.light in omega arith;
}

after_rename_lem : (room : ℕ) (n k : Name) (y : Sheet) (ys : List Sheet) (s : State) → TidyState room s → name_ok k ≡ true → find (is_sheet n) s.sheets ≡ y ∷ ys → TidyState room (after_rename n k y s)
after_rename_lem room n k y ys s t a f = record {
  by_name = rising_put (renamed k y) (without n s.sheets) (rising_keep (λ (x : Sheet). not (is_sheet n x)) s.sheets t.by_name);
  agreed = agree_keep (λ (h : Hold). not (same n h.name)) s.holds t.agreed;
  ranged = every_put sound (renamed k y) (without n s.sheets) (let w = every_found sound n s.sheets y ys t.ranged f in grind (arith, nat_tests)) (every_keep sound (λ (x : Sheet). not (is_sheet n x)) s.sheets t.ranged);
  light = let p = weight_put (renamed k y) (without n s.sheets) in let q = weight_found n s.sheets y ys f in let b = t.light in omega arith;
}

kept : (room i : ℕ) (s : State) → TidyState room s → Kept (TidyState room) room i s
kept room i s t = record {
  was = t;
  puts = λ n bs a b c o h. after_put_lem room n bs s t a b c h;
  patches_at = λ n at bs y ys a b f g e o h. after_patch room n at bs y ys s t a b f e h;
  removes_it = λ n o. after_remove_lem room n s t;
  renames_it = λ n k y ys a f o p e. after_rename_lem room n k y ys s t a f;
  takes_it = λ n a b o. record { by_name = t.by_name; agreed = agree_taken i n a s t.agreed b o; ranged = t.ranged; light = t.light };
  lets_it_go = λ n. record { by_name = t.by_name; agreed = agree_keep (λ (h : Hold). not (eqb i h.desk && same n h.name)) s.holds t.agreed; ranged = t.ranged; light = t.light };
}

pub tidy_run : (room : ℕ) (s : State) → Run room s → TidyState room s
unfolding rising agree every weight
tidy_run room _ laid = record { by_name = refl; agreed = refl; ranged = refl; light = omega arith }
tidy_run room _ (onward {s = s} i c r) = call_leaves (TidyState room) room i c s (kept room i s (tidy_run room s r))
tidy_run room _ (emptied {s = s} i r) =
    let t = tidy_run room s r in
    record { by_name = t.by_name; agreed = agree_keep (λ (h : Hold). not (eqb i h.desk)) s.holds t.agreed; ranged = t.ranged; light = t.light }

passes : (b : Bool) → b ≡ true → T b
passes true e = tt
passes false e = absurd (let z : ◌≡◌ {A = ℕ} 0 1 = ap (λ x. cond x 1 0) e in omega arith)

pub tidy : Tidy
tidy room s r =
    let t = tidy_run room s r in
    (passes (rising s.sheets) t.by_name, passes (agree s.holds) t.agreed, passes (every sound s.sheets) t.ranged, t.light)
