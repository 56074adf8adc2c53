-- What each change does, where nobody holds anything; and sheets written in place.
use Rattle.std.proofs.Common.{◌≡◌, ℕ, ◌+◌, ◌<◌, ◌≤◌, max, Bool, true, false, cond, not, ◌&&◌, ◌||◌, ltb, ◌⊎◌, List, [], ◌∷◌, ◌++◌, length, get_or, take, drop, sym, ap, ◌∙◌, inl, inr, arith, rules}
use Rattle.std.specs.List.{remove}
use Rattle.std.proofs.lemmas.List.{places, same_lists, take_all, length-append, length-take, length-drop}
use Rattle.std.proofs.lemmas.Bool.Decides.{nat_tests}
use Rattle.promise.specs.Sheets.{Sheet, Name, State, Expect, Put, Patch, Remove, Yes, does, changes, patches, removes, no, find, is_sheet, without, as_expected, keep, none, name_ok, bytes_ok, patched, out_of_range, missing, other_edition}
use Rattle.table.specs.View.{filled_sheet, blank_sheet}
use Rattle.table.proofs.Parts.{first_take, drop_drops}
use Rattle.table.proofs.Readings.{plain}

patched_parts : (at : ℕ) (bs old : List ℕ) → patched at bs old ≡ take at old ++ (bs ++ drop (at + length bs) old)
patched_parts at bs old = rw (first_take at old, drop_drops (at + length bs) old)

pub patched_length : (at : ℕ) (bs old : List ℕ) → at ≤ length old → length (patched at bs old) ≡ max (length old) (at + length bs)
patched_length at bs old l =
    let a = length-append (take at old) (bs ++ drop (at + length bs) old) in
    let b = length-append bs (drop (at + length bs) old) in
    let c = length-take at old in
    let d = length-drop (at + length bs) old in
    ap length (patched_parts at bs old) ∙ omega arith

-- a sheet that was written over is as long as was said
pub filled_length : (xs : List Sheet) (i at : ℕ) (bs : List ℕ) (len e : ℕ) → at ≤ length (get_or xs i blank_sheet).bytes → len ≤ max (length (get_or xs i blank_sheet).bytes) (at + length bs) → length (filled_sheet xs i at bs len e).bytes ≡ len
filled_length xs i at bs len e l k =
    let old : List ℕ = (get_or xs i blank_sheet).bytes in
    let p = patched_length at bs old l in
    length-take len (patched at bs old) ∙ omega arith

-- all bytes written from the beginning are the sheet's bytes
pub put_filled : (xs : List Sheet) (n : Name) (i : ℕ) (bs : List ℕ) (e : ℕ) → (get_or xs i blank_sheet).name ≡ n → filled_sheet xs i 0 bs (length bs) e ≡ record { name = n; bytes = bs; edition = e }
put_filled xs n i bs e p =
    let old : List ℕ = (get_or xs i blank_sheet).bytes in
    let q : take (length bs) (take 0 old ++ (bs ++ drop (0 + length bs) old)) ≡ bs = same_lists _ _ (search (rules, places)) (λ k d h. grind (arith, places)) in
    let r : take (length bs) (patched 0 bs old) ≡ bs = ap (take (length bs)) (patched_parts 0 bs old) ∙ q in
    rw (p, r)

pub patch_filled : (xs : List Sheet) (n : Name) (i at len : ℕ) (bs : List ℕ) (e : ℕ) → (get_or xs i blank_sheet).name ≡ n → at ≤ length (get_or xs i blank_sheet).bytes → len ≡ max (length (get_or xs i blank_sheet).bytes) (at + length bs) → filled_sheet xs i at bs len e ≡ record { name = n; bytes = patched at bs (get_or xs i blank_sheet).bytes; edition = e }
patch_filled xs n i at len bs e p l w =
    let z = patched_length at bs (get_or xs i blank_sheet).bytes l in
    let r : take len (patched at bs (get_or xs i blank_sheet).bytes) ≡ patched at bs (get_or xs i blank_sheet).bytes = take_all len (patched at bs (get_or xs i blank_sheet).bytes) (omega arith) in
    rw (p, r)

pub put_out : (room d : ℕ) (n : Name) (bs : List ℕ) (e : Expect) (s : State) → (name_ok n && bytes_ok bs) ≡ false → no out_of_range s ≡ does room d (Put n bs e) s
unfolding does
put_out room d n bs e s h = sym (ap (λ (b : Bool). cond b (changes room d n e bs s) (no out_of_range s)) h)

pub put_in : (room d : ℕ) (n : Name) (bs : List ℕ) (e : Expect) (s : State) → (name_ok n && bytes_ok bs) ≡ true → changes room d n e bs s ≡ does room d (Put n bs e) s
unfolding does
put_in room d n bs e s h = sym (ap (λ (b : Bool). cond b (changes room d n e bs s) (no out_of_range s)) h)

pub patch_out : (room d at : ℕ) (n : Name) (bs : List ℕ) (e : Expect) (s : State) → (name_ok n && bytes_ok bs) ≡ false → no out_of_range s ≡ does room d (Patch n at bs e) s
unfolding does
patch_out room d at n bs e s h = sym (ap (λ (b : Bool). cond b (patches room d n at bs e (find (is_sheet n) s.sheets) s) (no out_of_range s)) h)

patch_in_lem : (room d at : ℕ) (n : Name) (bs : List ℕ) (e : Expect) (s : State) → (name_ok n && bytes_ok bs) ≡ true → patches room d n at bs e (find (is_sheet n) s.sheets) s ≡ does room d (Patch n at bs e) s
unfolding does
patch_in_lem room d at n bs e s h = sym (ap (λ (b : Bool). cond b (patches room d n at bs e (find (is_sheet n) s.sheets) s) (no out_of_range s)) h)

pub patch_none : (room d at : ℕ) (n : Name) (bs : List ℕ) (e : Expect) (s : State) → (name_ok n && bytes_ok bs) ≡ true → find (is_sheet n) s.sheets ≡ [] → no missing s ≡ does room d (Patch n at bs e) s
unfolding patches
patch_none room d at n bs e s h q = sym (ap (λ (l : List Sheet). patches room d n at bs e l s) q) ∙ patch_in_lem room d at n bs e s h

patch_by : (room d at : ℕ) (n : Name) (bs : List ℕ) (e : Expect) (s : State) (x : Sheet) → (name_ok n && bytes_ok bs) ≡ true → find (is_sheet n) s.sheets ≡ x ∷ [] →
    cond (ltb (length x.bytes) at || ltb 1048576 (at + length bs)) (no out_of_range s) (changes room d n e (patched at bs x.bytes) s) ≡ does room d (Patch n at bs e) s
unfolding patches
patch_by room d at n bs e s x h q = sym (ap (λ (l : List Sheet). patches room d n at bs e l s) q) ∙ patch_in_lem room d at n bs e s h

pub patch_past : (room d at : ℕ) (n : Name) (bs : List ℕ) (e : Expect) (s : State) (x : Sheet) → (name_ok n && bytes_ok bs) ≡ true → find (is_sheet n) s.sheets ≡ x ∷ [] → (ltb (length x.bytes) at || ltb 1048576 (at + length bs)) ≡ true → no out_of_range s ≡ does room d (Patch n at bs e) s
patch_past room d at n bs e s x h q r = sym (ap (λ (v : Bool). cond v (no out_of_range s) (changes room d n e (patched at bs x.bytes) s)) r) ∙ patch_by room d at n bs e s x h q

pub patch_on : (room d at : ℕ) (n : Name) (bs : List ℕ) (e : Expect) (s : State) (x : Sheet) → (name_ok n && bytes_ok bs) ≡ true → find (is_sheet n) s.sheets ≡ x ∷ [] → at ≤ length x.bytes → at + length bs ≤ 1048576 → changes room d n e (patched at bs x.bytes) s ≡ does room d (Patch n at bs e) s
patch_on room d at n bs e s x h q r t =
    let z : (ltb (length x.bytes) at || ltb 1048576 (at + length bs)) ≡ false = grind (arith, nat_tests) in
    sym (ap (λ (v : Bool). cond v (no out_of_range s) (changes room d n e (patched at bs x.bytes) s)) z) ∙ patch_by room d at n bs e s x h q

pub remove_out : (room d : ℕ) (n : Name) (e : Expect) (s : State) → name_ok n ≡ false → no out_of_range s ≡ does room d (Remove n e) s
unfolding does
remove_out room d n e s h = sym (ap (λ (b : Bool). cond b (removes d n e (find (is_sheet n) s.sheets) s) (no out_of_range s)) h)

remove_in_lem : (room d : ℕ) (n : Name) (e : Expect) (s : State) → name_ok n ≡ true → removes d n e (find (is_sheet n) s.sheets) s ≡ does room d (Remove n e) s
unfolding does
remove_in_lem room d n e s h = sym (ap (λ (b : Bool). cond b (removes d n e (find (is_sheet n) s.sheets) s) (no out_of_range s)) h)

pub remove_none : (room d : ℕ) (n : Name) (e : Expect) (s : State) → name_ok n ≡ true → find (is_sheet n) s.sheets ≡ [] → no missing s ≡ does room d (Remove n e) s
unfolding removes
remove_none room d n e s h q = sym (ap (λ (l : List Sheet). removes d n e l s) q) ∙ remove_in_lem room d n e s h

remove_by : (room d : ℕ) (n : Name) (e : Expect) (xs : List Sheet) (k : ℕ) (x : Sheet) (a : Bool) → name_ok n ≡ true → find (is_sheet n) xs ≡ x ∷ [] → as_expected e x.edition ≡ a →
    cond (not a) (no other_edition (plain xs k)) (record { reply = Yes; state = plain (without n xs) k }) ≡ does room d (Remove n e) (plain xs k)
unfolding removes keep none
remove_by room d n e xs k x a h q t =
    sym (ap (λ (v : Bool). cond (not v) (no other_edition (plain xs k)) (record { reply = Yes; state = plain (without n xs) k })) t)
    ∙ sym (ap (λ (l : List Sheet). removes d n e l (plain xs k)) q) ∙ remove_in_lem room d n e (plain xs k) h

pub remove_not : (room d : ℕ) (n : Name) (e : Expect) (xs : List Sheet) (k : ℕ) (x : Sheet) → name_ok n ≡ true → find (is_sheet n) xs ≡ x ∷ [] → as_expected e x.edition ≡ false → no other_edition (plain xs k) ≡ does room d (Remove n e) (plain xs k)
remove_not room d n e xs k x h q t = remove_by room d n e xs k x false h q t

pub remove_yes : (room d : ℕ) (n : Name) (e : Expect) (xs : List Sheet) (k i : ℕ) (x : Sheet) (s : State) → name_ok n ≡ true → find (is_sheet n) xs ≡ x ∷ [] → as_expected e x.edition ≡ true → without n xs ≡ remove xs i → s ≡ plain (remove xs i) k → record { reply = Yes; state = s } ≡ does room d (Remove n e) (plain xs k)
remove_yes room d n e xs k i x s h q t w z =
    ap (λ (v : State). record { reply = Yes; state = v }) (z ∙ ap (λ (l : List Sheet). plain l k) (sym w)) ∙ remove_by room d n e xs k x true h q t

-- a place beyond the end, or a sheet that would be too long
pub beyond : (len at n : ℕ) → (len < at) ⊎ ((at ≤ len) × (1048576 < at + n)) → (ltb len at || ltb 1048576 (at + n)) ≡ true
beyond len at n (inl l) = grind (arith, nat_tests)
beyond len at n (inr p) = let q = p.1 in grind (arith, nat_tests)
