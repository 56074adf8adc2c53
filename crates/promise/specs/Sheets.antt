-- Sheets, by name, and who holds them; what every call does, by which desk. This is the table that everybody sees.
-- Assumes nothing.
use Rattle.std.specs.Prelude.{ℕ, zero, suc, ◌+◌, Bool, true, false, cond, not, ◌&&◌, ◌||◌, List, [], ◌∷◌, ◌++◌, map, length, ◌==◌, nat_eq, nat_le, nat_lt}
use Rattle.promise.specs.Bytes.{Bytes, all_bytes}

abbrev pub Name : Type 0
Name = List ℕ

-- A sheet: a name, bytes, and an edition: which put or patch, of all that were ever done on the table, was its last, from 1.
pub record Sheet : Type 0 where
  pub name : Name
  pub bytes : Bytes
  pub edition : ℕ

-- A hold: a desk has a name in its hand. No other desk changes what has that name; alone: nor reads it.
pub record Hold : Type 0 where
  pub desk : ℕ
  pub name : Name
  pub alone : Bool

-- The table: sheets by rising names; holds; how many puts and patches were done.
pub record State : Type 0 where
  pub sheets : List Sheet
  pub holds : List Hold
  pub changes' : ℕ

abbrev pub blank : State
blank = record { sheets = []; holds = []; changes' = 0 }

-- LISTS

unfoldable pub some : {A : Type 0} → (A → Bool) → List A → Bool
some f [] = false
some f (x ∷ xs) = f x || some f xs

unfoldable pub keep : {A : Type 0} → (A → Bool) → List A → List A
keep f [] = []
keep f (x ∷ xs) = cond (f x) (x ∷ keep f xs) (keep f xs)

-- the first that passes, as a list of one, or none
unfoldable pub find : {A : Type 0} → (A → Bool) → List A → List A
find f [] = []
find f (x ∷ xs) = cond (f x) (x ∷ []) (find f xs)

unfoldable pub none : {A : Type 0} → List A → Bool
none [] = true
none (x ∷ xs) = false

unfoldable pub first_of : {A : Type 0} → ℕ → List A → List A
first_of zero xs = []
first_of (suc n) [] = []
first_of (suc n) (x ∷ xs) = x ∷ first_of n xs

unfoldable pub drop_of : {A : Type 0} → ℕ → List A → List A
drop_of zero xs = xs
drop_of (suc n) [] = []
drop_of (suc n) (x ∷ xs) = drop_of n xs

-- names are ordered byte by byte, a shorter one before those that go on
unfoldable pub less : Name → Name → Bool
less xs [] = false
less [] (y ∷ ys) = true
less (x ∷ xs) (y ∷ ys) = nat_lt x y || (x == y && less xs ys)

abbrev pub same : Name → Name → Bool
same a b = not (less a b) && not (less b a)

-- CALLS AND REPLIES

-- what a put, patch or remove expects: any edition, or just this one, 0 for a sheet that isn't there
pub data Expect : Type 0 where
  Any : Expect
  Just' : ℕ → Expect

pub data Call : Type 0 where
  -- so many bytes from a place on
  Read : Name → (from most : ℕ) → Call
  -- all bytes of a sheet, which is made if it isn't there
  Put : Name → Bytes → Expect → Call
  -- bytes at a place inside or at the end
  Patch : Name → (at : ℕ) → Bytes → Expect → Call
  Remove : Name → Expect → Call
  Rename : (name new : Name) → Call
  -- so many names after a given one
  Names : (after : Name) → (most : ℕ) → Call
  -- into hand: from then on no other desk changes it; alone: nor reads it
  Take : Name → (alone : Bool) → Call
  LetGo : Name → Call

pub data Reply : Type 0 where
  -- turned away, by number
  No : ℕ → Reply
  Yes : Reply
  Edition : ℕ → Reply
  Got : (edition whole : ℕ) → Bytes → Reply
  Found : List Name → Reply

-- why a call is turned away, by number
abbrev pub out_of_range : ℕ
out_of_range = 1

abbrev pub missing : ℕ
missing = 2

abbrev pub present : ℕ
present = 3

abbrev pub other_edition : ℕ
other_edition = 4

abbrev pub in_others_hand : ℕ
in_others_hand = 5

abbrev pub used_up : ℕ
used_up = 8

abbrev pub no_room : ℕ
no_room = 9

abbrev pub eight_wait : ℕ
eight_wait = 11

abbrev pub not_built : ℕ
not_built = 12

pub record Out : Type 0 where
  pub reply : Reply
  pub state : State

-- what is turned away changes nothing
abbrev pub no : ℕ → State → Out
no k s = record { reply = No k; state = s }

-- RANGES

abbrev pub name_ok : Name → Bool
name_ok n = nat_lt 0 (length n) && nat_le (length n) 255 && all_bytes n

abbrev pub bytes_ok : Bytes → Bool
bytes_ok bs = nat_le (length bs) 1048576 && all_bytes bs

-- SHEETS

abbrev pub is_sheet : Name → Sheet → Bool
is_sheet n x = same n x.name

-- a sheet laid in its place in the order of names, in the place of one of its name
unfoldable pub put : Sheet → List Sheet → List Sheet
put x [] = x ∷ []
put x (y ∷ ys) = cond (less x.name y.name) (x ∷ y ∷ ys) (cond (less y.name x.name) (y ∷ put x ys) (x ∷ ys))

abbrev pub without : Name → List Sheet → List Sheet
without n xs = keep (λ (x : Sheet). not (is_sheet n x)) xs

-- 0 for a sheet that isn't there
unfoldable pub edition_of : List Sheet → ℕ
edition_of [] = 0
edition_of (x ∷ xs) = x.edition

unfoldable pub bytes_of : List Sheet → Bytes
bytes_of [] = []
bytes_of (x ∷ xs) = x.bytes

unfoldable pub as_expected : Expect → ℕ → Bool
as_expected Any e = true
as_expected (Just' k) e = k == e

abbrev pub patched : ℕ → Bytes → Bytes → Bytes
patched at bs old = first_of at old ++ (bs ++ drop_of (at + length bs) old)

-- a sheet weighs 512 and its bytes
unfoldable pub weight : List Sheet → ℕ
weight [] = 0
weight (x ∷ xs) = 512 + length x.bytes + weight xs

-- HOLDS

-- what other desks have of a name in hand
abbrev pub others : ℕ → Name → State → List Hold
others i n s = keep (λ (h : Hold). not (i == h.desk) && same n h.name) s.holds

-- another desk holds it alone
abbrev pub barred : ℕ → Name → State → Bool
barred i n s = some (λ (h : Hold). h.alone) (others i n s)

-- what a desk has in hand
abbrev pub its : ℕ → List Hold → List Hold
its i hs = keep (λ (h : Hold). nat_eq i h.desk) hs

-- all holds but that of a desk on a name
abbrev pub not_its : ℕ → Name → List Hold → List Hold
not_its i n hs = keep (λ (h : Hold). not (i == h.desk && same n h.name)) hs

-- WHAT A CALL DOES; room: what all sheets together may weigh

-- a change by which all would weigh more than before and more than the room is turned away
abbrev pub set_to : (room : ℕ) → Sheet → State → Out
set_to room x s =
    cond (nat_lt room (weight (put x s.sheets)) && nat_lt (weight s.sheets) (weight (put x s.sheets))) (no no_room s)
    (record { reply = Edition x.edition; state = record { sheets = put x s.sheets; holds = s.holds; changes' = x.edition } })

-- a change by a desk: not while another holds the sheet, only as expected, and changes are counted up to 2 to the 62
abbrev pub changes : (room desk : ℕ) → Name → Expect → Bytes → State → Out
changes room i n x bs s =
    cond (not (none (others i n s))) (no in_others_hand s)
    (cond (not (as_expected x (edition_of (find (is_sheet n) s.sheets)))) (no other_edition s)
    (cond (nat_le 4611686018427387904 s.changes') (no used_up s) (set_to room (record { name = n; bytes = bs; edition = s.changes' + 1 }) s)))

unfoldable pub reads : (from most : ℕ) → List Sheet → State → Out
reads f m [] s = no missing s
reads f m (x ∷ xs) s = record { reply = Got x.edition (length x.bytes) (first_of m (drop_of f x.bytes)); state = s }

-- a place beyond the end, or a sheet that would be too long, is out of range
unfoldable pub patches : (room desk : ℕ) → Name → ℕ → Bytes → Expect → List Sheet → State → Out
patches room i n at bs e [] s = no missing s
patches room i n at bs e (x ∷ xs) s = cond (nat_lt (length x.bytes) at || nat_lt 1048576 (at + length bs)) (no out_of_range s) (changes room i n e (patched at bs x.bytes) s)

-- removing lets go
unfoldable pub removes : ℕ → Name → Expect → List Sheet → State → Out
removes i n e [] s = no missing s
removes i n e (x ∷ xs) s =
    cond (not (none (others i n s))) (no in_others_hand s) (cond (not (as_expected e x.edition)) (no other_edition s)
    (record { reply = Yes; state = record { sheets = without n s.sheets; holds = keep (λ (h : Hold). not (same n h.name)) s.holds; changes' = s.changes' } }))

-- renaming lets go; the sheet keeps its edition
unfoldable pub renames : ℕ → (old new : Name) → List Sheet → State → Out
renames i n k [] s = no missing s
renames i n k (x ∷ xs) s =
    cond (not (none (others i n s)) || not (none (others i k s))) (no in_others_hand s)
    (cond (not (none (find (is_sheet k) s.sheets))) (no present s)
    (record { reply = Yes; state = record { sheets = put (record { name = k; bytes = x.bytes; edition = x.edition }) (without n s.sheets); holds = keep (λ (h : Hold). not (same n h.name)) s.holds; changes' = s.changes' } }))

-- a sheet needn't be there to be held; taking anew says anew whether alone; a desk holds up to 64
abbrev pub takes : ℕ → Name → Bool → State → Out
takes i n a s =
    cond (barred i n s || (a && not (none (others i n s)))) (no in_others_hand s)
    (cond (nat_le 64 (length (its i (not_its i n s.holds)))) (no used_up s) (record { reply = Yes; state = record { sheets = s.sheets; holds = record { desk = i; name = n; alone = a } ∷ not_its i n s.holds; changes' = s.changes' } }))

abbrev pub lets_go : ℕ → Name → State → Out
lets_go i n s = cond (some (λ (h : Hold). same n h.name) (its i s.holds)) (record { reply = Yes; state = record { sheets = s.sheets; holds = not_its i n s.holds; changes' = s.changes' } }) (no missing s)

abbrev pub names_after : Name → ℕ → List Sheet → List Name
names_after a m xs = first_of m (map (λ (x : Sheet). x.name) (keep (λ (x : Sheet). less a x.name) xs))

unfoldable pub does : (room desk : ℕ) → Call → State → Out
does room i (Read n f m) s = cond (name_ok n && nat_le m 1048576) (cond (barred i n s) (no in_others_hand s) (reads f m (find (is_sheet n) s.sheets) s)) (no out_of_range s)
does room i (Put n bs e) s = cond (name_ok n && bytes_ok bs) (changes room i n e bs s) (no out_of_range s)
does room i (Patch n at bs e) s = cond (name_ok n && bytes_ok bs) (patches room i n at bs e (find (is_sheet n) s.sheets) s) (no out_of_range s)
does room i (Remove n e) s = cond (name_ok n) (removes i n e (find (is_sheet n) s.sheets) s) (no out_of_range s)
does room i (Rename n k) s = cond (name_ok n && name_ok k) (renames i n k (find (is_sheet n) s.sheets) s) (no out_of_range s)
does room i (Names a m) s = cond (nat_le (length a) 255 && all_bytes a && nat_le m 1024) (record { reply = Found (names_after a m s.sheets); state = s }) (no out_of_range s)
does room i (Take n a) s = cond (name_ok n) (takes i n a s) (no out_of_range s)
does room i (LetGo n) s = cond (name_ok n) (lets_go i n s) (no out_of_range s)

-- who is gone holds nothing
abbrev pub leaves : (desk : ℕ) → State → State
leaves i s = record { sheets = s.sheets; holds = keep (λ (h : Hold). not (i == h.desk)) s.holds; changes' = s.changes' }

-- WHAT IS BUILT

-- the core: no holds, no renaming
unfoldable pub core : Call → Bool
core (Read n f m) = true
core (Put n bs e) = true
core (Patch n at bs e) = true
core (Remove n e) = true
core (Rename n k) = false
core (Names a m) = true
core (Take n a) = false
core (LetGo n) = false

abbrev pub any_call : Call → Bool
any_call c = true

-- what a call does, if it is built; else it is turned away by 12, before all other reasons
abbrev pub reply_to : (can : Call → Bool) → (room desk : ℕ) → Call → State → Reply
reply_to can room i c s = cond (can c) (does room i c s).reply (No not_built)

abbrev pub left_by : (can : Call → Bool) → (room desk : ℕ) → Call → State → State
left_by can room i c s = cond (can c) (does room i c s).state s
