-- What sheets a log and the heads over it stand for.
-- Assumes nothing.
use Rattle.std.specs.Prelude.{◌≡◌, ℕ, zero, suc, ◌+◌, ◌/◌, ◌<◌, ◌≤◌, min, Bool, true, cond, ◌&&◌, ◌||◌, List, [], ◌∷◌, Result, Ok, Err, map, length, get_or, take, drop, nat_le, slice_index_or, slice_set}
use Rattle.std.specs.List.{insert, remove}
use Rattle.promise.specs.Bytes.{every}
use Rattle.promise.specs.Sheets.{Sheet, Name, less, find, is_sheet, put, keep, without, patched}
use Rattle.table.specs.declared.heads.Head.{Head}

-- n bytes from a on
abbrev pub cut : ℕ → ℕ → List ℕ → List ℕ
cut a n m = take n (drop a m)

abbrev pub sheet_of : List ℕ → Head → Sheet
sheet_of m h = record { name = cut h.at h.width m; bytes = cut (h.at + h.width) h.len m; edition = h.edition.0 }

abbrev pub sheets_of : List ℕ → List Head → List Sheet
sheets_of m hs = map (sheet_of m) hs

abbrev pub blank_head : Head
blank_head = record { at = 0; width = 0; len = 0; size = 0; edition = record { 0 = 0 } }

abbrev pub blank_sheet : Sheet
blank_sheet = record { name = []; bytes = []; edition = 0 }

-- the sheet at an index
abbrev pub sheet_at : List ℕ → List Head → ℕ → Sheet
sheet_at m hs i = slice_index_or (sheets_of m hs) i blank_sheet

-- a head's piece lies below n, its bytes within the piece, and both parts are in range
abbrev pub below : ℕ → Head → Bool
below n h = nat_le (h.at + h.width + h.size) n && (nat_le h.len h.size && (nat_le 1 h.width && (nat_le h.width 255 && nat_le h.size 1048576)))

-- two pieces have no byte in common
abbrev pub clear : Head → Head → Bool
clear g h = nat_le (g.at + g.width + g.size) h.at || nat_le (h.at + h.width + h.size) g.at

-- no byte belongs to two pieces
unfoldable pub apart : List Head → Bool
apart [] = true
apart (h ∷ hs) = every (clear h) hs && apart hs

-- what all sheets together may weigh where so many bytes are lent
abbrev pub room_for : (lent : ℕ) → ℕ
room_for lent = min (lent / 2) 268435456

-- by rising names
unfoldable pub rising : List Sheet → Bool
rising [] = true
rising (x ∷ xs) = every (λ (y : Sheet). less x.name y.name) xs && rising xs

-- how many stand before the first whose name is not below n
unfoldable pub rank : Name → List Sheet → ℕ
rank n [] = zero
rank n (x ∷ xs) = cond (less x.name n) (suc (rank n xs)) zero

-- heads that lie within the memory, by rising names
pub record Sound (m : List ℕ) (hs : List Head) : Type 0 where
  pub inside : every (below (length m)) hs ≡ true
  pub sorted : rising (sheets_of m hs) ≡ true

-- what is laid at a place that was looked up: over what stands there, or before it
abbrev pub laid : {A : Type 0} → List A → Result ℕ ℕ → A → List A
laid xs (Ok i) x = slice_set xs i x
laid xs (Err i) x = insert xs i x

-- the sheet that stands at a place that was looked up, if one does
abbrev pub standing : List Sheet → Result ℕ ℕ → List Sheet
standing xs (Ok i) = slice_index_or xs i blank_sheet ∷ []
standing xs (Err i) = []

-- a sheet whose bytes were written over from a place on, and which has so many of them then
abbrev pub filled_sheet : List Sheet → (i offset : ℕ) → List ℕ → (len edition : ℕ) → Sheet
filled_sheet xs i offset bs len e = record { name = (get_or xs i blank_sheet).name; bytes = take len (patched offset bs (get_or xs i blank_sheet).bytes); edition = e }

-- the sheet of the name n stands at i: what is found there, what a put or a remove of that name does, and which come after it
pub record StandsAt (xs : List Sheet) (n : Name) (i : ℕ) : Type 0 where
  pub within : i < length xs
  pub named : (get_or xs i blank_sheet).name ≡ n
  pub finds : find (is_sheet n) xs ≡ slice_index_or xs i blank_sheet ∷ []
  pub drops : without n xs ≡ remove xs i
  pub after : keep (λ (x : Sheet). less n x.name) xs ≡ drop (suc i) xs
  pub puts : (x : Sheet) → x.name ≡ n → put x xs ≡ slice_set xs i x

-- there is no sheet of the name n, and i is where it would stand
pub record WouldStandAt (xs : List Sheet) (n : Name) (i : ℕ) : Type 0 where
  pub within : i ≤ length xs
  pub finds : find (is_sheet n) xs ≡ []
  pub after : keep (λ (x : Sheet). less n x.name) xs ≡ drop i xs
  pub puts : (x : Sheet) → x.name ≡ n → put x xs ≡ insert xs i x

-- what a look-up of the name n among sheets answers
abbrev pub Finding : List Sheet → Name → Result ℕ ℕ → Type 0
Finding xs n (Ok i) = StandsAt xs n i
Finding xs n (Err i) = WouldStandAt xs n i
