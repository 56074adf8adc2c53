-- What a table stands for, and what its answers say.
-- Assumes nothing.
use Rattle.std.specs.Prelude.{◌≡◌, ℕ, ◌+◌, ◌*◌, ◌/◌, ◌<◌, ◌≤◌, List, [], map, length, take, drop, Some, None, vec_items, vec_capacity, Option, Result, Ok, Err, slice_index_or, slice_set}
use Rattle.std.specs.Borrow.{Bor}
use Rattle.std.specs.List.Sorted.{IsSearchInRange}
use Rattle.promise.specs.Sheets as t
use Rattle.codec.specs.Answers.{refusal_number}
use Rattle.codec.specs.Calls.{expect_of}
use Rattle.table.specs.declared.lookup.Sheets.{Sheets}
use Rattle.table.specs.declared.tables.Table.{Table}
use Rattle.table.specs.declared.tables.listing.Listing.{Listing}
use Rattle.table.specs.declared.tables.queries.Query.{Query}
use Rattle.table.specs.declared.tables.queries.Query.TheVariants as q
use Rattle.table.specs.declared.tables.queries.Reading.{Reading}
use Rattle.table.specs.declared.tables.queries.Reading.TheVariants as r
use Rattle.table.specs.declared.tables.changes.Change.{Change}
use Rattle.table.specs.declared.tables.changes.Change.TheVariants as c
use Rattle.codec.specs.declared.answer.Changed.{Changed}
use Rattle.codec.specs.declared.answer.Changed.TheVariants as d
use Rattle.table.specs.declared.kinds.Kind.{Kind}
use Rattle.table.specs.declared.kinds.Kind.TheVariants as k
use Rattle.codec.specs.declared.answer.Refusal.{Refusal}
use Rattle.table.specs.View.{sheets_of, blank_sheet, blank_head, filled_sheet, room_for}

-- nobody holds anything as yet
abbrev pub state_of : Table → t.State
state_of x = record { sheets = sheets_of (vec_items x.log) (vec_items x.heads); holds = []; changes' = x.changes }

-- the names that a listing still has to give
abbrev pub listed : Listing → List t.Name
listed l = take l.left (map (λ (x : t.Sheet). x.name) (drop l.next (state_of l.table.now).sheets))

abbrev pub query_of : Query → t.Call
query_of (q.Read n f m) = t.Read n.now f m
query_of (q.Names a m) = t.Names a.now m

abbrev pub reading_of : Reading → t.Reply
reading_of (r.Stretch e w b) = t.Got e.0 w b.now
reading_of (r.Names l) = t.Found (listed l)

-- the name at an index, where there is one
abbrev pub Named : t.State → ℕ → Option (Bor t.Name) → Type 0
Named s i None = length s.sheets ≤ i
Named s i (Some n) = (i < length s.sheets) × (n.now ≡ (slice_index_or s.sheets i blank_sheet).name)

abbrev pub change_of : Change → t.Call
change_of (c.Put n x b) = t.Put n.now b.now (expect_of x)
change_of (c.Patch n a x b) = t.Patch n.now a b.now (expect_of x)
change_of (c.Remove n x) = t.Remove n.now (expect_of x)
change_of (c.Rename n k) = t.Rename n.now k.now
change_of (c.Take n a) = t.Take n.now a
change_of (c.LetGo n) = t.LetGo n.now

-- what a change is answered that was done or turned away
abbrev pub outcome_of : Result Changed Refusal → t.Reply
outcome_of (Ok d.Yes) = t.Yes
outcome_of (Ok (d.Edition e)) = t.Edition e.0
outcome_of (Err k) = t.No (refusal_number k)

-- what it is answered and leaves
abbrev pub out_of : Result Changed Refusal → t.State → t.Out
out_of r s = record { reply = outcome_of r; state = s }

-- what a query that was done or turned away is answered
abbrev pub reply_of : Result Reading Refusal → t.Reply
reply_of (Ok r) = reading_of r
reply_of (Err k) = t.No (refusal_number k)

-- a sheet stands at this index
abbrev pub HasSheet : Table → ℕ → Type 0
HasSheet x i = i < length (state_of x).sheets

-- a sheet stands at this place, or could be laid there
abbrev pub HasPlace : Table → Result ℕ ℕ → Type 0
HasPlace x p = IsSearchInRange p (length (state_of x).sheets)

-- the sheets among which names are looked up
abbrev pub sheets_in : Sheets → List t.Sheet
sheets_in s = sheets_of s.mem.now s.heads.now

-- the sheet at an index
abbrev pub sheet_in : t.State → ℕ → t.Sheet
sheet_in s i = slice_index_or s.sheets i blank_sheet

-- for how many bytes the piece of the sheet at an index has room
abbrev pub size_in : Table → ℕ → ℕ
size_in x i = (slice_index_or (vec_items x.heads) i blank_head).size

-- a sheet that is changed now
abbrev pub new_sheet : t.Name → List ℕ → t.State → t.Sheet
new_sheet n bs s = record { name = n; bytes = bs; edition = s.changes' + 1 }

-- the same sheet, written over from a place on
abbrev pub filled : (i offset : ℕ) → List ℕ → (len : ℕ) → t.State → List t.Sheet
filled i offset bs len s = slice_set s.sheets i (filled_sheet s.sheets i offset bs len (s.changes' + 1))

-- what a put or patch leaves that makes these sheets
abbrev pub edited : List t.Sheet → t.State → t.State
edited xs s = record { sheets = xs; holds = []; changes' = s.changes' + 1 }

-- what a put or patch leaves that is not turned away
abbrev pub after_put : t.Name → List ℕ → t.State → t.State
after_put n bs s = edited (t.put (new_sheet n bs s) s.sheets) s

-- what a patch leaves of the sheet at an index, which has this name
abbrev pub after_patch : t.Name → (i at : ℕ) → List ℕ → t.State → t.State
after_patch n i at bs s = after_put n (t.patched at bs (sheet_in s i).bytes) s

-- these sheets are not too heavy, and one more change can be counted
pub record Admits (room : ℕ) (s : t.State) (xs : List t.Sheet) : Type 0 where
  pub light : t.weight xs ≤ room
  pub counted : s.changes' < 4611686018427387904

-- the name and the bytes that one sheet can have
pub record FitsSheet (n : t.Name) (bs : List ℕ) : Type 0 where
  pub named : 1 ≤ length n
  pub narrow : length n ≤ 255
  pub small : length bs ≤ 1048576

-- why a change of the sheet n to so many bytes is turned away; or that it is not
abbrev pub Verdict : (room : ℕ) → t.Name → t.Expect → (len : ℕ) → t.State → Result Unit Refusal → Type 0
Verdict room n e len s (Err k) = (desk : ℕ) (bs : List ℕ) → length bs ≡ len → t.changes room desk n e bs s ≡ t.no (refusal_number k) s
Verdict room n e len s (Ok x) = (bs : List ℕ) → length bs ≡ len → Admits room s (after_put n bs s).sheets × ((desk : ℕ) → t.changes room desk n e bs s ≡ record { reply = t.Edition (s.changes' + 1); state = after_put n bs s })

-- what all sheets of a table may weigh
abbrev pub room_of : Table → ℕ
room_of x = x.room

-- how many bytes log and heads take
abbrev pub memory_of : Table → ℕ
memory_of x = vec_capacity x.log + 64 * (x.room / 512)

-- an empty table in so much memory, beside space for one piece
pub record IsBegun (lent : ℕ) (x : Table) : Type 0 where
  pub empty : state_of x ≡ t.blank
  pub room : room_of x ≡ room_for lent
  pub memory : memory_of x ≤ lent + 1048831

-- the table stands for this state now, and may hold as much as before
pub record Becomes (old new : Table) (s : t.State) : Type 0 where
  pub state : state_of new ≡ s
  pub room : room_of new ≡ room_of old

-- the table answers so, and leaves what goes with it, whichever desk asks; it may hold as much as before
pub record Answers (old new : Table) (r : Result Changed Refusal) (out : (desk : ℕ) → t.Out) : Type 0 where
  pub does : (desk : ℕ) → out_of r (state_of new) ≡ out desk
  pub room : room_of new ≡ room_of old

-- a call that was told apart
abbrev pub kind_of : Kind → t.Call
kind_of (k.Query x) = query_of x
kind_of (k.Change x) = change_of x
