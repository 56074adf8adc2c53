-- What a table's invariant gives to the functions on its parts.
use Rattle.std.proofs.Common.{◌≡◌, ℕ, ◌+◌, ◌<◌, true, List, ◌++◌, Vec, Global, length, get_or, vec_items, vec_len, ap, arith}
use Rattle.std.proofs.lemmas.List.{length-append}
use Rattle.table.specs.declared.tables.Table.{Table}
use Rattle.table.specs.View.{Sound, blank_head, below}
use Rattle.table.specs.Tables.{state_of}
use Rattle.table.proofs.Fits.{Lies, lies_at, below_more, count}
use Rattle.table.proofs.Ranks.{every_at}

pub sound : (t : Table) → Sound (vec_items t.log) (vec_items t.heads)
sound t = record { inside = below_more (vec_len t.log) (length (vec_items t.log)) (vec_items t.heads) (omega (arith, t.log.ok.0)) t.inside; sorted = t.sorted }

-- an index of a sheet is one of a head
pub within : (t : Table) (i : ℕ) → i < length (state_of t).sheets → i < length (vec_items t.heads)
within t i h = omega (arith, count (vec_items t.log) (vec_items t.heads))

-- and an index of a head one of a sheet
pub indexed : (t : Table) (i : ℕ) → i < length (vec_items t.heads) → i < length (state_of t).sheets
indexed t i h = omega (arith, count (vec_items t.log) (vec_items t.heads))

-- where it lies
pub lies_in : (t : Table) (i : ℕ) → i < length (state_of t).sheets → Lies (vec_len t.log) (get_or (vec_items t.heads) i blank_head)
lies_in t i h = lies_at (vec_len t.log) (vec_items t.heads) i t.inside (within t i h)

-- its head is one of the log
pub in_log : (t : Table) (i : ℕ) → i < length (state_of t).sheets → below (length (vec_items t.log)) (get_or (vec_items t.heads) i blank_head) ≡ true
in_log t i h = every_at (below (length (vec_items t.log))) (vec_items t.heads) i blank_head (sound t).inside (within t i h)

-- the length of a log that more was written to
pub longer : (v v' : Vec ℕ Global) (s : List ℕ) → vec_items v' ≡ vec_items v ++ s → vec_len v' ≡ vec_len v + length s
longer v v' s e = omega (arith, v.ok.0, v'.ok.0, ap length e, length-append (vec_items v) s)
