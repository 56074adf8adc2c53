use Rattle.std.proofs.Common.{◌-◌, ◌≤◌, length}
use Rattle.table.specs.View.{rank, sheets_of}
use Rattle.table.proofs.lookup.Sheets.narrow.Given as goal

abbrev pub invariant-loop-hi : goal.invariant-loop-hi
invariant-loop-hi l = (l.lo ≤ rank l.name (sheets_of l.self.mem.now l.self.heads.now)) × (rank l.name (sheets_of l.self.mem.now l.self.heads.now) ≤ l.hi) × (l.hi ≤ length l.self.heads.now)

abbrev pub decreases-loop-hi : goal.decreases-loop-hi
decreases-loop-hi l = l.hi - l.lo
