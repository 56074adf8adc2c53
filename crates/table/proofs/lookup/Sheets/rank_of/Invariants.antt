use Rattle.std.proofs.Common.{◌≡◌, ◌≤◌}
use Rattle.table.specs.View.{rank, sheets_of}
use Rattle.table.proofs.lookup.Sheets.rank_of.Given as goal

abbrev pub invariant-names : goal.invariant-names
invariant-names l = (l.index ≡ l.hi) × (l.i ≤ rank l.name (sheets_of l.self.mem.now l.self.heads.now))
