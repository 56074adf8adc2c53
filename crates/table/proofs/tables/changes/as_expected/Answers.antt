use Rattle.std.proofs.Common.{rules}
use Rattle.promise.specs.Sheets.{as_expected}
use Rattle.table.proofs.tables.changes.as_expected.Goals as goal

pub returns-in-Any : goal.returns-in-Any
unfolding as_expected
returns-in-Any c = search rules

pub returns-in-Just : goal.returns-in-Just
unfolding as_expected
returns-in-Just c = search rules
