use Rattle.std.proofs.Common.{rules}
use Rattle.promise.specs.Sheets.{edition_of}
use Rattle.table.proofs.tables.Table.edition_at.Goals as goal

pub returns-in-Ok : goal.returns-in-Ok
unfolding edition_of
returns-in-Ok c = search rules

pub returns-in-Err : goal.returns-in-Err
unfolding edition_of
returns-in-Err c = search rules
