use Rattle.std.proofs.Common.{sym}
use Rattle.table.specs.Tables.{state_of}
use Rattle.table.proofs.Readings.{names_out_lem, names_in_lem}
use Rattle.table.proofs.tables.Table.names.Goals as goal

pub returns-then-not-may_list : goal.returns-then-not-may_list
returns-then-not-may_list c = λ d. names_out_lem c.args.self.now.room d c.args.most c.args.after.now (state_of c.args.self.now) (sym c.if-not-may_list.ensures)

pub returns : goal.returns
returns c = λ d. names_in_lem c.args.self.now.room d c.args.most c.after.result c.args.after.now (state_of c.args.self.now) (sym c.if-not-may_list.ensures) c.after.ensures
