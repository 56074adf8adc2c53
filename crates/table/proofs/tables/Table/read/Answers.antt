use Rattle.std.proofs.Common.{sym, ap, ◌∙◌}
use Rattle.promise.specs.Sheets.{core, reply_to}
use Rattle.table.specs.Tables.{query_of, state_of}
use Rattle.table.specs.declared.tables.queries.Query.{Query}
use Rattle.table.proofs.tables.Table.read.Goals as goal

pub returns-in-Read : goal.returns-in-Read
unfolding core
returns-in-Read c = c.stretch.ensures c.args.desk.0 ∙ sym (ap (λ (q : Query). reply_to core c.args.self.now.room c.args.desk.0 (query_of q) (state_of c.args.self.now)) c.in-Read.is)

pub returns-in-Names : goal.returns-in-Names
unfolding core
returns-in-Names c = c.names.ensures c.args.desk.0 ∙ sym (ap (λ (q : Query). reply_to core c.args.self.now.room c.args.desk.0 (query_of q) (state_of c.args.self.now)) c.in-Names.is)
