use Rattle.std.proofs.Common.{vec_items, arith}
use Rattle.table.specs.Tables.{state_of}
use Rattle.table.proofs.Fits.{count}
use Rattle.table.proofs.Weights.{weight_count}
use Rattle.table.proofs.tables.Table.tidy.Goals as goal

pub compact-requires-clause-free : goal.compact-requires-clause-free
compact-requires-clause-free c =
    let t = c.args.self.now in
    omega (arith, weight_count (state_of t).sheets, t.weighed, t.light, t.noted, count (vec_items t.log) (vec_items t.heads), t.heads.ok.0)
