use Rattle.std.proofs.Common.{rules}
use Rattle.table.proofs.Ranges.{all_fit}
use Rattle.table.proofs.bytes.is_bound.Goals as goal

pub returns : goal.returns
returns c = let a = all_fit c.args.name.now c.type_inv.name in rw a (search rules)
