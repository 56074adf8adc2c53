use Rattle.std.proofs.Common.{rules}
use Rattle.table.proofs.Ranges.{all_fit}
use Rattle.table.proofs.bytes.is_name.Goals as goal

pub returns-then-not-is_empty : goal.returns-then-not-is_empty
returns-then-not-is_empty c = let a = all_fit c.args.name.now c.type_inv.name in rw a (search rules)
