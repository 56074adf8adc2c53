use Rattle.std.proofs.Common.{rules}
use Rattle.table.proofs.Ranges.{all_fit}
use Rattle.table.proofs.bytes.is_content.Goals as goal

pub returns : goal.returns
returns c = let a = all_fit c.args.bytes.now c.type_inv.bytes in rw a (search rules)
