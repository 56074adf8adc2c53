use Rattle.std.proofs.Common.{length}
use Rattle.table.specs.View.{below, blank_head}
use Rattle.table.proofs.Ranks.{every_at}
use Rattle.table.proofs.lookup.Sheets.name.Goals as goal

pub name-requires : goal.name-requires
name-requires c = let s = c.args.self.now in every_at (below (length s.mem.now)) s.heads.now c.args.i blank_head s.sound.inside c.requires
