use Rattle.std.proofs.Common.{length}
use Rattle.console.proofs.Lines.feed.Given as goal

abbrev pub decreases-loop-used : goal.decreases-loop-used
decreases-loop-used g l = length l.rest
