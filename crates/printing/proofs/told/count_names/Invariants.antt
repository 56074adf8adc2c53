use Rattle.std.proofs.Common.{◌≡◌, ◌+◌, ◌-◌, length}
use Rattle.printing.specs.Answers.{listed}
use Rattle.printing.proofs.told.count_names.Given as goal

abbrev pub invariant-loop-there : goal.invariant-loop-there
invariant-loop-there l = l.there + length (listed (l.count - l.there) l.rest) ≡ length (listed l.count l.names)
