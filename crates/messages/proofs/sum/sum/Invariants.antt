use Rattle.messages.specs.Lanes.{LanesAt}
use Rattle.messages.proofs.sum.sum.Given as goal

abbrev pub invariant-loop-block : goal.invariant-loop-block
invariant-loop-block l = LanesAt l.lanes l.b l.block-index
