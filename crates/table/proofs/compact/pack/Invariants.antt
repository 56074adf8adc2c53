use Rattle.table.proofs.Packs.{Sliding}
use Rattle.table.proofs.compact.pack.Given as goal

abbrev pub invariant-loop-i : goal.invariant-loop-i
invariant-loop-i l = Sliding l.initial.mem l.initial.heads l.spots l.mem l.heads l.i-index l.to l.edge
