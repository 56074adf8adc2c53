use Rattle.std.proofs.Common.{arith}
use Rattle.std.proofs.lemmas.Grind.{common_steps}
use Rattle.std.proofs.lemmas.List.{map-set}
use Rattle.std.proofs.Math.Seq.{map-set_same}
use Rattle.sessions.proofs.sessions.Sessions.go_on.Goals as goal

pub loop-desk-preserved : goal.loop-desk-preserved
loop-desk-preserved c = record { peers = grind (arith, common_steps, map-set_same); heard = grind (arith, common_steps, map-set) }
