use Rattle.std.proofs.Common.{rules}
use lib.Seq.{map-set}
use Rattle.sessions.proofs.peer.Peer.record.Goals as goal

pub returns-then-slot-lt8 : goal.returns-then-slot-lt8
returns-then-slot-lt8 c = search (rules, map-set)
