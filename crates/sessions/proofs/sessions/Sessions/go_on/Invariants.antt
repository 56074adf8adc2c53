use Rattle.std.proofs.Common.{◌≡◌, map, take, replicate}
use Rattle.sessions.specs.Views.{peer_at, heard_at}
use Rattle.sessions.proofs.sessions.Sessions.go_on.Given as goal

abbrev pub invariant-loop-desk : goal.invariant-loop-desk
invariant-loop-desk l = record {
  peers : map peer_at l.desk-items ≡ map peer_at l.initial.desk-items;
  heard : take l.desk-index (map heard_at l.desk-items) ≡ replicate l.desk-index l.fn.clock.0;
}
