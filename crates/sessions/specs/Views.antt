-- What the code knows of all desks, as the model has it.
-- Assumes nothing.
use Rattle.std.specs.Prelude.{ℕ, map}
use Rattle.asking.specs.House.{Peer}
use Rattle.sessions.specs.declared.sessions.Entry.{Entry}
use Rattle.sessions.specs.declared.sessions.Sessions.{Sessions}
use Rattle.sessions.specs.View.{peer_view}
use Rattle.sessions.specs.Known.{Known}

abbrev pub peer_at : Entry → Peer
peer_at e = peer_view e.peer

abbrev pub heard_at : Entry → ℕ
heard_at e = e.heard.0

abbrev pub known : Sessions → Known
known s = record { next = s.next.0; peers = map peer_at s.desks; heard = map heard_at s.desks }
