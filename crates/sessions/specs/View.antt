-- What the house knows of desks, as the model has it.
-- Assumes nothing.
use Rattle.std.specs.Prelude.{ℕ, [], map, Some, None, Option, Result}
use Rattle.promise.specs.Bytes.{Bytes}
use Rattle.promise.specs.Layout.{encode_reply}
use Rattle.codec.specs.Answers.{answer_of, reply_of}
use Rattle.codec.specs.declared.answer.Changed.{Changed}
use Rattle.codec.specs.declared.answer.Refusal.{Refusal}
use Rattle.asking.specs.House as h
use Rattle.sessions.specs.declared.incarnation.Incarnation.{Incarnation}
use Rattle.sessions.specs.declared.peer.Done.{Done}
use Rattle.sessions.specs.declared.peer.Peer.{Peer}
use Rattle.sessions.specs.declared.peer.Admit.{Admit}
use Rattle.sessions.specs.declared.peer.Admit.TheVariants as a
use Rattle.sessions.specs.Peers.{Admission, query, change, again, ignore}
use Rattle.ids.specs.declared.Session.{Session}

abbrev pub number : Session → ℕ
number s = s.0

-- the model has number 0 for the nonce and the session of nobody
abbrev pub nonce_of : Option Incarnation → ℕ
nonce_of None = 0
nonce_of (Some i) = i.nonce.0

abbrev pub session_in : Option Incarnation → ℕ
session_in None = 0
session_in (Some i) = i.session.0

-- the bytes of what became of a change
abbrev pub outcome_bytes : Result Changed Refusal → Bytes
outcome_bytes x = encode_reply (reply_of (answer_of x))

-- the bytes of a kept answer: none where no change was done yet
abbrev pub kept_bytes : Option (Result Changed Refusal) → Bytes
kept_bytes None = []
kept_bytes (Some x) = outcome_bytes x

abbrev pub done_view : Done → h.Done
done_view d = record { seq = d.seq.0; answer = kept_bytes d.answer }

abbrev pub peer_view : Peer → h.Peer
peer_view p = record {
  nonce = nonce_of p.current;
  session = session_in p.current;
  offered_nonce = nonce_of p.offered;
  offered_session = session_in p.offered;
  slots = map done_view p.slots;
}

abbrev pub admit_view : Admit → Admission
admit_view a.Query = query
admit_view a.Change = change
admit_view (a.Again k) = again (kept_bytes k)
admit_view a.Ignore = ignore
