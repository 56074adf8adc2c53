-- What the house knows of all desks, and how it changes: the model's house without its table.
-- Assumes nothing.
use Rattle.std.specs.Prelude.{ℕ, Bool, cond, List, replicate, slice_index, slice_index_or, slice_set}
use Rattle.promise.specs.Bytes.{Bytes}
use Rattle.asking.specs.House.{Peer, nobody, places, next64, is_session}
use Rattle.sessions.specs.Peers.{is_for, offering, promoted, recording, Admission, admission}

pub record Known : Type 0 where
  pub next : ℕ
  pub peers : List Peer
  pub heard : List ℕ

abbrev pub begun : (clock : ℕ) → Known
begun t = record { next = 1; peers = replicate places nobody; heard = replicate places t }

abbrev pub going_on : (clock : ℕ) → Known → Known
going_on t k = record { next = k.next; peers = k.peers; heard = replicate places t }

abbrev pub hearing_at : (i clock : ℕ) → Known → Known
hearing_at i t k = record { next = k.next; peers = k.peers; heard = slice_set k.heard i t }

abbrev pub peer_in : ℕ → Known → Peer
peer_in i k = slice_index_or k.peers i nobody

abbrev pub heard_in : ℕ → Known → ℕ
heard_in i k = slice_index k.heard i

abbrev pub setting_peer : ℕ → Peer → Known → Known
setting_peer i p k = record { next = k.next; peers = slice_set k.peers i p; heard = k.heard }

-- a new session is offered
abbrev pub offering_to : (i nonce : ℕ) → Known → Known
offering_to i c k = record { next = next64 k.next; peers = slice_set k.peers i (offering c k.next (peer_in i k)); heard = k.heard }

-- the nonce is that of the current incarnation, or of the one to which a session is offered
abbrev pub is_current : (i nonce : ℕ) → Known → Bool
is_current i c k = is_for c (peer_in i k).nonce (peer_in i k).session

abbrev pub is_offered : (i nonce : ℕ) → Known → Bool
is_offered i c k = is_for c (peer_in i k).offered_nonce (peer_in i k).offered_session

-- the session to which a nonce is welcomed
abbrev pub welcomed : (i nonce : ℕ) → Known → ℕ
welcomed i c k = cond (is_current i c k) (peer_in i k).session (cond (is_offered i c k) (peer_in i k).offered_session k.next)

abbrev pub greeted : (i nonce : ℕ) → Known → Known
greeted i c k = cond (is_current i c k) k (cond (is_offered i c k) k (offering_to i c k))

-- the session is the one that is offered
abbrev pub is_taken_up : (i session : ℕ) → Known → Bool
is_taken_up i s k = is_session s (peer_in i k).offered_session

abbrev pub taking_up : (i session : ℕ) → Known → Known
taking_up i s k = cond (is_taken_up i s k) (setting_peer i (promoted (peer_in i k)) k) k

abbrev pub admitted : (i session slot seq : ℕ) → (reads : Bool) → Known → Admission
admitted i s j q r k = admission s j q r (peer_in i k)

abbrev pub keeping : (i slot seq : ℕ) → Bytes → Known → Known
keeping i j q a k = setting_peer i (recording j q a (peer_in i k)) k
