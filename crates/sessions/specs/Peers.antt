-- What changes in what the house knows of one desk.
-- Assumes nothing.
use Rattle.std.specs.Prelude.{ℕ, Bool, cond, not, ◌&&◌, replicate, Some, None, Option, ◌==◌, nat_lt, slice_set}
use Rattle.promise.specs.Bytes.{Bytes}
use Rattle.asking.specs.House.{Peer, unused, eight, slot_of, is_session}

-- a session was given to this nonce
abbrev pub is_for : (nonce given_to session : ℕ) → Bool
is_for c d s = not (s == 0) && d == c

-- the session that was given to this nonce
abbrev pub session_of : (nonce : ℕ) → Peer → Option ℕ
session_of c p =
    cond (is_for c p.nonce p.session) (Some p.session) (cond (is_for c p.offered_nonce p.offered_session) (Some p.offered_session) None)

abbrev pub offering : (nonce session : ℕ) → Peer → Peer
offering c s p = record { nonce = p.nonce; session = p.session; offered_nonce = c; offered_session = s; slots = p.slots }

abbrev pub promoted : Peer → Peer
promoted p = record { nonce = p.offered_nonce; session = p.offered_session; offered_nonce = 0; offered_session = 0; slots = replicate eight unused }

abbrev pub recording : (slot seq : ℕ) → Bytes → Peer → Peer
recording j q a p = record {
  nonce = p.nonce;
  session = p.session;
  offered_nonce = p.offered_nonce;
  offered_session = p.offered_session;
  slots = slice_set p.slots j (record { seq = q; answer = a });
}

-- what is to be done with a request
pub data Admission : Type 0 where
  query : Admission
  change : Admission
  again : Bytes → Admission
  ignore : Admission

abbrev pub admission : (session slot seq : ℕ) → (reads : Bool) → Peer → Admission
admission s j q r p =
    cond (is_session s p.session)
    (cond r query (cond (nat_lt (slot_of p j).seq q) change (cond ((slot_of p j).seq == q) (again (slot_of p j).answer) ignore))) ignore
