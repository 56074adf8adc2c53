-- What the house knows, and what it does at each message and at a tick; for every state, not only for those that can be come to.
-- Assumes nothing.
use Rattle.std.specs.Prelude.{ℕ, zero, suc, ◌+◌, ◌-◌, min, Bool, true, false, not, ◌&&◌, List, [], ◌∷◌, set, replicate, ◌==◌, nat_le, nat_lt, slice_index, slice_index_or, slice_set}
use Rattle.promise.specs.Bytes.{Bytes}
use Rattle.promise.specs.Machine.{Machine}
use Rattle.promise.specs.Desks.{Does, To, Lapse}
use Rattle.codec.specs.Messages.{Msg, Hello, Welcome, Request, Response, Alive}

-- counters stay at the largest number of 64 bits
abbrev pub next64 : ℕ → ℕ
next64 n = min (n + 1) 18446744073709551615

-- the last change that was done in a slot
pub record Done : Type 0 where
  pub seq : ℕ
  pub answer : Bytes

-- What the house knows of a desk: the current session with its nonce and an offered session with its nonce, session 0 for none; and the
-- eight slots of the current session.
pub record Peer : Type 0 where
  pub nonce : ℕ
  pub session : ℕ
  pub offered_nonce : ℕ
  pub offered_session : ℕ
  pub slots : List Done

-- heard: when, by the house's clock, it last heard each desk
pub record House (m : Machine) : Type 0 where
  pub table : m.State
  pub next_session : ℕ
  pub peers : List Peer
  pub heard : List ℕ

-- what it does, and what it knows then
pub record HouseTurn (m : Machine) : Type 0 where
  pub does : List (Does Msg)
  pub house : House m

-- how many places there are for desks, the house's own with them
abbrev pub places : ℕ
places = 64

abbrev pub eight : ℕ
eight = 8

abbrev pub unused : Done
unused = record { seq = 0; answer = [] }

abbrev pub nobody : Peer
nobody = record { nonce = 0; session = 0; offered_nonce = 0; offered_session = 0; slots = replicate eight unused }

unfoldable pub house_begins : (m : Machine) → (clock : ℕ) → House m
house_begins m t = record { table = m.start; next_session = 1; peers = replicate places nobody; heard = replicate places t }

-- it could hear nobody in the dark, so every desk counts as heard when it goes on
unfoldable pub house_goes_on : {m : Machine} → (clock : ℕ) → House m → House m
house_goes_on t h = record { table = h.table; next_session = h.next_session; peers = h.peers; heard = replicate places t }

abbrev pub peer_of : {m : Machine} → House m → ℕ → Peer
peer_of h i = slice_index_or h.peers i nobody

abbrev pub slot_of : Peer → ℕ → Done
slot_of p j = slice_index_or p.slots j unused

abbrev pub with_peer : {m : Machine} → House m → ℕ → Peer → House m
with_peer h i p = record { table = h.table; next_session = h.next_session; peers = slice_set h.peers i p; heard = h.heard }

abbrev pub with_table : {m : Machine} → House m → m.State → House m
with_table h s = record { table = s; next_session = h.next_session; peers = h.peers; heard = h.heard }

abbrev pub hearing : {m : Machine} → (i clock : ℕ) → House m → House m
hearing i t h = record { table = h.table; next_session = h.next_session; peers = h.peers; heard = slice_set h.heard i t }

abbrev pub nothing : {m : Machine} → House m → HouseTurn m
nothing h = record { does = []; house = h }

abbrev pub says : {m : Machine} → (i : ℕ) → Msg → House m → HouseTurn m
says i x h = record { does = To i x ∷ []; house = h }

-- s is a session, and this one
abbrev pub is_session : (s t : ℕ) → Bool
is_session s t = not (s == 0) && s == t

-- HELLO

-- a new session is offered, in the place of an older offer
abbrev pub offers : {m : Machine} → (i nonce : ℕ) → House m → House m
offers i c h = record {
  table = h.table;
  next_session = next64 h.next_session;
  peers = slice_set h.peers i (record { nonce = (peer_of h i).nonce; session = (peer_of h i).session; offered_nonce = c; offered_session = h.next_session; slots = (peer_of h i).slots });
  heard = h.heard;
}

unfoldable pub hello_by : {m : Machine} → (i nonce : ℕ) → (current offered : Bool) → House m → HouseTurn m
hello_by i c true b h = says i (Welcome c (peer_of h i).session) h
hello_by i c false true h = says i (Welcome c (peer_of h i).offered_session) h
hello_by i c false false h = says i (Welcome c h.next_session) (offers i c h)

abbrev pub hello : {m : Machine} → (i nonce : ℕ) → House m → HouseTurn m
hello i c h =
    hello_by i c (not ((peer_of h i).session == 0) && (peer_of h i).nonce == c)
    (not ((peer_of h i).offered_session == 0) && (peer_of h i).offered_nonce == c) h

-- REQUEST

-- a query is answered from the table as it is, and nothing is kept
abbrev pub answers_query : {m : Machine} → (i s slot seq : ℕ) → Bytes → House m → HouseTurn m
answers_query {m} i s j q c h = says i (Response s j q 0 (m.does i c h.table).answer) h

-- a change is done, and its answer kept
abbrev pub does_change : {m : Machine} → (i slot seq : ℕ) → Bytes → House m → House m
does_change {m} i j q c h = record {
  table = (m.does i c h.table).state;
  next_session = h.next_session;
  peers = set h.peers i (record {
    nonce = (peer_of h i).nonce;
    session = (peer_of h i).session;
    offered_nonce = (peer_of h i).offered_nonce;
    offered_session = (peer_of h i).offered_session;
    slots = slice_set (peer_of h i).slots j (record { seq = q; answer = (m.does i c h.table).answer });
  });
  heard = h.heard;
}

-- nothing makes a change wait
abbrev pub must_wait : {m : Machine} → (i : ℕ) → Bytes → House m → Bool
must_wait i c h = false

unfoldable pub new_change_by : {m : Machine} → (i s slot seq : ℕ) → Bytes → (waits : Bool) → House m → HouseTurn m
new_change_by i s j q c true h = nothing h
new_change_by {m} i s j q c false h = says i (Response s j q 0 (m.does i c h.table).answer) (does_change i j q c h)

unfoldable pub change_by : {m : Machine} → (i s slot seq : ℕ) → Bytes → (newer same : Bool) → House m → HouseTurn m
change_by i s j q c true b h = new_change_by i s j q c (must_wait i c h) h
change_by i s j q c false true h = says i (Response s j q 0 (slot_of (peer_of h i) j).answer) h
change_by i s j q c false false h = nothing h

abbrev pub change : {m : Machine} → (i s slot seq : ℕ) → Bytes → House m → HouseTurn m
change i s j q c h = change_by i s j q c (nat_lt (slot_of (peer_of h i) j).seq q) ((slot_of (peer_of h i) j).seq == q) h

unfoldable pub serve_by : {m : Machine} → (i s slot seq : ℕ) → Bytes → (query : Bool) → House m → HouseTurn m
serve_by i s j q c true h = answers_query i s j q c h
serve_by i s j q c false h = change i s j q c h

-- the offered session becomes the current one: its slots are unused, and the hands of the desk's last incarnation are emptied
abbrev pub promotes : {m : Machine} → (i : ℕ) → House m → House m
promotes {m} i h = record {
  table = m.leaves i h.table;
  next_session = h.next_session;
  peers = slice_set h.peers i (record { nonce = (peer_of h i).offered_nonce; session = (peer_of h i).offered_session; offered_nonce = 0; offered_session = 0; slots = replicate eight unused });
  heard = h.heard;
}

unfoldable pub takes_up_by : {m : Machine} → (i : ℕ) → (offered : Bool) → House m → House m
takes_up_by i true h = promotes i h
takes_up_by i false h = h

abbrev pub takes_up : {m : Machine} → (i s : ℕ) → House m → House m
takes_up i s h = takes_up_by i (is_session s (peer_of h i).offered_session) h

unfoldable pub current_by : {m : Machine} → (i s slot seq : ℕ) → Bytes → (current : Bool) → House m → HouseTurn m
current_by {m} i s j q c true h = serve_by i s j q c (m.reads c) h
current_by i s j q c false h = nothing h

abbrev pub current : {m : Machine} → (i s slot seq : ℕ) → Bytes → House m → HouseTurn m
current i s j q c h = current_by i s j q c (is_session s (peer_of h i).session) h

unfoldable pub request_by : {m : Machine} → (i s slot seq : ℕ) → Bytes → (in_range : Bool) → House m → HouseTurn m
request_by i s j q c true h = current i s j q c (takes_up i s h)
request_by i s j q c false h = nothing h

-- MESSAGES

unfoldable pub house_hears : {m : Machine} → (i : ℕ) → Msg → House m → HouseTurn m
house_hears i (Hello c) h = hello i c h
house_hears i (Welcome c s) h = nothing h
house_hears i (Request s j q c) h = request_by i s j q c (nat_lt j eight) h
house_hears i (Response s j q g a) h = nothing h
house_hears i (Alive s) h = nothing h

unfoldable pub house_from_by : {m : Machine} → (i : ℕ) → Msg → (clock : ℕ) → (desk : Bool) → House m → HouseTurn m
house_from_by i x t true h = house_hears i x (hearing i t h)
house_from_by i x t false h = nothing h

-- what comes from no desk is noise
abbrev pub house_from : {m : Machine} → (i : ℕ) → Msg → (clock : ℕ) → House m → HouseTurn m
house_from i x t h = house_from_by i x t (nat_lt 0 i && nat_lt i places) h

-- A TICK

-- it has something in hand and was not heard for 60,000 ms
abbrev pub is_silent : {m : Machine} → (clock : ℕ) → House m → ℕ → Bool
is_silent {m} t h i = nat_lt 0 (m.in_hand i h.table) && nat_le 60000 (t - slice_index h.heard i)

unfoldable pub lapse_by : {m : Machine} → (i : ℕ) → (silent : Bool) → HouseTurn m → HouseTurn m
lapse_by {m} i true x = record { does = Lapse i ∷ x.does; house = with_table x.house (m.leaves i x.house.table) }
lapse_by i false x = x

-- the hands of those who are silent are emptied: of so many desks from desk i on, the last first
unfoldable pub lapses_from : {m : Machine} → (clock i count : ℕ) → House m → HouseTurn m
lapses_from t i zero h = nothing h
lapses_from t i (suc n) h = lapse_by i (is_silent t h i) (lapses_from t (i + 1) n h)

abbrev pub house_tick : {m : Machine} → (clock : ℕ) → House m → HouseTurn m
house_tick t h = lapses_from t 1 63 h
