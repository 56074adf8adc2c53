-- House and desk with functions in the place of their lists, and without what only time looks at: what the invariant speaks of.
use Rattle.std.proofs.Common.{◌≡◌, ℕ, ◌+◌, Bool, not, List, get_or}
use Rattle.promise.specs.Bytes.{Bytes}
use Rattle.promise.specs.Machine.{Machine}
use Rattle.promise.specs.Desks.{at}
use Rattle.asking.specs.House.{Done, Peer, House, unused, nobody}
use Rattle.asking.specs.Desk.{Slot, Idle, Waiting}

-- an offered session has a prime
pub record AbsPeer : Type 0 where
  pub nonce : ℕ
  pub session : ℕ
  pub nonce' : ℕ
  pub session' : ℕ
  pub slots : ℕ → Done

pub record AbsHouse (m : Machine) : Type 0 where
  pub table : m.State
  pub next : ℕ
  pub peers : ℕ → AbsPeer

pub data AbsSlot : Type 0 where
  idle : (seq : ℕ) → AbsSlot
  waiting : (seq number : ℕ) → Bytes → AbsSlot

abbrev pub abs_peer : Peer → AbsPeer
abs_peer p = record { nonce = p.nonce; session = p.session; nonce' = p.offered_nonce; session' = p.offered_session; slots = λ j. get_or p.slots j unused }

abbrev pub abs_house : {m : Machine} → House m → AbsHouse m
abs_house h = record { table = h.table; next = h.next_session; peers = λ i. abs_peer (get_or h.peers i nobody) }

abbrev pub abs_slot : Slot → AbsSlot
abs_slot (Idle q) = idle q
abs_slot (Waiting q k c b f l) = waiting q k c

abbrev pub slots_of : List Slot → ℕ → AbsSlot
slots_of xs j = abs_slot (get_or xs j (Idle 0))

-- THE HOUSE'S STEPS

abbrev pub fresh : ℕ → Done
fresh j = unused

abbrev pub abs_nobody : AbsPeer
abs_nobody = record { nonce = 0; session = 0; nonce' = 0; session' = 0; slots = fresh }

abbrev pub abs_offered : AbsPeer → (c s : ℕ) → AbsPeer
abs_offered p c s = record { nonce = p.nonce; session = p.session; nonce' = c; session' = s; slots = p.slots }

abbrev pub abs_promoted : AbsPeer → AbsPeer
abs_promoted p = record { nonce = p.nonce'; session = p.session'; nonce' = 0; session' = 0; slots = fresh }

abbrev pub abs_recorded : AbsPeer → (slot : ℕ) → Done → AbsPeer
abs_recorded p j d = record { nonce = p.nonce; session = p.session; nonce' = p.nonce'; session' = p.session'; slots = at j d p.slots }

abbrev pub reply_to : (m : Machine) → (desk : ℕ) → Bytes → m.State → Bytes
reply_to m i c s = (m.does i c s).answer

abbrev pub left_by : (m : Machine) → (desk : ℕ) → Bytes → m.State → m.State
left_by m i c s = (m.does i c s).state

abbrev pub abs_offers : {m : Machine} → AbsHouse m → (i c : ℕ) → AbsHouse m
abs_offers h i c = record { table = h.table; next = h.next + 1; peers = at i (abs_offered (h.peers i) c h.next) h.peers }

abbrev pub abs_promotes : {m : Machine} → AbsHouse m → (i : ℕ) → AbsHouse m
abs_promotes {m} h i = record { table = m.leaves i h.table; next = h.next; peers = at i (abs_promoted (h.peers i)) h.peers }

abbrev pub abs_records : {m : Machine} → AbsHouse m → (i j q : ℕ) → Bytes → AbsHouse m
abs_records {m} h i j q c = record { table = left_by m i c h.table; next = h.next; peers = at i (abs_recorded (h.peers i) j (record { seq = q; answer = reply_to m i c h.table })) h.peers }

-- a call that is not a query
abbrev pub changing : Machine → Bytes → Bool
changing m c = not (m.reads c)

abbrev pub FreeOf : (m : Machine) → ℕ → m.State → Type 0
FreeOf m i s = m.in_hand i s ≡ 0
