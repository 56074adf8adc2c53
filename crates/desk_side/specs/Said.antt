-- What a desk decided to say, and the model's turn that it makes.
-- Assumes nothing.
use Rattle.std.specs.Prelude.{ℕ, Bool, List, [], ◌∷◌, map, take, drop, Some, None, Option, ◌==◌, slice_index_or}
use Rattle.codec.specs.Messages.{Msg, Hello, Alive, Request}
use Rattle.promise.specs.Bytes.{Bytes}
use Rattle.promise.specs.Layout.{busy}
use Rattle.promise.specs.Desks as p
use Rattle.asking.specs.Desk as m
use Rattle.desk_side.specs.declared.slot.Place.{Place}
use Rattle.desk_side.specs.declared.slot.Which.{Which}
use Rattle.desk_side.specs.declared.say.Say.{Say}
use Rattle.desk_side.specs.declared.say.Say.TheVariants as s
use Rattle.desk_side.specs.declared.state.Asking.{Asking}
use Rattle.desk_side.specs.Slots.{passes, call_in}
use Rattle.desk_side.specs.View.{desk_of}

-- all that waits and passes is asked for
abbrev pub asks_all : Which → (clock : ℕ) → m.Desk → m.DeskTurn
asks_all w t d = m.speaks t (m.requests (passes w) d.session 0 d.slots) (map (m.sent_now (passes w) t) d.slots) d

-- it says one thing to the house
abbrev pub says : (clock : ℕ) → Msg → m.Desk → m.DeskTurn
says t x d = m.speaks t (p.To 0 x ∷ []) d.slots d

-- it tells one answer
abbrev pub tells : (number : ℕ) → Bytes → m.Desk → m.DeskTurn
tells k x d = record { does = p.Tell k x ∷ []; desk = d }

-- the turn that comes of what a desk decided to say, where these bytes came
abbrev pub said : Say → (clock : ℕ) → (came : Bytes) → (requests : List Bytes) → Asking → m.DeskTurn
said s.Hello t b ps a = says t (Hello a.nonce.0) (desk_of ps a)
said s.Alive t b ps a = says t (Alive (desk_of ps a).session) (desk_of ps a)
said (s.Request x) t b ps a = says t (Request (desk_of ps a).session x.slot.0 x.seq.0 (call_in (slice_index_or ps x.slot.0 []))) (desk_of ps a)
said (s.Requests w) t b ps a = asks_all w t (desk_of ps a)
said (s.Tell k x n) t b ps a = tells k.0 (take n (drop x b)) (desk_of ps a)
said (s.Busy k) t b ps a = tells k.0 busy (desk_of ps a)

-- the same, if it decided to say anything
abbrev pub said_if : Option Say → (clock : ℕ) → (came : Bytes) → (requests : List Bytes) → Asking → m.DeskTurn
said_if None t b ps a = m.does_nothing (desk_of ps a)
said_if (Some x) t b ps a = said x t b ps a

-- what a call's first message leaves: a Request for the call in its place, a Hello, or nothing
abbrev pub says_first : (clock : ℕ) → Place → (alone : Bool) → (requests : List Bytes) → Asking → m.DeskTurn
says_first t x v ps a = m.speaks t (m.first_said (desk_of ps a) x.slot.0 x.seq.0 (call_in (slice_index_or ps x.slot.0 [])) ((desk_of ps a).session == 0) v) (desk_of ps a).slots (desk_of ps a)

-- at bytes that came from the house
abbrev pub heard : (clock : ℕ) → Option Msg → m.Desk → m.DeskTurn
heard t None d = m.does_nothing d
heard t (Some x) d = m.desk_hears t x d
