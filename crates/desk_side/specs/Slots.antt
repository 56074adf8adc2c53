-- The code's slots, and the model's slots that they stand for: the code keeps the calls beside the slots, each behind the 30 bytes of a
-- Request's head.
-- Assumes nothing.
use Rattle.std.specs.Prelude.{ℕ, Bool, false, List, [], ◌∷◌, drop, Some, None, Option, is_none}
use Rattle.std.specs.Bool.{then_some}
use Rattle.promise.specs.Bytes.{Bytes}
use Rattle.ids.specs.declared.Seq.{Seq}
use Rattle.asking.specs.Desk as m
use Rattle.desk_side.specs.declared.slot.Slot.{Slot}
use Rattle.desk_side.specs.declared.slot.Waiting.{Waiting}
use Rattle.desk_side.specs.declared.slot.Which.{Which}
use Rattle.desk_side.specs.declared.slot.Which.TheVariants.{NotSent, Due}

-- which calls pass, by whether they were sent and when they were last asked for
abbrev pub passes : Which → (sent : Bool) → (last : ℕ) → Bool
passes NotSent = m.not_sent
passes (Due r t) = m.is_due r t.0

abbrev pub is_idle : Slot → Bool
is_idle x = is_none x.waiting

abbrev pub passes_if : Which → Option Waiting → Bool
passes_if w None = false
passes_if w (Some x) = passes w x.sent x.last.0

-- does a call wait that passes
abbrev pub is_passing : Which → Slot → Bool
is_passing w x = passes_if w x.waiting

-- its seq
abbrev pub passing : Which → Slot → Option Seq
passing w x = then_some (is_passing w x) x.seq

-- what stands where no slot is
abbrev pub blank : Slot
blank = record { seq = record { 0 = 0 }; waiting = None }

-- the call that stands in a message
abbrev pub call_in : (part : Bytes) → Bytes
call_in p = drop 30 p

abbrev pub slot_with : Seq → (part : Bytes) → Option Waiting → m.Slot
slot_with q p None = m.Idle q.0
slot_with q p (Some x) = m.Waiting q.0 x.number.0 (call_in p) x.sent x.first.0 x.last.0

abbrev pub slot_of : Slot → (part : Bytes) → m.Slot
slot_of x p = slot_with x.seq p x.waiting

abbrev pub first : List Bytes → Bytes
first [] = []
first (p ∷ ps) = p

abbrev pub rest : List Bytes → List Bytes
rest [] = []
rest (p ∷ ps) = ps

unfoldable pub slots_of : List Slot → (parts : List Bytes) → List m.Slot
slots_of [] ps = []
slots_of (x ∷ xs) ps = slot_of x (first ps) ∷ slots_of xs (rest ps)
