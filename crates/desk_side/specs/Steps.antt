-- The model's steps in between, each by a name of its own.
-- Assumes nothing.
use Rattle.std.specs.Prelude.{ℕ, ◌-◌, Bool, true, not, ◌&&◌, cond, List, map, None, Some, Option, ◌==◌, nat_le, slice_index_or, slice_set}
use Rattle.std.specs.Bool.{then_some}
use Rattle.ids.specs.declared.Seq.{Seq}
use Rattle.ids.specs.declared.CallNumber.{CallNumber}
use Rattle.asking.specs.Desk as m
use Rattle.desk_side.specs.declared.slot.Slot.{Slot}
use Rattle.desk_side.specs.declared.slot.Waiting.{Waiting}
use Rattle.desk_side.specs.Slots.{blank}

-- has it something in hand maybe, and said nothing for long
abbrev pub silent : (clock : ℕ) → m.Desk → Bool
silent t d = not (d.session == 0) && (d.may_hold && nat_le 20000 (t - d.spoke))

-- all that passes was sent now
abbrev pub asked : (passes : Bool → ℕ → Bool) → (any : Bool) → (clock : ℕ) → m.Desk → m.Desk
asked p any t d = record d { spoke = cond any t d.spoke; slots = map (m.sent_now p t) d.slots }

-- the house is to give a session anew
abbrev pub started_over : (clock : ℕ) → m.Desk → m.Desk
started_over t d = record d { slots = map (m.unsent_now t) d.slots }

-- the number of the call that waits in a slot under just this seq
abbrev pub waits_if : (same : Bool) → Option Waiting → Option CallNumber
waits_if v None = None
waits_if v (Some x) = then_some v x.number

abbrev pub waits : (j : ℕ) → Seq → List Slot → Option CallNumber
waits j q xs = waits_if ((slice_index_or xs j blank).seq.0 == q.0) (slice_index_or xs j blank).waiting

-- its call was answered
abbrev pub settled : (j q : ℕ) → m.Desk → m.Desk
settled j q d = record d { answered = true; slots = slice_set d.slots j (m.Idle q) }
