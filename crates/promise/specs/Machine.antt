-- Any state machine that desks call over bytes, and the table of sheets as one.
-- Assumes nothing.
use Rattle.std.specs.Prelude.{◌≡◌, ℕ, ◌<◌, Bool, true, false, cond, not, length, Some, None, Option, ◌≢◌}
use Rattle.promise.specs.Bytes.{Bytes}
use Rattle.promise.specs.Sheets.{State, blank, Call, Read, Put, Patch, Remove, Rename, Names, Take, LetGo, No, out_of_range, its, leaves, reply_to, left_by}
use Rattle.promise.specs.Layout.{encode_reply, decode_call}

pub record Outcome (State : Type 0) : Type 0 where
  pub answer : Bytes
  pub state : State

pub record Machine : Type 1 where
  pub State : Type 0
  pub start : State
  -- what a call does by which desk: what it answers and what it leaves
  pub does : (desk : ℕ) → (call : Bytes) → State → Outcome State
  -- a desk's hands are emptied
  pub leaves : (desk : ℕ) → State → State
  -- calls that only read: they leave the state, and may be done more than once
  pub reads : (call : Bytes) → Bool
  -- how many things a desk has in hand
  pub in_hand : (desk : ℕ) → State → ℕ

-- A call is answered so wherever no other desk has anything in hand and the desk itself fewer than 64 things.
abbrev pub Sure : (m : Machine) → (desk : ℕ) → (call answer : Bytes) → Type 0
Sure m i c r = (s : m.State) → ((j : ℕ) → (j ≢ i) → m.in_hand j s ≡ 0) → m.in_hand i s < 64 → (m.does i c s).answer ≡ r

-- THE TABLE OF SHEETS; can: which calls are built; room: what all sheets together may weigh

-- bytes that are no call are out of range
unfoldable pub answered : (can : Call → Bool) → (room desk : ℕ) → Option Call → State → Outcome State
answered can room i None s = record { answer = encode_reply (No out_of_range); state = s }
answered can room i (Some c) s = record { answer = encode_reply (reply_to can room i c s); state = left_by can room i c s }

unfoldable pub changing : Call → Bool
changing (Read n f m) = false
changing (Put n bs e) = true
changing (Patch n at bs e) = true
changing (Remove n e) = true
changing (Rename n k) = true
changing (Names a m) = false
changing (Take n a) = true
changing (LetGo n) = true

-- what is turned away whatever the table holds leaves it too
unfoldable pub reads_only : (can : Call → Bool) → Option Call → Bool
reads_only can None = true
reads_only can (Some c) = cond (can c) (not (changing c)) true

abbrev pub sheets : (can : Call → Bool) → (room : ℕ) → Machine
sheets can room = record {
  State = State;
  start = blank;
  does = λ i b s. answered can room i (decode_call b) s;
  leaves = leaves;
  reads = λ b. reads_only can (decode_call b);
  in_hand = λ i s. length (its i s.holds);
}
