-- The table that the house keeps, as a machine over bytes.
-- Assumes nothing.
use Rattle.std.specs.Prelude.{ℕ, Bool}
use Rattle.promise.specs.Bytes.{Bytes}
use Rattle.promise.specs.Sheets.{State, core}
use Rattle.promise.specs.Machine.{Machine, sheets}

-- which calls are built; room: what all sheets together may weigh
abbrev pub machine : (room : ℕ) → Machine
machine room = sheets core room

abbrev pub reads : Bytes → Bool
reads b = (machine 0).reads b

abbrev pub answer_to : (room desk : ℕ) → Bytes → State → Bytes
answer_to room i b s = ((machine room).does i b s).answer

abbrev pub after : (room desk : ℕ) → Bytes → State → State
after room i b s = ((machine room).does i b s).state

abbrev pub leaves : (desk : ℕ) → State → State
leaves i s = (machine 0).leaves i s

abbrev pub in_hand : (desk : ℕ) → State → ℕ
in_hand i s = (machine 0).in_hand i s

-- the longest answer: a read of 1,048,576 bytes
abbrev pub longest_answer : ℕ
longest_answer = 1048593

-- a response has 38 bytes before the answer
abbrev pub longest_message : ℕ
longest_message = 1048631
