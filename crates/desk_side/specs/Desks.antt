-- A desk as the model has it, and what it does as the model says it.
-- Assumes nothing.
use Rattle.std.specs.Prelude.{◌≡◌, ℕ, List, map}
use Rattle.promise.specs.Bytes.{Bytes}
use Rattle.promise.specs.Desks as p
use Rattle.asking.specs.Code.{saying, Settings}
use Rattle.asking.specs.Desk as m
use Rattle.desk_side.specs.declared.output.Output.{Output}
use Rattle.desk_side.specs.declared.memory.Memory.{Memory}
use Rattle.desk_side.specs.declared.desk.Desk.{Desk}
use Rattle.desk_side.specs.Calls.{grabs}
use Rattle.desk_side.specs.View.{desk_of, requests_in, greeting_in, outputs_in}
use Rattle.desk_side.specs.Outputs.{outs_of}

abbrev pub desk_of_memory : Memory → m.Desk
desk_of_memory y = desk_of (requests_in y.requests) y.asking

abbrev pub desk_in : Desk → m.Desk
desk_in d = desk_of_memory d.memory

-- what it did at its last turn
abbrev pub outputs_of : Desk → List Output
outputs_of d = outputs_in d.memory.outputs

-- what the outputs stand for, where these bytes came
abbrev pub outs_of_memory : Memory → (came : Bytes) → List (p.Does Bytes)
outs_of_memory y b = outs_of (requests_in y.requests) (greeting_in y.greeting) b (outputs_in y.outputs)

abbrev pub outs_in : Desk → (came : Bytes) → List (p.Does Bytes)
outs_in d b = outs_of_memory d.memory b

-- it knows and does what the model's desk then knows and does
pub record Did (y : Memory) (came : Bytes) (x : m.DeskTurn) : Type 0 where
  pub knows : desk_of_memory y ≡ x.desk
  pub does : outs_of_memory y came ≡ map saying x.does

abbrev pub settings : (retry : ℕ) → Settings
settings r = record { retry = r; grabs = grabs }
