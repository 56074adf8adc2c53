-- The house as the model has it, and what it says.
-- Assumes nothing.
use Rattle.std.specs.Prelude.{ℕ, List, [], map, Some, None, Option}
use Rattle.promise.specs.Bytes.{Bytes}
use Rattle.promise.specs.Sheets.{State}
use Rattle.promise.specs.Desks.{Does}
use Rattle.codec.specs.Messages.{Msg}
use Rattle.asking.specs.House.{House, HouseTurn, house_from}
use Rattle.asking.specs.Code.{saying}
use Rattle.promise.specs.Machine.{Machine}
use Rattle.sessions.specs.Known.{Known}
use Rattle.house_side.specs.Tables.{machine}

abbrev pub house_of : (room : ℕ) → State → Known → House (machine room)
house_of room s k = record { table = s; next_session = k.next; peers = k.peers; heard = k.heard }

-- what the house says, in bytes, and what it knows then
pub record Spoken (m : Machine) : Type 0 where
  pub does : List (Does Bytes)
  pub house : House m

abbrev pub spoken : {m : Machine} → HouseTurn m → Spoken m
spoken x = record { does = map saying x.does; house = x.house }

abbrev pub turn_of : (room : ℕ) → State → Known → List (Does Bytes) → Spoken (machine room)
turn_of room s k o = record { does = o; house = house_of room s k }

-- what came from anybody, decoded if it can be
abbrev pub received : {m : Machine} → (from : ℕ) → Option Msg → (clock : ℕ) → House m → Spoken m
received i None t h = record { does = []; house = h }
received i (Some x) t h = spoken (house_from i x t h)
