-- The code's house as the model's.
-- Assumes nothing.
use Rattle.std.specs.Prelude.{◌≡◌, ℕ}
use Rattle.promise.specs.Sheets.{State}
use Rattle.asking.specs.House as m
use Rattle.sessions.specs.Views.{known}
use Rattle.house_side.specs.declared.house.House.{House}
use Rattle.house_side.specs.Tables.{machine}
use Rattle.house_side.specs.Houses.{house_of, turn_of, Spoken, spoken}
use Rattle.house_side.specs.Outs.{outs_of}

module _ {S : Type 0} (room : S → ℕ) (state : S → State) where
  -- what the house knows
  abbrev pub mind_of : (h : House S) → m.House (machine (room h.table))
  mind_of h = house_of (room h.table) (state h.table) (known h.sessions)

  -- what the house says at a turn, and what it knows then
  abbrev pub turned_to : (before after : House S) → Spoken (machine (room before.table))
  turned_to a b = turn_of (room a.table) (state b.table) (known b.sessions) (outs_of b.out)

  -- what the house knows afterwards
  abbrev pub mind_after : (before after : House S) → m.House (machine (room before.table))
  mind_after a b = house_of (room a.table) (state b.table) (known b.sessions)

  -- at the turn from before to after the house says and knows this, and its table has as much room as it had
  pub record TurnsTo (before after : House S) (x : Spoken (machine (room before.table))) : Type 0 where
    pub turn : turned_to before after ≡ x
    pub room_stays : room after.table ≡ room before.table

  -- what it says and knows then is the model's, of what it knew
  abbrev pub Turns : (before after : House S) → (m.House (machine (room before.table)) → m.HouseTurn (machine (room before.table))) → Type 0
  Turns a b f = TurnsTo a b (spoken (f (mind_of a)))
