-- What comes and what is sent, as the model has it.
-- Assumes nothing.
use Rattle.std.specs.Prelude.{List, [], ◌∷◌, Some, None, Option}
use Rattle.promise.specs.Bytes.{Bytes}
use Rattle.promise.specs.Machine.{Machine}
use Rattle.promise.specs.Desks.{Comes, From, Beat, Does, To}
use Rattle.asking.specs.Code.{ByteTurn, house}
use Rattle.house_side.specs.declared.event.Event.{Event}
use Rattle.house_side.specs.declared.event.Event.TheVariants as e
use Rattle.house_side.specs.declared.sent.Sent.{Sent}
use Rattle.house_side.specs.Houses.{Spoken}

abbrev pub comes_of : Event → Comes Bytes
comes_of (e.Message i b) = From i.0 b.now
comes_of e.Tick = Beat

abbrev pub sent_of : Option Sent → List (Does Bytes)
sent_of None = []
sent_of (Some x) = To x.to.0 x.bytes.now ∷ []

abbrev pub minded : {m : Machine} → Spoken m → ByteTurn m
minded x = record { does = x.does; mind = house x.house }
