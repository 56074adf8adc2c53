-- What a turn says, as the model has it.
-- Assumes nothing.
use Rattle.std.specs.Prelude.{List, [], ◌∷◌, ◌++◌, map, Some, None, vec_items, Option}
use Rattle.promise.specs.Bytes.{Bytes}
use Rattle.promise.specs.Desks.{Does, To, Lapse}
use Rattle.ids.specs.declared.DeskId.{DeskId}
use Rattle.house_side.specs.declared.outbox.Outbox.{Outbox}

abbrev pub message_of : Option DeskId → Bytes → List (Does Bytes)
message_of None b = []
message_of (Some i) b = To i.0 b ∷ []

abbrev pub lapse_of : DeskId → Does Bytes
lapse_of d = Lapse d.0

abbrev pub outs_of : Outbox → List (Does Bytes)
outs_of o = message_of o.to (vec_items o.message.bytes) ++ map lapse_of (vec_items o.lapsed)
