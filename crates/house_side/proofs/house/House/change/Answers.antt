use Rattle.std.proofs.Common.{ap, rules}
use Rattle.house_side.specs.Lapses.{number}
use Rattle.house_side.proofs.Model.{changed}
use Rattle.house_side.proofs.house.House.change.Goals as goal

pub returns : goal.returns
returns g c = record {
  turn = changed _ _ _ _ _ _ _ _ _ _ _ _ _ (ap number c.desk-desk.ensures) c.change.ensures.answer c.change.ensures.state (search rules) c.change-2.ensures;
  room_stays = c.change.ensures.room;
}
