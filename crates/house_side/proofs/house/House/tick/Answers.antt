use Rattle.house_side.proofs.Ticks.{tick_is}
use Rattle.house_side.proofs.house.House.tick.Goals as goal

pub returns : goal.returns
returns g c = record {
  turn = tick_is _ _ _ _ _ _ _ _ c.lapse.ensures.says c.lapse.ensures.desks c.deref.ensures.value c.empty_hands.ensures.state;
  room_stays = c.empty_hands.ensures.room;
}
