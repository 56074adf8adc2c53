use Rattle.std.proofs.Common.{refl, ◌∙◌, le-ltb, lt-ltb}
use Rattle.house_side.proofs.Model.{request_in_slot, request_in_none}
use Rattle.house_side.proofs.house.House.request.Goals as goal

pub returns-then-request-lt8 : goal.returns-then-request-lt8
returns-then-request-lt8 g c = record {
  turn = request_in_slot _ _ _ _ _ _ _ _ _ _ _ _ _ _ (lt-ltb _ _ c.if-request-lt8.true) c.take_up.ensures.room c.take_up.ensures.mind c.serve.ensures.turn;
  room_stays = c.serve.ensures.room_stays ∙ c.take_up.ensures.room;
}

pub returns-else-request-lt8 : goal.returns-else-request-lt8
returns-else-request-lt8 g c = record { turn = request_in_none _ _ _ _ _ _ _ _ _ c.clear.ensures (le-ltb _ _ c.if-request-lt8.false); room_stays = refl }
