use Rattle.std.proofs.Common.{refl, sym, ap, ◌∙◌}
use Rattle.std.specs.Option.{option_map}
use Rattle.messages.specs.Views.{msg_of}
use Rattle.house_side.specs.Lapses.{number}
use Rattle.house_side.proofs.Heard.{from_nobody, from_noise, from_desk}
use Rattle.house_side.proofs.house.House.receive.Goals as goal
use Rattle.house_side.proofs.house.House.receive.Goals.{in_default-via-in-Some+in_default, in_default-via-in_default}

pub returns-in-Some-Ok : goal.returns-in-Some-Ok
returns-in-Some-Ok g c = record {
  turn = from_desk _ _ _ _ _ _ _ _ _ c.in-Some-Ok.ensures.value c.in-Some-Ok.ensures'.0 (ap number c.in-Some-Ok.ensures'.1) c.hear.ensures.turn;
  room_stays = c.hear.ensures.room_stays;
}

pub returns-in_default : goal.returns-in_default
returns-in_default g c = record {
  turn = elim c.in_default.branch [
    | in_default-via-in-Some+in_default w ↦
        let nobody = rw w.in_default.is-1 at c.try_from.ensures in
        from_nobody _ _ _ _ _ _ _ _ (ap (option_map msg_of) (sym w.in_default.is-0) ∙ c.read_message.ensures.value) nobody.0 c.clear.ensures
    | in_default-via-in_default w ↦ from_noise _ _ _ _ _ _ _ (ap (option_map msg_of) (sym w.in_default.is-0) ∙ c.read_message.ensures.value) c.clear.ensures
  ];
  room_stays = refl;
}
