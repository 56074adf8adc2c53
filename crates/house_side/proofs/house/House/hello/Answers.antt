use Rattle.std.proofs.Common.{[], ◌∷◌, refl, ap, ◌∙◌}
use Rattle.promise.specs.Desks.{To}
use Rattle.codec.specs.Messages.{Welcome, encode_msg}
use Rattle.ids.specs.declared.DeskId.{DeskId}
use Rattle.house_side.proofs.Model.{hello_spoken}
use Rattle.house_side.proofs.house.House.hello.Goals as goal

pub returns : goal.returns
returns g c = record {
  turn = hello_spoken _ _ _ _ _ _ _ _ c.hello-session.ensures.known c.hello-session.ensures.session
      (c.welcome.ensures ∙ ap (λ (d : DeskId). To d.0 (encode_msg (Welcome c.args.nonce.0 c.hello-session.result.0)) ∷ []) c.desk.ensures);
  room_stays = refl;
}
