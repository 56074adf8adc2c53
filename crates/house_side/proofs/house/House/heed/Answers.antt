use Rattle.std.proofs.Common.{◌≡◌, refl, sym, ap, subst, inl, inr}
use Rattle.messages.specs.declared.message.Message.{Message}
use Rattle.messages.specs.Views.{msg_of}
use Rattle.house_side.proofs.Heard.{Aside, heard_hello, heard_request, heard_aside}
use Rattle.house_side.proofs.house.House.heed.Goals as goal

pub returns-in-Hello : goal.returns-in-Hello
returns-in-Hello g c = record { turn = heard_hello _ _ _ _ _ _ _ (ap msg_of c.in-Hello.is) c.hello.ensures.turn; room_stays = c.hello.ensures.room_stays }

pub returns-in-Request : goal.returns-in-Request
returns-in-Request g c = record { turn = heard_request _ _ _ _ _ _ _ _ _ _ (ap msg_of c.in-Request.is) c.request.ensures.turn; room_stays = c.request.ensures.room_stays }

pub returns-in-Welcome : goal.returns-in-Welcome
returns-in-Welcome g c =
    let of : (m : Message) → c.args.message ≡ m → Aside (msg_of m) → Aside (msg_of c.args.message) = λ m e h. subst (λ (v : Message). Aside (msg_of v)) (sym e) h in
    let aside : Aside (msg_of c.args.message) =
    elim c.in-Welcome.is [ inl h ↦ of _ h.2 tt | inr h ↦ elim h [ inl h' ↦ of _ h'.3 tt | inr h' ↦ of _ h'.1 tt ] ] in
    record { turn = heard_aside _ _ _ _ _ _ aside c.clear.ensures; room_stays = refl }
