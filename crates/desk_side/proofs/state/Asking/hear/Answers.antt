use Rattle.std.proofs.Common.{◌≡◌, ◌-◌, length, take, drop, Some, sym, ap, ◌∙◌, inl, inr, rules}
use Rattle.promise.specs.Bytes.{Bytes}
use Rattle.codec.specs.Messages as k
use Rattle.asking.specs.Desk as m
use Rattle.messages.specs.declared.message.Message.{Message}
use Rattle.messages.specs.Views.{msg_of}
use Rattle.desk_side.specs.View.{desk_of}
use Rattle.desk_side.proofs.Heard.{hears_as, hello_still, alive_still, request_still, hears_welcome, hears_response}
use Rattle.desk_side.proofs.Answer.{answer_there}
use Rattle.desk_side.proofs.state.Asking.hear.Goals as goal

pub returns-in-Welcome : goal.returns-in-Welcome
returns-in-Welcome c = λ ps t.
    let e : k.decode_msg c.args.bytes.now ≡ Some (k.Welcome c.in-Welcome.nonce.0 c.in-Welcome.session.0) = sym c.in_ok-message.ensures.value ∙ ap (λ (x : Message). Some (msg_of x)) c.in-Welcome.is in
    hears_as t (k.decode_msg c.args.bytes.now) _ (desk_of ps c.args.self.now) _ e
    (c.hear_welcome.ensures ps t c.args.bytes.now ∙ hears_welcome t c.in-Welcome.nonce.0 c.in-Welcome.session.0 (desk_of ps c.args.self.now))

pub returns-in-Response : goal.returns-in-Response
returns-in-Response c = λ ps t.
    let b : Bytes = c.args.bytes.now in
    let r = c.in-Response in
    let e : k.decode_msg b ≡ Some (k.Response r.request.session.0 r.request.slot.0 r.request.seq.0 r.grant.0 r.answer.now) = sym c.in_ok-message.ensures.value ∙ ap (λ (x : Message). Some (msg_of x)) r.is in
    let there : take (length b - c.min-start.result) (drop c.min-start.result b) ≡ r.answer.now = answer_there b r.request.session.0 r.request.slot.0 r.request.seq.0 r.grant.0 c.min-start.result r.answer.now e (search rules) in
    hears_as t (k.decode_msg b) _ (desk_of ps c.args.self.now) _ e
    (c.hear_response.ensures ps t b
    ∙ hears_response t r.request.session.0 r.request.slot.0 r.request.seq.0 r.grant.0 (take (length b - c.min-start.result) (drop c.min-start.result b)) r.answer.now (desk_of ps c.args.self.now) there)

pub returns-in-Hello : goal.returns-in-Hello
returns-in-Hello c = λ ps t.
    let d : m.Desk = desk_of ps c.args.self.now in
    let still : m.does_nothing d ≡ m.desk_hears t (msg_of c.in_ok-message.message) d = elim c.in-Hello.is [
      | inl h ↦ hello_still t _ d ∙ ap (λ (x : Message). m.desk_hears t (msg_of x) d) (sym h.1)
      | inr (inl h) ↦ request_still t _ _ _ _ d ∙ ap (λ (x : Message). m.desk_hears t (msg_of x) d) (sym h.2)
      | inr (inr h) ↦ alive_still t _ d ∙ ap (λ (x : Message). m.desk_hears t (msg_of x) d) (sym h.1)
    ] in
    hears_as t (k.decode_msg c.args.bytes.now) (msg_of c.in_ok-message.message) d (m.does_nothing d) (sym c.in_ok-message.ensures.value) still
