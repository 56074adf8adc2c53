use Rattle.std.proofs.Common.{◌≡◌, ◌≤◌, true, false, eqb, length, take, drop, Some, None, Option, sym, refl, ap, ap₂, ◌∙◌, rules}
use Rattle.std.proofs.lemmas.List.{get_or_past}
use Rattle.promise.specs.Bytes.{Bytes}
use Rattle.ids.specs.declared.Seq.{Seq}
use Rattle.ids.specs.declared.SlotId.{SlotId}
use Rattle.asking.specs.House.{is_session}
use Rattle.desk_side.specs.declared.slot.Slot.{Slot}
use Rattle.desk_side.specs.declared.say.Say.{Say}
use Rattle.desk_side.specs.Said.{tells, said_if}
use Rattle.desk_side.specs.Slots.{blank}
use Rattle.desk_side.specs.Steps.{waits, waits_if, settled}
use Rattle.desk_side.specs.Sessions.{session_of}
use Rattle.desk_side.specs.View.{desk_of}
use Rattle.desk_side.proofs.Heard.{response_other, response_answered}
use Rattle.desk_side.proofs.state.Asking.hear_response.Goals as goal

pub returns-then-not-is_session : goal.returns-then-not-is_session
returns-then-not-is_session c = λ ps t b.
    let other : is_session c.args.request.session.0 (session_of c.args.self.now.session) ≡ false = search rules in
    response_other c.args.request.slot.0 c.args.request.seq.0 (take c.args.len (drop c.args.start b)) _ (desk_of ps c.args.self.now) other

pub returns-in_err-place : goal.returns-in_err-place
returns-in_err-place c = λ ps t b.
    let is : is_session c.args.request.session.0 (session_of c.args.self.now.session) ≡ true = search rules in
    let past : length c.args.self.now.slots ≤ c.args.request.slot.0 = search rules in
    let none : waits c.args.request.slot.0 c.args.request.seq c.args.self.now.slots ≡ None =
    ap (λ (y : Slot). waits_if (eqb y.seq.0 c.args.request.seq.0) y.waiting) (get_or_past c.args.self.now.slots c.args.request.slot.0 blank past) in
    let nothing : c.from_residual.result ≡ None = search rules in
    ap (λ (x : Option Say). said_if x t b ps c.args.self.now) nothing
    ∙ response_answered c.args.request.slot.0 c.args.request.seq (take c.args.len (drop c.args.start b)) _ c.args.self.now.slots ps (desk_of ps c.args.self.now) None refl is none

pub returns-in_err-number : goal.returns-in_err-number
returns-in_err-number c = λ ps t b.
    let is : is_session c.args.request.session.0 (session_of c.args.self.now.session) ≡ true = search rules in
    let none : waits c.args.request.slot.0 c.args.request.seq c.args.self.now.slots ≡ None =
    sym (ap₂ (λ (j : SlotId) (q : Seq). waits j.0 q c.args.self.now.slots) c.in_ok-place.ensures.0 c.in_ok-place.ensures.1) ∙ sym c.waiting.ensures ∙ search rules in
    let nothing : c.from_residual-in_err-number.result ≡ None = search rules in
    ap (λ (x : Option Say). said_if x t b ps c.args.self.now) nothing
    ∙ response_answered c.args.request.slot.0 c.args.request.seq (take c.args.len (drop c.args.start b)) _ c.args.self.now.slots ps (desk_of ps c.args.self.now) None refl is none

pub returns : goal.returns
returns c = λ ps t b.
    let x : Bytes = take c.args.len (drop c.args.start b) in
    let is : is_session c.args.request.session.0 (session_of c.args.self.now.session) ≡ true = search rules in
    let some : waits c.args.request.slot.0 c.args.request.seq c.args.self.now.slots ≡ Some c.in_ok-number.number =
    sym (ap₂ (λ (j : SlotId) (q : Seq). waits j.0 q c.args.self.now.slots) c.in_ok-place.ensures.0 c.in_ok-place.ensures.1) ∙ sym c.waiting.ensures ∙ search rules in
    ap (tells c.in_ok-number.number.0 x) (c.settle.ensures ps ∙ ap₂ (λ (j : SlotId) (q : Seq). settled j.0 q.0 (desk_of ps c.args.self.now)) c.in_ok-place.ensures.0 c.in_ok-place.ensures.1)
    ∙ response_answered c.args.request.slot.0 c.args.request.seq x _ c.args.self.now.slots ps (desk_of ps c.args.self.now) (Some c.in_ok-number.number) refl is some
