use Rattle.std.proofs.Common.{◌≡◌, true, false, ◌==◌, [], get_or, Option, ap, ◌∙◌, rules}
use Rattle.desk_side.specs.declared.say.Say.{Say}
use Rattle.desk_side.specs.Said.{said_if}
use Rattle.desk_side.specs.Slots.{call_in}
use Rattle.desk_side.specs.Sessions.{session_of}
use Rattle.desk_side.specs.View.{desk_of}
use Rattle.desk_side.proofs.Called.{first_request, first_alone}
use Rattle.desk_side.proofs.state.Asking.first_said.Goals as goal

pub returns-then-is_some : goal.returns-then-is_some
returns-then-is_some c = λ ps t b.
    let some : (session_of c.args.self.now.session == 0) ≡ false = search rules in
    first_request t c.args.place.slot.0 c.args.place.seq.0 (call_in (get_or ps c.args.place.slot.0 [])) c.args.alone (desk_of ps c.args.self.now) some

pub returns-else-is_some : goal.returns-else-is_some
returns-else-is_some c = λ ps t b.
    let none : (session_of c.args.self.now.session == 0) ≡ true = search rules in
    ap (λ (x : Option Say). said_if x t b ps c.args.self.now) c.then_some.ensures ∙ first_alone t c.args.place c.args.alone b ps c.args.self.now none
