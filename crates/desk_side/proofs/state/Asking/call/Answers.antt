use Rattle.std.proofs.Common.{ap, ◌∙◌}
use Rattle.desk_side.specs.View.{desk_of, requests_in, free_place}
use Rattle.desk_side.proofs.Called.{call_free, call_full}
use Rattle.desk_side.proofs.state.Asking.call.Goals as goal

pub returns-in_default : goal.returns-in_default
returns-in_default c = λ b. call_full c.args.clock.0 c.args.number.0 c.args.call.now (desk_of (requests_in c.args.requests.now) c.args.self.now) (c.free.ensures (requests_in c.args.requests.now) ∙ ap free_place c.in_default.is)

pub returns : goal.returns
returns c = λ b.
    c.take_call.ensures b
    ∙ call_free c.args.clock.0 c.args.number.0 c.args.call.now c.in-Some.last.slot.0 c.in-Some.last.seq.0 c.next.result.0 (desk_of (requests_in c.args.requests.now) c.args.self.now) (c.free.ensures (requests_in c.args.requests.now) ∙ ap free_place c.in-Some.is) c.next.ensures
