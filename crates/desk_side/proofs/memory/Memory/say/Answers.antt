use Rattle.std.proofs.Common.{ℕ, ap}
use Rattle.codec.specs.Messages as k
use Rattle.desk_side.specs.Desks.{desk_of_memory}
use Rattle.desk_side.specs.declared.say.Say.TheVariants as s
use Rattle.desk_side.specs.Said.{says}
use Rattle.desk_side.specs.View.{requests_in}
use Rattle.desk_side.proofs.Said.{did_as, did_say}
use Rattle.desk_side.proofs.memory.Memory.say.Goals as goal

pub returns-in-Hello : goal.returns-in-Hello
returns-in-Hello c = λ b. did_say _ c.args.clock.0 b (requests_in c.args.self.now.requests) c.args.self.now.asking c.args.say s.Hello c.in-Hello.is (c.greet.ensures b)

pub returns-in-Alive : goal.returns-in-Alive
returns-in-Alive c = λ b.
    did_say _ c.args.clock.0 b (requests_in c.args.self.now.requests) c.args.self.now.asking c.args.say s.Alive c.in-Alive.is
    (did_as _ b _ _ (ap (λ (n : ℕ). says c.args.clock.0 (k.Alive n) (desk_of_memory c.args.self.now)) c.session_said-session.ensures) (c.greet-in-Alive.ensures b))

pub returns-in-Request : goal.returns-in-Request
returns-in-Request c = λ b. did_say _ c.args.clock.0 b (requests_in c.args.self.now.requests) c.args.self.now.asking c.args.say (s.Request c.in-Request.place) c.in-Request.is (c.request.ensures b)

pub returns-in-Requests : goal.returns-in-Requests
returns-in-Requests c = λ b. did_say _ c.args.clock.0 b (requests_in c.args.self.now.requests) c.args.self.now.asking c.args.say (s.Requests c.in-Requests.which) c.in-Requests.is (c.ask.ensures b)
