use Rattle.std.proofs.Common.{List, refl, sym, ap, ◌∙◌}
use Rattle.promise.specs.Bytes.{Bytes}
use Rattle.desk_side.specs.Desks.{desk_of_memory}
use Rattle.desk_side.specs.Outputs.{outs_of}
use Rattle.desk_side.specs.View.{desk_of, requests_in, greeting_in}
use Rattle.desk_side.proofs.Said.{ask_knows, ask_does}
use Rattle.desk_side.proofs.memory.Memory.ask.Goals as goal

pub returns : goal.returns
returns c = λ b.
    let ps : List Bytes = requests_in c.args.self.now.requests in
    let all : List Bytes = requests_in c.ask_all.new.self in
    let es = sym c.session_said-session.ensures in
    record {
      knows = ask_knows c.args.which c.args.clock.0 c.session_said-session.result.0 c.args.self.now.asking.slots ps all (desk_of_memory c.args.self.now) (desk_of all c.count_sent-self.result) c.ask_all.ensures.holds es refl (c.count_sent-self.ensures all);
      does = ap (outs_of all (greeting_in c.args.self.now.greeting) b) c.ask_all.ensures.outs
          ∙ ask_does c.args.which c.args.clock.0 c.session_said-session.result.0 c.args.self.now.asking.slots ps all (greeting_in c.args.self.now.greeting) b (desk_of_memory c.args.self.now) c.ask_all.ensures.holds es refl;
    }
