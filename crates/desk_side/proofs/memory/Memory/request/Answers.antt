use Rattle.std.proofs.Common.{ℕ, ◌<◌, List, [], ◌∷◌, length, get_or, ap, ◌∙◌, arith}
use Rattle.promise.specs.Bytes.{Bytes}
use Rattle.promise.specs.Desks.{To}
use Rattle.codec.specs.Messages.{encode_msg, Request}
use Rattle.asking.specs.Desk as m
use Rattle.desk_side.specs.Desks.{desk_of_memory}
use Rattle.desk_side.specs.Outputs.{outs_of}
use Rattle.desk_side.specs.Slots.{call_in}
use Rattle.desk_side.specs.View.{requests_in, greeting_in}
use Rattle.desk_side.proofs.Agree.{slots_same}
use Rattle.desk_side.proofs.Said.{seal_says, seal_calls}
use Rattle.desk_side.proofs.memory.Memory.request.Goals as goal

pub returns : goal.returns
unfolding m.spoke_by
returns c = λ b.
    let ps : List Bytes = requests_in c.args.self.now.requests in
    let all : List Bytes = requests_in c.seal.new.self in
    let s : ℕ = c.session_said-session.result.0 in
    let j : ℕ = c.args.place.slot.0 in
    let lt : c.args.place.slot.0 < length ps = omega (arith, c.args.self.now.requests.ready.0, c.args.place.there) in
    record {
      knows = ap (λ (ss : List m.Slot). record (desk_of_memory c.args.self.now) { spoke = c.args.clock.0; slots = ss })
          (slots_same c.args.self.now.asking.slots all ps (λ k h. seal_calls ps all s j c.args.place.seq.0 lt c.seal.ensures k));
      does = ap (outs_of all (greeting_in c.args.self.now.greeting) b) c.put_alone.ensures
          ∙ ap (λ (y : Bytes). To 0 y ∷ []) (seal_says ps all j _ lt c.seal.ensures
          ∙ ap (λ (n : ℕ). encode_msg (Request n j c.args.place.seq.0 (call_in (get_or ps j [])))) c.session_said-session.ensures);
    }
