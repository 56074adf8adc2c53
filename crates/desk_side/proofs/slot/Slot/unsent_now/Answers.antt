use Rattle.std.proofs.Common.{◌≡◌, false, Option, ap₂, ◌∙◌, rules}
use Rattle.std.specs.Option.{option_map}
use Rattle.ids.specs.declared.Seq.{Seq}
use Rattle.desk_side.specs.declared.slot.Waiting.{Waiting}
use Rattle.desk_side.specs.Slots.{slot_with}
use Rattle.desk_side.proofs.Agree.{unsent_now_with}
use Rattle.desk_side.proofs.slot.Slot.unsent_now.Goals as goal

pub returns : goal.returns
returns c = λ part.
    let e : c.with_waiting.result.waiting ≡ option_map (λ (x : Waiting). record x { sent = false; last = c.args.clock }) c.args.self.waiting = search rules in
    ap₂ (λ (q : Seq) (o : Option Waiting). slot_with q part o) c.with_waiting.ensures.seq e ∙ unsent_now_with c.args.clock c.args.self.seq part c.args.self.waiting
