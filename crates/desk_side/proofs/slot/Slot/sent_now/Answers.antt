use Rattle.std.proofs.Common.{◌≡◌, cond, true, Option, ap₂, ◌∙◌, rules}
use Rattle.std.specs.Option.{option_map}
use Rattle.ids.specs.declared.Seq.{Seq}
use Rattle.desk_side.specs.declared.slot.Waiting.{Waiting}
use Rattle.desk_side.specs.Slots.{passes, slot_with}
use Rattle.desk_side.proofs.Agree.{sent_with}
use Rattle.desk_side.proofs.slot.Slot.sent_now.Goals as goal

pub returns : goal.returns
returns c = λ part.
    let e : c.with_waiting.result.waiting ≡ option_map (λ (x : Waiting). cond (passes c.args.which x.sent x.last.0) (record x { sent = true; last = c.args.clock }) x) c.args.self.waiting = search rules in
    ap₂ (λ (q : Seq) (o : Option Waiting). slot_with q part o) c.with_waiting.ensures.seq e ∙ sent_with c.args.which c.args.clock c.args.self.seq part c.args.self.waiting
