use Rattle.std.proofs.Common.{◌≡◌, ℕ, true, List, None, set, ap, ◌∙◌, rules}
use Rattle.asking.specs.Desk as m
use Rattle.desk_side.specs.Slots.{slots_of}
use Rattle.desk_side.specs.View.{desk_of}
use Rattle.desk_side.proofs.Agree.{set_idle}
use Rattle.desk_side.proofs.state.Asking.settle.Goals as goal

pub returns : goal.returns
returns c = λ ps.
    let at : c.from.result ≡ c.args.place.slot.0 = search rules in
    ap (λ (ss : List m.Slot). record (desk_of ps c.args.self) { answered = true; slots = ss })
    (ap (λ (j : ℕ). slots_of (set c.args.self.slots j (record { seq = c.args.place.seq; waiting = None })) ps) at
    ∙ set_idle c.args.self.slots ps c.args.place.slot.0 c.args.place.seq)
