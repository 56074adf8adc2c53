use Rattle.std.proofs.Common.{◌≡◌, ℕ, ◌<◌, List, length, get_or, ap, rules}
use Rattle.promise.specs.Bytes.{Bytes}
use Rattle.asking.specs.Desk as m
use Rattle.desk_side.specs.Slots.{blank, slot_of}
use Rattle.desk_side.specs.View.{desk_of}
use Rattle.desk_side.proofs.Agree.{map_slots}
use Rattle.desk_side.proofs.state.Asking.start_over.Goals as goal

pub returns : goal.returns
returns c = λ ps.
    let n : length c.change_each.new.slots ≡ length c.args.self.slots = search rules in
    let each : (k : ℕ) → k < length c.args.self.slots → (p : Bytes) → slot_of (get_or c.change_each.new.slots k blank) p ≡ m.unsent_now c.args.clock.0 (slot_of (get_or c.args.self.slots k blank) p) =
    λ k h p. let called = c.change_each.ensures k h in search rules in
    ap (λ (ss : List m.Slot). record (desk_of ps c.args.self) { slots = ss }) (map_slots (m.unsent_now c.args.clock.0) c.args.self.slots c.change_each.new.slots ps n each)
