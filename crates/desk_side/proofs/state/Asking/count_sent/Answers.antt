use Rattle.std.proofs.Common.{◌≡◌, ℕ, ◌<◌, length, get_or, rules}
use Rattle.std.specs.List.{list_any}
use Rattle.promise.specs.Bytes.{Bytes}
use Rattle.asking.specs.Desk as m
use Rattle.desk_side.specs.Slots.{passes, is_passing, blank, slot_of}
use Rattle.desk_side.specs.View.{desk_of}
use Rattle.desk_side.proofs.Agree.{map_slots, counted}
use Rattle.desk_side.proofs.state.Asking.count_sent.Goals as goal

pub returns : goal.returns
returns c = λ ps.
    let n : length c.change_each.new.slots ≡ length c.args.self.slots = search rules in
    let each : (k : ℕ) → k < length c.args.self.slots → (p : Bytes) → slot_of (get_or c.change_each.new.slots k blank) p ≡ m.sent_now (passes c.args.which) c.args.clock.0 (slot_of (get_or c.args.self.slots k blank) p) =
    λ k h p. let called = c.change_each.ensures k h in search rules in
    counted (passes c.args.which) (list_any (is_passing c.args.which) c.args.self.slots) c.args.clock.0 (desk_of ps c.args.self) _ _ (search rules)
    (map_slots (m.sent_now (passes c.args.which) c.args.clock.0) c.args.self.slots c.change_each.new.slots ps n each)
