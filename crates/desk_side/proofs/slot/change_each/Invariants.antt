use Rattle.std.proofs.Common.{◌≡◌, ℕ, ◌<◌, ◌≤◌, get_or}
use Rattle.desk_side.specs.Slots.{blank}
use Rattle.desk_side.proofs.slot.change_each.Given as goal

abbrev pub invariant-loop-slot : goal.invariant-loop-slot
invariant-loop-slot g l = record {
  changed : (k : ℕ) → k < l.slot-index → goal.F-post g l.change (get_or l.initial.slots k blank) (get_or l.slots k blank);
  left : (k : ℕ) → l.slot-index ≤ k → get_or l.slots k blank ≡ get_or l.initial.slots k blank;
}
