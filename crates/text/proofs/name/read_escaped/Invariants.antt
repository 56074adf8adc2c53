use Rattle.std.proofs.Common.{◌≡◌, ◌-◌, ◌≤◌, length, vec_items, vec_len, vec_capacity}
use Rattle.text.specs.Names.{name_from}
use Rattle.text.specs.Readings.{ahead}
use Rattle.text.proofs.name.read_escaped.Given as goal

abbrev pub invariant-loop-rest : goal.invariant-loop-rest
invariant-loop-rest l = record {
  value : ahead (vec_items l.out) (name_from (255 - vec_len l.out) l.rest) ≡ ahead (vec_items l.initial.out) (name_from 255 l.w);
  room : vec_len l.out ≤ 255;
  cap : vec_capacity l.out ≡ vec_capacity l.initial.out;
}

abbrev pub decreases-loop-rest : goal.decreases-loop-rest
decreases-loop-rest l = length l.rest
