use Rattle.std.proofs.Common.{◌≡◌, ◌+◌, ◌*◌, ◌≤◌, length, vec_items, vec_len, vec_capacity}
use Rattle.text.specs.Hex.{pairs_in}
use Rattle.text.specs.Readings.{ahead}
use Rattle.text.proofs.hex.read_pairs.Given as goal

abbrev pub invariant-loop-rest : goal.invariant-loop-rest
invariant-loop-rest l = record {
  value : ahead (vec_items l.out) (pairs_in l.rest) ≡ ahead (vec_items l.initial.out) (pairs_in l.w);
  room : 2 * vec_len l.out + length l.rest ≤ 2 * vec_capacity l.out;
  cap : vec_capacity l.out ≡ vec_capacity l.initial.out;
}

abbrev pub decreases-loop-rest : goal.decreases-loop-rest
decreases-loop-rest l = length l.rest
