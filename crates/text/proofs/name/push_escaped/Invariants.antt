use Rattle.std.proofs.Common.{◌≡◌, ◌+◌, ◌*◌, ◌≤◌, ◌++◌, drop, vec_items, vec_len, vec_capacity}
use Rattle.text.specs.Names.{escaped}
use Rattle.text.proofs.name.push_escaped.Given as goal

abbrev pub invariant-loop-b : goal.invariant-loop-b
invariant-loop-b l =
    (vec_items l.out ++ escaped (drop l.b-index l.name) ≡ vec_items l.initial.out ++ escaped l.name)
    × (vec_len l.out ≤ vec_len l.initial.out + 3 * l.b-index) × (vec_capacity l.out ≡ vec_capacity l.initial.out)
