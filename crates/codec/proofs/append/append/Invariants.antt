use Rattle.std.proofs.Common.{◌≡◌, ◌+◌, ◌++◌, take, vec_items, vec_len, vec_capacity}
use Rattle.codec.proofs.append.append.Given as goal

abbrev pub invariant-loop-b : goal.invariant-loop-b
invariant-loop-b l =
    (vec_items l.v ≡ vec_items l.initial.v ++ take l.b-index l.more)
    × (vec_len l.v ≡ vec_len l.initial.v + l.b-index)
    × (vec_capacity l.v ≡ vec_capacity l.initial.v)
