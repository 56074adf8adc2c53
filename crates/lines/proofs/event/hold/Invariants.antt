use Rattle.std.proofs.Common.{◌≡◌, take, vec_items, vec_len, vec_capacity}
use Rattle.lines.proofs.event.hold.Given as goal

abbrev pub invariant-loop-b : goal.invariant-loop-b
invariant-loop-b l = (vec_items l.buf ≡ take l.b-index l.w) × (vec_len l.buf ≡ l.b-index) × (vec_capacity l.buf ≡ vec_capacity l.initial.buf)
