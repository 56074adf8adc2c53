use Rattle.std.proofs.Common.{◌≡◌, ℕ, ◌<◌, get_or, vec_items, vec_len, vec_capacity}
use Rattle.table.specs.View.{blank_head}
use Rattle.table.proofs.compact.arrange.Given as goal

abbrev pub invariant-loop-i : goal.invariant-loop-i
invariant-loop-i l = (vec_len l.spots ≡ l.i) × (vec_capacity l.spots ≡ vec_capacity l.initial.spots) × ((q : ℕ) → q < l.i → get_or (vec_items l.spots) q (0, 0) ≡ ((get_or l.heads q blank_head).at, q))
