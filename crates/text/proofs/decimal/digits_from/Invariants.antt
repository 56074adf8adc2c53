use Rattle.std.proofs.Common.{◌≡◌, ◌≤◌, drop}
use Rattle.text.specs.Decimals.{decimal_from}
use Rattle.text.proofs.decimal.digits_from.Given as goal

abbrev pub invariant-loop-b : goal.invariant-loop-b
invariant-loop-b l = (decimal_from l.most l.n (drop l.b-index l.w) ≡ decimal_from l.most 0 l.w) × (l.n ≤ l.most)
