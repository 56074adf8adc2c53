use Rattle.std.proofs.Common.{vec_items, sym, refl, ◌∙◌, arith}
use Rattle.table.proofs.Spots.{ordered}
use Rattle.table.proofs.compact.arrange.Goals as goal

pub returns-clause-ordered : goal.returns-clause-ordered
returns-clause-ordered c =
    let v = c.loop-i.spots in
    ordered c.args.heads.now (vec_items v) (vec_items c.sort_unstable.new.self) _ (record { long = sym v.ok.0 ∙ c.loop-i.invariant.0 ∙ omega (arith, c.loop-i-test.false, c.loop-i.auto.i-end); each = λ q l. c.loop-i.invariant.2 q (omega (arith, c.loop-i-test.false)) }) c.sort_unstable.ensures.permutation refl c.sort_unstable.ensures.sorted
