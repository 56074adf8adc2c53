use Rattle.std.proofs.Common.{ℕ, List, sym, ap, ◌∙◌, arith}
use Rattle.std.proofs.lemmas.Bool.{not-false, not-true}
use Rattle.promise.specs.Sheets.{less}
use Rattle.table.proofs.Order.{less_le}
use Rattle.table.proofs.Fits.{place_below, place_above}
use Rattle.table.proofs.lookup.Sheets.rank_of.Goals as goal

pub names-preserved : goal.names-preserved
names-preserved c =
    let s = c.args.self.now in
    let e = ap (λ (x : List ℕ). less x c.args.name.now) (sym c.name.ensures) ∙ not-false (less c.name.result.now c.args.name.now) (sym (less_le c.args.name.now c.name.result.now c.le.result c.le.ensures) ∙ c.if-le.false) in
    let h = place_above s.mem.now s.heads.now c.args.name.now c.names.i s.sound.sorted (omega (arith, c.narrow-lo.ensures.within)) e in
    (c.names.invariant.0, omega arith)

pub returns-then-le : goal.returns-then-le
returns-then-le c =
    let s = c.args.self.now in
    let e = ap (λ (x : List ℕ). less x c.args.name.now) (sym c.name.ensures) ∙ not-true (less c.name.result.now c.args.name.now) (sym (less_le c.args.name.now c.name.result.now c.le.result c.le.ensures) ∙ c.if-le.true) in
    let h = place_below s.mem.now s.heads.now c.args.name.now c.names.i (omega (arith, c.narrow-lo.ensures.within)) e in
    omega (arith, c.names.invariant)
