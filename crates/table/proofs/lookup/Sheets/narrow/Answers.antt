use Rattle.std.proofs.Common.{ℕ, ◌+◌, ◌-◌, ◌/◌, List, sym, ap, ◌∙◌, zero-le, arith}
use Rattle.promise.specs.Sheets.{less}
use Rattle.table.proofs.Order.{less_lt}
use Rattle.table.proofs.Fits.{place_le, place_below, place_above}
use Rattle.table.proofs.lookup.Sheets.narrow.Goals as goal

pub loop-hi-init : goal.loop-hi-init
loop-hi-init c = (zero-le, place_le c.args.self.now.mem.now c.args.self.now.heads.now c.args.name.now, omega arith)

pub loop-hi-preserved-then-lt : goal.loop-hi-preserved-then-lt
loop-hi-preserved-then-lt c =
    let s = c.args.self.now in
    let e = ap (λ (x : List ℕ). less x c.args.name.now) (sym c.name.ensures) ∙ sym (less_lt c.name.result.now c.args.name.now c.lt.result c.lt.ensures) ∙ c.if-lt.true in
    let h = place_above s.mem.now s.heads.now c.args.name.now (c.loop-hi.lo + (c.loop-hi.hi - c.loop-hi.lo) / 2) s.sound.sorted (omega arith) e in
    (omega arith, omega arith, omega arith)

pub loop-hi-preserved : goal.loop-hi-preserved
loop-hi-preserved c =
    let s = c.args.self.now in
    let e = ap (λ (x : List ℕ). less x c.args.name.now) (sym c.name.ensures) ∙ sym (less_lt c.name.result.now c.args.name.now c.lt.result c.lt.ensures) ∙ c.if-lt.false in
    let h = place_below s.mem.now s.heads.now c.args.name.now (c.loop-hi.lo + (c.loop-hi.hi - c.loop-hi.lo) / 2) (omega arith) e in
    (omega arith, h, omega arith)
