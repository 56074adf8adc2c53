use Rattle.std.proofs.Common.{length, ℕ, Result, subst, arith}
use Rattle.std.specs.List.Sorted.{IsSearchInRange}
use Rattle.table.specs.View.{blank_sheet}
use Rattle.table.specs.Tables.{state_of}
use Rattle.table.proofs.Weights.{weighs_there, weighs_away, weight_removed}
use Rattle.table.proofs.tables.Table.weigh.Goals as goal

pub overflow_sub-result : goal.overflow_sub-result
overflow_sub-result c =
    let t = c.args.self.now in
    let w = subst (λ (p : Result ℕ ℕ). IsSearchInRange p (length (state_of t).sheets)) c.in-Ok.is c.requires.within in
    omega (arith, weight_removed (state_of t).sheets c.in-Ok.i blank_sheet w, t.weighed, c.head.ensures.len)

pub returns-in-Ok : goal.returns-in-Ok
returns-in-Ok c =
    let t = c.args.self.now in
    let w = subst (λ (p : Result ℕ ℕ). IsSearchInRange p (length (state_of t).sheets)) c.in-Ok.is c.requires.within in
    rw c.in-Ok.is (weighs_there (state_of t).sheets c.in-Ok.i t.load c.args.len c.head.result.len t.weighed w c.head.ensures.len)

pub returns-in-Err : goal.returns-in-Err
returns-in-Err c = let t = c.args.self.now in rw c.in-Err.is (weighs_away (state_of t).sheets c.in-Err.field-0 t.load c.args.len t.weighed)
