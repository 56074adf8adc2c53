use Rattle.std.proofs.Common.{◌≡◌, ◌+◌, ◌/◌, length, get_or, sym, ap, ◌∙◌, subst, arith}
use Rattle.std.proofs.lemmas.Bool.Decides.{Decides-eqb, not_from_Decides}
use Rattle.messages.specs.Lanes.{LanesAt}
use Rattle.messages.proofs.Words.{block_at, rest_at, lanes_more, sum_all}
use Rattle.messages.proofs.sum.sum.Goals as goal
use Rattle.messages.proofs.sum.sum.Goals.{then-not-is_empty, else-not-is_empty}

pub loop-block-preserved : goal.loop-block-preserved
loop-block-preserved c =
    lanes_more _ _ _ _ _ c.loop-block.invariant c.mixed_with-lanes.ensures
    (λ i h. block_at c.as_chunks.result.0.now c.args.b.now c.loop-block.block-index i c.as_chunks.ensures.front (omega (arith, c.as_chunks.ensures.front_len)) h)

pub returns : goal.returns
returns c =
    let b = c.args.b.now in
    let rest = c.as_chunks.result.1.now in
    let empty = Decides-eqb (length rest) 0 in
    let e : c.loop-block.block-index ≡ length b / 32 = omega (arith, c.as_chunks.ensures.front_len) in
    let before : LanesAt c.loop-block.lanes b (length b / 32) = subst (LanesAt c.loop-block.lanes b) e c.loop-block.invariant in
    c.join.ensures
    ∙ elim c.if-not-is_empty.branch [
      | then-not-is_empty w ↦
          sum_all _ b (length b / 32 + 1) (omega (arith, c.as_chunks.ensures.back_len, not_from_Decides _ empty (sym c.is_empty.ensures ∙ w.if-not-is_empty.true)))
          (subst (λ x. LanesAt x b (length b / 32 + 1)) (sym w.lanes-is)
          (lanes_more _ _ b _ (length b / 32) before w.mixed_with-lanes-then-not-is_empty.ensures
          (λ i h. ap (λ x. get_or x i 0) w.padded.ensures ∙ rest_at rest b _ i c.as_chunks.ensures.back)))
      | else-not-is_empty w ↦
          sum_all _ b (length b / 32) (omega (arith, c.as_chunks.ensures.back_len, empty.0 (sym c.is_empty.ensures ∙ w.if-not-is_empty.false)))
          (subst (λ x. LanesAt x b (length b / 32)) (sym w.lanes-is) before)
    ]
