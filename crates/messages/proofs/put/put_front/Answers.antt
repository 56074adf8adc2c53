use Rattle.std.proofs.Common.{◌∷◌, ◌++◌, drop, ap, ◌∙◌, arith}
use Rattle.codec.specs.Messages.{lengthed, summed}
use Rattle.codec.proofs.Numbers.{be_1}
use Rattle.messages.proofs.Laid.{front}
use Rattle.messages.proofs.put.put_front.Goals as goal

pub returns : goal.returns
returns c =
    front c.args.part.now c.put_number.new.part c.put_number-2.new.part c.put_number-3.new.part _ _ _
    c.requires.0 (omega arith) (c.put_number.ensures ∙ ap (λ k. k ++ drop 13 c.args.part.now) (be_1 c.number.result (omega arith)))
    c.put_number-2.ensures c.sum-h.ensures c.put_number-3.ensures
    ∙ ap (λ k. summed (lengthed (k ∷ drop 13 c.args.part.now))) c.number.ensures
