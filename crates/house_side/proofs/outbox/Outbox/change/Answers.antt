use Rattle.std.proofs.Common.{[], ◌∷◌, ap, ◌∙◌}
use Rattle.promise.specs.Bytes.{Bytes}
use Rattle.promise.specs.Desks.{To}
use Rattle.codec.specs.Messages.{Response, encode_msg}
use Rattle.house_side.proofs.Fronts.{behind_front}
use Rattle.house_side.proofs.outbox.Outbox.change.Goals as goal

pub returns : goal.returns
returns c =
    c.send.ensures ∙ (ap (λ (b : Bytes). To c.args.to.0 b ∷ []) c.seal.ensures ∙
    ap (λ (b : Bytes). To c.args.to.0 (encode_msg (Response c.args.request.session.0 c.args.request.slot.0 c.args.request.seq.0 0 b)) ∷ [])
    (behind_front _ _ _ _ _ c.begin_response.new.self.bytes.ok.0 c.begin_response.ensures c.answer.ensures.items))
