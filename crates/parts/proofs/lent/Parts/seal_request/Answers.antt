use Rattle.std.proofs.Common.{is_ok, vec_items, rules}
use Rattle.parts.specs.Places.{sealed_by}
use Rattle.parts.proofs.Strings.{string_set}
use Rattle.parts.proofs.lent.Parts.seal_request.Goals as goal

pub returns-clause-parts : goal.returns-clause-parts
returns-clause-parts c =
    let r = c.args.request in
    rw c.from-j.ensures (string_set (vec_items c.args.self.now.strings) r.slot.0 c.in_ok-string.string.now c.seal.new.string
    (sealed_by (is_ok c.seal.result) r.session.0 r.slot.0 r.seq.0) (search rules) (search rules) c.seal.ensures.items)
