use Rattle.std.proofs.Common.{◌-◌, drop, vec_items, ap, ◌∙◌, rules}
use Rattle.parts.specs.Places.{bodied, fitted}
use Rattle.parts.specs.View.{head_of, size_of}
use Rattle.parts.proofs.Strings.{string_set, string_there}
use Rattle.parts.proofs.lent.Parts.put.Goals as goal

pub returns-in-Some-clause-parts : goal.returns-in-Some-clause-parts
returns-in-Some-clause-parts c =
    let head = head_of c.args.self.now in
    let old = c.in-Some.string.now in
    string_set (vec_items c.args.self.now.strings) c.args.j old c.set_body.new.string
    (λ s. bodied head s (fitted (size_of c.args.self.now - head) c.args.body.now)) (search rules) c.in-Some.ensures.value
    (c.set_body.ensures.items ∙ ap (bodied head (vec_items old)) c.fitting-body.ensures.value)

pub returns-in-Some-clause-back : goal.returns-in-Some-clause-back
returns-in-Some-clause-back c lt =
    ap (drop (head_of c.args.self.now)) (string_there (vec_items c.args.self.now.strings) c.args.j c.set_body.new.string (search rules))
    ∙ c.set_body.ensures.back ∙ c.fitting-body.ensures.value
