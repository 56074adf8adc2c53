use Rattle.std.proofs.Common.{◌≡◌, ℕ, ◌-◌, ◌<◌, get_or, sym, ap, ◌∙◌, arith}
use Rattle.codec.specs.Answers.{are_names}
use Rattle.codec.proofs.NamesRead.{names_none}
use Rattle.codec.proofs.Forms.{names_whole}
use Rattle.codec.proofs.answer_reader.are_names.Goals as goal

pub returns : goal.returns
returns c =
    let z : 0 ≡ c.args.count - c.loop.counter = omega arith in
    let e : c.is_empty.result ≡ are_names c.args.count c.args.b.now
    = c.is_empty.ensures ∙ sym (names_none c.loop.rest.now) ∙ ap (λ k. are_names k c.loop.rest.now) z ∙ c.loop.invariant in
    let s : (i : ℕ) → get_or c.args.b.now i 0 < 256 = λ i. omega (arith, c.type_inv.b i) in
    let w = names_whole c.args.count c.args.b.now s in
    record { value = e; written = λ t. (w (sym e ∙ t)).0; count = λ t. (w (sym e ∙ t)).1; bound = λ t. omega (arith, (w (sym e ∙ t)).2) }
