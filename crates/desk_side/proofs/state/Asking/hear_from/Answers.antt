use Rattle.std.proofs.Common.{◌≡◌, ◌∙◌, rules}
use Rattle.codec.specs.Messages.{decode_msg}
use Rattle.desk_side.specs.View.{desk_of}
use Rattle.desk_side.proofs.Turned.{from_house, from_other}
use Rattle.desk_side.proofs.state.Asking.hear_from.Goals as goal

pub returns-then-ne : goal.returns-then-ne
returns-then-ne c = λ ps t.
    let other : c.args.from.0 ≡ 0 → ⊥ = search rules in
    from_other c.args.from.0 t (decode_msg c.args.bytes.now) (desk_of ps c.args.self.now) other

pub returns : goal.returns
returns c = λ ps t.
    let zero : c.args.from.0 ≡ 0 = search rules in
    c.hear.ensures ps t ∙ from_house c.args.from.0 t (decode_msg c.args.bytes.now) (desk_of ps c.args.self.now) zero
