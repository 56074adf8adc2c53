use Rattle.std.proofs.Common.{◌≡◌, Option, ap, ◌∙◌, rules}
use Rattle.std.specs.Bool.{then_some}
use Rattle.desk_side.specs.declared.say.Say.{Say}
use Rattle.desk_side.specs.declared.say.Say.TheVariants.{Alive}
use Rattle.desk_side.specs.Said.{said_if}
use Rattle.desk_side.specs.Steps.{silent}
use Rattle.desk_side.specs.View.{desk_of}
use Rattle.desk_side.proofs.Ticked.{alive_if}
use Rattle.desk_side.proofs.state.Asking.keep_alive.Goals as goal

pub returns : goal.returns
returns c = λ ps b.
    let test = c.is_silent.ensures ps in
    let said : c.then_some.result ≡ then_some (silent c.args.clock.0 (desk_of ps c.args.self.now)) Alive = search rules in
    ap (λ (x : Option Say). said_if x c.args.clock.0 b ps c.args.self.now) said ∙ alive_if c.args.clock.0 _ b ps c.args.self.now
