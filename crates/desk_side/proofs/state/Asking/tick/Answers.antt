use Rattle.std.proofs.Common.{◌≡◌, true, false, ◌∙◌, rules}
use Rattle.std.specs.List.{list_any}
use Rattle.desk_side.specs.declared.slot.Which.TheVariants.{Due}
use Rattle.desk_side.specs.Slots.{is_passing}
use Rattle.desk_side.specs.View.{desk_of}
use Rattle.desk_side.proofs.Agree.{any_due_lem}
use Rattle.desk_side.proofs.Ticked.{tick_alive, tick_ask, tick_hello}
use Rattle.desk_side.proofs.state.Asking.tick.Goals as goal

pub returns-then-not-any_asked : goal.returns-then-not-any_asked
returns-then-not-any_asked c = λ ps b.
    let none : list_any (is_passing (Due c.args.retry c.args.clock)) c.args.self.now.slots ≡ false = search rules in
    c.keep_alive.ensures ps b ∙ tick_alive c.args.retry c.args.clock.0 (desk_of ps c.args.self.now) (any_due_lem c.args.retry c.args.clock c.args.self.now.slots ps ∙ none)

pub returns-then-self : goal.returns-then-self
returns-then-self c = λ ps b.
    let some : list_any (is_passing (Due c.args.retry c.args.clock)) c.args.self.now.slots ≡ true = search rules in
    tick_ask c.args.retry c.args.clock.0 (desk_of ps c.args.self.now) (any_due_lem c.args.retry c.args.clock c.args.self.now.slots ps ∙ some) (search rules)

pub returns : goal.returns
returns c = λ ps b.
    let some : list_any (is_passing (Due c.args.retry c.args.clock)) c.args.self.now.slots ≡ true = search rules in
    tick_hello c.args.retry c.args.clock.0 (desk_of ps c.args.self.now) (desk_of ps c.start_over.result) (any_due_lem c.args.retry c.args.clock c.args.self.now.slots ps ∙ some) (search rules) (c.start_over.ensures ps)
