use Rattle.std.proofs.Common.{sym, refl, ◌∙◌, rules}
use Rattle.sessions.specs.Views.{known}
use Rattle.house_side.proofs.Model.{taken_up_is}
use Rattle.house_side.proofs.house.House.take_up.Goals as goal

pub returns-then-take_up-clause-mind : goal.returns-then-take_up-clause-mind
returns-then-take_up-clause-mind g c =
    taken_up_is _ _ _ (known c.args.self.now.sessions) _ _ c.args.session.0 _ (sym c.if-take_up.true ∙ c.take_up.ensures.value)
    (search rules) c.take_up.ensures.known

pub returns-else-take_up-clause-mind : goal.returns-else-take_up-clause-mind
returns-else-take_up-clause-mind g c =
    taken_up_is _ _ _ (known c.args.self.now.sessions) _ _ c.args.session.0 _ (sym c.if-take_up.false ∙ c.take_up.ensures.value) refl c.take_up.ensures.known
