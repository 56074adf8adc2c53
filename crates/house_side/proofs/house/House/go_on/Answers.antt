use Rattle.house_side.proofs.Bytewise.{goes_on_lem}
use Rattle.house_side.proofs.house.House.go_on.Goals as goal

pub returns-clause-mind : goal.returns-clause-mind
returns-clause-mind g c = goes_on_lem _ _ _ _ _ c.go_on.ensures
