use Rattle.house_side.proofs.Bytewise.{begins}
use Rattle.house_side.proofs.house.House.begin.Goals as goal

pub returns-clause-begins : goal.returns-clause-begins
returns-clause-begins g c = λ e. begins _ _ _ _ c.begin-sessions.ensures e
