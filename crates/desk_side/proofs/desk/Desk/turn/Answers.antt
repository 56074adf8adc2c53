use Rattle.desk_side.specs.Desks.{desk_in, settings}
use Rattle.desk_side.specs.Turns.{comes_of, came_of}
use Rattle.desk_side.proofs.Turned.{as_model}
use Rattle.desk_side.proofs.desk.Desk.turn.Goals as goal

pub returns-clause-model : goal.returns-clause-model
returns-clause-model c =
    as_model (settings c.args.self.now.retry) (comes_of c.args.event) c.args.clock.0 (desk_in c.args.self.now) (record { retry = c.args.self.now.retry; memory = c.turn.new.self }) (came_of c.args.event) c.turn.ensures
