use Rattle.std.proofs.Common.{ap}
use Rattle.house_side.specs.Comings.{comes_of}
use Rattle.house_side.proofs.Bytewise.{turned_message, turned_tick}
use Rattle.house_side.proofs.house.House.turn.Goals as goal

pub returns-in-Message-clause-turn : goal.returns-in-Message-clause-turn
returns-in-Message-clause-turn g c = λ z. turned_message z _ _ _ _ _ _ (ap comes_of c.in-Message.is) c.receive.ensures.turn

pub returns-in-Tick-clause-turn : goal.returns-in-Tick-clause-turn
returns-in-Tick-clause-turn g c = λ z. turned_tick z _ _ _ _ (ap comes_of c.in-Tick.is) c.tick.ensures.turn
