use Rattle.std.proofs.Common.{refl}
use Rattle.asking.specs.Desk as m
use Rattle.desk_side.specs.Slots.{slots_of}
use Rattle.desk_side.proofs.state.Asking.begin.Goals as goal

pub returns : goal.returns
unfolding m.desk_begins slots_of
returns c = λ ps. refl
