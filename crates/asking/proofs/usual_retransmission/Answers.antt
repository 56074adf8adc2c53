use Rattle.std.proofs.Common.{arith}
use Rattle.asking.proofs.usual_retransmission.Goals as goal
use Rattle.promise.specs.Machine.{sheets}
use Rattle.asking.proofs.Undisturbed.{one_for_each_call}
use Rattle.asking.proofs.Sparing.{answered_before_due, second_welcome, house_sends_one, call_sends_one, answer_sends_none}

pub returns : goal.returns
returns c = record { allowed = omega arith; sparing = (answered_before_due 20300 (omega arith), (second_welcome, ((λ can room. house_sends_one (sheets can room)), (call_sends_one, answer_sends_none)))); few = one_for_each_call }
