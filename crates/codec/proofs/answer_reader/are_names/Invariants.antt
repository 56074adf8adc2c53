use Rattle.std.proofs.Common.{◌≡◌, ◌-◌}
use Rattle.codec.specs.Answers.{are_names}
use Rattle.codec.proofs.answer_reader.are_names.Given as goal

abbrev pub invariant-loop : goal.invariant-loop
invariant-loop l = are_names (l.count - l.counter) l.rest ≡ are_names l.count l.b
