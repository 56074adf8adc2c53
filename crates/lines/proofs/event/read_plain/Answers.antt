use Rattle.std.proofs.Common.{sym, ◌∙◌, rules}
use Rattle.lines.proofs.Letters.{clock_in}
use Rattle.lines.proofs.event.read_plain.Goals as goal

pub returns-in-clock-clause-value : goal.returns-in-clock-clause-value
returns-in-clock-clause-value c =
    c.read_clock.ensures c.args.s.now ∙ sym (clock_in c.args.w.now c.args.rest.now (search rules) (search rules) (search rules) (search rules) (search rules) (search rules) (search rules))
