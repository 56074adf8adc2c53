use Rattle.std.proofs.Common.{rules}
use Rattle.std.proofs.lemmas.List.{append_assoc}
use Rattle.text.proofs.Numerals.{text_step, text_last, length_step, length_digit}
use Rattle.text.proofs.decimal.+push_digits.Goals as goal
use Rattle.text.proofs.decimal.+push_digits.Goals.{then-n-ge10, else-n-ge10}

pub returns : goal.returns
returns t c =
    elim c.if-n-ge10.branch [
      | then-n-ge10 w ↦ record { items = search (rules, text_step, append_assoc); len = search (rules, length_step); cap = search rules }
      | else-n-ge10 w ↦ record { items = search (rules, text_last); len = search (rules, length_digit); cap = search rules }
    ]
