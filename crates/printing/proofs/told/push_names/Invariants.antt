use Rattle.std.proofs.Common.{◌≡◌, ◌+◌, ◌-◌, ◌*◌, ◌≤◌, ◌++◌, length, vec_items, vec_len, vec_capacity}
use Rattle.printing.specs.Answers.{listed, names_text}
use Rattle.printing.proofs.told.push_names.Given as goal

abbrev pub invariant-loop : goal.invariant-loop
invariant-loop l =
    record {
      items : vec_items l.out ++ names_text (listed (l.count - l.counter) l.rest) ≡ vec_items l.initial.out ++ names_text (listed l.count l.names);
      len : vec_len l.out + 3 * length l.rest ≤ vec_len l.initial.out + 3 * length l.names;
      cap : vec_capacity l.out ≡ vec_capacity l.initial.out;
    }
