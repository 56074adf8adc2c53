use Rattle.std.proofs.Common.{◌≡◌, ◌≤◌, All, map, replicate, vec_items, vec_len, vec_capacity}
use Rattle.parts.specs.Places.{HasPart}
use Rattle.parts.proofs.lent.Parts.begin.Given as goal

abbrev pub invariant-loop : goal.invariant-loop
invariant-loop l = record {
  strings : map vec_items l.strings.items ≡ replicate l.counter (replicate l.head 0);
  placed : All (HasPart l.head l.size) l.strings.items;
  count : vec_len l.strings ≡ l.counter;
  room : l.count ≤ vec_capacity l.strings;
}
