use Rattle.std.proofs.Common.{◌≡◌, None, ◌+◌, ◌-◌, ◌≤◌, map, vec_items, vec_len, vec_capacity}
use Rattle.sessions.specs.Views.{known}
use Rattle.house_side.specs.Houses.{house_of}
use Rattle.house_side.specs.Lapses.{number, silent_from}
use Rattle.house_side.proofs.outbox.Outbox.lapse.Given as goal

abbrev pub invariant-loop-number : goal.invariant-loop-number
invariant-loop-number g l = record {
  desks : map number (vec_items l.self.lapsed) ≡ silent_from l.clock.0 (house_of (g.S.Store.room l.table) (g.S.Store.state l.table) (known l.sessions)) 1 (l.number - 1);
  few : vec_len l.self.lapsed + 1 ≤ l.number;
  to : l.self.to ≡ None;
  cap : vec_capacity l.self.lapsed ≡ vec_capacity l.initial.self.lapsed;
}
