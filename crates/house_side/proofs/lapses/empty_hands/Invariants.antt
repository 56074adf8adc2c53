use Rattle.std.proofs.Common.{◌≡◌, map}
use Rattle.house_side.specs.Lapses.{number, emptied}
use Rattle.house_side.proofs.lapses.empty_hands.Given as goal

abbrev pub invariant-loop-desk : goal.invariant-loop-desk
invariant-loop-desk g l = record {
  room : g.S.Store.room l.table ≡ g.S.Store.room l.initial.table;
  state : emptied (map number l.desk-iterator.iter.rest.now) (g.S.Store.state l.table) ≡ emptied (map number l.lapsed) (g.S.Store.state l.initial.table);
}
