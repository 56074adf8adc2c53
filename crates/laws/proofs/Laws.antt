-- All laws of the table together.
use Rattle.laws.specs.Laws.{TableLaws}
use Rattle.laws.proofs.Tidy.{tidy}
use Rattle.laws.proofs.Held.{held_stays}
use Rattle.laws.proofs.PutRead.{put_then_read}
use Rattle.laws.proofs.Hands.{only_hands}
use Rattle.laws.proofs.Away.{turned_away_leaves}

pub table_laws : TableLaws
table_laws = (tidy, held_stays, put_then_read, only_hands, turned_away_leaves)
