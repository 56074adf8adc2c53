use Rattle.std.proofs.Common.{refl, ap, rules}
use Rattle.sessions.specs.Peers.{query, ignore}
use Rattle.sessions.specs.View.{admit_view}
use Rattle.house_side.proofs.Model.{served, served_change}
use Rattle.house_side.proofs.house.House.serve.Goals as goal

pub returns-in-Query : goal.returns-in-Query
returns-in-Query g c = record { turn = served _ _ _ _ _ _ _ _ _ _ c.only_reads-reads.ensures c.admit.ensures query _ (ap admit_view c.in-Query.is) (search rules); room_stays = refl }

pub returns-in-Change : goal.returns-in-Change
returns-in-Change g c = record { turn = served_change _ _ _ _ _ _ _ _ _ _ c.only_reads-reads.ensures c.admit.ensures _ (ap admit_view c.in-Change.is) c.change.ensures.turn; room_stays = c.change.ensures.room_stays }

pub returns-in-Again : goal.returns-in-Again
returns-in-Again g c = record { turn = served _ _ _ _ _ _ _ _ _ _ c.only_reads-reads.ensures c.admit.ensures _ _ (ap admit_view c.in-Again.is) (search rules); room_stays = refl }

pub returns-in-Ignore : goal.returns-in-Ignore
returns-in-Ignore g c = record { turn = served _ _ _ _ _ _ _ _ _ _ c.only_reads-reads.ensures c.admit.ensures ignore _ (ap admit_view c.in-Ignore.is) c.clear.ensures; room_stays = refl }
