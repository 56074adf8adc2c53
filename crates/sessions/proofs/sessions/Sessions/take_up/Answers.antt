use Rattle.std.proofs.Common.{arith}
use Rattle.sessions.proofs.Entries.{entry_taken_up}
use Rattle.sessions.proofs.sessions.Sessions.take_up.Goals as goal

pub returns-clause-known : goal.returns-clause-known
returns-clause-known c = entry_taken_up _ _ _ _ _ _ c.as_mut_slice.ensures.value c.index.ensures.value (omega arith) _ _ _ c.if-not-is_offered.false c.is_offered.ensures c.promote.ensures
