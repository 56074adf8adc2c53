use Rattle.std.proofs.Common.{arith}
use Rattle.sessions.proofs.Entries.{entry_offered}
use Rattle.sessions.proofs.sessions.Sessions.hello.Goals as goal

pub returns-clause-known : goal.returns-clause-known
returns-clause-known c =
    entry_offered _ _ _ _ _ _ c.as_mut_slice.ensures.value c.index.ensures.value (omega arith) _ _ _ _ c.in_default.is c.session_of.ensures c.saturating_add.ensures c.offer.ensures
