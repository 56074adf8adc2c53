use Rattle.std.proofs.Common.{rules}
use Rattle.sessions.proofs.Entries.{entry_heard}
use Rattle.sessions.proofs.sessions.Sessions.hear.Goals as goal

pub returns : goal.returns
returns c = search (rules, entry_heard)
