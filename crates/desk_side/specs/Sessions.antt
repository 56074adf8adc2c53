-- A session, or none, as messages say it.
-- Assumes nothing.
use Rattle.std.specs.Prelude.{ℕ, Some, None, Option}
use Rattle.ids.specs.declared.Session.{Session}

-- 0 for none
abbrev pub session_of : Option Session → ℕ
session_of None = 0
session_of (Some s) = s.0
