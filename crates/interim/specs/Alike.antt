-- What house and desks do alike at what a line says.
-- Assumes nothing.
use Rattle.std.specs.Prelude.{ℕ, max}
use Rattle.lines.specs.Events.{Event, Clock}

-- what a clock shows after a line: only a line that sets it moves it, and never back
abbrev pub shown_after : Event → ℕ → ℕ
shown_after (Clock t) n = max n t
shown_after _ n = n
