-- Which numbers are those of desks.
-- Assumes nothing.
use Rattle.std.specs.Prelude.{ℕ, Bool, ◌&&◌, nat_lt}
use Rattle.asking.specs.House.{places}

abbrev pub is_desk : ℕ → Bool
is_desk i = nat_lt 0 i && nat_lt i places
