-- Lines of bytes, each ended by a newline, as they come in pieces.
-- Assumes nothing.
use Rattle.std.specs.Prelude.{ℕ, ◌+◌, Bool, true, false, cond, ◌||◌, List, [], ◌++◌, length, take, Some, None, Option, ◌==◌, nat_lt}
use Rattle.std.specs.List.{position_or_len}

-- what stands of a line: its bytes so far, or none of them if it grew too long
pub record Held : Type 0 where
  pub bytes : List ℕ
  pub overlong : Bool

-- a line that is being read, of so many bytes at most
pub record Line : Type 0 where
  pub longest : ℕ
  pub held : Held

abbrev pub nothing : Held
nothing = record { bytes = []; overlong = false }

-- how many bytes stand before the first newline, or all where there is none
abbrev pub line_end : List ℕ → ℕ
line_end = position_or_len (λ b. b == 10)

-- is it too long with so many bytes more
abbrev pub too_long : (longest : ℕ) → Held → ℕ → Bool
too_long longest h n = h.overlong || nat_lt longest (length h.bytes + n)

-- a line with a further piece of it
abbrev pub grown : (longest : ℕ) → Held → List ℕ → Held
grown longest h piece = cond (too_long longest h (length piece)) (record { bytes = []; overlong = true }) (record { bytes = h.bytes ++ piece; overlong = false })

-- what a chunk of input adds to the line, up to its newline
abbrev pub fed : (longest : ℕ) → Held → List ℕ → Held
fed longest h chunk = grown longest h (take (line_end chunk) chunk)

-- how much of the chunk that took, the newline too; None if the line goes on behind it
abbrev pub ended : List ℕ → Option ℕ
ended chunk = cond (nat_lt (line_end chunk) (length chunk)) (Some (line_end chunk + 1)) None

-- the line, unless it grew too long
abbrev pub line_of : Held → Option (List ℕ)
line_of h = cond h.overlong None (Some h.bytes)
