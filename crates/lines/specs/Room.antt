-- Whether the buffers have room for what a line can say.
-- Assumes nothing.
use Rattle.std.specs.Prelude.{ℕ, ◌≤◌, vec_capacity}
use Rattle.lines.specs.declared.shape.Scratch.{Scratch}

-- the room for bytes; the type says that for names
abbrev pub room : Scratch → ℕ
room s = vec_capacity s.bytes

-- as many bytes as the line has
abbrev pub Roomy : Scratch → (size : ℕ) → Type 0
Roomy s size = size ≤ room s
