-- The lines that house and desks print, each with its end.
-- Assumes nothing.
use Rattle.std.specs.Prelude.{◌≡◌, ℕ, ◌+◌, ◌≤◌, [], ◌∷◌, ◌++◌, codes, Result, is_ok, if◌then◌else◌, nat_le, Vec, vec_items, vec_len, vec_capacity}
use Rattle.promise.specs.Bytes.{Bytes}
use Rattle.text.specs.Decimals.{decimal_text}
use Rattle.text.specs.Hex.{hex_text}
use Rattle.text.specs.Words.{spaced}
use Rattle.text.specs.declared.room.NoRoom.{NoRoom}

-- a text of so many bytes at most stands behind what the buffer held, with no less room than it had
pub record Grows {Z : Type 0} (old new : Vec ℕ Z) (most : ℕ) (text : Bytes) : Type 0 where
  pub items : vec_items new ≡ vec_items old ++ text
  pub len : vec_len new ≤ vec_len old + most
  pub cap : vec_capacity old ≤ vec_capacity new

-- a line stands behind what the buffer held if there was room for so many bytes; else nothing was written
pub record Prints {Z : Type 0} (old new : Vec ℕ Z) (result : Result Unit NoRoom) (room : ℕ) (line : Bytes) : Type 0 where
  pub ok : is_ok result ≡ nat_le (vec_len old + room) (vec_capacity old)
  pub items : vec_items new ≡ (if is_ok result then vec_items old ++ line else vec_items old)
  pub cap : vec_capacity old ≤ vec_capacity new

-- the end of a line
abbrev pub newline : Bytes
newline = 10 ∷ []

-- a message to the house, 0, or to a desk
abbrev pub to_line : ℕ → Bytes → Bytes
to_line j bs = codes "to" ++ (spaced (decimal_text j) ++ (spaced (hex_text bs) ++ newline))

-- a desk's session is over
abbrev pub lapsed_line : ℕ → Bytes
lapsed_line i = codes "lapsed" ++ (spaced (decimal_text i) ++ newline)

abbrev pub sync_text : Bytes → Bytes
sync_text w = codes "sync" ++ (spaced w ++ newline)
