-- What a writer leaves that appends to a buffer.
-- Assumes nothing.
use Rattle.std.specs.Prelude.{◌≡◌, ℕ, ◌+◌, ◌≤◌, ◌++◌, length, nat_le, is_ok, if◌then◌else◌, Result, Vec, vec_items, vec_len, vec_capacity}
use Rattle.promise.specs.Bytes.{Bytes}
use Rattle.text.specs.declared.room.NoRoom.{NoRoom}

-- a text stands behind what the buffer held, in the room that it had
pub record Appends {Z : Type 0} (old new : Vec ℕ Z) (text : Bytes) : Type 0 where
  pub items : vec_items new ≡ vec_items old ++ text
  pub len : vec_len new ≡ vec_len old + length text
  pub cap : vec_capacity new ≡ vec_capacity old

-- a text stands behind what the buffer held if there was room for so many bytes, as the text has at most; else nothing changed
pub record Writes {Z : Type 0} (old new : Vec ℕ Z) (result : Result Unit NoRoom) (most : ℕ) (text : Bytes) : Type 0 where
  pub ok : is_ok result ≡ nat_le (vec_len old + most) (vec_capacity old)
  pub items : vec_items new ≡ (if is_ok result then vec_items old ++ text else vec_items old)
  pub len : vec_len new ≤ vec_len old + most
  pub cap : vec_capacity new ≡ vec_capacity old
