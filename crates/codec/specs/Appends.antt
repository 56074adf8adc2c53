-- What a writer does to bytes whose room is reserved.
-- Assumes nothing.
use Rattle.std.specs.Prelude.{◌≡◌, ℕ, ◌+◌, ◌++◌, Result, is_ok, if◌then◌else◌}
use Rattle.std.specs.Vec.{vec_items, vec_len, vec_capacity}
use Rattle.std.specs.declared.vec.Vec.{Vec}
use Rattle.promise.specs.Bytes.{Bytes}

-- so many more bytes stand behind what was there, and nothing was reserved for them
pub record Appends {Z : Type 0} (old new : Vec ℕ Z) (size : ℕ) (more : Bytes) : Type 0 where
  pub items : vec_items new ≡ vec_items old ++ more
  pub len : vec_len new ≡ vec_len old + size
  pub capacity : vec_capacity new ≡ vec_capacity old

-- they stand there if they fit, and else all stays as it was; nothing is reserved either way
pub record AppendsOrKeeps {X E Z : Type 0} (result : Result X E) (old new : Vec ℕ Z) (size : ℕ) (more : Bytes) : Type 0 where
  pub items : vec_items new ≡ (if is_ok result then vec_items old ++ more else vec_items old)
  pub len : vec_len new ≡ (if is_ok result then vec_len old + size else vec_len old)
  pub capacity : vec_capacity new ≡ vec_capacity old
