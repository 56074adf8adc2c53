-- What a call may do.
-- Assumes nothing.
use Rattle.std.specs.Prelude.{Bool, ◌==◌, slice_index}
use Rattle.promise.specs.Bytes.{Bytes}

-- a call that begins with 7, which takes a sheet, may put something into hand
abbrev pub grabs : Bytes → Bool
grabs c = slice_index c 0 == 7
