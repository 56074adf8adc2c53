-- A frame without the references.
-- Assumes nothing.
use Rattle.std.specs.Prelude.{ℕ}
use Rattle.std.specs.Borrow.{Bor}
use Rattle.promise.specs.Bytes.{Bytes}
use Rattle.codec.specs.declared.frame.Frame.{Frame}

abbrev pub frame_of : Frame × Bor Bytes → ℕ × Bytes × Bytes
frame_of x = (x.0.number.0, x.0.bytes.now, x.1.now)
