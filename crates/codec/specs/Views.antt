-- What readers hand out, without the references.
-- Assumes nothing.
use Rattle.std.specs.Prelude.{ℕ}
use Rattle.std.specs.Borrow.{Bor}
use Rattle.promise.specs.Bytes.{Bytes}

-- a number of some type, and the rest of the bytes
abbrev pub numbered : {T : Type 0} → (T → ℕ) → T × Bor Bytes → ℕ × Bytes
numbered value x = (value x.0, x.1.now)

-- a part, and the rest of the bytes
abbrev pub parted : Bor Bytes × Bor Bytes → Bytes × Bytes
parted x = (x.0.now, x.1.now)
