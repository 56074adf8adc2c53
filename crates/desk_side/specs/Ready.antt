-- What the parts of a desk's memory are: eight, each for a Request with the longest call.
-- Assumes nothing.
use Rattle.std.specs.Prelude.{◌≡◌, length}
use Rattle.parts.specs.declared.lent.Parts.{Parts}
use Rattle.parts.specs.View.{parts_in, head_of, size_of}

abbrev pub Ready : Parts → Type 0
Ready p = (length (parts_in p) ≡ 8) × (head_of p ≡ 30) × (size_of p ≡ 1048880)
