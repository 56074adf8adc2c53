-- Parts as a list of strings of bytes.
-- Assumes nothing.
use Rattle.std.specs.Prelude.{◌≡◌, ℕ, ◌/◌, ◌<◌, ◌≤◌, List, map, replicate, Ok, Err, vec_items, Result}
use Rattle.parts.specs.declared.lent.PartsError.{PartsError}
use Rattle.parts.specs.declared.lent.PartsError.TheVariants.{TooSmall, NoMemory}
use Rattle.parts.specs.declared.lent.Parts.{Parts}

abbrev pub parts_in : Parts → List (List ℕ)
parts_in p = map vec_items (vec_items p.strings)

-- how long the head of each is
abbrev pub head_of : Parts → ℕ
head_of p = p.head

-- how long one can be, head and body
abbrev pub size_of : Parts → ℕ
size_of p = p.size

-- which parts were made of so many bytes, or why there are none
abbrev pub Begun : (lent count head : ℕ) → Result Parts PartsError → Type 0
Begun lent count head (Ok p) = (parts_in p ≡ replicate count (replicate head 0)) × (p.head ≡ head) × (p.size ≡ lent / count) × (head ≤ lent / count)
Begun lent count head (Err TooSmall) = 0 < count → lent / count < head
Begun lent count head (Err NoMemory) = (0 < count) × (head ≤ lent / count)
