-- Who has lapsed at a tick, and what is left of the table then.
-- Assumes nothing.
use Rattle.std.specs.Prelude.{ℕ, zero, suc, ◌+◌, cond, List, [], ◌∷◌}
use Rattle.promise.specs.Machine.{Machine}
use Rattle.promise.specs.Sheets.{State}
use Rattle.ids.specs.declared.DeskId.{DeskId}
use Rattle.asking.specs.House.{House, is_silent}
use Rattle.house_side.specs.Tables.{leaves}

abbrev pub number : DeskId → ℕ
number d = d.0

-- the silent ones of so many desks from desk i on
unfoldable pub silent_from : {m : Machine} → (clock : ℕ) → House m → (i count : ℕ) → List ℕ
silent_from t h i zero = []
silent_from t h i (suc n) = cond (is_silent t h i) (i ∷ silent_from t h (i + 1) n) (silent_from t h (i + 1) n)

-- their hands are emptied, the last one's first
unfoldable pub emptied : List ℕ → State → State
emptied [] s = s
emptied (i ∷ is) s = leaves i (emptied is s)
