-- The log compacted: pieces lie one behind the other, and stand for the same sheets.
-- Assumes nothing.
use Rattle.std.specs.Prelude.{◌≡◌, ℕ, ◌+◌, ◌*◌, ◌<◌, ◌≤◌, true, List, length, get_or}
use Rattle.promise.specs.Bytes.{every}
use Rattle.promise.specs.Sheets.{weight}
use Rattle.table.specs.declared.heads.Head.{Head}
use Rattle.table.specs.View.{sheets_of, below, apart, blank_head}

-- where each piece begins, with the index of its head, in the order of the log
pub record Ordered (hs : List Head) (ps : List (ℕ × ℕ)) : Type 0 where
  pub right : (q : ℕ) → q < length ps → ((get_or ps q (0, 0)).1 < length hs) × ((get_or ps q (0, 0)).0 ≡ (get_or hs (get_or ps q (0, 0)).1 blank_head).at)
  pub whole : (j : ℕ) → j < length hs → (q : ℕ) × (q < length ps) × ((get_or ps q (0, 0)).1 ≡ j)
  pub rises : (q r : ℕ) → q ≤ r → r < length ps → (get_or ps q (0, 0)).0 ≤ (get_or ps r (0, 0)).0

-- the same sheets below `used`, which is less than they weigh
pub record Packed (m : List ℕ) (hs : List Head) (m' : List ℕ) (hs' : List Head) (used : ℕ) : Type 0 where
  pub long : length m' ≡ length m
  pub same : sheets_of m' hs' ≡ sheets_of m hs
  pub within : used ≤ length m
  pub inside : every (below used) hs' ≡ true
  pub pieces : apart hs' ≡ true
  pub small : used + 257 * length hs ≤ weight (sheets_of m hs)

-- the same sheets in a log that ends behind them, and is less than they weigh
pub record Compacted (m : List ℕ) (hs : List Head) (m' : List ℕ) (hs' : List Head) : Type 0 where
  pub same : sheets_of m' hs' ≡ sheets_of m hs
  pub inside : every (below (length m')) hs' ≡ true
  pub pieces : apart hs' ≡ true
  pub small : length m' + 257 * length hs ≤ weight (sheets_of m hs)
