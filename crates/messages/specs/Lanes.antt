-- The lanes of the sum, as the code has them.
-- Assumes nothing.
use Rattle.std.specs.Prelude.{◌≡◌, ℕ}
use Rattle.promise.specs.Bytes.{Bytes}
use Rattle.codec.specs.Sum.{word, mixed, lane_to}
use Rattle.messages.specs.declared.sum.Lanes.{Lanes}

-- these are the lanes after so many rounds over b
pub record LanesAt (x : Lanes) (b : Bytes) (rounds : ℕ) : Type 0 where
  pub first : x.first ≡ lane_to b 0 rounds
  pub second : x.second ≡ lane_to b 1 rounds
  pub third : x.third ≡ lane_to b 2 rounds
  pub fourth : x.fourth ≡ lane_to b 3 rounds

-- four words more
pub record MixedIn (x y : Lanes) (block : Bytes) : Type 0 where
  pub first : y.first ≡ mixed x.first (word block 0)
  pub second : y.second ≡ mixed x.second (word block 1)
  pub third : y.third ≡ mixed x.third (word block 2)
  pub fourth : y.fourth ≡ mixed x.fourth (word block 3)
