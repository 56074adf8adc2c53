-- The sum that stands in every message. It is quick to take, and changes whenever one word of 8 bytes does.
-- Assumes nothing.
use Rattle.std.specs.Prelude.{ℕ, zero, suc, ◌+◌, ◌*◌, ◌/◌, ◌%◌, ◌^◌, ◌++◌, length, take, drop, replicate, bit_xor}
use Rattle.promise.specs.Bytes.{Bytes, number}

-- the k-th word of 8 bytes, with zeros where bytes are missing
unfoldable pub word : Bytes → ℕ → ℕ
word b k = number (take 8 (drop (8 * k) b ++ replicate 8 0))

-- w xor its own upper half
abbrev pub folded : ℕ → ℕ
folded w = bit_xor w (w / 2 ^ 32)

abbrev pub mixed : (h word : ℕ) → ℕ
mixed h w = bit_xor h (folded w) * 0x9E37_79B9_7F4A_7C15 % 2 ^ 64

-- Four lanes, so that a processor can take in four words at a time: the first has the words 0, 4, 8, .., the second 1, 5, 9, ..
unfoldable pub lane_to : Bytes → (lane rounds : ℕ) → ℕ
lane_to b l zero = 0xCBF2_9CE4_8422_2325 + l
lane_to b l (suc k) = mixed (lane_to b l k) (word b (4 * k + l))

abbrev pub joined : (h0 h1 h2 h3 : ℕ) → ℕ
joined h0 h1 h2 h3 = mixed (mixed (mixed (mixed 0 h0) h1) h2) h3

unfoldable pub sum_to : Bytes → (rounds : ℕ) → ℕ
sum_to b n = joined (lane_to b 0 n) (lane_to b 1 n) (lane_to b 2 n) (lane_to b 3 n)

unfoldable pub sum_of : Bytes → ℕ
sum_of b = sum_to b ((length b + 31) / 32)
