-- Decimal numbers without leading zeros, as words.
-- Assumes nothing.
use Rattle.std.specs.Prelude.{ℕ, ◌+◌, ◌-◌, ◌*◌, Bool, cond, ◌&&◌, ◌||◌, [], ◌∷◌, length, Some, None, decimal, Option, ◌==◌, nat_le, nat_lt, slice_index}
use Rattle.std.specs.Borrow.{Bor}
use Rattle.promise.specs.Bytes.{Bytes, bind}
use Rattle.text.specs.Words.{word_as}

-- '0' to '9'
abbrev pub is_digit : ℕ → Bool
is_digit b = nat_le 48 b && nat_le b 57

-- the number after one more digit, if it is at most so much
abbrev pub digit_after : (most n b : ℕ) → Option ℕ
digit_after most n b = cond (is_digit b && nat_le (n * 10 + (b - 48)) most) (Some (n * 10 + (b - 48))) None

abbrev pub decimal_from : (most n : ℕ) → Bytes → Option ℕ
decimal_from most n [] = Some n
decimal_from most n (b ∷ bs) = bind (digit_after most n b) (λ m. decimal_from most m bs)

-- no word, and a zero before other digits, are no number
abbrev pub decimal_in : (most : ℕ) → Bytes → Option ℕ
decimal_in most w = cond (length w == 0 || (nat_lt 1 (length w) && slice_index w 0 == 48)) None (decimal_from most 0 w)

-- a number of at most so much behind a space, and the rest
abbrev pub number_word : (most : ℕ) → Bytes → Option (ℕ × Bytes)
number_word most b = word_as (decimal_in most) b

abbrev pub number_and_rest : ℕ × Bor Bytes → ℕ × Bytes
number_and_rest x = (x.0, x.1.now)

-- what a number is written as, the same that `{n}` writes
unfoldable pub decimal_text : ℕ → Bytes
decimal_text n = decimal n
