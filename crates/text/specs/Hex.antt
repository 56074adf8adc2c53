-- Bytes in lowercase hexadecimal, as words; '-' stands for no bytes.
-- Assumes nothing.
use Rattle.std.specs.Prelude.{ℕ, ◌+◌, ◌-◌, ◌*◌, ◌/◌, ◌%◌, cond, ◌&&◌, [], ◌∷◌, length, Some, None, codes, Option, ◌==◌, nat_le, nat_lt}
use Rattle.std.specs.Str.{bytes_eq}
use Rattle.promise.specs.Bytes.{Bytes, bind}

-- '0' to '9', 'a' to 'f'
abbrev pub hex_digit : ℕ → ℕ
hex_digit d = cond (nat_lt d 10) (48 + d) (87 + d)

abbrev pub hex_value : ℕ → Option ℕ
hex_value b = cond (nat_le 48 b && nat_le b 57) (Some (b - 48)) (cond (nat_le 97 b && nat_le b 102) (Some (b - 87)) None)

-- the two digits of a byte
abbrev pub hex_pair : ℕ → Bytes
hex_pair b = hex_digit (b / 16) ∷ hex_digit (b % 16) ∷ []

abbrev pub hex_pairs : Bytes → Bytes
hex_pairs [] = []
hex_pairs (b ∷ bs) = hex_digit (b / 16) ∷ hex_digit (b % 16) ∷ hex_pairs bs

abbrev pub hex_text : Bytes → Bytes
hex_text bs = cond (length bs == 0) (codes "-") (hex_pairs bs)

abbrev pub pair_value : (high low : ℕ) → Option ℕ
pair_value a b = bind (hex_value a) (λ x. bind (hex_value b) (λ y. Some (x * 16 + y)))

unfoldable pub pairs_in : Bytes → Option Bytes
pairs_in [] = Some []
pairs_in (a ∷ []) = None
pairs_in (a ∷ b ∷ w) = bind (pair_value a b) (λ c. bind (pairs_in w) (λ bs. Some (c ∷ bs)))

-- the bytes that a word says
abbrev pub hex_in : Bytes → Option Bytes
hex_in w = cond (bytes_eq w (codes "-")) (Some []) (cond (length w == 0) None (pairs_in w))
