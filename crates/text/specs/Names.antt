-- Names of sheets as words: the bytes 0x21 to 0x7e except '%' stand for themselves, every other byte is '%' and two digits; '%' alone is the empty name.
-- Assumes nothing.
use Rattle.std.specs.Prelude.{ℕ, zero, suc, ◌/◌, ◌%◌, Bool, cond, not, ◌&&◌, [], ◌∷◌, ◌++◌, length, Some, None, codes, Option, ◌==◌, nat_le}
use Rattle.std.specs.Borrow.{Bor}
use Rattle.std.specs.Str.{bytes_eq}
use Rattle.promise.specs.Bytes.{Bytes, bind}
use Rattle.text.specs.Hex.{hex_digit, pair_value}

abbrev pub is_plain : ℕ → Bool
is_plain b = nat_le 33 b && nat_le b 126 && not (b == 37)

abbrev pub numbered : ℕ → Bytes
numbered b = 37 ∷ hex_digit (b / 16) ∷ hex_digit (b % 16) ∷ []

abbrev pub escape : ℕ → Bytes
escape b = cond (is_plain b) (b ∷ []) (numbered b)

abbrev pub escaped : Bytes → Bytes
escaped [] = []
escaped (b ∷ bs) = escape b ++ escaped bs

abbrev pub name_text : Bytes → Bytes
name_text n = cond (length n == 0) (codes "%") (escaped n)

-- READING, byte by byte

-- the byte that two digits say; one that stands for itself is not written by its number
abbrev pub number_in : (high low : ℕ) → Option ℕ
number_in h l = bind (pair_value h l) (λ b. cond (is_plain b) None (Some b))

-- the byte that two digits say, and what is left behind them
abbrev pub numbered_in : Bytes → Option (ℕ × Bytes)
numbered_in [] = None
numbered_in (h ∷ []) = None
numbered_in (h ∷ l ∷ w) = bind (number_in h l) (λ b. Some (b, w))

-- the first byte of a name, and what is left of its word
abbrev pub byte_in : Bytes → Option (ℕ × Bytes)
byte_in [] = None
byte_in (b ∷ w) = cond (is_plain b) (Some (b, w)) (cond (b == 37) (numbered_in w) None)

-- so many bytes at most
unfoldable pub name_from : (room : ℕ) → Bytes → Option Bytes
name_from zero w = cond (length w == 0) (Some []) None
name_from (suc room) w = cond (length w == 0) (Some []) (bind (byte_in w) (λ x. bind (name_from room x.1) (λ n. Some (x.0 ∷ n))))

-- the name that a word says, if it has at most 255 bytes
abbrev pub name_in : Bytes → Option Bytes
name_in w = cond (bytes_eq w (codes "%")) (Some []) (cond (length w == 0) None (name_from 255 w))

-- VIEWS

abbrev pub byte_and_rest : ℕ × Bor Bytes → ℕ × Bytes
byte_and_rest x = (x.0, x.1.now)
