-- The laws of reading and writing words: what was read is written as it stood, and what is written is read again.
-- Assumes nothing.
use Rattle.std.specs.Prelude.{◌≡◌, ℕ, ◌≤◌, true, length, Some, Option}
use Rattle.promise.specs.Bytes.{Bytes, all_bytes}
use Rattle.text.specs.Decimals.{decimal_in, decimal_text}
use Rattle.text.specs.Hex.{hex_in, hex_text}
use Rattle.text.specs.Names.{name_in, name_text}

abbrev pub WrittenBack : {A : Type 0} → (Bytes → Option A) → (A → Bytes) → Bytes → Type 0
WrittenBack {A} read text w = (x : A) → read w ≡ Some x → text x ≡ w

abbrev pub DecimalAgain : ℕ → Type 0
DecimalAgain n = (most : ℕ) → n ≤ most → decimal_in most (decimal_text n) ≡ Some n

abbrev pub HexAgain : Bytes → Type 0
HexAgain bs = all_bytes bs ≡ true → hex_in (hex_text bs) ≡ Some bs

abbrev pub NameAgain : Bytes → Type 0
NameAgain n = all_bytes n ≡ true → length n ≤ 255 → name_in (name_text n) ≡ Some n
