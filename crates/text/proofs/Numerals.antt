-- How a number is written: its last digit behind the others.
use Rattle.std.proofs.Common.{◌≡◌, ℕ, ◌+◌, ◌/◌, ◌%◌, ◌^◌, ◌<◌, ◌≤◌, [], ◌∷◌, ◌++◌, length, ap, ◌∙◌, arith}
use Rattle.std.proofs.lemmas.Fmt.{decimal_digit, decimal_step, length-decimal-le}
use Rattle.std.proofs.lemmas.List.{length_push}
use Rattle.text.specs.Decimals.{decimal_text}

pub text_digit : (n : ℕ) → n < 10 → decimal_text n ≡ (48 + n) ∷ []
unfolding decimal_text
text_digit n h = decimal_digit n h

-- the same of its last digit
pub text_last : (n : ℕ) → n < 10 → decimal_text n ≡ (48 + n % 10) ∷ []
text_last n h = text_digit n h ∙ ap (λ (d : ℕ). (48 + d) ∷ []) (omega arith)

pub text_step : (n : ℕ) → 10 ≤ n → n < 2 ^ 64 → decimal_text n ≡ decimal_text (n / 10) ++ ((48 + n % 10) ∷ [])
unfolding decimal_text
text_step n l h = decimal_step n l h

pub length_digit : (n : ℕ) → n < 10 → length (decimal_text n) ≡ 1
length_digit n h = ap length (text_digit n h)

pub length_step : (n : ℕ) → 10 ≤ n → n < 2 ^ 64 → length (decimal_text n) ≡ length (decimal_text (n / 10)) + 1
length_step n l h = ap length (text_step n l h) ∙ length_push (decimal_text (n / 10)) (48 + n % 10)

pub length_most : (n : ℕ) → n < 2 ^ 64 → length (decimal_text n) ≤ 20
unfolding decimal_text
length_most n h = length-decimal-le 20 n (omega arith) (omega arith) h
