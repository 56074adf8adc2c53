-- Numbers of any width in bytes, the highest byte first.
use Rattle.std.proofs.Common.{◌≡◌, ℕ, zero, suc, ◌+◌, ◌*◌, ◌/◌, ◌%◌, ◌<◌, ◌≤◌, [], ◌∷◌, length, get_or, take, sym, refl, ap, ◌∙◌, mod-eq_of_lt, add-one, arith}
use Rattle.std.specs.Int.Digits as d
use Rattle.std.proofs.lemmas.Int.Digits.{number_more}
use Rattle.std.proofs.lemmas.List.{length_push, take_all}
use Rattle.promise.specs.Bytes.{Bytes, number_from, number, be}

pub number_from_is : (n : ℕ) (b : Bytes) → number_from n b ≡ d.number_from_digits_after 256 n b
unfolding number_from
number_from_is n [] = refl
number_from_is n (x ∷ b) = number_from_is (n * 256 + x) b

-- one byte more
pub number_take_more : (b : Bytes) (i : ℕ) → i < length b → number (take (i + 1) b) ≡ number (take i b) * 256 + get_or b i 0
number_take_more b i h =
    number_from_is 0 (take (i + 1) b) ∙ number_more 256 b i h ∙ ap (λ n. n * 256 + get_or b i 0) (sym (number_from_is 0 (take i b)))

pub number_take_none : (b : Bytes) → number (take 0 b) ≡ 0
unfolding number_from
number_take_none b = refl

pub number_1 : (b : Bytes) → 1 ≤ length b → number (take 1 b) ≡ get_or b 0 0
number_1 b h = omega (arith, number_take_none b, number_take_more b 0 (omega arith))

pub number_2 : (b : Bytes) → 2 ≤ length b → number (take 2 b) ≡ get_or b 0 0 * 256 + get_or b 1 0
number_2 b h = omega (arith, number_1 b (omega arith), number_take_more b 1 (omega arith))

pub number_4 : (b : Bytes) → 4 ≤ length b → number (take 4 b) ≡ get_or b 0 0 * 16777216 + get_or b 1 0 * 65536 + get_or b 2 0 * 256 + get_or b 3 0
number_4 b h = omega (arith, number_2 b (omega arith), number_take_more b 2 (omega arith), number_take_more b 3 (omega arith))

pub number_8 : (b : Bytes) → 8 ≤ length b →
    number (take 8 b) ≡ get_or b 0 0 * 72057594037927936 + get_or b 1 0 * 281474976710656 + get_or b 2 0 * 1099511627776 + get_or b 3 0 * 4294967296
    + get_or b 4 0 * 16777216 + get_or b 5 0 * 65536 + get_or b 6 0 * 256 + get_or b 7 0
number_8 b h =
    omega (
      arith,
      number_4 b (omega arith),
      number_take_more b 4 (omega arith),
      number_take_more b 5 (omega arith),
      number_take_more b 6 (omega arith),
      number_take_more b 7 (omega arith),
    )

-- of just so many bytes

whole : (w : ℕ) (b : Bytes) → length b ≡ w → number b ≡ number (take w b)
whole w b e = ap number (sym (take_all w b (omega arith)))

pub whole_1 : (b : Bytes) → length b ≡ 1 → number b ≡ get_or b 0 0
whole_1 b e = whole 1 b e ∙ number_1 b (omega arith)

pub whole_2 : (b : Bytes) → length b ≡ 2 → number b ≡ get_or b 0 0 * 256 + get_or b 1 0
whole_2 b e = whole 2 b e ∙ number_2 b (omega arith)

pub whole_4 : (b : Bytes) → length b ≡ 4 → number b ≡ get_or b 0 0 * 16777216 + get_or b 1 0 * 65536 + get_or b 2 0 * 256 + get_or b 3 0
whole_4 b e = whole 4 b e ∙ number_4 b (omega arith)

pub whole_8 : (b : Bytes) → length b ≡ 8 →
    number b ≡ get_or b 0 0 * 72057594037927936 + get_or b 1 0 * 281474976710656 + get_or b 2 0 * 1099511627776 + get_or b 3 0 * 4294967296
    + get_or b 4 0 * 16777216 + get_or b 5 0 * 65536 + get_or b 6 0 * 256 + get_or b 7 0
whole_8 b e = whole 8 b e ∙ number_8 b (omega arith)

-- WRITTEN

pub length_be : (w n : ℕ) → length (be w n) ≡ w
unfolding be
length_be zero n = refl
length_be (suc w) n = length_push (be w (n / 256)) (n % 256) ∙ ap (λ k. k + 1) (length_be w (n / 256)) ∙ add-one w

pub be_1 : (n : ℕ) → n < 256 → be 1 n ≡ n ∷ []
unfolding be
be_1 n h = ap (λ k. k ∷ []) (mod-eq_of_lt h)

pub be_2 : (n : ℕ) → be 2 n ≡ (n / 256 % 256) ∷ (n % 256) ∷ []
unfolding be
be_2 n = refl

pub be_4 : (n : ℕ) → be 4 n ≡ (n / 16777216 % 256) ∷ (n / 65536 % 256) ∷ (n / 256 % 256) ∷ (n % 256) ∷ []
unfolding be
be_4 n =
    let a : n / 256 / 256 / 256 ≡ n / 16777216 = omega arith in
    let b : n / 256 / 256 ≡ n / 65536 = omega arith in
    cc

pub be_8 : (n : ℕ) → be 8 n ≡ (n / 72057594037927936 % 256) ∷ (n / 281474976710656 % 256) ∷ (n / 1099511627776 % 256) ∷ (n / 4294967296 % 256)
    ∷ (n / 16777216 % 256) ∷ (n / 65536 % 256) ∷ (n / 256 % 256) ∷ (n % 256) ∷ []
unfolding be
be_8 n =
    let a : n / 256 / 256 ≡ n / 65536 = omega arith in
    let b : n / 256 / 256 / 256 ≡ n / 16777216 = omega arith in
    let c : n / 256 / 256 / 256 / 256 ≡ n / 4294967296 = omega arith in
    let d : n / 256 / 256 / 256 / 256 / 256 ≡ n / 1099511627776 = omega arith in
    let e : n / 256 / 256 / 256 / 256 / 256 / 256 ≡ n / 281474976710656 = omega arith in
    let f : n / 256 / 256 / 256 / 256 / 256 / 256 / 256 ≡ n / 72057594037927936 = omega arith in
    cc

-- numbers laid out by the library are laid out so
pub ruleset laid_out = (whole_1, whole_2, whole_4, whole_8, be_1, be_2, be_4, be_8)
