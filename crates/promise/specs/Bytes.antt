-- Bytes, and numbers written in bytes, the highest first.
-- Assumes nothing.
use Rattle.std.specs.Prelude.{ℕ, zero, suc, ◌+◌, ◌*◌, ◌/◌, ◌%◌, Bool, true, cond, ◌&&◌, ltb, List, [], ◌∷◌, ◌++◌, length, take, drop, Some, None, Option, ◌==◌, nat_lt}

abbrev pub Bytes : Type 0
Bytes = List ℕ

unfoldable pub every : {A : Type 0} → (A → Bool) → List A → Bool
every f [] = true
every f (x ∷ xs) = f x && every f xs

-- each is below 256
abbrev pub all_bytes : Bytes → Bool
all_bytes bs = every (λ (b : ℕ). ltb b 256) bs

-- a number in so many bytes
unfoldable pub be : (width : ℕ) → ℕ → Bytes
be zero n = []
be (suc w) n = be w (n / 256) ++ (n % 256 ∷ [])

-- the number that bytes say, behind what was read of it so far
unfoldable pub number_from : ℕ → Bytes → ℕ
number_from n [] = n
number_from n (b ∷ bs) = number_from (n * 256 + b) bs

abbrev pub number : Bytes → ℕ
number bs = number_from 0 bs

-- READERS: what stands at the beginning, and the rest; None where bytes are missing

abbrev pub bind : {A B : Type 0} → Option A → (A → Option B) → Option B
bind None f = None
bind (Some x) f = f x

abbrev pub part_in : (size : ℕ) → Bytes → Option (Bytes × Bytes)
part_in n b = cond (nat_lt (length b) n) None (Some (take n b, drop n b))

abbrev pub number_in : (width : ℕ) → Bytes → Option (ℕ × Bytes)
number_in w b = cond (nat_lt (length b) w) None (Some (number (take w b), drop w b))

-- a length in so many bytes, and then so many bytes
abbrev pub lengthed_in : (width : ℕ) → Bytes → Option (Bytes × Bytes)
lengthed_in w b = bind (number_in w b) (λ x. part_in x.0 x.1)

-- a value, if nothing follows it
abbrev pub ended : {A : Type 0} → A → Bytes → Option A
ended x b = cond (length b == 0) (Some x) None
