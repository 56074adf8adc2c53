-- Words, with one space between them.
-- Assumes nothing.
use Rattle.std.specs.Prelude.{ℕ, suc, cond, [], ◌∷◌, take, drop, Some, None, Option, ◌==◌, slice_index}
use Rattle.std.specs.Borrow.{Bor}
use Rattle.promise.specs.Bytes.{Bytes, bind}

abbrev pub both : Bor Bytes × Bor Bytes → Bytes × Bytes
both x = (x.0.now, x.1.now)

-- how many bytes stand before the first space
abbrev pub word_len : Bytes → ℕ
word_len [] = 0
word_len (b ∷ bs) = cond (b == 32) 0 (suc (word_len bs))

-- the word at the beginning, and the rest; an empty word is none
abbrev pub first_in : Bytes → Option (Bytes × Bytes)
first_in b = cond (word_len b == 0) None (Some (take (word_len b) b, drop (word_len b) b))

-- the word behind a space, and the rest
abbrev pub word_in : Bytes → Option (Bytes × Bytes)
word_in b = cond (slice_index b 0 == 32) (first_in (drop 1 b)) None

-- what a reader gives of the word behind a space, and the rest
abbrev pub word_as : {A : Type 0} → (Bytes → Option A) → Bytes → Option (A × Bytes)
word_as read b = bind (word_in b) (λ w. bind (read w.0) (λ x. Some (x, w.1)))

-- a word behind a space
abbrev pub spaced : Bytes → Bytes
spaced w = 32 ∷ w
