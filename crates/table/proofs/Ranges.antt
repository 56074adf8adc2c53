-- Bytes are below 256.
use Rattle.std.proofs.Common.{◌≡◌, ℕ, suc, true, ltb, List, [], ◌∷◌, get_or, Fits, w8, refl, arith}
use Rattle.std.proofs.lemmas.Bool.{and_from, lt-ltb}
use Rattle.promise.specs.Bytes.{every, all_bytes}

pub all_fit : (bs : List ℕ) → ((i : ℕ) → Fits w8 (get_or bs i 0)) → all_bytes bs ≡ true
unfolding every
all_fit [] f = refl
all_fit (b ∷ bs) f = let h = f 0 in and_from (ltb b 256) (all_bytes bs) (lt-ltb b 256 (omega arith)) (all_fit bs (λ i. f (suc i)))
