-- How long pairs and names are that are written.
use Rattle.std.proofs.Common.{◌≡◌, ℕ, ◌*◌, ◌≤◌, [], ◌∷◌, length, length-append, refl, arith}
use Rattle.promise.specs.Bytes.{Bytes}
use Rattle.text.specs.Hex.{hex_pairs}
use Rattle.text.specs.Names.{escape, escaped}

pub length_pairs : (bs : Bytes) → length (hex_pairs bs) ≡ 2 * length bs
length_pairs [] = refl
length_pairs (b ∷ bs) = let e = length_pairs bs in omega arith

length_escape : (b : ℕ) → length (escape b) ≤ 3
length_escape b = grind arith

pub length_escaped : (bs : Bytes) → length (escaped bs) ≤ 3 * length bs
length_escaped [] = omega arith
length_escaped (b ∷ bs) = omega (arith, length_escaped bs, length_escape b, length-append (escape b) (escaped bs))
