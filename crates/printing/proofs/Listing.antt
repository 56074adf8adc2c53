-- One turn of the loops over names that stand one behind the other, and their ends.
use Rattle.std.proofs.Common.{◌≡◌, ℕ, suc, ◌+◌, ◌-◌, ◌<◌, List, [], ◌∷◌, ◌++◌, length, Some, None, Option, sym, ap, ◌∙◌, arith}
use Rattle.std.proofs.lemmas.Grind.{common_steps}
use Rattle.std.proofs.lemmas.List.{append_assoc, append-nil}
use Rattle.promise.specs.Bytes.{Bytes, number, bind, part_in, number_in, lengthed_in}
use Rattle.text.specs.Names.{name_text}
use Rattle.text.specs.Words.{spaced}
use Rattle.printing.specs.Answers.{before, listed, names_text}

listed_step : (k j : ℕ) (b : Bytes) → k ≡ suc j → listed k b ≡ before (lengthed_in 1 b) (λ r. listed j r)
listed_step k j b e = ap (λ (i : ℕ). listed i b) e

pub listed_more : (count there : ℕ) (b : Bytes) (n : Bytes × Bytes) → there < count → Some n ≡ lengthed_in 1 b → listed (count - there) b ≡ n.0 ∷ listed (count - (there + 1)) n.1
listed_more count there b n h e =
    let k : count - there ≡ suc (count - (there + 1)) = omega arith in
    listed_step (count - there) (count - (there + 1)) b k ∙ ap (λ (o : Option (Bytes × Bytes)). before o (λ r. listed (count - (there + 1)) r)) (sym e)

pub listed_stops : (count there : ℕ) (b : Bytes) → there < count → None ≡ lengthed_in 1 b → listed (count - there) b ≡ []
listed_stops count there b h e =
    let k : count - there ≡ suc (count - (there + 1)) = omega arith in
    listed_step (count - there) (count - (there + 1)) b k ∙ ap (λ (o : Option (Bytes × Bytes)). before o (λ r. listed (count - (there + 1)) r)) (sym e)

pub listed_none : (count there : ℕ) (b : Bytes) → count ≡ there → listed (count - there) b ≡ []
listed_none count there b e = let k : count - there ≡ 0 = omega arith in ap (λ (i : ℕ). listed i b) k

part_length : (size : ℕ) (b : Bytes) (n : Bytes × Bytes) → Some n ≡ part_in size b → length n.0 + length n.1 ≡ length b
part_length size b n e = grind (arith, common_steps)

-- a name, the rest and the byte before them are all there was
pub head_length : (b : Bytes) (n : Bytes × Bytes) → Some n ≡ lengthed_in 1 b → length n.0 + length n.1 + 1 ≡ length b
head_length [] n e = grind (arith, common_steps)
head_length (x ∷ xs) n e =
    let first : number_in 1 (x ∷ xs) ≡ Some (number (x ∷ []), xs) = grind (arith, common_steps) in
    let p : length n.0 + length n.1 ≡ length xs = part_length (number (x ∷ [])) xs n (e ∙ ap (λ (o : Option (ℕ × Bytes)). bind o (λ y. part_in y.0 y.1)) first) in
    omega arith

-- what was written, and what is still to be written behind it
pub names_more : (out out' all b : Bytes) (count there : ℕ) (n : Bytes × Bytes) → there < count → Some n ≡ lengthed_in 1 b → out ++ names_text (listed (count - there) b) ≡ all →
    out' ≡ out ++ spaced (name_text n.0) → out' ++ names_text (listed (count - (there + 1)) n.1) ≡ all
names_more out out' all b count there n h q e o =
    ap (λ (x : Bytes). x ++ names_text (listed (count - (there + 1)) n.1)) o ∙ (append_assoc out (spaced (name_text n.0)) (names_text (listed (count - (there + 1)) n.1))
    ∙ (sym (ap (λ (x : List Bytes). out ++ names_text x) (listed_more count there b n h q)) ∙ e))

-- no name is there any more
pub names_end : (out all b : Bytes) (count there : ℕ) → there < count → None ≡ lengthed_in 1 b → out ++ names_text (listed (count - there) b) ≡ all → out ≡ all
names_end out all b count there h q e = sym (append-nil out) ∙ (sym (ap (λ (x : List Bytes). out ++ names_text x) (listed_stops count there b h q)) ∙ e)
