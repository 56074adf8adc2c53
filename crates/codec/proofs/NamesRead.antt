-- Names read one by one.
use Rattle.std.proofs.Common.{◌≡◌, ℕ, suc, ◌+◌, ◌-◌, ◌<◌, false, eqb, List, ◌∷◌, length, Some, None, Option, sym, refl, ap, ◌∙◌, arith}
use Rattle.promise.specs.Bytes.{Bytes, bind, lengthed_in}
use Rattle.promise.specs.Sheets.{Name}
use Rattle.promise.specs.Layout.{names_in}
use Rattle.codec.specs.Answers.{whole, are_names}

pub names_none : (b : Bytes) → are_names 0 b ≡ eqb (length b) 0
unfolding names_in
names_none b = refl

-- a name before them says nothing of whether they are whole
whole_more : (n : Name) (o : Option (List Name × Bytes)) → whole (bind o (λ ns. Some (n ∷ ns.0, ns.1))) ≡ whole o
whole_more n None = refl
whole_more n (Some x) = refl

pub names_more : (k : ℕ) (b n rest : Bytes) → lengthed_in 1 b ≡ Some (n, rest) → are_names (suc k) b ≡ are_names k rest
unfolding names_in
names_more k b n rest e =
    ap (λ o. whole (bind o (λ n. bind (names_in k n.1) (λ ns. Some (n.0 ∷ ns.0, ns.1))))) e ∙ whole_more n (names_in k rest)

pub names_short : (k : ℕ) (b : Bytes) → lengthed_in 1 b ≡ None → are_names (suc k) b ≡ false
unfolding names_in
names_short k b e = ap (λ o. whole (bind o (λ n. bind (names_in k n.1) (λ ns. Some (n.0 ∷ ns.0, ns.1))))) e

-- the steps of a count

pub names_step : (count i : ℕ) (b n rest : Bytes) → i < count → lengthed_in 1 b ≡ Some (n, rest) → are_names (count - (i + 1)) rest ≡ are_names (count - i) b
names_step count i b n rest h e =
    let s : suc (count - (i + 1)) ≡ count - i = omega arith in
    sym (names_more (count - (i + 1)) b n rest e) ∙ ap (λ k. are_names k b) s

pub names_stop : (count i : ℕ) (b : Bytes) → i < count → lengthed_in 1 b ≡ None → false ≡ are_names (count - i) b
names_stop count i b h e =
    let s : suc (count - (i + 1)) ≡ count - i = omega arith in
    sym (names_short (count - (i + 1)) b e) ∙ ap (λ k. are_names k b) s
