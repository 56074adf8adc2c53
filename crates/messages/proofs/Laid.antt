-- Messages laid out from the last field to the first: what a program that did so knows.
use Rattle.std.proofs.Common.{◌≡◌, ℕ, ◌+◌, ◌-◌, ◌≤◌, ◌∷◌, ◌++◌, length, take, drop, sym, ap, ◌∙◌, arith}
use Rattle.std.proofs.lemmas.List.{length-drop, take_rest}
use Rattle.promise.specs.Bytes.{Bytes, be}
use Rattle.codec.specs.Sum.{sum_of}
use Rattle.codec.specs.Messages.{lengthed, summed}

pub front : (p0 p1 p2 p3 : Bytes) (kind size h : ℕ) → 13 ≤ length p0 → size ≡ length p0 → drop 12 p1 ≡ kind ∷ drop 13 p0 → drop 8 p2 ≡ be 4 size ++ drop 12 p1 →
    h ≡ sum_of (take (length p2 - 8) (drop 8 p2)) → p3 ≡ be 8 h ++ drop 8 p2 → p3 ≡ summed (lengthed (kind ∷ drop 13 p0))
front p0 p1 p2 p3 kind size h le es e1 e2 eh e3 =
    let n : 12 + length (kind ∷ drop 13 p0) ≡ size = omega (arith, length-drop 13 p0) in
    let l : lengthed (kind ∷ drop 13 p0) ≡ drop 8 p2 = ap (λ k. be 4 k ++ (kind ∷ drop 13 p0)) n ∙ ap (λ x. be 4 size ++ x) (sym e1) ∙ sym e2 in
    e3 ∙ ap (λ k. be 8 k ++ drop 8 p2) (eh ∙ ap sum_of (take_rest p2 8)) ∙ ap summed (sym l)
