-- One turn of the loop that reads pairs: what is left of the word says what the whole word says.
use Rattle.std.proofs.Common.{◌≡◌, ℕ, ◌≤◌, [], ◌∷◌, ◌++◌, length, get_or, take, drop, ◌-◌, Some, None, Option, sym, refl, ap, ◌∙◌, arith}
use Rattle.std.proofs.lemmas.List.{append_assoc, take_all}
use Rattle.promise.specs.Bytes.{Bytes, bind}
use Rattle.text.specs.Hex.{pair_value, pairs_in}
use Rattle.text.specs.Readings.{ahead}

pub pairs_more : (out : Bytes) (v : Option Bytes) (x : ℕ) (w : Bytes) → 2 ≤ length w → pair_value (get_or w 0 0) (get_or w 1 0) ≡ Some x → ahead out (pairs_in w) ≡ v →
    ahead (out ++ (x ∷ [])) (pairs_in (take (length w - 2) (drop 2 w))) ≡ v
unfolding pairs_in
pairs_more out v x [] h p e = absurd (omega arith)
pairs_more out v x (a ∷ []) h p e = absurd (omega arith)
pairs_more out v x (a ∷ b ∷ w) h p e =
    ap (λ (t : Bytes). ahead (out ++ (x ∷ [])) (pairs_in t)) (take_all (length (a ∷ b ∷ w) - 2) w (omega arith))
    ∙ (go (pairs_in w) ∙ (sym (ap (λ (o : Option ℕ). ahead out (bind o (λ c. bind (pairs_in w) (λ bs. Some (c ∷ bs))))) p) ∙ e))
  where
    go : (o : Option Bytes) → ahead (out ++ (x ∷ [])) o ≡ ahead out (bind o (λ bs. Some (x ∷ bs)))
    go None = refl
    go (Some bs) = ap Some (append_assoc out (x ∷ []) bs)
