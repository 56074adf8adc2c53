-- One turn of the loop that reads a name, and its end.
use Rattle.std.proofs.Common.{◌≡◌, ℕ, zero, suc, ◌+◌, ◌<◌, Bool, cond, [], ◌∷◌, ◌++◌, length, Some, None, Option, sym, refl, ap, ◌∙◌, arith, ne_eqb}
use Rattle.std.proofs.lemmas.List.{append_assoc, append-nil}
use Rattle.promise.specs.Bytes.{Bytes, bind}
use Rattle.text.specs.Names.{byte_in, name_from}
use Rattle.text.specs.Readings.{ahead}

-- a name that goes on, and whose room ends or doesn't
more : (room : ℕ) (w : Bytes) → 0 < length w → name_from (suc room) w ≡ bind (byte_in w) (λ x. bind (name_from room x.1) (λ n. Some (x.0 ∷ n)))
unfolding name_from
more room w h = ap (λ (t : Bool). cond t (Some []) (bind (byte_in w) (λ x. bind (name_from room x.1) (λ n. Some (x.0 ∷ n))))) (ne_eqb (length w) 0 (λ q. omega arith))

pub name_full : (out : Bytes) (v : Option Bytes) (room : ℕ) (w : Bytes) → 0 < length w → room ≡ 0 → ahead out (name_from room w) ≡ v → None ≡ v
unfolding name_from
name_full out v room w h z e =
    sym (ap (λ (t : Bool). ahead out (cond t (Some []) None)) (ne_eqb (length w) 0 (λ q. omega arith))) ∙ (sym (ap (λ (r : ℕ). ahead out (name_from r w)) z) ∙ e)

pub name_none : (out : Bytes) (v : Option Bytes) (room : ℕ) (w : Bytes) → 0 < length w → byte_in w ≡ None → ahead out (name_from room w) ≡ v → None ≡ v
name_none out v zero w h p e = name_full out v zero w h refl e
name_none out v (suc room) w h p e = sym (ap (λ (o : Option (ℕ × Bytes)). ahead out (bind o (λ x. bind (name_from room x.1) (λ n. Some (x.0 ∷ n))))) p) ∙ (sym (ap (ahead out) (more room w h)) ∙ e)

pub name_more : (out out' : Bytes) (v : Option Bytes) (room r b : ℕ) (w tail : Bytes) → ahead out (name_from room w) ≡ v → 0 < length w → byte_in w ≡ Some (b, tail) →
    out' ≡ out ++ (b ∷ []) → r + 1 ≡ room → ahead out' (name_from r tail) ≡ v
name_more out out' v zero r b w tail e h p s q = absurd (omega arith)
name_more out out' v (suc room) r b w tail e h p s q =
    ap (λ (k : ℕ). ahead out' (name_from k tail)) (omega arith) ∙ (ap (λ (o : Bytes). ahead o (name_from room tail)) s
    ∙ (go (name_from room tail) ∙ (sym (ap (λ (o : Option (ℕ × Bytes)). ahead out (bind o (λ x. bind (name_from room x.1) (λ n. Some (x.0 ∷ n))))) p) ∙ (sym (ap (ahead out) (more room w h)) ∙ e))))
  where
    go : (o : Option Bytes) → ahead (out ++ (b ∷ [])) o ≡ ahead out (bind o (λ n. Some (b ∷ n)))
    go None = refl
    go (Some n) = ap Some (append_assoc out (b ∷ []) n)

pub name_ends : (out : Bytes) (v : Option Bytes) (room : ℕ) (w : Bytes) → length w ≡ 0 → ahead out (name_from room w) ≡ v → Some out ≡ v
unfolding name_from
name_ends out v zero [] h e = ap Some (sym (append-nil out)) ∙ e
name_ends out v (suc room) [] h e = ap Some (sym (append-nil out)) ∙ e
name_ends out v room (b ∷ w) h e = absurd (omega arith)
