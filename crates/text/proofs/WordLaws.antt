-- Words behind single spaces: what was split is joined as it stood, and words that are joined are split again.
use Rattle.std.specs.List.{position, position_or_len}
use Rattle.std.specs.Option.{unwrap_or}
use Rattle.std.proofs.lemmas.List.Sums.{prefix_len-le-length}
use Rattle.std.proofs.lemmas.List.Recursion.{is_position_or_len}
use Rattle.std.proofs.Common.{◌≡◌, ◌==◌, not, length, ℕ, Bool, true, false, cond, eqb, [], ◌∷◌, ◌++◌, take, drop, Some, None, Option, sym, refl, ap, ◌∙◌, arith, eqb-true}
use Rattle.std.proofs.lemmas.List.{take-append-drop}
use Rattle.promise.specs.Bytes.{Bytes}
use Rattle.text.specs.Words.{word_len, first_in, word_in, spaced}

-- where the first space stands
space_at : (w : Bytes) → word_len w ≡ position_or_len (λ b. b == 32) w
space_at w = is_position_or_len word_len (λ b. b == 32) refl (λ b v. ap (λ (n : ℕ). cond (b == 32) 0 n) (omega arith)) w

pub first_space : (w : Bytes) → unwrap_or (position (λ b. b == 32) w) (length w) ≡ word_len w
first_space w = let le = prefix_len-le-length (λ b. not (b == 32)) w in let at = space_at w in grind arith

-- what was split is joined as it stood
pub first_line : (b w r : Bytes) → first_in b ≡ Some (w, r) → w ++ r ≡ b
first_line b w r e = go (eqb (word_len b) 0) e
  where
    go : (t : Bool) → cond {A = Option (Bytes × Bytes)} t None (Some (take (word_len b) b, drop (word_len b) b)) ≡ Some (w, r) → w ++ r ≡ b
    go true f = let z : ◌≡◌ {A = ℕ} 0 1 = cc in absurd (omega arith)
    go false f =
        let p : ◌≡◌ {A = Bytes × Bytes} (w, r) (take (word_len b) b, drop (word_len b) b) = cc in
        ap (λ (x : Bytes × Bytes). x.0 ++ x.1) p ∙ take-append-drop (word_len b) b

pub word_line : (b w r : Bytes) → word_in b ≡ Some (w, r) → spaced w ++ r ≡ b
word_line [] w r e = let z : ◌≡◌ {A = ℕ} 0 1 = cc in absurd (omega arith)
word_line (x ∷ b) w r e = go (eqb x 32) refl e
  where
    go : (t : Bool) → eqb x 32 ≡ t → cond t (first_in b) None ≡ Some (w, r) → spaced w ++ r ≡ x ∷ b
    go true q f = ap (λ (o : Bytes). 32 ∷ o) (first_line b w r f) ∙ ap (λ (k : ℕ). k ∷ b) (sym (eqb-true x 32 q))
    go false q f = let z : ◌≡◌ {A = ℕ} 0 1 = cc in absurd (omega arith)
