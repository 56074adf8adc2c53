-- A word of six letters, known one letter after the other.
use Rattle.std.proofs.Common.{◌≡◌, ℕ, true, false, eqb, ◌&&◌, List, [], ◌∷◌, length, get_or, refl, ap, ◌∙◌, arith}
use Rattle.std.proofs.lemmas.Grind.{common_steps}
use Rattle.std.specs.Str.{bytes_eq}

pub six_letters : (w : List ℕ) (a b c d e f : ℕ) → length w ≡ 6 → get_or w 0 0 ≡ a → get_or w 1 0 ≡ b → get_or w 2 0 ≡ c → get_or w 3 0 ≡ d → get_or w 4 0 ≡ e → get_or w 5 0 ≡ f →
    bytes_eq w (a ∷ b ∷ c ∷ d ∷ e ∷ f ∷ []) ≡ true
six_letters w a b c d e f n p0 p1 p2 p3 p4 p5 = grind (arith, common_steps)

-- A word that begins with another letter.
pub first_differs : (w : List ℕ) (a : ℕ) (bs : List ℕ) (b : ℕ) → get_or w 0 0 ≡ b → eqb b a ≡ false → bytes_eq w (a ∷ bs) ≡ false
first_differs [] a bs b p n = refl
first_differs (x ∷ xs) a bs b p n = ap (λ t. t && bytes_eq xs bs) (ap (λ t. eqb t a) p ∙ n)
