-- Bytes that are written are read again, and what was read is written as it stood.
use Rattle.std.proofs.Common.{◌≡◌, ℕ, ◌+◌, ◌*◌, ◌/◌, ◌%◌, ◌<◌, Bool, true, false, cond, ◌&&◌, eqb, ltb, [], ◌∷◌, length, Some, None, codes, Option, sym, refl, ap, ◌∙◌, arith, ltb-true, ne_eqb}
use Rattle.std.specs.Str.{bytes_eq}
use Rattle.std.proofs.lemmas.Slice.Eq.{bytes_eq-Decides}
use Rattle.promise.specs.Bytes.{Bytes, bind, every, all_bytes}
use Rattle.text.specs.Hex.{hex_digit, hex_value, hex_pairs, hex_text, pair_value, pairs_in, hex_in}

pub digit_again : (d : ℕ) → d < 16 → hex_value (hex_digit d) ≡ Some d
digit_again d h = grind arith

pub digit_line : (b d : ℕ) → hex_value b ≡ Some d → (hex_digit d ≡ b) × (d < 16)
digit_line b d e = (grind arith, grind arith)

pub pair_line : (a b c : ℕ) → pair_value a b ≡ Some c → (hex_digit (c / 16) ≡ a) × (hex_digit (c % 16) ≡ b)
pair_line a b c e = go (hex_value a) (hex_value b) refl refl e
  where
    go : (o p : Option ℕ) → hex_value a ≡ o → hex_value b ≡ p → bind o (λ x. bind p (λ y. Some (x * 16 + y))) ≡ Some c → (hex_digit (c / 16) ≡ a) × (hex_digit (c % 16) ≡ b)
    go None p q r f = let z : ◌≡◌ {A = ℕ} 0 1 = cc in absurd (omega arith)
    go (Some x) None q r f = let z : ◌≡◌ {A = ℕ} 0 1 = cc in absurd (omega arith)
    go (Some x) (Some y) q r f =
        let k : x * 16 + y ≡ c = cc in
        let hx : x < 16 = (digit_line a x q).1 in
        let hy : y < 16 = (digit_line b y r).1 in
        let u : c / 16 ≡ x = omega arith in
        let v : c % 16 ≡ y = omega arith in
        (ap hex_digit u ∙ (digit_line a x q).0, ap hex_digit v ∙ (digit_line b y r).0)

pub pairs_line : (w bs : Bytes) → pairs_in w ≡ Some bs → hex_pairs bs ≡ w
unfolding pairs_in
pairs_line [] bs e = let q : bs ≡ [] = cc in ap hex_pairs q
pairs_line (a ∷ []) bs e = let z : ◌≡◌ {A = ℕ} 0 1 = cc in absurd (omega arith)
pairs_line (a ∷ b ∷ w) bs e = go (λ cs f. pairs_line w cs f) (pair_value a b) (pairs_in w) refl refl e
  where
    go : ((cs : Bytes) → pairs_in w ≡ Some cs → hex_pairs cs ≡ w) → (o : Option ℕ) (p : Option Bytes) → pair_value a b ≡ o → pairs_in w ≡ p →
        bind o (λ c. bind p (λ cs. Some (c ∷ cs))) ≡ Some bs → hex_pairs bs ≡ a ∷ b ∷ w
    go again None p q r f = let z : ◌≡◌ {A = ℕ} 0 1 = cc in absurd (omega arith)
    go again (Some c) None q r f = let z : ◌≡◌ {A = ℕ} 0 1 = cc in absurd (omega arith)
    go again (Some c) (Some cs) q r f =
        let k : c ∷ cs ≡ bs = cc in
        let u = pair_line a b c q in
        let u0 : hex_digit (c / 16) ≡ a = u.0 in
        let u1 : hex_digit (c % 16) ≡ b = u.1 in
        let v : hex_pairs cs ≡ w = again cs r in
        sym (ap hex_pairs k) ∙ (ap (λ (x : ℕ). x ∷ hex_digit (c % 16) ∷ hex_pairs cs) u0 ∙ (ap (λ (x : ℕ). a ∷ x ∷ hex_pairs cs) u1 ∙ ap (λ (x : Bytes). a ∷ b ∷ x) v))

text_of : (bs : Bytes) (x : ℕ) (v : Bytes) → hex_pairs bs ≡ x ∷ v → hex_text bs ≡ x ∷ v
text_of [] x v e = let z : ◌≡◌ {A = ℕ} 0 1 = cc in absurd (omega arith)
text_of (b ∷ bs) x v e = ap (λ (t : Bool). cond t (codes "-") (hex_pairs (b ∷ bs))) (ne_eqb (length (b ∷ bs)) 0 (λ q. omega arith)) ∙ e

-- what was read is written as it stood
pub hex_line : (w bs : Bytes) → hex_in w ≡ Some bs → hex_text bs ≡ w
unfolding pairs_in
hex_line w bs e = go (bytes_eq w (codes "-")) refl e
  where
    some : (v : Bytes) → cond (eqb (length v) 0) None (pairs_in v) ≡ Some bs → hex_text bs ≡ v
    some [] f = let z : ◌≡◌ {A = ℕ} 0 1 = cc in absurd (omega arith)
    some (x ∷ v) f =
        text_of bs x v (pairs_line (x ∷ v) bs (sym (ap (λ (t : Bool). cond t None (pairs_in (x ∷ v))) (ne_eqb (length (x ∷ v)) 0 (λ q. omega arith))) ∙ f))

    go : (t : Bool) → bytes_eq w (codes "-") ≡ t → cond t (Some []) (cond (eqb (length w) 0) None (pairs_in w)) ≡ Some bs → hex_text bs ≡ w
    go true q f = let k : bs ≡ [] = cc in ap hex_text k ∙ sym ((bytes_eq-Decides w (codes "-")).0 q)
    go false q f = some w f

-- READ AGAIN

pub bytes_head : (b : ℕ) (bs : Bytes) → all_bytes (b ∷ bs) ≡ true → (b < 256) × (all_bytes bs ≡ true)
unfolding every
bytes_head b bs e = (ltb-true b 256 (and_left (ltb b 256) (all_bytes bs) e), and_right (ltb b 256) (all_bytes bs) e)
  where
    and_left : (s t : Bool) → (s && t) ≡ true → s ≡ true
    and_left true t q = refl
    and_left false t q = q

    and_right : (s t : Bool) → (s && t) ≡ true → t ≡ true
    and_right true t q = q
    and_right false t q = let z : ◌≡◌ {A = ℕ} 0 1 = cc in absurd (omega arith)

pub pair_again : (b : ℕ) → b < 256 → pair_value (hex_digit (b / 16)) (hex_digit (b % 16)) ≡ Some b
pair_again b h =
    ap (λ (o : Option ℕ). bind o (λ x. bind (hex_value (hex_digit (b % 16))) (λ y. Some (x * 16 + y)))) (digit_again (b / 16) (omega arith))
    ∙ (ap (λ (o : Option ℕ). bind o (λ y. Some (b / 16 * 16 + y))) (digit_again (b % 16) (omega arith)) ∙ ap Some (let q : b / 16 * 16 + b % 16 ≡ b = omega arith in q))

pub pairs_again : (bs : Bytes) → all_bytes bs ≡ true → pairs_in (hex_pairs bs) ≡ Some bs
unfolding pairs_in
pairs_again [] h = refl
pairs_again (b ∷ bs) h =
    ap (λ (o : Option ℕ). bind o (λ c. bind (pairs_in (hex_pairs bs)) (λ cs. Some (c ∷ cs)))) (pair_again b (bytes_head b bs h).0)
    ∙ ap (λ (o : Option Bytes). bind o (λ cs. Some (b ∷ cs))) (pairs_again bs (bytes_head b bs h).1)

-- bytes that are written are read again
pub hex_again : (bs : Bytes) → all_bytes bs ≡ true → hex_in (hex_text bs) ≡ Some bs
unfolding pairs_in
hex_again [] h = refl
hex_again (b ∷ bs) h =
    ap (λ (t : Bool). hex_in (cond t (codes "-") (hex_pairs (b ∷ bs)))) (ne_eqb (length (b ∷ bs)) 0 (λ q. omega arith))
    ∙ (ap (λ (t : Bool). cond t (Some []) (cond (eqb (length (hex_pairs (b ∷ bs))) 0) None (pairs_in (hex_pairs (b ∷ bs))))) (two (eqb (hex_digit (b / 16)) 45))
    ∙ (ap (λ (t : Bool). cond t None (pairs_in (hex_pairs (b ∷ bs)))) (ne_eqb (length (hex_pairs (b ∷ bs))) 0 (λ q. omega arith)) ∙ pairs_again (b ∷ bs) h))
  where
    two : (t : Bool) → (t && false) ≡ false
    two true = refl
    two false = refl
