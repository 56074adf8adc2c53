-- A name that is written is read again, and what was read is written as it stood.
use Rattle.std.proofs.Common.{◌≡◌, ℕ, zero, suc, ◌%◌, ◌<◌, ◌≤◌, Bool, true, false, cond, ◌&&◌, ◌⊎◌, inl, inr, eqb, [], ◌∷◌, ◌++◌, length, Some, None, codes, Option, sym, refl, ap, ◌∙◌, arith, ne_eqb, eqb-true}
use Rattle.std.specs.Str.{bytes_eq}
use Rattle.std.proofs.lemmas.Slice.Eq.{bytes_eq-Decides}
use Rattle.promise.specs.Bytes.{Bytes, bind, all_bytes}
use Rattle.text.specs.Hex.{hex_digit, pair_value}
use Rattle.text.specs.Names.{is_plain, numbered, escape, escaped, name_text, number_in, numbered_in, byte_in, name_from, name_in}
use Rattle.text.proofs.HexLaws.{pair_line, pair_again, bytes_head}

-- what a reader made of two has read
pub some_bind : {A B : Type 0} (o : Option A) (f : A → Option B) (y : B) → bind o f ≡ Some y → (x : A) × (o ≡ Some x) × (f x ≡ Some y)
some_bind None f y e = let z : ◌≡◌ {A = ℕ} 0 1 = cc in absurd (omega arith)
some_bind (Some x) f y e = (x, refl, e)

-- READ, AND WRITTEN AS IT STOOD

-- two digits that were read
digits_line : (h l b : ℕ) → number_in h l ≡ Some b → escape b ≡ 37 ∷ h ∷ l ∷ []
digits_line h l b e =
    let s = some_bind (pair_value h l) _ b e in
    go s.0 (is_plain s.0) refl s.1 s.2
  where
    go : (c : ℕ) (t : Bool) → is_plain c ≡ t → pair_value h l ≡ Some c → cond t None (Some c) ≡ Some b → escape b ≡ 37 ∷ h ∷ l ∷ []
    go c true q p f = let z : ◌≡◌ {A = ℕ} 0 1 = cc in absurd (omega arith)
    go c false q p f =
        let same : c ≡ b = cc in
        let pair = pair_line h l c p in
        sym (ap escape same) ∙ (ap (λ (t : Bool). cond t (c ∷ []) (numbered c)) q
        ∙ (ap (λ (x : ℕ). 37 ∷ x ∷ hex_digit (c % 16) ∷ []) pair.0 ∙ ap (λ (x : ℕ). 37 ∷ h ∷ x ∷ []) pair.1))

number_line : (w : Bytes) (x : ℕ × Bytes) → numbered_in w ≡ Some x → escape x.0 ++ x.1 ≡ 37 ∷ w
number_line [] x e = let z : ◌≡◌ {A = ℕ} 0 1 = cc in absurd (omega arith)
number_line (h ∷ []) x e = let z : ◌≡◌ {A = ℕ} 0 1 = cc in absurd (omega arith)
number_line (h ∷ l ∷ w) x e =
    let s = some_bind (number_in h l) (λ b. Some (b, w)) x e in
    let same : ◌≡◌ {A = ℕ × Bytes} (s.0, w) x = let f : ◌≡◌ {A = Option (ℕ × Bytes)} (Some (s.0, w)) (Some x) = s.2 in cc in
    sym (ap (λ (y : ℕ × Bytes). escape y.0 ++ y.1) same) ∙ ap (λ (y : Bytes). y ++ w) (digits_line h l s.0 s.1)

-- the first byte that was read
byte_line : (w : Bytes) (x : ℕ × Bytes) → byte_in w ≡ Some x → escape x.0 ++ x.1 ≡ w
byte_line [] x e = let z : ◌≡◌ {A = ℕ} 0 1 = cc in absurd (omega arith)
byte_line (b ∷ w) x e = go (is_plain b) refl e
  where
    percent : (t : Bool) → eqb b 37 ≡ t → cond t (numbered_in w) None ≡ Some x → escape x.0 ++ x.1 ≡ b ∷ w
    percent true q f = number_line w x f ∙ ap (λ (y : ℕ). y ∷ w) (sym (eqb-true b 37 q))
    percent false q f = let z : ◌≡◌ {A = ℕ} 0 1 = cc in absurd (omega arith)

    go : (t : Bool) → is_plain b ≡ t → cond t (Some (b, w)) (cond (eqb b 37) (numbered_in w) None) ≡ Some x → escape x.0 ++ x.1 ≡ b ∷ w
    go true q f =
        let same : ◌≡◌ {A = ℕ × Bytes} (b, w) x = cc in
        sym (ap (λ (y : ℕ × Bytes). escape y.0 ++ y.1) same) ∙ ap (λ (t : Bool). cond t (b ∷ []) (numbered b) ++ w) q
    go false q f = percent (eqb b 37) refl f

-- an empty word, and what else is read of any other
nil_or : {A : Type 0} (w : Bytes) (x y : A) → (r : Option A) → cond (eqb (length w) 0) (Some x) r ≡ Some y → ((w ≡ []) × (x ≡ y)) ⊎ (r ≡ Some y)
nil_or [] x y r e = inl (refl, cc)
nil_or (b ∷ w) x y r e = inr (sym (ap (λ (t : Bool). cond t (Some x) r) (ne_eqb (length (b ∷ w)) 0 (λ q. omega arith))) ∙ e)

escaped_line : (room : ℕ) (w n : Bytes) → name_from room w ≡ Some n → escaped n ≡ w
unfolding name_from
escaped_line zero w n e = go (nil_or w [] n None e)
  where
    go : ((w ≡ []) × ([] ≡ n)) ⊎ (None ≡ Some n) → escaped n ≡ w
    go (inl (p, q)) = sym (ap escaped q) ∙ sym p
    go (inr f) = let z : ◌≡◌ {A = ℕ} 0 1 = cc in absurd (omega arith)
escaped_line (suc room) w n e = go (λ v k f. escaped_line room v k f) (nil_or w [] n (bind (byte_in w) (λ x. bind (name_from room x.1) (λ k. Some (x.0 ∷ k)))) e)
  where
    go : ((v k : Bytes) → name_from room v ≡ Some k → escaped k ≡ v) →
        ((w ≡ []) × ([] ≡ n)) ⊎ (bind (byte_in w) (λ x. bind (name_from room x.1) (λ k. Some (x.0 ∷ k))) ≡ Some n) → escaped n ≡ w
    go again (inl (p, q)) = sym (ap escaped q) ∙ sym p
    go again (inr f) =
        let s = some_bind (byte_in w) (λ x. bind (name_from room x.1) (λ k. Some (x.0 ∷ k))) n f in
        let k = some_bind (name_from room s.0.1) (λ k. Some (s.0.0 ∷ k)) n s.2 in
        let same : s.0.0 ∷ k.0 ≡ n = let g : Some (s.0.0 ∷ k.0) ≡ Some n = k.2 in cc in
        sym (ap escaped same) ∙ (ap (λ (y : Bytes). escape s.0.0 ++ y) (again s.0.1 k.0 k.1) ∙ byte_line w s.0 s.1)

name_text_of : (n : Bytes) (x : ℕ) (v : Bytes) → escaped n ≡ x ∷ v → name_text n ≡ x ∷ v
name_text_of [] x v e = let z : ◌≡◌ {A = ℕ} 0 1 = cc in absurd (omega arith)
name_text_of (b ∷ n) x v e = ap (λ (t : Bool). cond t (codes "%") (escaped (b ∷ n))) (ne_eqb (length (b ∷ n)) 0 (λ q. omega arith)) ∙ e

-- what was read is written as it stood
pub name_line : (w n : Bytes) → name_in w ≡ Some n → name_text n ≡ w
name_line w n e = go (bytes_eq w (codes "%")) refl e
  where
    some : (v : Bytes) → cond (eqb (length v) 0) None (name_from 255 v) ≡ Some n → name_text n ≡ v
    some [] f = let z : ◌≡◌ {A = ℕ} 0 1 = cc in absurd (omega arith)
    some (x ∷ v) f =
        name_text_of n x v (escaped_line 255 (x ∷ v) n (sym (ap (λ (t : Bool). cond t None (name_from 255 (x ∷ v))) (ne_eqb (length (x ∷ v)) 0 (λ q. omega arith))) ∙ f))

    go : (t : Bool) → bytes_eq w (codes "%") ≡ t → cond t (Some []) (cond (eqb (length w) 0) None (name_from 255 w)) ≡ Some n → name_text n ≡ w
    go true q f = let k : n ≡ [] = cc in ap name_text k ∙ sym ((bytes_eq-Decides w (codes "%")).0 q)
    go false q f = some w f

-- READ AGAIN

-- a byte that is written is read again, whatever follows
byte_again : (b : ℕ) (w : Bytes) → b < 256 → byte_in (escape b ++ w) ≡ Some (b, w)
byte_again b w h = go (is_plain b) refl
  where
    go : (t : Bool) → is_plain b ≡ t → byte_in (cond t (b ∷ []) (numbered b) ++ w) ≡ Some (b, w)
    go true q = ap (λ (t : Bool). cond t (Some (b, w)) (cond (eqb b 37) (numbered_in w) None)) q
    go false q =
        ap (λ (o : Option ℕ). bind (bind o (λ c. cond (is_plain c) None (Some c))) (λ c. Some (c, w))) (pair_again b h)
        ∙ ap (λ (t : Bool). bind (cond t None (Some b)) (λ c. Some (c, w))) q

some_text : (b : ℕ) (w : Bytes) → eqb (length (escape b ++ w)) 0 ≡ false
some_text b w = go (is_plain b)
  where
    go : (t : Bool) → eqb (length (cond t (b ∷ []) (numbered b) ++ w)) 0 ≡ false
    go true = ne_eqb (length (b ∷ w)) 0 (λ q. omega arith)
    go false = ne_eqb (length (numbered b ++ w)) 0 (λ q. omega arith)

pub escaped_again : (room : ℕ) (n : Bytes) → all_bytes n ≡ true → length n ≤ room → name_from room (escaped n) ≡ Some n
unfolding name_from
escaped_again zero [] a l = refl
escaped_again zero (b ∷ n) a l = absurd (omega arith)
escaped_again (suc room) [] a l = refl
escaped_again (suc room) (b ∷ n) a l =
    ap (λ (t : Bool). cond t (Some []) (bind (byte_in (escape b ++ escaped n)) (λ x. bind (name_from room x.1) (λ k. Some (x.0 ∷ k))))) (some_text b (escaped n))
    ∙ (ap (λ (o : Option (ℕ × Bytes)). bind o (λ x. bind (name_from room x.1) (λ k. Some (x.0 ∷ k)))) (byte_again b (escaped n) (bytes_head b n a).0)
    ∙ ap (λ (o : Option Bytes). bind o (λ k. Some (b ∷ k))) (escaped_again room n (bytes_head b n a).1 (omega arith)))

-- no name but the empty one is written as '%' alone
not_empty : (b : ℕ) (n : Bytes) → (bytes_eq (escaped (b ∷ n)) (codes "%") ≡ false) × (eqb (length (escaped (b ∷ n))) 0 ≡ false)
not_empty b n = go (is_plain b) refl
  where
    two : (t : Bool) → (t && false) ≡ false
    two true = refl
    two false = refl

    go : (t : Bool) → is_plain b ≡ t → (bytes_eq (cond t (b ∷ []) (numbered b) ++ escaped n) (codes "%") ≡ false) × (eqb (length (cond t (b ∷ []) (numbered b) ++ escaped n)) 0 ≡ false)
    go true q =
        let k : eqb b 37 ≡ false = grind arith in
        (ap (λ (t : Bool). t && bytes_eq (escaped n) []) k, ne_eqb (length (b ∷ escaped n)) 0 (λ q. omega arith))
    go false q = (refl, ne_eqb (length (numbered b ++ escaped n)) 0 (λ q. omega arith))

-- a name that is written is read again
pub name_again : (n : Bytes) → all_bytes n ≡ true → length n ≤ 255 → name_in (name_text n) ≡ Some n
name_again [] a l = refl
name_again (b ∷ n) a l =
    ap (λ (t : Bool). name_in (cond t (codes "%") (escaped (b ∷ n)))) (ne_eqb (length (b ∷ n)) 0 (λ q. omega arith))
    ∙ (ap (λ (t : Bool). cond t (Some []) (cond (eqb (length (escaped (b ∷ n))) 0) None (name_from 255 (escaped (b ∷ n))))) (not_empty b n).0
    ∙ (ap (λ (t : Bool). cond t None (name_from 255 (escaped (b ∷ n)))) (not_empty b n).1 ∙ escaped_again 255 (b ∷ n) a l))
