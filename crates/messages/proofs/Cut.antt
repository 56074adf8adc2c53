-- The length that stands in a message, by which one that was cut or lengthened is noticed.
use Rattle.std.proofs.Common.{◌≡◌, ℕ, ◌≤◌, Bool, true, false, cond, eqb, ltb, ◌++◌, length, take, drop, Some, None, Option, sym, refl, ap, ◌∙◌, subst, ⊎_elim, arith}
use Rattle.std.proofs.lemmas.List.{length-append, length-drop, take-append-drop, take-append-le, drop-append-le}
use Rattle.std.proofs.lemmas.Bool.{ltb-false}
use Rattle.promise.specs.Bytes.{Bytes, number, number_in}
use Rattle.codec.specs.Sum.{sum_of}
use Rattle.codec.specs.Messages.{Msg, encode_msg, body_in, lengthed_msg_in, decode_msg}
use Rattle.codec.proofs.Forms.{bind_some, cond_some}
use Rattle.messages.specs.Noise.{CutIsNoise, LengthenedIsNoise}
use Rattle.messages.proofs.Back.{reads_back}

-- what a number that was read says of the bytes
pub number_read : (w : ℕ) (b : Bytes) (n : ℕ) (rest : Bytes) → number_in w b ≡ Some (n, rest) → (w ≤ length b) × (number (take w b) ≡ n) × (drop w b ≡ rest)
number_read w b n rest e = go (ltb (length b) w) refl e where
  go : (t : Bool) → ltb (length b) w ≡ t → cond {A = Option (ℕ × Bytes)} t None (Some (number (take w b), drop w b)) ≡ Some (n, rest) → (w ≤ length b) × (number (take w b) ≡ n) × (drop w b ≡ rest)
  go true h e = absurd (let z : ◌≡◌ {A = ℕ} 0 1 = cc in omega arith)
  go false h e =
      let both : ◌≡◌ {A = ℕ × Bytes} (number (take w b), drop w b) (n, rest) = cc in
      (ltb-false (length b) w h, ap (λ x. x.0) both, ap (λ x. x.1) both)

-- a message has its sum and its length in it
pub record Front (b : Bytes) : Type 0 where
  pub long : 12 ≤ length b
  pub sum : number (take 8 b) ≡ sum_of (drop 8 b)
  pub size : number (take 4 (drop 8 b)) ≡ length b

pub front_of : (b : Bytes) (m : Msg) → decode_msg b ≡ Some m → Front b
unfolding decode_msg
front_of b m e =
    let h = bind_some (number_in 8 b) (λ h. cond (eqb h.0 (sum_of h.1)) (lengthed_msg_in (length b) h.1) None) m e in
    let r = number_read 8 b h.0.0 h.0.1 h.1 in
    ⊎_elim
    (λ p.
    let l = bind_some (number_in 4 h.0.1) (λ l. cond (eqb l.0 (length b)) (body_in l.1) None) m p.1 in
    let q = number_read 4 h.0.1 l.0.0 l.0.1 l.1 in
    ⊎_elim
    (λ s. record {
      long = omega (arith, r.0, q.0, length-drop 8 b, ap length r.2);
      sum = r.1 ∙ p.0 ∙ ap sum_of (sym r.2);
      size = ap (λ z. number (take 4 z)) r.2 ∙ q.1 ∙ s.0;
    })
    (λ s. absurd (let t = s.1 in let z : ◌≡◌ {A = ℕ} 0 1 = cc in omega arith))
    (cond_some l.0.0 (length b) (body_in l.0.1) None m l.2))
    (λ p. absurd (let t = p.1 in let z : ◌≡◌ {A = ℕ} 0 1 = cc in omega arith))
    (cond_some h.0.0 (sum_of h.0.1) (lengthed_msg_in (length b) h.0.1) None m h.2)

-- of two messages of which one begins the other, each is the other
pub no_longer : (x y : Bytes) → Front x → Front (x ++ y) → length y ≡ 0
no_longer x y f g =
    let d : drop 8 (x ++ y) ≡ drop 8 x ++ y = drop-append-le 8 x y (omega (arith, f.long)) in
    let t : take 4 (drop 8 x ++ y) ≡ take 4 (drop 8 x) = take-append-le 4 (drop 8 x) y (omega (arith, f.long, length-drop 8 x)) in
    let s : number (take 4 (drop 8 (x ++ y))) ≡ number (take 4 (drop 8 x)) = ap number (ap (take 4) d ∙ t) in
    omega (arith, f.size, g.size, length-append x y, s)

pub none_unless : {A : Type 0} (o : Option A) → ((x : A) → o ≡ Some x → ⊥) → o ≡ None
none_unless None h = refl
none_unless (Some x) h = absurd (h x refl)

pub lengthened : LengthenedIsNoise
lengthened m more s h = none_unless (decode_msg (encode_msg m ++ more)) (λ n e.
    let z = no_longer (encode_msg m) more (front_of (encode_msg m) m (reads_back m s)) (front_of (encode_msg m ++ more) n e) in omega arith)

pub cut : CutIsNoise
cut m k s h = none_unless (decode_msg (take k (encode_msg m))) (λ n e.
    let w : Front (take k (encode_msg m) ++ drop k (encode_msg m)) = subst Front (sym (take-append-drop k (encode_msg m))) (front_of (encode_msg m) m (reads_back m s)) in
    let z = no_longer (take k (encode_msg m)) (drop k (encode_msg m)) (front_of (take k (encode_msg m)) n e) w in
    omega (arith, length-drop k (encode_msg m)))
