-- A number that is written is read again, and what was read is written as it stood.
use Rattle.std.proofs.Common.{◌≡◌, ℕ, ◌+◌, ◌-◌, ◌*◌, ◌/◌, ◌%◌, ◌^◌, ◌<◌, ◌≤◌, Bool, true, false, cond, ◌&&◌, ◌||◌, eqb, ltb, [], ◌∷◌, ◌++◌, length, get_or, Some, None, decimal, Option, sym, refl, ap, ◌∙◌, arith, eqb-true}
use borrow.Author.Tests.{eqb-false}
use Rattle.std.proofs.lemmas.List.{append_assoc, append-nil}
use Rattle.std.proofs.lemmas.Fmt.{decimal_by_steps, first_decimal, decimal_digit, decimal_nonempty}
use Rattle.promise.specs.Bytes.{Bytes, bind}
use Rattle.text.specs.Decimals.{digit_after, decimal_from, decimal_in, decimal_text}
use Rattle.text.proofs.Numerals.{text_digit, text_step}

-- what one digit more makes
pub digit_is : (most n b m : ℕ) → digit_after most n b ≡ Some m → (m ≡ n * 10 + (b - 48)) × (48 ≤ b) × (b ≤ 57) × (m ≤ most)
digit_is most n b m e = (grind arith, grind arith, grind arith, grind arith)

step_back : (most a b m : ℕ) → most < 2 ^ 64 → 0 < a → digit_after most a b ≡ Some m → decimal_text m ≡ decimal_text a ++ (b ∷ [])
step_back most a b m h z e =
    let p = digit_is most a b m e in
    let p0 : m ≡ a * 10 + (b - 48) = p.0 in
    let p1 : 48 ≤ b = p.1 in
    let p2 : b ≤ 57 = p.2 in
    let p3 : m ≤ most = p.3 in
    let q : m / 10 ≡ a = omega arith in
    let r : 48 + m % 10 ≡ b = omega arith in
    text_step m (omega arith) (omega arith) ∙ (ap (λ (k : ℕ). decimal_text k ++ ((48 + m % 10) ∷ [])) q ∙ ap (λ (k : ℕ). decimal_text a ++ (k ∷ [])) r)

-- digits behind those of a number above 0
rest_back : (most a n : ℕ) (w : Bytes) → most < 2 ^ 64 → 0 < a → decimal_from most a w ≡ Some n → decimal_text n ≡ decimal_text a ++ w
rest_back most a n [] h z e = let q : a ≡ n = cc in sym (append-nil (decimal_text n)) ∙ ap (λ (k : ℕ). decimal_text k ++ []) (sym q)
rest_back most a n (b ∷ w) h z e = go (λ m p f. rest_back most m n w h p f) (digit_after most a b) refl e
  where
    go : ((m : ℕ) → 0 < m → decimal_from most m w ≡ Some n → decimal_text n ≡ decimal_text m ++ w) →
        (o : Option ℕ) → digit_after most a b ≡ o → bind o (λ m. decimal_from most m w) ≡ Some n → decimal_text n ≡ decimal_text a ++ (b ∷ w)
    go again None q f = let z : ◌≡◌ {A = ℕ} 0 1 = cc in absurd (omega arith)
    go again (Some m) q f =
        let p0 : m ≡ a * 10 + (b - 48) = (digit_is most a b m q).0 in
        again m (omega arith) f ∙ (ap (λ (o : Bytes). o ++ w) (step_back most a b m h z q) ∙ append_assoc (decimal_text a) (b ∷ []) w)

one_back : (most b m : ℕ) → digit_after most 0 b ≡ Some m → (decimal_text m ≡ b ∷ []) × (m ≡ b - 48)
one_back most b m q =
    let p = digit_is most 0 b m q in
    let p0 : m ≡ 0 * 10 + (b - 48) = p.0 in
    let p1 : 48 ≤ b = p.1 in
    let p2 : b ≤ 57 = p.2 in
    let r : 48 + m ≡ b = omega arith in
    (text_digit m (omega arith) ∙ ap (λ (k : ℕ). k ∷ []) r, omega arith)

word_back : (most n b : ℕ) (w : Bytes) → most < 2 ^ 64 → (0 < length w → b ≡ 48 → ⊥) → decimal_from most 0 (b ∷ w) ≡ Some n → decimal_text n ≡ b ∷ w
word_back most n b w h lead e = go (digit_after most 0 b) refl e
  where
    go : (o : Option ℕ) → digit_after most 0 b ≡ o → bind o (λ m. decimal_from most m w) ≡ Some n → decimal_text n ≡ b ∷ w
    go None q f = let z : ◌≡◌ {A = ℕ} 0 1 = cc in absurd (omega arith)
    go (Some m) q f = at w lead f
      where
        at : (v : Bytes) → (0 < length v → b ≡ 48 → ⊥) → decimal_from most m v ≡ Some n → decimal_text n ≡ b ∷ v
        at [] l f = let r : m ≡ n = cc in ap decimal_text (sym r) ∙ (one_back most b m q).0
        at (x ∷ v) l f =
            let p1 : 48 ≤ b = (digit_is most 0 b m q).1 in
            let p2 : m ≡ b - 48 = (one_back most b m q).1 in
            let ne : b ≡ 48 → ⊥ = l (omega arith) in
            let z : 0 < m = omega arith in
            rest_back most m n (x ∷ v) h z f ∙ ap (λ (o : Bytes). o ++ (x ∷ v)) (one_back most b m q).0

-- what was read is written as it stood
pub decimal_line : (most : ℕ) (w : Bytes) (n : ℕ) → most < 2 ^ 64 → decimal_in most w ≡ Some n → decimal_text n ≡ w
decimal_line most [] n h e = let z : ◌≡◌ {A = ℕ} 0 1 = cc in absurd (omega arith)
decimal_line most (b ∷ w) n h e = go (eqb (length (b ∷ w)) 0 || (ltb 1 (length (b ∷ w)) && eqb b 48)) refl e
  where
    go : (t : Bool) → (eqb (length (b ∷ w)) 0 || (ltb 1 (length (b ∷ w)) && eqb b 48)) ≡ t → cond t None (decimal_from most 0 (b ∷ w)) ≡ Some n → decimal_text n ≡ b ∷ w
    go true q f = let z : ◌≡◌ {A = ℕ} 0 1 = cc in absurd (omega arith)
    go false q f = word_back most n b w h (λ l k. grind arith) f

-- READ AGAIN

-- the last digit is read last
last_digit : (most a b : ℕ) (ds : Bytes) → decimal_from most a (ds ++ (b ∷ [])) ≡ bind (decimal_from most a ds) (λ m. digit_after most m b)
last_digit most a b [] = go (digit_after most a b)
  where
    go : (o : Option ℕ) → bind o (λ m. Some m) ≡ o
    go None = refl
    go (Some m) = refl
last_digit most a b (d ∷ ds) = go (λ m. last_digit most m b ds) (digit_after most a d)
  where
    go : ((m : ℕ) → decimal_from most m (ds ++ (b ∷ [])) ≡ bind (decimal_from most m ds) (λ k. digit_after most k b)) →
        (o : Option ℕ) → bind o (λ m. decimal_from most m (ds ++ (b ∷ []))) ≡ bind (bind o (λ m. decimal_from most m ds)) (λ m. digit_after most m b)
    go again None = refl
    go again (Some m) = again m

digits_again : (most n : ℕ) → n ≤ most → n < 2 ^ 64 → decimal_from most 0 (decimal_text n) ≡ Some n
unfolding decimal_text
digits_again most n l h = decimal_by_steps (λ k ds. k ≤ most → decimal_from most 0 ds ≡ Some k) one more n h l
  where
    one : (k : ℕ) → k < 10 → k ≤ most → decimal_from most 0 ((48 + k) ∷ []) ≡ Some k
    one k a b = grind arith

    digit : (k : ℕ) → 10 ≤ k → k ≤ most → digit_after most (k / 10) (48 + k % 10) ≡ Some k
    digit k a b = grind arith

    more : (k : ℕ) (ds : Bytes) → 10 ≤ k → (k / 10 ≤ most → decimal_from most 0 ds ≡ Some (k / 10)) → k ≤ most → decimal_from most 0 (ds ++ ((48 + k % 10) ∷ [])) ≡ Some k
    more k ds a i b =
        let s : k / 10 ≤ most = omega arith in
        last_digit most 0 (48 + k % 10) ds ∙ (ap (λ (o : Option ℕ). bind o (λ m. digit_after most m (48 + k % 10))) (i s) ∙ digit k a b)

-- no zero stands before other digits
lead : (n : ℕ) → n < 2 ^ 64 → (eqb (length (decimal_text n)) 0 || (ltb 1 (length (decimal_text n)) && eqb (get_or (decimal_text n) 0 0) 48)) ≡ false
unfolding decimal_text
lead n h = by (eqb n 0) refl
  where
    by : (t : Bool) → eqb n 0 ≡ t → (eqb (length (decimal n)) 0 || (ltb 1 (length (decimal n)) && eqb (get_or (decimal n) 0 0) 48)) ≡ false
    by true q = let z : n ≡ 0 = eqb-true n 0 q in let e : decimal n ≡ (48 + n) ∷ [] = decimal_digit n (omega arith) in rw e refl
    by false q =
        let z : n ≡ 0 → ⊥ = eqb-false n 0 q in
        let f : 48 < get_or (decimal n) 0 0 = first_decimal n (omega arith) h in
        let s : 0 < length (decimal n) = decimal_nonempty n h in
        grind arith

-- a number that is written is read again
pub decimal_again : (most n : ℕ) → n ≤ most → n < 2 ^ 64 → decimal_in most (decimal_text n) ≡ Some n
decimal_again most n l h = ap (λ (t : Bool). cond t None (decimal_from most 0 (decimal_text n))) (lead n h) ∙ digits_again most n l h
