-- A message of which one word was changed is noise: no step of the sum loses anything.
use Rattle.std.proofs.Common.{◌≡◌, ℕ, zero, suc, ◌+◌, ◌-◌, ◌*◌, ◌/◌, ◌%◌, ◌^◌, ◌<◌, ◌≤◌, ◌⊎◌, [], ◌++◌, length, get_or, take, drop, replicate, sym, refl, ap, ◌∙◌, subst, inl, inr, ⊎_elim, mod-eq_of_lt, div-add-mod', arith, lit<}
use native.Mathlib.Nat.{add-mul-mod_self_right}
use lib.Bits.{bit_xor, xor_self, xor_zero_r, xor_assoc, xor_lt, xor_comm, xor_shr}
use Rattle.std.proofs.lemmas.List.{length-append, length-replicate, length-drop, get_or_append_left, get_or-append_right, get_or-drop, get_or-take, ext_get_or, append_cancel_left, append_cancel_right, take-append-drop, take-append-le, drop-append-le, drop-drop, drop_at, nil_from_length}
use Rattle.std.proofs.lemmas.Bool.{cases_eq, cases_lt}
use Rattle.promise.specs.Bytes.{Bytes, number, be}
use Rattle.codec.specs.Sum.{word, folded, mixed, joined, lane_to, sum_to, sum_of}
use Rattle.codec.specs.Messages.{decode_msg}
use Rattle.codec.proofs.Forms.{Small, small_all, small_drop, be_number, number_fits}
use Rattle.messages.specs.Noise.{ChangedWordIsNoise}
use Rattle.messages.proofs.Words.{eight_same, get_or_zeros, word_is}
use Rattle.messages.proofs.Back.{mixed_fits}
use Rattle.messages.proofs.Cut.{Front, front_of, none_unless}

-- THE STEPS

-- an odd factor loses nothing: another takes it back
odd_back : (x : ℕ) → x < 2 ^ 64 → x * 0x9E37_79B9_7F4A_7C15 % 2 ^ 64 * 17428512612931826493 % 2 ^ 64 ≡ x
odd_back x h =
    let r : ℕ = x * 0x9E37_79B9_7F4A_7C15 % 2 ^ 64 in
    let q : ℕ = x * 0x9E37_79B9_7F4A_7C15 / 2 ^ 64 in
    let d : q * 2 ^ 64 + r ≡ x * 0x9E37_79B9_7F4A_7C15 = div-add-mod' (x * 0x9E37_79B9_7F4A_7C15) (2 ^ 64) in
    let e : r * 17428512612931826493 + q * 17428512612931826493 * 2 ^ 64 ≡ x + x * 10771413168148108919 * 2 ^ 64 = linear q r x d in
    sym (add-mul-mod_self_right (r * 17428512612931826493) (q * 17428512612931826493) (2 ^ 64)) ∙ ap (λ n. n % 2 ^ 64) e
    ∙ add-mul-mod_self_right x (x * 10771413168148108919) (2 ^ 64) ∙ mod-eq_of_lt h where
      linear : (q r x : ℕ) → q * 2 ^ 64 + r ≡ x * 0x9E37_79B9_7F4A_7C15 → r * 17428512612931826493 + q * 17428512612931826493 * 2 ^ 64 ≡ x + x * 10771413168148108919 * 2 ^ 64
      linear q r x d = omega arith

odd_same : (x y : ℕ) → x < 2 ^ 64 → y < 2 ^ 64 → x * 0x9E37_79B9_7F4A_7C15 % 2 ^ 64 ≡ y * 0x9E37_79B9_7F4A_7C15 % 2 ^ 64 → x ≡ y
odd_same x y hx hy e = sym (odd_back x hx) ∙ ap (λ n. n * 17428512612931826493 % 2 ^ 64) e ∙ odd_back y hy

xor_back : (h w : ℕ) → bit_xor (bit_xor h w) w ≡ h
xor_back h w = xor_assoc h w w ∙ ap (bit_xor h) (xor_self w) ∙ xor_zero_r h

folded_fits : (w : ℕ) → w < 2 ^ 64 → folded w < 2 ^ 64
folded_fits w h = xor_lt 64 w (w / 2 ^ 32) h (omega arith)

-- what was folded twice is as it was
folded_back : (w : ℕ) → w < 2 ^ 64 → folded (folded w) ≡ w
folded_back w h =
    let z : w / 2 ^ 32 / 2 ^ 32 ≡ 0 = omega arith in
    ap (bit_xor (folded w)) (xor_shr w (w / 2 ^ 32) 32 ∙ ap (bit_xor (w / 2 ^ 32)) z ∙ xor_zero_r (w / 2 ^ 32)) ∙ xor_back w (w / 2 ^ 32)

same_sum : (h g w : ℕ) → h < 2 ^ 64 → g < 2 ^ 64 → w < 2 ^ 64 → mixed h w ≡ mixed g w → h ≡ g
same_sum h g w hh hg hw e =
    let f = folded_fits w hw in
    let x : bit_xor h (folded w) ≡ bit_xor g (folded w) = odd_same (bit_xor h (folded w)) (bit_xor g (folded w)) (xor_lt 64 h (folded w) hh f) (xor_lt 64 g (folded w) hg f) e in
    sym (xor_back h (folded w)) ∙ ap (λ n. bit_xor n (folded w)) x ∙ xor_back g (folded w)

same_word : (h w v : ℕ) → h < 2 ^ 64 → w < 2 ^ 64 → v < 2 ^ 64 → mixed h w ≡ mixed h v → w ≡ v
same_word h w v hh hw hv e =
    let fw = folded_fits w hw in
    let fv = folded_fits v hv in
    let x : bit_xor h (folded w) ≡ bit_xor h (folded v) = odd_same (bit_xor h (folded w)) (bit_xor h (folded v)) (xor_lt 64 h (folded w) hh fw) (xor_lt 64 h (folded v) hh fv) e in
    let y : folded w ≡ folded v = sym (xor_back (folded w) h) ∙ ap (λ n. bit_xor n h) (xor_comm (folded w) h ∙ x ∙ xor_comm h (folded v)) ∙ xor_back (folded v) h in
    sym (folded_back w hw) ∙ ap folded y ∙ folded_back v hv

-- WORDS

-- eight bytes at a place, with zeros where they are missing
abbrev word_bytes : Bytes → ℕ → Bytes
word_bytes b k = take 8 (drop (8 * k) b ++ replicate 8 0)

padded_long : (b : Bytes) (k : ℕ) → 8 ≤ length (drop (8 * k) b ++ replicate 8 0)
padded_long b k = omega (arith, length-append (drop (8 * k) b) (replicate 8 0), length-replicate {A = ℕ} 8 0)

padded_at : (b : Bytes) (k i : ℕ) → get_or (drop (8 * k) b ++ replicate 8 0) i 0 ≡ get_or b (8 * k + i) 0
padded_at b k i = get_or_zeros (drop (8 * k) b) 8 i ∙ get_or-drop (8 * k) b i 0

padded_small : (b : Bytes) (k : ℕ) → Small b → Small (drop (8 * k) b ++ replicate 8 0)
padded_small b k s i = rw (padded_at b k i) (s (8 * k + i))

word_fits : (b : Bytes) (k : ℕ) → Small b → word b k < 2 ^ 64
unfolding word
word_fits b k s = number_fits 8 (drop (8 * k) b ++ replicate 8 0) (padded_long b k) (padded_small b k s)

-- bytes of which each word is the same are the same
words_same : (a b : Bytes) → Small a → Small b → length a ≡ length b → ((k : ℕ) → word a k ≡ word b k) → a ≡ b
unfolding word
words_same a b sa sb l h = ext_get_or 0 a b l (λ p _. place p) where
  bytes : (k : ℕ) → word_bytes a k ≡ word_bytes b k
  bytes k =
      sym (be_number 8 (drop (8 * k) a ++ replicate 8 0) (padded_long a k) (padded_small a k sa)) ∙ ap (be 8) (h k)
      ∙ be_number 8 (drop (8 * k) b ++ replicate 8 0) (padded_long b k) (padded_small b k sb)

  at : (x : Bytes) (k i : ℕ) → i < 8 → get_or (word_bytes x k) i 0 ≡ get_or x (8 * k + i) 0
  at x k i lt = get_or-take 8 (drop (8 * k) x ++ replicate 8 0) i 0 lt ∙ padded_at x k i

  place : (p : ℕ) → get_or a p 0 ≡ get_or b p 0
  place p =
      let e : 8 * (p / 8) + p % 8 ≡ p = omega arith in
      let lt : p % 8 < 8 = omega arith in
      ap (λ n. get_or a n 0) (sym e) ∙ sym (at a (p / 8) (p % 8) lt) ∙ ap (λ x. get_or x (p % 8) 0) (bytes (p / 8)) ∙ at b (p / 8) (p % 8) lt ∙ ap (λ n. get_or b n 0) e

-- LANES of bytes that differ in one word at most

lane_fits : (b : Bytes) (l n : ℕ) → l < 4 → lane_to b l n < 2 ^ 64
unfolding lane_to
lane_fits b l zero h = omega arith
lane_fits b l (suc n) h = mixed_fits (lane_to b l n) (word b (4 * n + l))

module _ (a b : Bytes) (k : ℕ) (sa : Small a) (sb : Small b) (same : (j : ℕ) → (j ≡ k → ⊥) → word a j ≡ word b j) where
  -- a lane that has not the word
  other_lane : (l n : ℕ) → ((r : ℕ) → 4 * r + l ≡ k → ⊥) → lane_to a l n ≡ lane_to b l n
  unfolding lane_to
  other_lane l zero h = refl
  other_lane l (suc n) h = ap (λ x. mixed x (word a (4 * n + l))) (other_lane l n h) ∙ ap (mixed (lane_to b l n)) (same (4 * n + l) (h n))

  -- the lane that has it, before it comes
  lane_before : (l r n : ℕ) → 4 * r + l ≡ k → n ≤ r → lane_to a l n ≡ lane_to b l n
  unfolding lane_to
  lane_before l r zero e h = refl
  lane_before l r (suc n) e h =
      let ne : 4 * n + l ≡ k → ⊥ = λ d. omega arith in
      ap (λ x. mixed x (word a (4 * n + l))) (lane_before l r n e (omega arith)) ∙ ap (mixed (lane_to b l n)) (same (4 * n + l) ne)

  -- and after: if the lanes are the same then, so was the word
  lane_after : (l r n : ℕ) → l < 4 → 4 * r + l ≡ k → r < n → lane_to a l n ≡ lane_to b l n → word a k ≡ word b k
  unfolding lane_to
  lane_after l r zero hl e h q = absurd (omega arith)
  lane_after l r (suc n) hl e h q =
      ⊎_elim
      (λ (d : n ≡ r).
      let at : 4 * n + l ≡ k = omega arith in
      ap (word a) (sym at)
      ∙ same_word (lane_to b l n) (word a (4 * n + l)) (word b (4 * n + l)) (lane_fits b l n hl) (word_fits a (4 * n + l) sa) (word_fits b (4 * n + l) sb)
      (ap (λ x. mixed x (word a (4 * n + l))) (sym (lane_before l r n e (omega arith))) ∙ q)
      ∙ ap (word b) at)
      (λ d.
      let ne : 4 * n + l ≡ k → ⊥ = λ x. d (omega arith) in
      lane_after l r n hl e (omega arith)
      (same_sum (lane_to a l n) (lane_to b l n) (word a (4 * n + l)) (lane_fits a l n hl) (lane_fits b l n hl) (word_fits a (4 * n + l) sa)
      (q ∙ ap (mixed (lane_to b l n)) (sym (same (4 * n + l) ne)))))
      (cases_eq n r)

-- JOINED

joined_0 : (h g x y z : ℕ) → h < 2 ^ 64 → g < 2 ^ 64 → x < 2 ^ 64 → y < 2 ^ 64 → z < 2 ^ 64 → joined h x y z ≡ joined g x y z → h ≡ g
joined_0 h g x y z hh hg hx hy hz e =
    same_word 0 h g (lit< tt) hh hg
    (same_sum (mixed 0 h) (mixed 0 g) x (mixed_fits 0 h) (mixed_fits 0 g) hx
    (same_sum (mixed (mixed 0 h) x) (mixed (mixed 0 g) x) y (mixed_fits (mixed 0 h) x) (mixed_fits (mixed 0 g) x) hy
    (same_sum (mixed (mixed (mixed 0 h) x) y) (mixed (mixed (mixed 0 g) x) y) z (mixed_fits (mixed (mixed 0 h) x) y) (mixed_fits (mixed (mixed 0 g) x) y) hz e)))

joined_1 : (w h g y z : ℕ) → h < 2 ^ 64 → g < 2 ^ 64 → y < 2 ^ 64 → z < 2 ^ 64 → joined w h y z ≡ joined w g y z → h ≡ g
joined_1 w h g y z hh hg hy hz e =
    same_word (mixed 0 w) h g (mixed_fits 0 w) hh hg
    (same_sum (mixed (mixed 0 w) h) (mixed (mixed 0 w) g) y (mixed_fits (mixed 0 w) h) (mixed_fits (mixed 0 w) g) hy
    (same_sum (mixed (mixed (mixed 0 w) h) y) (mixed (mixed (mixed 0 w) g) y) z (mixed_fits (mixed (mixed 0 w) h) y) (mixed_fits (mixed (mixed 0 w) g) y) hz e))

joined_2 : (w x h g z : ℕ) → h < 2 ^ 64 → g < 2 ^ 64 → z < 2 ^ 64 → joined w x h z ≡ joined w x g z → h ≡ g
joined_2 w x h g z hh hg hz e =
    same_word (mixed (mixed 0 w) x) h g (mixed_fits (mixed 0 w) x) hh hg
    (same_sum (mixed (mixed (mixed 0 w) x) h) (mixed (mixed (mixed 0 w) x) g) z (mixed_fits (mixed (mixed 0 w) x) h) (mixed_fits (mixed (mixed 0 w) x) g) hz e)

joined_3 : (w x y h g : ℕ) → h < 2 ^ 64 → g < 2 ^ 64 → joined w x y h ≡ joined w x y g → h ≡ g
joined_3 w x y h g hh hg e = same_word (mixed (mixed (mixed 0 w) x) y) h g (mixed_fits (mixed (mixed 0 w) x) y) hh hg e

four_ways : (l : ℕ) → l < 4 → (l ≡ 0) ⊎ ((l ≡ 1) ⊎ ((l ≡ 2) ⊎ (l ≡ 3)))
four_ways zero h = inl refl
four_ways (suc zero) h = inr (inl refl)
four_ways (suc (suc zero)) h = inr (inr (inl refl))
four_ways (suc (suc (suc l))) h = inr (inr (inr (omega arith)))

-- THE SUM of bytes that differ in one word at most: if it is the same, so is the word
sum_same : (a b : Bytes) (k : ℕ) → Small a → Small b → length a ≡ length b → 8 * k < length a → ((j : ℕ) → (j ≡ k → ⊥) → word a j ≡ word b j) → sum_of a ≡ sum_of b → word a k ≡ word b k
unfolding sum_of sum_to
sum_same a b k sa sb len h same e =
    let n : ℕ = (length a + 31) / 32 in
    let m : (length b + 31) / 32 ≡ n = ap (λ z. (z + 31) / 32) (sym len) in
    let q : joined (lane_to a 0 n) (lane_to a 1 n) (lane_to a 2 n) (lane_to a 3 n) ≡ joined (lane_to b 0 n) (lane_to b 1 n) (lane_to b 2 n) (lane_to b 3 n)
    = e ∙ ap (λ z. joined (lane_to b 0 z) (lane_to b 1 z) (lane_to b 2 z) (lane_to b 3 z)) m in
    go n q (omega arith) where
      go : (n : ℕ) → joined (lane_to a 0 n) (lane_to a 1 n) (lane_to a 2 n) (lane_to a 3 n) ≡ joined (lane_to b 0 n) (lane_to b 1 n) (lane_to b 2 n) (lane_to b 3 n) → k / 4 < n → word a k ≡ word b k
      go n q lt =
          let other : (l : ℕ) → l < 4 → (l ≡ k % 4 → ⊥) → lane_to a l n ≡ lane_to b l n = λ l hl ne. other_lane a b k sa sb same l n (λ r d. ne (omega arith)) in
          let fit : (l : ℕ) → l < 4 → lane_to a l n < 2 ^ 64 = λ l hl. lane_fits a l n hl in
          let fitb : (l : ℕ) → l < 4 → lane_to b l n < 2 ^ 64 = λ l hl. lane_fits b l n hl in
          let done : (l : ℕ) → l < 4 → k % 4 ≡ l → lane_to a l n ≡ lane_to b l n → word a k ≡ word b k
          = λ l hl d p. lane_after a b k sa sb same l (k / 4) n hl (omega arith) lt p in
          ⊎_elim
          (λ (d : k % 4 ≡ 0). done 0 (lit< tt) d (joined_0 (lane_to a 0 n) (lane_to b 0 n) (lane_to a 1 n) (lane_to a 2 n) (lane_to a 3 n) (fit 0 (lit< tt)) (fitb 0 (lit< tt)) (fit 1 (lit< tt)) (fit 2 (lit< tt)) (fit 3 (lit< tt))
          (q ∙ ap (λ z. joined (lane_to b 0 n) z (lane_to b 2 n) (lane_to b 3 n)) (sym (other 1 (lit< tt) (λ c. omega arith)))
          ∙ ap (λ z. joined (lane_to b 0 n) (lane_to a 1 n) z (lane_to b 3 n)) (sym (other 2 (lit< tt) (λ c. omega arith)))
          ∙ ap (λ z. joined (lane_to b 0 n) (lane_to a 1 n) (lane_to a 2 n) z) (sym (other 3 (lit< tt) (λ c. omega arith))))))
          (⊎_elim
          (λ (d : k % 4 ≡ 1). done 1 (lit< tt) d (joined_1 (lane_to a 0 n) (lane_to a 1 n) (lane_to b 1 n) (lane_to a 2 n) (lane_to a 3 n) (fit 1 (lit< tt)) (fitb 1 (lit< tt)) (fit 2 (lit< tt)) (fit 3 (lit< tt))
          (q ∙ ap (λ z. joined z (lane_to b 1 n) (lane_to b 2 n) (lane_to b 3 n)) (sym (other 0 (lit< tt) (λ c. omega arith)))
          ∙ ap (λ z. joined (lane_to a 0 n) (lane_to b 1 n) z (lane_to b 3 n)) (sym (other 2 (lit< tt) (λ c. omega arith)))
          ∙ ap (λ z. joined (lane_to a 0 n) (lane_to b 1 n) (lane_to a 2 n) z) (sym (other 3 (lit< tt) (λ c. omega arith))))))
          (⊎_elim
          (λ (d : k % 4 ≡ 2). done 2 (lit< tt) d (joined_2 (lane_to a 0 n) (lane_to a 1 n) (lane_to a 2 n) (lane_to b 2 n) (lane_to a 3 n) (fit 2 (lit< tt)) (fitb 2 (lit< tt)) (fit 3 (lit< tt))
          (q ∙ ap (λ z. joined z (lane_to b 1 n) (lane_to b 2 n) (lane_to b 3 n)) (sym (other 0 (lit< tt) (λ c. omega arith)))
          ∙ ap (λ z. joined (lane_to a 0 n) z (lane_to b 2 n) (lane_to b 3 n)) (sym (other 1 (lit< tt) (λ c. omega arith)))
          ∙ ap (λ z. joined (lane_to a 0 n) (lane_to a 1 n) (lane_to b 2 n) z) (sym (other 3 (lit< tt) (λ c. omega arith))))))
          (λ (d : k % 4 ≡ 3). done 3 (lit< tt) d (joined_3 (lane_to a 0 n) (lane_to a 1 n) (lane_to a 2 n) (lane_to a 3 n) (lane_to b 3 n) (fit 3 (lit< tt)) (fitb 3 (lit< tt))
          (q ∙ ap (λ z. joined z (lane_to b 1 n) (lane_to b 2 n) (lane_to b 3 n)) (sym (other 0 (lit< tt) (λ c. omega arith)))
          ∙ ap (λ z. joined (lane_to a 0 n) z (lane_to b 2 n) (lane_to b 3 n)) (sym (other 1 (lit< tt) (λ c. omega arith)))
          ∙ ap (λ z. joined (lane_to a 0 n) (lane_to a 1 n) z (lane_to b 3 n)) (sym (other 2 (lit< tt) (λ c. omega arith))))))))
          (four_ways (k % 4) (omega arith))

-- MESSAGES

outside : (g x y back : Bytes) (p : ℕ) → length x ≡ length y → (p < length g) ⊎ (length g + length x ≤ p) → get_or (g ++ (x ++ back)) p 0 ≡ get_or (g ++ (y ++ back)) p 0
outside g x y back p l =
    ⊎_elim
    (λ (h : p < length g). get_or_append_left g (x ++ back) 0 p h ∙ sym (get_or_append_left g (y ++ back) 0 p h))
    (λ (h : length g + length x ≤ p). behind x h ∙ ap (λ n. get_or back (p - length g - n) 0) l ∙ sym (behind y (omega arith))) where
      behind : (z : Bytes) → length g + length z ≤ p → get_or (g ++ (z ++ back)) p 0 ≡ get_or back (p - length g - length z) 0
      behind z h =
          get_or-append_right g (z ++ back) (length g) p 0 refl (omega arith)
          ∙ get_or-append_right z back (length z) (p - length g) 0 refl (omega arith)

-- what is summed, with one word in it that may have been changed
part_same : (g x y back : Bytes) → Small (g ++ (x ++ back)) → Small (g ++ (y ++ back)) → length g % 8 ≡ 0 → length x ≡ length y → length x ≤ 8 → 0 < length x →
    sum_of (g ++ (x ++ back)) ≡ sum_of (g ++ (y ++ back)) → x ≡ y
part_same g x y back sa sb aligned l short some e =
    let k : ℕ = length g / 8 in
    let at : 8 * k ≡ length g = omega arith in
    let la : length (g ++ (x ++ back)) ≡ length g + (length x + length back) = length-append g (x ++ back) ∙ ap (λ n. length g + n) (length-append x back) in
    let lb : length (g ++ (y ++ back)) ≡ length g + (length y + length back) = length-append g (y ++ back) ∙ ap (λ n. length g + n) (length-append y back) in
    let same : (j : ℕ) → (j ≡ k → ⊥) → word (g ++ (x ++ back)) j ≡ word (g ++ (y ++ back)) j
    = λ j ne. word_is (g ++ (x ++ back)) j
    ∙ eight_same (λ i. get_or (g ++ (x ++ back)) (8 * j + i) 0) (λ i. get_or (g ++ (y ++ back)) (8 * j + i) 0)
    (λ i hi. outside g x y back (8 * j + i) l (⊎_elim (λ (c : j < k). inl (omega arith)) (λ (c : k ≤ j). inr (far j k ne c hi at short)) (cases_lt j k)))
    ∙ sym (word_is (g ++ (y ++ back)) j) in
    let w = sum_same (g ++ (x ++ back)) (g ++ (y ++ back)) k sa sb (la ∙ ap (λ n. length g + (n + length back)) l ∙ sym lb) (omega arith) same e in
    let all : (j : ℕ) → word (g ++ (x ++ back)) j ≡ word (g ++ (y ++ back)) j
    = λ j. ⊎_elim (λ (d : j ≡ k). ap (word (g ++ (x ++ back))) d ∙ w ∙ ap (word (g ++ (y ++ back))) (sym d)) (λ ne. same j ne) (cases_eq j k) in
    append_cancel_right x y back (append_cancel_left g (x ++ back) (y ++ back)
    (words_same (g ++ (x ++ back)) (g ++ (y ++ back)) sa sb (la ∙ ap (λ n. length g + (n + length back)) l ∙ sym lb) all)) where
      far : (j k : ℕ) {i : ℕ} → (j ≡ k → ⊥) → k ≤ j → i < 8 → 8 * k ≡ length g → length x ≤ 8 → length g + length x ≤ 8 * j + i
      far j k ne c hi at short = ⊎_elim (λ (d : j ≡ k). absurd (ne d)) (λ d. (let lt : k < j = strict j k c d in omega arith)) (cases_eq j k) where
        strict : (j k : ℕ) → k ≤ j → (j ≡ k → ⊥) → k < j
        strict j k c d = omega arith

drop_past : (x back : Bytes) (n : ℕ) → length x ≤ n → drop n (x ++ back) ≡ drop (n - length x) back
drop_past x back n h =
    let e : length x + (n - length x) ≡ n = omega arith in
    ap (λ k. drop k (x ++ back)) (sym e) ∙ sym (drop-drop (n - length x) (length x) (x ++ back)) ∙ ap (drop (n - length x)) (drop_at x back (length x) refl)

-- the sum itself was changed
first_same : (x y back : Bytes) → Small (x ++ back) → Small (y ++ back) → length x ≡ length y → length x ≤ 8 → Front (x ++ back) → Front (y ++ back) → x ≡ y
first_same x y back sa sb l short fa fb =
    let d : drop 8 (x ++ back) ≡ drop 8 (y ++ back) = drop_past x back 8 short ∙ ap (λ n. drop (8 - n) back) l ∙ sym (drop_past y back 8 (omega arith)) in
    let t : take 8 (x ++ back) ≡ take 8 (y ++ back)
    = sym (be_number 8 (x ++ back) (omega (arith, fa.long)) sa) ∙ ap (be 8) (fa.sum ∙ ap sum_of d ∙ sym fb.sum) ∙ be_number 8 (y ++ back) (omega (arith, fb.long)) sb in
    append_cancel_right x y back
    (sym (take-append-drop 8 (x ++ back)) ∙ ap (λ z. z ++ drop 8 (x ++ back)) t ∙ ap (λ z. take 8 (y ++ back) ++ z) d ∙ take-append-drop 8 (y ++ back))

-- a word behind the sum was changed
later_same : (front x y back : Bytes) → Small (front ++ (x ++ back)) → Small (front ++ (y ++ back)) → length front % 8 ≡ 0 → 8 ≤ length front → length x ≡ length y → length x ≤ 8 → 0 < length x →
    Front (front ++ (x ++ back)) → Front (front ++ (y ++ back)) → x ≡ y
later_same front x y back sa sb aligned long l short some fa fb =
    let da : drop 8 (front ++ (x ++ back)) ≡ drop 8 front ++ (x ++ back) = drop-append-le 8 front (x ++ back) long in
    let db : drop 8 (front ++ (y ++ back)) ≡ drop 8 front ++ (y ++ back) = drop-append-le 8 front (y ++ back) long in
    let t : take 8 (front ++ (x ++ back)) ≡ take 8 (front ++ (y ++ back)) = take-append-le 8 front (x ++ back) long ∙ sym (take-append-le 8 front (y ++ back) long) in
    part_same (drop 8 front) x y back (subst Small da (small_drop 8 (front ++ (x ++ back)) sa)) (subst Small db (small_drop 8 (front ++ (y ++ back)) sb))
    (omega (arith, length-drop 8 front)) l short some
    (ap sum_of (sym da) ∙ sym fa.sum ∙ ap number t ∙ fb.sum ∙ ap sum_of db)

pub changed : ChangedWordIsNoise
changed front x y back m ta tb aligned l short differ e = none_unless (decode_msg (front ++ (y ++ back))) (λ n d.
    let sa = small_all (front ++ (x ++ back)) ta in
    let sb = small_all (front ++ (y ++ back)) tb in
    let fa = front_of (front ++ (x ++ back)) m e in
    let fb = front_of (front ++ (y ++ back)) n d in
    differ (⊎_elim
    (λ (h : 0 < length x). ⊎_elim
    (λ (f : length front < 8).
    let nil : front ≡ [] = nil_from_length front (omega arith) in
    first_same x y back (subst (λ z. Small (z ++ (x ++ back))) nil sa) (subst (λ z. Small (z ++ (y ++ back))) nil sb) l short
    (subst (λ z. Front (z ++ (x ++ back))) nil fa) (subst (λ z. Front (z ++ (y ++ back))) nil fb))
    (λ (f : 8 ≤ length front). later_same front x y back sa sb aligned f l short h fa fb)
    (cases_lt (length front) 8))
    (λ (h : length x ≤ 0). nil_from_length x (omega arith) ∙ sym (nil_from_length y (omega arith)))
    (cases_lt 0 (length x))))
