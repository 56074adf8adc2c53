-- Messages that were written are read as they were.
use Rattle.std.proofs.Common.{◌≡◌, ℕ, ◌+◌, ◌*◌, ◌/◌, ◌^◌, ◌<◌, Bool, true, false, cond, not, T, eqb, [], ◌∷◌, ◌++◌, length, Some, None, sym, refl, ap, ◌∙◌, arith, lit<}
use lib.Bits.{bit_xor}
use Rattle.std.proofs.lemmas.Nat.{mod_below}
use Rattle.std.proofs.lemmas.List.{append-nil, length-append}
use Rattle.std.proofs.lemmas.Bool.{eq-eqb}
use Rattle.promise.specs.Bytes.{Bytes, be, bind, number_in, ended}
use Rattle.promise.specs.Layout.{is_busy}
use Rattle.codec.specs.Sum.{folded, mixed, lane_to, sum_to, sum_of}
use Rattle.codec.specs.Messages.{Msg, Hello, Welcome, Request, Response, Alive, body_of, lengthed, summed, encode_msg, hello_in, welcome_in, alive_in, kind_in, body_in, lengthed_msg_in, decode_msg, Sayable, ReadsBack}
use Rattle.codec.proofs.Numbers.{length_be}
use Rattle.codec.proofs.Forms.{kind_back, number_back}

pub mixed_fits : (h w : ℕ) → mixed h w < 2 ^ 64
mixed_fits h w = mod_below (bit_xor h (folded w) * 0x9E37_79B9_7F4A_7C15) (2 ^ 64) (lit< tt)

pub sum_fits : (b : Bytes) → sum_of b < 2 ^ 64
unfolding sum_of sum_to
sum_fits b =
    let n : ℕ = (length b + 31) / 32 in
    mixed_fits (mixed (mixed (mixed 0 (lane_to b 0 n)) (lane_to b 1 n)) (lane_to b 2 n)) (lane_to b 3 n)

not_T : (x : Bool) → T (not x) → x ≡ false
not_T true t = absurd t
not_T false t = refl

by_kind : (k : ℕ) (rest : Bytes) → k < 256 → body_in (k ∷ rest) ≡ kind_in k rest
unfolding body_in
by_kind k rest h = ap (λ o. bind o (λ k. kind_in k.0 k.1)) (kind_back k rest h)

pub body_back : (m : Msg) → Sayable m → body_in (body_of m) ≡ Some m
body_back (Hello c) h =
    by_kind 1 (be 8 c) (lit< tt) ∙ ap hello_in (sym (append-nil (be 8 c)))
    ∙ ap (λ o. bind o (λ c. ended (Hello c.0) c.1)) (number_back 8 c [] h)
body_back (Welcome c s) h =
    by_kind 2 (be 8 c ++ be 8 s) (lit< tt) ∙ ap (λ z. welcome_in (be 8 c ++ z)) (sym (append-nil (be 8 s)))
    ∙ ap (λ o. bind o (λ c. bind (number_in 8 c.1) (λ s. ended (Welcome c.0 s.0) s.1))) (number_back 8 c (be 8 s ++ []) h.0)
    ∙ ap (λ o. bind o (λ s. ended (Welcome c s.0) s.1)) (number_back 8 s [] h.1)
body_back (Request s j q c) h =
    by_kind 3 (be 8 s ++ (j ∷ (be 8 q ++ c))) (lit< tt)
    ∙ ap (λ o. bind o (λ s. bind (number_in 1 s.1) (λ j. bind (number_in 8 j.1) (λ q. Some (Request s.0 j.0 q.0 q.1))))) (number_back 8 s (j ∷ (be 8 q ++ c)) h.0)
    ∙ ap (λ o. bind o (λ j. bind (number_in 8 j.1) (λ q. Some (Request s j.0 q.0 q.1)))) (kind_back j (be 8 q ++ c) h.1)
    ∙ ap (λ o. bind o (λ q. Some (Request s j q.0 q.1))) (number_back 8 q c h.2)
body_back (Response s j q g a) h =
    by_kind 4 (be 8 s ++ (j ∷ (be 8 q ++ (be 8 g ++ a)))) (lit< tt)
    ∙ ap (λ o. bind o (λ s. bind (number_in 1 s.1) (λ j. bind (number_in 8 j.1) (λ q. bind (number_in 8 q.1) (λ g. cond (is_busy g.1) None (Some (Response s.0 j.0 q.0 g.0 g.1)))))))
    (number_back 8 s (j ∷ (be 8 q ++ (be 8 g ++ a))) h.0)
    ∙ ap (λ o. bind o (λ j. bind (number_in 8 j.1) (λ q. bind (number_in 8 q.1) (λ g. cond (is_busy g.1) None (Some (Response s j.0 q.0 g.0 g.1))))))
    (kind_back j (be 8 q ++ (be 8 g ++ a)) h.1)
    ∙ ap (λ o. bind o (λ q. bind (number_in 8 q.1) (λ g. cond (is_busy g.1) None (Some (Response s j q.0 g.0 g.1))))) (number_back 8 q (be 8 g ++ a) h.2)
    ∙ ap (λ o. bind o (λ g. cond (is_busy g.1) None (Some (Response s j q g.0 g.1)))) (number_back 8 g a h.3)
    ∙ ap (λ t. cond t None (Some (Response s j q g a))) (not_T (is_busy a) h.6)
body_back (Alive s) h =
    by_kind 5 (be 8 s) (lit< tt) ∙ ap alive_in (sym (append-nil (be 8 s)))
    ∙ ap (λ o. bind o (λ s. ended (Alive s.0) s.1)) (number_back 8 s [] h)

pub body_size : (m : Msg) → Sayable m → 12 + length (body_of m) < 2 ^ 32
body_size (Hello c) h = omega (arith, length_be 8 c)
body_size (Welcome c s) h = omega (arith, length-append (be 8 c) (be 8 s), length_be 8 c, length_be 8 s)
body_size (Request s j q c) h =
    omega (arith, h.3, length-append (be 8 s) (j ∷ (be 8 q ++ c)), length-append (be 8 q) c, length_be 8 s, length_be 8 q)
body_size (Response s j q g a) h =
    omega (arith, h.4, length-append (be 8 s) (j ∷ (be 8 q ++ (be 8 g ++ a))), length-append (be 8 q) (be 8 g ++ a), length-append (be 8 g) a, length_be 8 s, length_be 8 q, length_be 8 g)
body_size (Alive s) h = omega (arith, length_be 8 s)

pub length_whole : (b : Bytes) → length (summed (lengthed b)) ≡ 12 + length b
length_whole b =
    omega (arith, length-append (be 8 (sum_of (lengthed b))) (lengthed b), length-append (be 4 (12 + length b)) b, length_be 8 (sum_of (lengthed b)), length_be 4 (12 + length b))

-- a sum and a length before a body that they fit are read away
pub whole_back : (b : Bytes) → 12 + length b < 2 ^ 32 → decode_msg (summed (lengthed b)) ≡ body_in b
unfolding decode_msg
whole_back b h =
    let n : ℕ = length (summed (lengthed b)) in
    let s = eq-eqb (sum_of (lengthed b)) (sum_of (lengthed b)) refl in
    let e = eq-eqb (12 + length b) n (sym (length_whole b)) in
    ap (λ o. bind o (λ h. cond (eqb h.0 (sum_of h.1)) (lengthed_msg_in n h.1) None)) (number_back 8 (sum_of (lengthed b)) (lengthed b) (sum_fits (lengthed b)))
    ∙ ap (λ t. cond t (lengthed_msg_in n (lengthed b)) None) s
    ∙ ap (λ o. bind o (λ l. cond (eqb l.0 n) (body_in l.1) None)) (number_back 4 (12 + length b) b h)
    ∙ ap (λ t. cond t (body_in b) None) e

pub reads_back : ReadsBack
unfolding encode_msg
reads_back m h = whole_back (body_of m) (body_size m h) ∙ body_back m h
