-- Frames that were written are read as they were, and there is one way to write each.
use Rattle.std.proofs.Common.{◌≡◌, ℕ, ◌+◌, ◌^◌, ◌<◌, ◌++◌, length, Some, sym, ap, ◌∙◌, subst}
use Rattle.std.proofs.lemmas.List.{length-append}
use Rattle.promise.specs.Bytes.{Bytes, be, bind, number_in, lengthed_in}
use Rattle.promise.specs.Layout.{framed, frame_in}
use Rattle.codec.specs.Statements.{FramesReadBack, FramesHaveOneForm}
use Rattle.codec.proofs.Numbers.{length_be}
use Rattle.codec.proofs.Forms.{small_all, bind_some, number_back, lengthed_back, number_form, lengthed_form}

framed_size : (k : ℕ) (b : Bytes) → length (be 8 k ++ b) ≡ 8 + length b
framed_size k b = length-append (be 8 k) b ∙ ap (λ n. n + length b) (length_be 8 k)

pub frames_back : FramesReadBack
frames_back k b rest hk hb =
    let l = framed_size k b in
    ap (λ n. frame_in ((be 4 n ++ (be 8 k ++ b)) ++ rest)) (sym l)
    ∙ ap (λ o. bind o (λ f. bind (number_in 8 f.0) (λ k. Some (k.0, k.1, f.1)))) (lengthed_back 4 (be 8 k ++ b) rest (subst (λ n. n < 2 ^ 32) (sym l) hb))
    ∙ ap (λ o. bind o (λ k. Some (k.0, k.1, rest))) (number_back 8 k b hk)

pub frames_form : FramesHaveOneForm
frames_form b k x rest t e =
    let s = small_all b t in
    let f = bind_some (lengthed_in 4 b) (λ f. bind (number_in 8 f.0) (λ k. Some (k.0, k.1, f.1))) (k, x, rest) e in
    let g = bind_some (number_in 8 f.0.0) (λ k. Some (k.0, k.1, f.0.1)) (k, x, rest) f.2 in
    let ff = lengthed_form 4 b f.0.0 f.0.1 s f.1 in
    let fg = number_form 8 f.0.0 g.0.0 g.0.1 ff.2 g.1 in
    let both : ◌≡◌ {A = ℕ × Bytes × Bytes} (g.0.0, g.0.1, f.0.1) (k, x, rest) = let r = g.2 in cc in
    subst (λ z. (framed z.0 z.1 ++ z.2 ≡ b) × (z.0 < 2 ^ 64) × (8 + length z.1 < 2 ^ 32)) both
    (go f.0.0 f.0.1 g.0.0 g.0.1 ff.0 ff.1 fg.0 fg.1) where
      go : (whole rest : Bytes) (k : ℕ) (x : Bytes) → b ≡ (be 4 (length whole) ++ whole) ++ rest → length whole < 2 ^ 32 → whole ≡ be 8 k ++ x → k < 2 ^ 64 →
          (framed k x ++ rest ≡ b) × (k < 2 ^ 64) × (8 + length x < 2 ^ 32)
      go whole rest k x eb l ew hk =
          let n : length whole ≡ 8 + length x = ap length ew ∙ framed_size k x in
          (sym (eb ∙ ap (λ m. (be 4 m ++ whole) ++ rest) n ∙ ap (λ w. (be 4 (8 + length x) ++ w) ++ rest) ew), hk, subst (λ m. m < 2 ^ 32) n l)
