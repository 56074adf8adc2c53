-- An answer behind the place that was left for what stands before it.
use Rattle.std.proofs.Common.{◌≡◌, ℕ, ◌++◌, length, drop, sym, ap, ◌∙◌}
use Rattle.std.proofs.Math.Seq.{drop-append_seam}
use Rattle.promise.specs.Bytes.{Bytes}

pub behind_front : (front answer items : Bytes) (n m : ℕ) → n ≡ length front → n ≡ m → items ≡ front ++ answer → drop m items ≡ answer
behind_front front answer items n m size place is =
    ap (λ (k : ℕ). drop k items) (sym place ∙ size) ∙ (ap (λ (b : Bytes). drop (length front) b) is ∙ drop-append_seam front answer)
