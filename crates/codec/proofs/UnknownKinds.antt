-- First bytes by which nothing begins.
use Rattle.std.proofs.Common.{◌≡◌, ℕ, ◌<◌, ◌≤◌, false, eqb, None, refl, arith}
use Rattle.std.proofs.lemmas.Bool.{ne_eqb}
use Rattle.promise.specs.Bytes.{Bytes}
use Rattle.promise.specs.Layout.{call_in, reply_in}

pub unknown_call : (k : ℕ) (b : Bytes) → (1 ≤ k → k ≤ 8 → ⊥) → call_in k b ≡ None
unknown_call k b h =
    let not : (i : ℕ) → 1 ≤ i → i ≤ 8 → eqb k i ≡ false = λ i lo hi. ne_eqb k i (λ e. h (omega arith) (omega arith)) in
    let e1 = not 1 (omega arith) (omega arith) in
    let e2 = not 2 (omega arith) (omega arith) in
    let e3 = not 3 (omega arith) (omega arith) in
    let e4 = not 4 (omega arith) (omega arith) in
    let e5 = not 5 (omega arith) (omega arith) in
    let e6 = not 6 (omega arith) (omega arith) in
    let e7 = not 7 (omega arith) (omega arith) in
    let e8 = not 8 (omega arith) (omega arith) in
    rw (e1, e2, e3, e4, e5, e6, e7, e8) refl

pub unknown_reply : (k : ℕ) (b : Bytes) → 4 < k → reply_in k b ≡ None
unknown_reply k b h =
    let not : (i : ℕ) → i ≤ 4 → eqb k i ≡ false = λ i hi. ne_eqb k i (λ e. (omega arith)) in
    let e0 = not 0 (omega arith) in
    let e1 = not 1 (omega arith) in
    let e2 = not 2 (omega arith) in
    let e3 = not 3 (omega arith) in
    let e4 = not 4 (omega arith) in
    rw (e0, e1, e2, e3, e4) refl
