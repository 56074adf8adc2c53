-- Where the answer stands in a Response.
use Rattle.std.proofs.Common.{◌≡◌, ℕ, ◌-◌, ◌≤◌, min, Bool, true, false, cond, eqb, ltb, length, take, drop, Some, None, Option, sym, refl, ◌∙◌, arith, length-drop, ltb-false}
use Rattle.std.proofs.lemmas.List.{take_all, drop-drop}
use Rattle.promise.specs.Bytes.{Bytes, bind, number, number_in, ended}
use Rattle.promise.specs.Layout.{is_busy}
use Rattle.codec.specs.Sum.{sum_of}
use Rattle.codec.specs.Messages.{Msg, Hello, Welcome, Request, Response, Alive, hello_in, welcome_in, request_in, response_in, alive_in, kind_in, body_in, lengthed_msg_in, decode_msg}

never : {A : Type 0} (x : A) → None ≡ Some x → ⊥
never x e = cc

number_by : (w : ℕ) (b : Bytes) (f : ℕ × Bytes → Option Msg) (x : Msg) (y : ℕ × Bytes) (v : Bool) → ltb (length b) w ≡ v → bind (cond v None (Some y)) f ≡ Some x → (w ≤ length b) × (f y ≡ Some x)
number_by w b f x y true q e = absurd (never x e)
number_by w b f x y false q e = (ltb-false (length b) w q, e)

-- what was read behind a number
pub behind : (w : ℕ) (b : Bytes) (f : ℕ × Bytes → Option Msg) (x : Msg) → bind (number_in w b) f ≡ Some x → (w ≤ length b) × (f (number (take w b), drop w b) ≡ Some x)
behind w b f x e = number_by w b f x (number (take w b), drop w b) (ltb (length b) w) refl e

if_so : (v : Bool) (o : Option Msg) (x : Msg) → cond v o None ≡ Some x → o ≡ Some x
if_so true o x e = e
if_so false o x e = absurd (never x e)

if_not : (v : Bool) (o : Option Msg) (x : Msg) → cond v None o ≡ Some x → o ≡ Some x
if_not true o x e = absurd (never x e)
if_not false o x e = e

-- one of two ways to read
either : (v : Bool) (o r : Option Msg) (x : Msg) → (o ≡ Some x → ⊥) → cond v o r ≡ Some x → r ≡ Some x
either true o r x n e = absurd (n e)
either false o r x n e = e

end_not : (v : Bool) (x y : Msg) → (Some x ≡ Some y → ⊥) → cond v (Some x) None ≡ Some y → ⊥
end_not true x y n e = n e
end_not false x y n e = never y e

no_hello : (b : Bytes) (s j q g : ℕ) (a : Bytes) → hello_in b ≡ Some (Response s j q g a) → ⊥
no_hello b s j q g a e =
    let r = behind 8 b (λ c. ended (Hello c.0) c.1) (Response s j q g a) e in
    end_not _ (Hello (number (take 8 b))) (Response s j q g a) (λ i. cc) r.1

no_alive : (b : Bytes) (s j q g : ℕ) (a : Bytes) → alive_in b ≡ Some (Response s j q g a) → ⊥
no_alive b s j q g a e =
    let r = behind 8 b (λ c. ended (Alive c.0) c.1) (Response s j q g a) e in
    end_not _ (Alive (number (take 8 b))) (Response s j q g a) (λ i. cc) r.1

no_welcome : (b : Bytes) (s j q g : ℕ) (a : Bytes) → welcome_in b ≡ Some (Response s j q g a) → ⊥
no_welcome b s j q g a e =
    let x : Msg = Response s j q g a in
    let r = behind 8 b (λ c. bind (number_in 8 c.1) (λ n. ended (Welcome c.0 n.0) n.1)) x e in
    let r2 = behind 8 (drop 8 b) (λ n. ended (Welcome (number (take 8 b)) n.0) n.1) x r.1 in
    end_not _ (Welcome (number (take 8 b)) (number (take 8 (drop 8 b)))) x (λ i. cc) r2.1

no_request : (b : Bytes) (s j q g : ℕ) (a : Bytes) → request_in b ≡ Some (Response s j q g a) → ⊥
no_request b s j q g a e =
    let x : Msg = Response s j q g a in
    let r = behind 8 b (λ s. bind (number_in 1 s.1) (λ j. bind (number_in 8 j.1) (λ q. Some (Request s.0 j.0 q.0 q.1)))) x e in
    let r2 = behind 1 (drop 8 b) (λ j. bind (number_in 8 j.1) (λ q. Some (Request (number (take 8 b)) j.0 q.0 q.1))) x r.1 in
    let r3 = behind 8 (drop 1 (drop 8 b)) (λ q. Some (Request (number (take 8 b)) (number (take 1 (drop 8 b))) q.0 q.1)) x r2.1 in
    let i : Some (Request (number (take 8 b)) (number (take 1 (drop 8 b))) (number (take 8 (drop 1 (drop 8 b)))) (drop 8 (drop 1 (drop 8 b)))) ≡ Some x = r3.1 in
    cc

-- the answer is all that stands behind four numbers
in_response : (b : Bytes) (s j q g : ℕ) (a : Bytes) → response_in b ≡ Some (Response s j q g a) → (25 ≤ length b) × (a ≡ drop 25 b)
in_response b s j q g a e =
    let x : Msg = Response s j q g a in
    let r = behind 8 b (λ s. bind (number_in 1 s.1) (λ j. bind (number_in 8 j.1) (λ q. bind (number_in 8 q.1) (λ g. cond (is_busy g.1) None (Some (Response s.0 j.0 q.0 g.0 g.1)))))) x e in
    let r2 = behind 1 (drop 8 b) (λ j. bind (number_in 8 j.1) (λ q. bind (number_in 8 q.1) (λ g. cond (is_busy g.1) None (Some (Response (number (take 8 b)) j.0 q.0 g.0 g.1))))) x r.1 in
    let c1 : Bytes = drop 1 (drop 8 b) in
    let r3 = behind 8 c1 (λ q. bind (number_in 8 q.1) (λ g. cond (is_busy g.1) None (Some (Response (number (take 8 b)) (number (take 1 (drop 8 b))) q.0 g.0 g.1)))) x r2.1 in
    let r4 = behind 8 (drop 8 c1) (λ g. cond (is_busy g.1) None (Some (Response (number (take 8 b)) (number (take 1 (drop 8 b))) (number (take 8 c1)) g.0 g.1))) x r3.1 in
    let i : Some (Response (number (take 8 b)) (number (take 1 (drop 8 b))) (number (take 8 c1)) (number (take 8 (drop 8 c1))) (drop 8 (drop 8 c1))) ≡ Some x = if_not (is_busy (drop 8 (drop 8 c1))) _ x r4.1 in
    let k : a ≡ drop 8 (drop 8 c1) = cc in
    let l1 = length-drop 8 b in
    let l2 = length-drop 1 (drop 8 b) in
    let l3 = length-drop 8 c1 in (
      omega (arith, r.0, r2.0, r3.0, r4.0, l1, l2, l3),
      k ∙ simp drop-drop,
    )

by_kind : (k : ℕ) (b : Bytes) (s j q g : ℕ) (a : Bytes) → kind_in k b ≡ Some (Response s j q g a) → response_in b ≡ Some (Response s j q g a)
by_kind k b s j q g a e =
    let x : Msg = Response s j q g a in
    let e1 = either (eqb k 1) (hello_in b) _ x (no_hello b s j q g a) e in
    let e2 = either (eqb k 2) (welcome_in b) _ x (no_welcome b s j q g a) e1 in
    let e3 = either (eqb k 3) (request_in b) _ x (no_request b s j q g a) e2 in
    last (eqb k 4) (eqb k 5) e3
  where
    last : (u v : Bool) → cond u (response_in b) (cond v (alive_in b) None) ≡ Some (Response s j q g a) → response_in b ≡ Some (Response s j q g a)
    last true v i = i
    last false v i = absurd (no_alive b s j q g a (if_so v (alive_in b) (Response s j q g a) i))

pub answer_behind : (b : Bytes) (s j q g : ℕ) (a : Bytes) → decode_msg b ≡ Some (Response s j q g a) → (38 ≤ length b) × (a ≡ drop 38 b)
unfolding decode_msg body_in
answer_behind b s j q g a e =
    let x : Msg = Response s j q g a in
    let r = behind 8 b (λ h. cond (eqb h.0 (sum_of h.1)) (lengthed_msg_in (length b) h.1) None) x e in
    let e1 = if_so (eqb (number (take 8 b)) (sum_of (drop 8 b))) (lengthed_msg_in (length b) (drop 8 b)) x r.1 in
    let r2 = behind 4 (drop 8 b) (λ l. cond (eqb l.0 (length b)) (body_in l.1) None) x e1 in
    let c1 : Bytes = drop 4 (drop 8 b) in
    let e2 = if_so (eqb (number (take 4 (drop 8 b))) (length b)) (body_in c1) x r2.1 in
    let r3 = behind 1 c1 (λ k. kind_in k.0 k.1) x e2 in
    let e3 = in_response (drop 1 c1) s j q g a (by_kind (number (take 1 c1)) (drop 1 c1) s j q g a r3.1) in
    let l1 = length-drop 8 b in
    let l2 = length-drop 4 (drop 8 b) in
    let l3 = length-drop 1 c1 in (
      omega (arith, r.0, r2.0, r3.0, e3.0, l1, l2, l3),
      e3.1 ∙ simp drop-drop,
    )

-- what a program that takes all behind the first 38 bytes knows
pub answer_there : (b : Bytes) (s j q g start : ℕ) (a : Bytes) → decode_msg b ≡ Some (Response s j q g a) → start ≡ min 38 (length b) → take (length b - start) (drop start b) ≡ a
answer_there b s j q g start a e es =
    let r = answer_behind b s j q g a e in
    let i : start ≡ 38 = es ∙ omega (arith, r.0) in
    let l = length-drop 38 b in
    rw i (take_all (length b - 38) (drop 38 b) (omega (arith, l)) ∙ sym r.1)
