-- There is one way to write each message.
use Rattle.std.proofs.Common.{◌≡◌, ℕ, suc, ◌+◌, ◌^◌, ◌<◌, Bool, true, false, cond, not, ◌&&◌, T, eqb, ltb, [], ◌∷◌, ◌++◌, length, Some, None, sym, ap, ◌∙◌, subst, ⊎_elim, arith, lt→ltb}
use Rattle.std.proofs.lemmas.List.{append-nil, length-append}
use Rattle.promise.specs.Bytes.{Bytes, every, all_bytes, be, bind, number_in, ended}
use Rattle.promise.specs.Layout.{is_busy}
use Rattle.codec.specs.Sum.{sum_of}
use Rattle.codec.specs.Messages.{Msg, Hello, Welcome, Request, Response, Alive, body_of, lengthed, summed, encode_msg, hello_in, welcome_in, request_in, response_in, alive_in, kind_in, body_in, lengthed_msg_in, decode_msg, Sayable}
use Rattle.codec.proofs.Numbers.{length_be, be_1}
use Rattle.codec.proofs.Forms.{Small, small_all, bind_some, cond_some, kind_form, number_form, ended_form}
use Rattle.messages.specs.Noise.{MessagesHaveOneForm}

and_T : (x y : Bool) → T x → T y → T (x && y)
and_T true y t u = u
and_T false y t u = t

all_small : (b : Bytes) → Small b → T (all_bytes b)
unfolding every
all_small [] s = tt
all_small (x ∷ b) s = and_T (ltb x 256) (all_bytes b) (lt→ltb x 256 (s 0)) (all_small b (λ i. s (suc i)))

-- a body behind its kind says x
abbrev Formed : Msg → ℕ → Bytes → Type 0
Formed x k b = (body_of x ≡ k ∷ b) × (length b < 2 ^ 31 → Sayable x)

hello_form : (b : Bytes) (x : Msg) → Small b → hello_in b ≡ Some x → Formed x 1 b
hello_form b x s e =
    let c = bind_some (number_in 8 b) (λ c. ended (Hello c.0) c.1) x e in
    let f = number_form 8 b c.0.0 c.0.1 s c.1 in
    let en = ended_form (Hello c.0.0) c.0.1 x c.2 in
    subst (λ y. Formed y 1 b) en.0
    (ap (λ z. 1 ∷ z) (sym (f.0 ∙ ap (λ z. be 8 c.0.0 ++ z) en.1 ∙ append-nil (be 8 c.0.0))), λ _. f.1)

alive_form : (b : Bytes) (x : Msg) → Small b → alive_in b ≡ Some x → Formed x 5 b
alive_form b x s e =
    let c = bind_some (number_in 8 b) (λ c. ended (Alive c.0) c.1) x e in
    let f = number_form 8 b c.0.0 c.0.1 s c.1 in
    let en = ended_form (Alive c.0.0) c.0.1 x c.2 in
    subst (λ y. Formed y 5 b) en.0
    (ap (λ z. 5 ∷ z) (sym (f.0 ∙ ap (λ z. be 8 c.0.0 ++ z) en.1 ∙ append-nil (be 8 c.0.0))), λ _. f.1)

welcome_form : (b : Bytes) (x : Msg) → Small b → welcome_in b ≡ Some x → Formed x 2 b
welcome_form b x s e =
    let c = bind_some (number_in 8 b) (λ c. bind (number_in 8 c.1) (λ s. ended (Welcome c.0 s.0) s.1)) x e in
    let f = number_form 8 b c.0.0 c.0.1 s c.1 in
    let d = bind_some (number_in 8 c.0.1) (λ s. ended (Welcome c.0.0 s.0) s.1) x c.2 in
    let g = number_form 8 c.0.1 d.0.0 d.0.1 f.2 d.1 in
    let en = ended_form (Welcome c.0.0 d.0.0) d.0.1 x d.2 in
    subst (λ y. Formed y 2 b) en.0 (
      ap (λ z. 2 ∷ z) (sym (f.0 ∙ ap (λ z. be 8 c.0.0 ++ z) (g.0 ∙ ap (λ z. be 8 d.0.0 ++ z) en.1 ∙ append-nil (be 8 d.0.0)))),
      λ _. (f.1, g.1),
    )

some_is : {A : Type 0} (x y : A) → Some x ≡ Some y → x ≡ y
some_is x y e = cc

-- session, slot, seq and the rest, as a request and a response begin
record Begun (b : Bytes) (s j q : ℕ) (rest : Bytes) : Type 0 where
  whole : b ≡ be 8 s ++ (j ∷ (be 8 q ++ rest))
  session : s < 2 ^ 64
  slot : j < 256
  seq : q < 2 ^ 64
  small : Small rest

begun : (b b1 b2 rest : Bytes) (s j q : ℕ) → Small b → number_in 8 b ≡ Some (s, b1) → number_in 1 b1 ≡ Some (j, b2) → number_in 8 b2 ≡ Some (q, rest) → Begun b s j q rest
begun b b1 b2 rest s j q sm es ej eq =
    let f = number_form 8 b s b1 sm es in
    let g = number_form 1 b1 j b2 f.2 ej in
    let h = number_form 8 b2 q rest g.2 eq in
    record {
      whole = f.0 ∙ ap (λ z. be 8 s ++ z) (g.0 ∙ ap (λ z. z ++ b2) (be_1 j g.1) ∙ ap (λ z. j ∷ z) h.0);
      session = f.1;
      slot = g.1;
      seq = h.1;
      small = h.2;
    }

begun_size : (b : Bytes) (s j q : ℕ) (rest : Bytes) → b ≡ be 8 s ++ (j ∷ (be 8 q ++ rest)) → length b ≡ 17 + length rest
begun_size b s j q rest e =
    omega (arith, ap length e, length-append (be 8 s) (j ∷ (be 8 q ++ rest)), length-append (be 8 q) rest, length_be 8 s, length_be 8 q)

request_form : (b : Bytes) (x : Msg) → Small b → request_in b ≡ Some x → Formed x 3 b
request_form b x sm e =
    let s = bind_some (number_in 8 b) (λ s. bind (number_in 1 s.1) (λ j. bind (number_in 8 j.1) (λ q. Some (Request s.0 j.0 q.0 q.1)))) x e in
    let j = bind_some (number_in 1 s.0.1) (λ j. bind (number_in 8 j.1) (λ q. Some (Request s.0.0 j.0 q.0 q.1))) x s.2 in
    let q = bind_some (number_in 8 j.0.1) (λ q. Some (Request s.0.0 j.0.0 q.0 q.1)) x j.2 in
    go s.0.0 j.0.0 q.0.0 q.0.1 (begun b s.0.1 j.0.1 q.0.1 s.0.0 j.0.0 q.0.0 sm s.1 j.1 q.1)
    (some_is (Request s.0.0 j.0.0 q.0.0 q.0.1) x q.2) where
      go : (s j q : ℕ) (c : Bytes) → Begun b s j q c → Request s j q c ≡ x → Formed x 3 b
      go s j q c p is =
          subst (λ y. Formed y 3 b) is (
            ap (λ z. 3 ∷ z) (sym p.whole),
            λ l. (p.session, p.slot, p.seq, (let n = begun_size b s j q c p.whole in omega arith), all_small c p.small),
          )

not_busy_lem : (t : Bool) (x y : Msg) → cond t None (Some x) ≡ Some y → T (not t) × (x ≡ y)
not_busy_lem true x y e = absurd (let z : ◌≡◌ {A = ℕ} 0 1 = cc in omega arith)
not_busy_lem false x y e = (tt, cc)

response_form : (b : Bytes) (x : Msg) → Small b → response_in b ≡ Some x → Formed x 4 b
response_form b x sm e =
    let s = bind_some (number_in 8 b) (λ s. bind (number_in 1 s.1) (λ j. bind (number_in 8 j.1) (λ q. bind (number_in 8 q.1) (λ g. cond (is_busy g.1) None (Some (Response s.0 j.0 q.0 g.0 g.1)))))) x e in
    let j = bind_some (number_in 1 s.0.1) (λ j. bind (number_in 8 j.1) (λ q. bind (number_in 8 q.1) (λ g. cond (is_busy g.1) None (Some (Response s.0.0 j.0 q.0 g.0 g.1))))) x s.2 in
    let q = bind_some (number_in 8 j.0.1) (λ q. bind (number_in 8 q.1) (λ g. cond (is_busy g.1) None (Some (Response s.0.0 j.0.0 q.0 g.0 g.1)))) x j.2 in
    let g = bind_some (number_in 8 q.0.1) (λ g. cond (is_busy g.1) None (Some (Response s.0.0 j.0.0 q.0.0 g.0 g.1))) x q.2 in
    go s.0.0 j.0.0 q.0.0 q.0.1 g.0.0 g.0.1
    (begun b s.0.1 j.0.1 q.0.1 s.0.0 j.0.0 q.0.0 sm s.1 j.1 q.1) g.1
    (not_busy_lem (is_busy g.0.1) (Response s.0.0 j.0.0 q.0.0 g.0.0 g.0.1) x g.2) where
      go : (s j q : ℕ) (mid : Bytes) (g : ℕ) (a : Bytes) → Begun b s j q mid → number_in 8 mid ≡ Some (g, a) → T (not (is_busy a)) × (Response s j q g a ≡ x) → Formed x 4 b
      go s j q mid g a p eg is =
          let f = number_form 8 mid g a p.small eg in
          subst (λ y. Formed y 4 b) is.1 (
            ap (λ z. 4 ∷ z) (sym (p.whole ∙ ap (λ z. be 8 s ++ (j ∷ (be 8 q ++ z))) f.0)),
            λ l. (
              p.session,
              p.slot,
              p.seq,
              f.1,
              (let n = begun_size b s j q mid p.whole in omega (arith, ap length f.0, length-append (be 8 g) a, length_be 8 g)),
              all_small a f.2,
              is.0,
            ),
          )

kinds_form : (k : ℕ) (b : Bytes) (x : Msg) → Small b → kind_in k b ≡ Some x → Formed x k b
kinds_form k b x s e =
    ⊎_elim
    (λ p1. at 1 p1.0 (hello_form b x s p1.1))
    (λ p1. ⊎_elim
    (λ p2. at 2 p2.0 (welcome_form b x s p2.1))
    (λ p2. ⊎_elim
    (λ p3. at 3 p3.0 (request_form b x s p3.1))
    (λ p3. ⊎_elim
    (λ p4. at 4 p4.0 (response_form b x s p4.1))
    (λ p4. ⊎_elim
    (λ p5. at 5 p5.0 (alive_form b x s p5.1))
    (λ p5. absurd (let r = p5.1 in let z : ◌≡◌ {A = ℕ} 0 1 = cc in omega arith))
    (cond_some k 5 (alive_in b) None x p4.1))
    (cond_some k 4 (response_in b) (cond (eqb k 5) (alive_in b) None) x p3.1))
    (cond_some k 3 (request_in b) (cond (eqb k 4) (response_in b) (cond (eqb k 5) (alive_in b) None)) x p2.1))
    (cond_some k 2 (welcome_in b) (cond (eqb k 3) (request_in b) (cond (eqb k 4) (response_in b) (cond (eqb k 5) (alive_in b) None))) x p1.1))
    (cond_some k 1 (hello_in b) (cond (eqb k 2) (welcome_in b) (cond (eqb k 3) (request_in b) (cond (eqb k 4) (response_in b) (cond (eqb k 5) (alive_in b) None)))) x e) where
      at : (i : ℕ) → k ≡ i → Formed x i b → Formed x k b
      at i e h = (h.0 ∙ ap (λ n. n ∷ b) (sym e), h.1)

body_form : (b : Bytes) (x : Msg) → Small b → body_in b ≡ Some x → (body_of x ≡ b) × (length b < 2 ^ 31 → Sayable x)
unfolding body_in
body_form b x s e =
    let k = bind_some (number_in 1 b) (λ k. kind_in k.0 k.1) x e in
    let f = kind_form b k.0.0 k.0.1 s k.1 in
    let g = kinds_form k.0.0 k.0.1 x f.1 k.2 in
    (g.0 ∙ sym f.0, λ l. g.1 (omega (arith, ap length f.0)))

pub messages_form : MessagesHaveOneForm
unfolding decode_msg encode_msg
messages_form b m t e =
    let s = small_all b t in
    let h = bind_some (number_in 8 b) (λ h. cond (eqb h.0 (sum_of h.1)) (lengthed_msg_in (length b) h.1) None) m e in
    let f = number_form 8 b h.0.0 h.0.1 s h.1 in
    ⊎_elim
    (λ p.
    let l = bind_some (number_in 4 h.0.1) (λ l. cond (eqb l.0 (length b)) (body_in l.1) None) m p.1 in
    let g = number_form 4 h.0.1 l.0.0 l.0.1 f.2 l.1 in
    ⊎_elim
    (λ q. go h.0.0 h.0.1 l.0.0 l.0.1 f.0 p.0 g.0 q.0 (body_form l.0.1 m g.2 q.1))
    (λ q. absurd (let r = q.1 in let z : ◌≡◌ {A = ℕ} 0 1 = cc in omega arith))
    (cond_some l.0.0 (length b) (body_in l.0.1) None m l.2))
    (λ p. absurd (let r = p.1 in let z : ◌≡◌ {A = ℕ} 0 1 = cc in omega arith))
    (cond_some h.0.0 (sum_of h.0.1) (lengthed_msg_in (length b) h.0.1) None m h.2) where
      go : (h : ℕ) (rest : Bytes) (l : ℕ) (body : Bytes) → b ≡ be 8 h ++ rest → h ≡ sum_of rest → rest ≡ be 4 l ++ body → l ≡ length b →
          (body_of m ≡ body) × (length body < 2 ^ 31 → Sayable m) → (summed (lengthed (body_of m)) ≡ b) × (length b < 2 ^ 31 → Sayable m)
      go h rest l body eb eh er el (em, range) =
          let lr : length b ≡ 8 + length rest = ap length eb ∙ length-append (be 8 h) rest ∙ ap (λ n. n + length rest) (length_be 8 h) in
          let lb : length rest ≡ 4 + length body = ap length er ∙ length-append (be 4 l) body ∙ ap (λ n. n + length body) (length_be 4 l) in
          let n : 12 + length body ≡ l = omega arith in
          let w : lengthed (body_of m) ≡ rest = ap lengthed em ∙ ap (λ k. be 4 k ++ body) n ∙ sym er in
          (ap summed w ∙ ap (λ k. be 8 k ++ rest) (sym eh) ∙ sym eb, λ t. range (omega arith))
