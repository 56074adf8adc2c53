-- There is one way to write each answer.
use Rattle.std.proofs.Common.{◌≡◌, ℕ, ◌^◌, ◌<◌, cond, eqb, ◌∷◌, ◌++◌, Some, None, sym, ap, ◌∙◌, subst, ⊎_elim}
use Rattle.std.proofs.lemmas.List.{append-nil}
use Rattle.promise.specs.Bytes.{Bytes, be, bind, number_in, lengthed_in, ended}
use Rattle.promise.specs.Sheets.{Reply, No, Yes, Edition, Got, Found}
use Rattle.promise.specs.Layout.{bytes_out, names_out, names_in, no_in, yes_in, edition_in, got_in, found_in, reply_in, encode_reply, decode_reply}
use Rattle.codec.specs.Statements.{SayableReply, RepliesHaveOneForm}
use Rattle.codec.proofs.Forms.{Small, small_all, bind_some, cond_some, kind_form, number_form, lengthed_form, ended_form, names_form}

no_form : (b : Bytes) (x : Reply) → Small b → no_in b ≡ Some x → (encode_reply x ≡ 0 ∷ b) × SayableReply x
unfolding encode_reply
no_form b x s e =
    let n = bind_some (number_in 1 b) (λ n. ended (No n.0) n.1) x (e) in
    let fn = number_form 1 b n.0.0 n.0.1 (s) n.1 in
    let en = ended_form (No n.0.0) n.0.1 x n.2 in
    subst (λ y. (encode_reply y ≡ 0 ∷ b) × SayableReply y) en.0 (ap (λ z. 0 ∷ z) (sym (fn.0 ∙ ap (λ z. be 1 n.0.0 ++ z) en.1 ∙ append-nil (be 1 n.0.0))), fn.1)

edition_form : (b : Bytes) (x : Reply) → Small b → edition_in b ≡ Some x → (encode_reply x ≡ 2 ∷ b) × SayableReply x
unfolding encode_reply
edition_form b x s e =
    let e = bind_some (number_in 8 b) (λ e. ended (Edition e.0) e.1) x (e) in
    let fe = number_form 8 b e.0.0 e.0.1 (s) e.1 in
    let en = ended_form (Edition e.0.0) e.0.1 x e.2 in
    subst (λ y. (encode_reply y ≡ 2 ∷ b) × SayableReply y) en.0 (ap (λ z. 2 ∷ z) (sym (fe.0 ∙ ap (λ z. be 8 e.0.0 ++ z) en.1 ∙ append-nil (be 8 e.0.0))), fe.1)

got_form : (b : Bytes) (x : Reply) → Small b → got_in b ≡ Some x → (encode_reply x ≡ 3 ∷ b) × SayableReply x
unfolding encode_reply
got_form b x s e =
    let e = bind_some (number_in 8 b) (λ e. bind (number_in 4 e.1) (λ w. bind (lengthed_in 4 w.1) (λ d. ended (Got e.0 w.0 d.0) d.1))) x (e) in
    let fe = number_form 8 b e.0.0 e.0.1 (s) e.1 in
    let w = bind_some (number_in 4 e.0.1) (λ w. bind (lengthed_in 4 w.1) (λ d. ended (Got e.0.0 w.0 d.0) d.1)) x e.2 in
    let fw = number_form 4 (e.0.1) w.0.0 w.0.1 fe.2 w.1 in
    let d = bind_some (lengthed_in 4 w.0.1) (λ d. ended (Got e.0.0 w.0.0 d.0) d.1) x w.2 in
    let fd = lengthed_form 4 (w.0.1) d.0.0 d.0.1 fw.2 d.1 in
    let en = ended_form (Got e.0.0 w.0.0 d.0.0) d.0.1 x d.2 in
    subst (λ y. (encode_reply y ≡ 3 ∷ b) × SayableReply y) en.0 (ap (λ z. 3 ∷ z) (sym (fe.0 ∙ ap (λ z. be 8 e.0.0 ++ z) (fw.0 ∙ ap (λ z. be 4 w.0.0 ++ z) (fd.0 ∙ ap (λ z. bytes_out d.0.0 ++ z) en.1 ∙ append-nil (bytes_out d.0.0))))), (fe.1, fw.1, fd.1))

yes_form : (b : Bytes) (x : Reply) → yes_in b ≡ Some x → (encode_reply x ≡ 1 ∷ b) × SayableReply x
unfolding encode_reply
yes_form b x e =
    let en = ended_form Yes b x e in
    subst (λ y. (encode_reply y ≡ 1 ∷ b) × SayableReply y) en.0 (ap (λ z. 1 ∷ z) (sym en.1), tt)

found_form : (b : Bytes) (x : Reply) → Small b → found_in b ≡ Some x → (encode_reply x ≡ 4 ∷ b) × SayableReply x
unfolding encode_reply
found_form b x s e =
    let k = bind_some (number_in 2 b) (λ k. bind (names_in k.0 k.1) (λ ns. ended (Found ns.0) ns.1)) x e in
    let fk = number_form 2 b k.0.0 k.0.1 s k.1 in
    let ns = bind_some (names_in k.0.0 k.0.1) (λ ns. ended (Found ns.0) ns.1) x k.2 in
    let fn = names_form k.0.0 k.0.1 ns.0.0 ns.0.1 fk.2 ns.1 in
    let en = ended_form (Found ns.0.0) ns.0.1 x ns.2 in
    subst (λ y. (encode_reply y ≡ 4 ∷ b) × SayableReply y) en.0 (
      ap (λ z. 4 ∷ z) (ap (λ n. be 2 n ++ names_out ns.0.0) fn.0
          ∙ sym (fk.0 ∙ ap (λ z. be 2 k.0.0 ++ z) (fn.1 ∙ ap (λ z. names_out ns.0.0 ++ z) en.1 ∙ append-nil (names_out ns.0.0)))),
      (subst (λ n. n < 2 ^ 16) (sym fn.0) fk.1, fn.4),
    )

kinds_form : (k : ℕ) (b : Bytes) (x : Reply) → Small b → reply_in k b ≡ Some x → (encode_reply x ≡ k ∷ b) × SayableReply x
kinds_form k b x s e =
    ⊎_elim
    (λ p0. at 0 p0.0 (no_form b x s p0.1))
    (λ p0.
    ⊎_elim
    (λ p1. at 1 p1.0 (yes_form b x p1.1))
    (λ p1.
    ⊎_elim
    (λ p2. at 2 p2.0 (edition_form b x s p2.1))
    (λ p2.
    ⊎_elim
    (λ p3. at 3 p3.0 (got_form b x s p3.1))
    (λ p3.
    ⊎_elim
    (λ p4. at 4 p4.0 (found_form b x s p4.1))
    (λ p4.
    absurd (let r = p4.1 in cc))
    (cond_some k 4 (found_in b) None x p3.1))
    (cond_some k 3 (got_in b) (cond (eqb k 4) (found_in b) None) x p2.1))
    (cond_some k 2 (edition_in b) (cond (eqb k 3) (got_in b) (cond (eqb k 4) (found_in b) None)) x p1.1))
    (cond_some k 1 (yes_in b) (cond (eqb k 2) (edition_in b) (cond (eqb k 3) (got_in b) (cond (eqb k 4) (found_in b) None))) x p0.1))
    (cond_some k 0 (no_in b) (cond (eqb k 1) (yes_in b) (cond (eqb k 2) (edition_in b) (cond (eqb k 3) (got_in b) (cond (eqb k 4) (found_in b) None)))) x (e)) where
      at : (i : ℕ) → k ≡ i → (encode_reply x ≡ i ∷ b) × SayableReply x → (encode_reply x ≡ k ∷ b) × SayableReply x
      at i e h = (h.0 ∙ ap (λ n. n ∷ b) (sym e), h.1)

pub replies_form : RepliesHaveOneForm
unfolding decode_reply
replies_form b x t e =
    let s = small_all b t in
    let k = bind_some (number_in 1 b) (λ k. reply_in k.0 k.1) x e in
    let f = kind_form b k.0.0 k.0.1 s k.1 in
    let g = kinds_form k.0.0 k.0.1 x f.1 k.2 in
    (g.0 ∙ sym f.0, g.1)
