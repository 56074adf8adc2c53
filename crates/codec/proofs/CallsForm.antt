-- There is one way to write each call.
use Rattle.std.proofs.Common.{◌≡◌, ℕ, Bool, true, false, cond, eqb, ◌∷◌, ◌++◌, Some, None, sym, ap, ◌∙◌, subst, ⊎_elim}
use Rattle.std.proofs.lemmas.List.{append-nil}
use Rattle.promise.specs.Bytes.{Bytes, be, bind, number_in, lengthed_in, ended}
use Rattle.promise.specs.Sheets.{Expect, Any, Just', Call, Read, Put, Patch, Remove, Rename, Names, Take, LetGo}
use Rattle.promise.specs.Layout.{name_out, bytes_out, expect_out, alone_out, expect_in, alone_in, read_in, put_in, patch_in, remove_in, rename_in, names_call_in, take_in, let_go_in, call_in, encode_call, decode_call}
use Rattle.codec.specs.Statements.{SayableExpect, SayableCall, CallsHaveOneForm}
use Rattle.codec.proofs.Forms.{Small, small_all, bind_some, cond_some, kind_form, number_form, lengthed_form, ended_form}

pub expect_form : (b : Bytes) (x : Expect) (rest : Bytes) → Small b → expect_in b ≡ Some (x, rest) → (b ≡ expect_out x ++ rest) × SayableExpect x × Small rest
expect_form b x rest s e =
    let t = bind_some (number_in 1 b) (λ t. cond (eqb t.0 0) (Some (Any, t.1)) (cond (eqb t.0 1) (bind (number_in 8 t.1) (λ e. Some (Just' e.0, e.1))) None)) (x, rest) e in
    let f = kind_form b t.0.0 t.0.1 s t.1 in
    ⊎_elim
    (λ p.
    let both : ◌≡◌ {A = Expect × Bytes} (Any, t.0.1) (x, rest) = let q = p.1 in cc in
    subst (λ z. (b ≡ expect_out z.0 ++ z.1) × SayableExpect z.0 × Small z.1) both (f.0 ∙ ap (λ k. k ∷ t.0.1) p.0, tt, f.1))
    (λ p.
    ⊎_elim
    (λ q.
    let u = bind_some (number_in 8 t.0.1) (λ e. Some (Just' e.0, e.1)) (x, rest) q.1 in
    let g = number_form 8 t.0.1 u.0.0 u.0.1 f.1 u.1 in
    let both : ◌≡◌ {A = Expect × Bytes} (Just' u.0.0, u.0.1) (x, rest) = let r = u.2 in cc in
    subst (λ z. (b ≡ expect_out z.0 ++ z.1) × SayableExpect z.0 × Small z.1) both (f.0 ∙ ap (λ k. k ∷ t.0.1) q.0 ∙ ap (λ r. 1 ∷ r) g.0, g.1, g.2))
    (λ q. absurd (let r = q.1 in cc))
    (cond_some t.0.0 1 (bind (number_in 8 t.0.1) (λ e. Some (Just' e.0, e.1))) None (x, rest) p.1))
    (cond_some t.0.0 0 (Some (Any, t.0.1)) (cond (eqb t.0.0 1) (bind (number_in 8 t.0.1) (λ e. Some (Just' e.0, e.1))) None) (x, rest) t.2)

pub alone_form : (b : Bytes) (x : Bool) (rest : Bytes) → Small b → alone_in b ≡ Some (x, rest) → (b ≡ alone_out x ++ rest) × Small rest
alone_form b x rest s e =
    let t = bind_some (number_in 1 b) (λ t. cond (eqb t.0 0) (Some (false, t.1)) (cond (eqb t.0 1) (Some (true, t.1)) None)) (x, rest) e in
    let f = kind_form b t.0.0 t.0.1 s t.1 in
    ⊎_elim
    (λ p.
    let both : ◌≡◌ {A = Bool × Bytes} (false, t.0.1) (x, rest) = let q = p.1 in cc in
    subst (λ z. (b ≡ alone_out z.0 ++ z.1) × Small z.1) both (f.0 ∙ ap (λ k. k ∷ t.0.1) p.0, f.1))
    (λ p.
    ⊎_elim
    (λ q.
    let both : ◌≡◌ {A = Bool × Bytes} (true, t.0.1) (x, rest) = let r = q.1 in cc in
    subst (λ z. (b ≡ alone_out z.0 ++ z.1) × Small z.1) both (f.0 ∙ ap (λ k. k ∷ t.0.1) q.0, f.1))
    (λ q. absurd (let r = q.1 in cc))
    (cond_some t.0.0 1 (Some (true, t.0.1)) None (x, rest) p.1))
    (cond_some t.0.0 0 (Some (false, t.0.1)) (cond (eqb t.0.0 1) (Some (true, t.0.1)) None) (x, rest) t.2)

read_form : (b : Bytes) (x : Call) → Small b → read_in b ≡ Some x → (encode_call x ≡ 1 ∷ b) × SayableCall x
unfolding encode_call
read_form b x s e =
    let n = bind_some (lengthed_in 1 b) (λ n. bind (number_in 4 n.1) (λ f. bind (number_in 4 f.1) (λ m. ended (Read n.0 f.0 m.0) m.1))) x (e) in
    let fn = lengthed_form 1 b n.0.0 n.0.1 (s) n.1 in
    let f = bind_some (number_in 4 n.0.1) (λ f. bind (number_in 4 f.1) (λ m. ended (Read n.0.0 f.0 m.0) m.1)) x n.2 in
    let ff = number_form 4 (n.0.1) f.0.0 f.0.1 fn.3 f.1 in
    let m = bind_some (number_in 4 f.0.1) (λ m. ended (Read n.0.0 f.0.0 m.0) m.1) x f.2 in
    let fm = number_form 4 (f.0.1) m.0.0 m.0.1 ff.2 m.1 in
    let en = ended_form (Read n.0.0 f.0.0 m.0.0) m.0.1 x m.2 in
    subst (λ y. (encode_call y ≡ 1 ∷ b) × SayableCall y) en.0 (ap (λ z. 1 ∷ z) (sym (fn.0 ∙ ap (λ z. name_out n.0.0 ++ z) (ff.0 ∙ ap (λ z. be 4 f.0.0 ++ z) (fm.0 ∙ ap (λ z. be 4 m.0.0 ++ z) en.1 ∙ append-nil (be 4 m.0.0))))), (fn.1, ff.1, fm.1))

put_form : (b : Bytes) (x : Call) → Small b → put_in b ≡ Some x → (encode_call x ≡ 2 ∷ b) × SayableCall x
unfolding encode_call
put_form b x s e =
    let n = bind_some (lengthed_in 1 b) (λ n. bind (expect_in n.1) (λ e. bind (lengthed_in 4 e.1) (λ d. ended (Put n.0 d.0 e.0) d.1))) x (e) in
    let fn = lengthed_form 1 b n.0.0 n.0.1 (s) n.1 in
    let e = bind_some (expect_in n.0.1) (λ e. bind (lengthed_in 4 e.1) (λ d. ended (Put n.0.0 d.0 e.0) d.1)) x n.2 in
    let fe = expect_form (n.0.1) e.0.0 e.0.1 fn.3 e.1 in
    let d = bind_some (lengthed_in 4 e.0.1) (λ d. ended (Put n.0.0 d.0 e.0.0) d.1) x e.2 in
    let fd = lengthed_form 4 (e.0.1) d.0.0 d.0.1 fe.2 d.1 in
    let en = ended_form (Put n.0.0 d.0.0 e.0.0) d.0.1 x d.2 in
    subst (λ y. (encode_call y ≡ 2 ∷ b) × SayableCall y) en.0 (ap (λ z. 2 ∷ z) (sym (fn.0 ∙ ap (λ z. name_out n.0.0 ++ z) (fe.0 ∙ ap (λ z. expect_out e.0.0 ++ z) (fd.0 ∙ ap (λ z. bytes_out d.0.0 ++ z) en.1 ∙ append-nil (bytes_out d.0.0))))), (fn.1, fe.1, fd.1))

patch_form : (b : Bytes) (x : Call) → Small b → patch_in b ≡ Some x → (encode_call x ≡ 3 ∷ b) × SayableCall x
unfolding encode_call
patch_form b x s e =
    let n = bind_some (lengthed_in 1 b) (λ n. bind (number_in 4 n.1) (λ a. bind (expect_in a.1) (λ e. bind (lengthed_in 4 e.1) (λ d. ended (Patch n.0 a.0 d.0 e.0) d.1)))) x (e) in
    let fn = lengthed_form 1 b n.0.0 n.0.1 (s) n.1 in
    let a = bind_some (number_in 4 n.0.1) (λ a. bind (expect_in a.1) (λ e. bind (lengthed_in 4 e.1) (λ d. ended (Patch n.0.0 a.0 d.0 e.0) d.1))) x n.2 in
    let fa = number_form 4 (n.0.1) a.0.0 a.0.1 fn.3 a.1 in
    let e = bind_some (expect_in a.0.1) (λ e. bind (lengthed_in 4 e.1) (λ d. ended (Patch n.0.0 a.0.0 d.0 e.0) d.1)) x a.2 in
    let fe = expect_form (a.0.1) e.0.0 e.0.1 fa.2 e.1 in
    let d = bind_some (lengthed_in 4 e.0.1) (λ d. ended (Patch n.0.0 a.0.0 d.0 e.0.0) d.1) x e.2 in
    let fd = lengthed_form 4 (e.0.1) d.0.0 d.0.1 fe.2 d.1 in
    let en = ended_form (Patch n.0.0 a.0.0 d.0.0 e.0.0) d.0.1 x d.2 in
    subst (λ y. (encode_call y ≡ 3 ∷ b) × SayableCall y) en.0 (ap (λ z. 3 ∷ z) (sym (fn.0 ∙ ap (λ z. name_out n.0.0 ++ z) (fa.0 ∙ ap (λ z. be 4 a.0.0 ++ z) (fe.0 ∙ ap (λ z. expect_out e.0.0 ++ z) (fd.0 ∙ ap (λ z. bytes_out d.0.0 ++ z) en.1 ∙ append-nil (bytes_out d.0.0)))))), (fn.1, fa.1, fe.1, fd.1))

remove_form : (b : Bytes) (x : Call) → Small b → remove_in b ≡ Some x → (encode_call x ≡ 4 ∷ b) × SayableCall x
unfolding encode_call
remove_form b x s e =
    let n = bind_some (lengthed_in 1 b) (λ n. bind (expect_in n.1) (λ e. ended (Remove n.0 e.0) e.1)) x (e) in
    let fn = lengthed_form 1 b n.0.0 n.0.1 (s) n.1 in
    let e = bind_some (expect_in n.0.1) (λ e. ended (Remove n.0.0 e.0) e.1) x n.2 in
    let fe = expect_form (n.0.1) e.0.0 e.0.1 fn.3 e.1 in
    let en = ended_form (Remove n.0.0 e.0.0) e.0.1 x e.2 in
    subst (λ y. (encode_call y ≡ 4 ∷ b) × SayableCall y) en.0 (ap (λ z. 4 ∷ z) (sym (fn.0 ∙ ap (λ z. name_out n.0.0 ++ z) (fe.0 ∙ ap (λ z. expect_out e.0.0 ++ z) en.1 ∙ append-nil (expect_out e.0.0)))), (fn.1, fe.1))

rename_form : (b : Bytes) (x : Call) → Small b → rename_in b ≡ Some x → (encode_call x ≡ 5 ∷ b) × SayableCall x
unfolding encode_call
rename_form b x s e =
    let n = bind_some (lengthed_in 1 b) (λ n. bind (lengthed_in 1 n.1) (λ k. ended (Rename n.0 k.0) k.1)) x (e) in
    let fn = lengthed_form 1 b n.0.0 n.0.1 (s) n.1 in
    let k = bind_some (lengthed_in 1 n.0.1) (λ k. ended (Rename n.0.0 k.0) k.1) x n.2 in
    let fk = lengthed_form 1 (n.0.1) k.0.0 k.0.1 fn.3 k.1 in
    let en = ended_form (Rename n.0.0 k.0.0) k.0.1 x k.2 in
    subst (λ y. (encode_call y ≡ 5 ∷ b) × SayableCall y) en.0 (ap (λ z. 5 ∷ z) (sym (fn.0 ∙ ap (λ z. name_out n.0.0 ++ z) (fk.0 ∙ ap (λ z. name_out k.0.0 ++ z) en.1 ∙ append-nil (name_out k.0.0)))), (fn.1, fk.1))

names_form : (b : Bytes) (x : Call) → Small b → names_call_in b ≡ Some x → (encode_call x ≡ 6 ∷ b) × SayableCall x
unfolding encode_call
names_form b x s e =
    let a = bind_some (lengthed_in 1 b) (λ a. bind (number_in 2 a.1) (λ m. ended (Names a.0 m.0) m.1)) x (e) in
    let fa = lengthed_form 1 b a.0.0 a.0.1 (s) a.1 in
    let m = bind_some (number_in 2 a.0.1) (λ m. ended (Names a.0.0 m.0) m.1) x a.2 in
    let fm = number_form 2 (a.0.1) m.0.0 m.0.1 fa.3 m.1 in
    let en = ended_form (Names a.0.0 m.0.0) m.0.1 x m.2 in
    subst (λ y. (encode_call y ≡ 6 ∷ b) × SayableCall y) en.0 (ap (λ z. 6 ∷ z) (sym (fa.0 ∙ ap (λ z. name_out a.0.0 ++ z) (fm.0 ∙ ap (λ z. be 2 m.0.0 ++ z) en.1 ∙ append-nil (be 2 m.0.0)))), (fa.1, fm.1))

take_form : (b : Bytes) (x : Call) → Small b → take_in b ≡ Some x → (encode_call x ≡ 7 ∷ b) × SayableCall x
unfolding encode_call
take_form b x s e =
    let n = bind_some (lengthed_in 1 b) (λ n. bind (alone_in n.1) (λ a. ended (Take n.0 a.0) a.1)) x (e) in
    let fn = lengthed_form 1 b n.0.0 n.0.1 (s) n.1 in
    let a = bind_some (alone_in n.0.1) (λ a. ended (Take n.0.0 a.0) a.1) x n.2 in
    let fa = alone_form (n.0.1) a.0.0 a.0.1 fn.3 a.1 in
    let en = ended_form (Take n.0.0 a.0.0) a.0.1 x a.2 in
    subst (λ y. (encode_call y ≡ 7 ∷ b) × SayableCall y) en.0 (ap (λ z. 7 ∷ z) (sym (fn.0 ∙ ap (λ z. name_out n.0.0 ++ z) (fa.0 ∙ ap (λ z. alone_out a.0.0 ++ z) en.1 ∙ append-nil (alone_out a.0.0)))), fn.1)

let_go_form : (b : Bytes) (x : Call) → Small b → let_go_in b ≡ Some x → (encode_call x ≡ 8 ∷ b) × SayableCall x
unfolding encode_call
let_go_form b x s e =
    let n = bind_some (lengthed_in 1 b) (λ n. ended (LetGo n.0) n.1) x (e) in
    let fn = lengthed_form 1 b n.0.0 n.0.1 (s) n.1 in
    let en = ended_form (LetGo n.0.0) n.0.1 x n.2 in
    subst (λ y. (encode_call y ≡ 8 ∷ b) × SayableCall y) en.0 (ap (λ z. 8 ∷ z) (sym (fn.0 ∙ ap (λ z. name_out n.0.0 ++ z) en.1 ∙ append-nil (name_out n.0.0))), fn.1)

kinds_form : (k : ℕ) (b : Bytes) (x : Call) → Small b → call_in k b ≡ Some x → (encode_call x ≡ k ∷ b) × SayableCall x
kinds_form k b x s e =
    ⊎_elim
    (λ p1. at 1 p1.0 (read_form b x s p1.1))
    (λ p1.
    ⊎_elim
    (λ p2. at 2 p2.0 (put_form b x s p2.1))
    (λ p2.
    ⊎_elim
    (λ p3. at 3 p3.0 (patch_form b x s p3.1))
    (λ p3.
    ⊎_elim
    (λ p4. at 4 p4.0 (remove_form b x s p4.1))
    (λ p4.
    ⊎_elim
    (λ p5. at 5 p5.0 (rename_form b x s p5.1))
    (λ p5.
    ⊎_elim
    (λ p6. at 6 p6.0 (names_form b x s p6.1))
    (λ p6.
    ⊎_elim
    (λ p7. at 7 p7.0 (take_form b x s p7.1))
    (λ p7.
    ⊎_elim
    (λ p8. at 8 p8.0 (let_go_form b x s p8.1))
    (λ p8.
    absurd (let r = p8.1 in cc))
    (cond_some k 8 (let_go_in b) None x p7.1))
    (cond_some k 7 (take_in b) (cond (eqb k 8) (let_go_in b) None) x p6.1))
    (cond_some k 6 (names_call_in b) (cond (eqb k 7) (take_in b) (cond (eqb k 8) (let_go_in b) None)) x p5.1))
    (cond_some k 5 (rename_in b) (cond (eqb k 6) (names_call_in b) (cond (eqb k 7) (take_in b) (cond (eqb k 8) (let_go_in b) None))) x p4.1))
    (cond_some k 4 (remove_in b) (cond (eqb k 5) (rename_in b) (cond (eqb k 6) (names_call_in b) (cond (eqb k 7) (take_in b) (cond (eqb k 8) (let_go_in b) None)))) x p3.1))
    (cond_some k 3 (patch_in b) (cond (eqb k 4) (remove_in b) (cond (eqb k 5) (rename_in b) (cond (eqb k 6) (names_call_in b) (cond (eqb k 7) (take_in b) (cond (eqb k 8) (let_go_in b) None))))) x p2.1))
    (cond_some k 2 (put_in b) (cond (eqb k 3) (patch_in b) (cond (eqb k 4) (remove_in b) (cond (eqb k 5) (rename_in b) (cond (eqb k 6) (names_call_in b) (cond (eqb k 7) (take_in b) (cond (eqb k 8) (let_go_in b) None)))))) x p1.1))
    (cond_some k 1 (read_in b) (cond (eqb k 2) (put_in b) (cond (eqb k 3) (patch_in b) (cond (eqb k 4) (remove_in b) (cond (eqb k 5) (rename_in b) (cond (eqb k 6) (names_call_in b) (cond (eqb k 7) (take_in b) (cond (eqb k 8) (let_go_in b) None))))))) x (e)) where
      at : (i : ℕ) → k ≡ i → (encode_call x ≡ i ∷ b) × SayableCall x → (encode_call x ≡ k ∷ b) × SayableCall x
      at i e h = (h.0 ∙ ap (λ n. n ∷ b) (sym e), h.1)

pub calls_form : CallsHaveOneForm
unfolding decode_call
calls_form b x t e =
    let s = small_all b t in
    let k = bind_some (number_in 1 b) (λ k. call_in k.0 k.1) x e in
    let f = kind_form b k.0.0 k.0.1 s k.1 in
    let g = kinds_form k.0.0 k.0.1 x f.1 k.2 in
    (g.0 ∙ sym f.0, g.1)
