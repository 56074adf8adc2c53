-- Calls that were written are read as they were.
use Rattle.std.proofs.Common.{◌≡◌, ℕ, ◌^◌, ◌<◌, Bool, true, false, cond, eqb, [], ◌∷◌, ◌++◌, length, Some, None, sym, ap, ◌∙◌, lit<}
use Rattle.std.proofs.lemmas.List.{append-nil}
use Rattle.promise.specs.Bytes.{Bytes, be, bind, number_in, lengthed_in, ended}
use Rattle.promise.specs.Sheets.{Name, Expect, Any, Just', Read, Put, Patch, Remove, Rename, Names, Take, LetGo}
use Rattle.promise.specs.Layout.{name_out, bytes_out, expect_out, alone_out, expect_in, alone_in, read_in, put_in, patch_in, remove_in, rename_in, names_call_in, take_in, let_go_in, call_in, encode_call, decode_call}
use Rattle.codec.specs.Statements.{SayableExpect, CallsReadBack}
use Rattle.codec.proofs.Forms.{kind_back, number_back, lengthed_back}

pub expect_back : (e : Expect) (rest : Bytes) → SayableExpect e → expect_in (expect_out e ++ rest) ≡ Some (e, rest)
expect_back Any rest h =
    ap (λ o. bind o (λ t. cond (eqb t.0 0) (Some (Any, t.1)) (cond (eqb t.0 1) (bind (number_in 8 t.1) (λ e. Some (Just' e.0, e.1))) None))) (kind_back 0 rest (lit< tt))
expect_back (Just' e) rest h =
    ap (λ o. bind o (λ t. cond (eqb t.0 0) (Some (Any, t.1)) (cond (eqb t.0 1) (bind (number_in 8 t.1) (λ e. Some (Just' e.0, e.1))) None))) (kind_back 1 (be 8 e ++ rest) (lit< tt))
    ∙ ap (λ o. bind o (λ e. Some (Just' e.0, e.1))) (number_back 8 e rest h)

pub alone_back : (a : Bool) (rest : Bytes) → alone_in (alone_out a ++ rest) ≡ Some (a, rest)
alone_back false rest = ap (λ o. bind o (λ t. cond (eqb t.0 0) (Some (false, t.1)) (cond (eqb t.0 1) (Some (true, t.1)) None))) (kind_back 0 rest (lit< tt))
alone_back true rest = ap (λ o. bind o (λ t. cond (eqb t.0 0) (Some (false, t.1)) (cond (eqb t.0 1) (Some (true, t.1)) None))) (kind_back 1 rest (lit< tt))

read_back : (n : Name) (f : ℕ) (m : ℕ) → length n < 256 → f < 2 ^ 32 → m < 2 ^ 32 → read_in (name_out n ++ (be 4 f ++ (be 4 m))) ≡ Some (Read n f m)
read_back n f m hn hf hm =
    ap (λ z. read_in (name_out n ++ (be 4 f ++ z))) (sym (append-nil (be 4 m)))
    ∙ ap (λ o. bind o (λ n. bind (number_in 4 n.1) (λ f. bind (number_in 4 f.1) (λ m. ended (Read n.0 f.0 m.0) m.1)))) (lengthed_back 1 n (be 4 f ++ (be 4 m ++ [])) hn)
    ∙ ap (λ o. bind o (λ f. bind (number_in 4 f.1) (λ m. ended (Read n f.0 m.0) m.1))) (number_back 4 f (be 4 m ++ []) hf)
    ∙ ap (λ o. bind o (λ m. ended (Read n f m.0) m.1)) (number_back 4 m [] hm)

put_back : (n : Name) (e : Expect) (d : Bytes) → length n < 256 → SayableExpect e → length d < 2 ^ 32 → put_in (name_out n ++ (expect_out e ++ (bytes_out d))) ≡ Some (Put n d e)
put_back n e d hn he hd =
    ap (λ z. put_in (name_out n ++ (expect_out e ++ z))) (sym (append-nil (bytes_out d)))
    ∙ ap (λ o. bind o (λ n. bind (expect_in n.1) (λ e. bind (lengthed_in 4 e.1) (λ d. ended (Put n.0 d.0 e.0) d.1)))) (lengthed_back 1 n (expect_out e ++ (bytes_out d ++ [])) hn)
    ∙ ap (λ o. bind o (λ e. bind (lengthed_in 4 e.1) (λ d. ended (Put n d.0 e.0) d.1))) (expect_back e (bytes_out d ++ []) he)
    ∙ ap (λ o. bind o (λ d. ended (Put n d.0 e) d.1)) (lengthed_back 4 d [] hd)

patch_back : (n : Name) (a : ℕ) (e : Expect) (d : Bytes) → length n < 256 → a < 2 ^ 32 → SayableExpect e → length d < 2 ^ 32 → patch_in (name_out n ++ (be 4 a ++ (expect_out e ++ (bytes_out d)))) ≡ Some (Patch n a d e)
patch_back n a e d hn ha he hd =
    ap (λ z. patch_in (name_out n ++ (be 4 a ++ (expect_out e ++ z)))) (sym (append-nil (bytes_out d)))
    ∙ ap (λ o. bind o (λ n. bind (number_in 4 n.1) (λ a. bind (expect_in a.1) (λ e. bind (lengthed_in 4 e.1) (λ d. ended (Patch n.0 a.0 d.0 e.0) d.1))))) (lengthed_back 1 n (be 4 a ++ (expect_out e ++ (bytes_out d ++ []))) hn)
    ∙ ap (λ o. bind o (λ a. bind (expect_in a.1) (λ e. bind (lengthed_in 4 e.1) (λ d. ended (Patch n a.0 d.0 e.0) d.1)))) (number_back 4 a (expect_out e ++ (bytes_out d ++ [])) ha)
    ∙ ap (λ o. bind o (λ e. bind (lengthed_in 4 e.1) (λ d. ended (Patch n a d.0 e.0) d.1))) (expect_back e (bytes_out d ++ []) he)
    ∙ ap (λ o. bind o (λ d. ended (Patch n a d.0 e) d.1)) (lengthed_back 4 d [] hd)

remove_back : (n : Name) (e : Expect) → length n < 256 → SayableExpect e → remove_in (name_out n ++ (expect_out e)) ≡ Some (Remove n e)
remove_back n e hn he =
    ap (λ z. remove_in (name_out n ++ z)) (sym (append-nil (expect_out e)))
    ∙ ap (λ o. bind o (λ n. bind (expect_in n.1) (λ e. ended (Remove n.0 e.0) e.1))) (lengthed_back 1 n (expect_out e ++ []) hn)
    ∙ ap (λ o. bind o (λ e. ended (Remove n e.0) e.1)) (expect_back e [] he)

rename_back : (n : Name) (k : Name) → length n < 256 → length k < 256 → rename_in (name_out n ++ (name_out k)) ≡ Some (Rename n k)
rename_back n k hn hk =
    ap (λ z. rename_in (name_out n ++ z)) (sym (append-nil (name_out k)))
    ∙ ap (λ o. bind o (λ n. bind (lengthed_in 1 n.1) (λ k. ended (Rename n.0 k.0) k.1))) (lengthed_back 1 n (name_out k ++ []) hn)
    ∙ ap (λ o. bind o (λ k. ended (Rename n k.0) k.1)) (lengthed_back 1 k [] hk)

names_back : (a : Name) (m : ℕ) → length a < 256 → m < 2 ^ 16 → names_call_in (name_out a ++ (be 2 m)) ≡ Some (Names a m)
names_back a m ha hm =
    ap (λ z. names_call_in (name_out a ++ z)) (sym (append-nil (be 2 m)))
    ∙ ap (λ o. bind o (λ a. bind (number_in 2 a.1) (λ m. ended (Names a.0 m.0) m.1))) (lengthed_back 1 a (be 2 m ++ []) ha)
    ∙ ap (λ o. bind o (λ m. ended (Names a m.0) m.1)) (number_back 2 m [] hm)

take_back : (n : Name) (a : Bool) → length n < 256 → take_in (name_out n ++ (alone_out a)) ≡ Some (Take n a)
take_back n a hn =
    ap (λ z. take_in (name_out n ++ z)) (sym (append-nil (alone_out a)))
    ∙ ap (λ o. bind o (λ n. bind (alone_in n.1) (λ a. ended (Take n.0 a.0) a.1))) (lengthed_back 1 n (alone_out a ++ []) hn)
    ∙ ap (λ o. bind o (λ a. ended (Take n a.0) a.1)) (alone_back a [])

let_go_back : (n : Name) → length n < 256 → let_go_in (name_out n) ≡ Some (LetGo n)
let_go_back n hn =
    ap (λ z. let_go_in z) (sym (append-nil (name_out n)))
    ∙ ap (λ o. bind o (λ n. ended (LetGo n.0) n.1)) (lengthed_back 1 n [] hn)

by_kind : (k : ℕ) (rest : Bytes) → k < 256 → decode_call (k ∷ rest) ≡ call_in k rest
unfolding decode_call
by_kind k rest h = ap (λ o. bind o (λ k. call_in k.0 k.1)) (kind_back k rest h)

pub calls_back : CallsReadBack
unfolding encode_call
calls_back (Read n f m) h = by_kind 1 (name_out n ++ (be 4 f ++ (be 4 m))) (lit< tt) ∙ read_back n f m h.0 h.1 h.2
calls_back (Put n d e) h = by_kind 2 (name_out n ++ (expect_out e ++ (bytes_out d))) (lit< tt) ∙ put_back n e d h.0 h.1 h.2
calls_back (Patch n a d e) h = by_kind 3 (name_out n ++ (be 4 a ++ (expect_out e ++ (bytes_out d)))) (lit< tt) ∙ patch_back n a e d h.0 h.1 h.2 h.3
calls_back (Remove n e) h = by_kind 4 (name_out n ++ (expect_out e)) (lit< tt) ∙ remove_back n e h.0 h.1
calls_back (Rename n k) h = by_kind 5 (name_out n ++ (name_out k)) (lit< tt) ∙ rename_back n k h.0 h.1
calls_back (Names a m) h = by_kind 6 (name_out a ++ (be 2 m)) (lit< tt) ∙ names_back a m h.0 h.1
calls_back (Take n a) h = by_kind 7 (name_out n ++ (alone_out a)) (lit< tt) ∙ take_back n a h
calls_back (LetGo n) h = by_kind 8 (name_out n) (lit< tt) ∙ let_go_back n h
