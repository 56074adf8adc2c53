-- Answers that were written are read as they were.
use Rattle.std.proofs.Common.{◌≡◌, ℕ, ◌^◌, ◌<◌, List, [], ◌∷◌, ◌++◌, length, Some, sym, refl, ap, ◌∙◌, lit<}
use Rattle.std.proofs.lemmas.List.{append-nil, append_assoc}
use Rattle.promise.specs.Bytes.{Bytes, be, bind, number_in, lengthed_in, ended}
use Rattle.promise.specs.Sheets.{Name, No, Yes, Edition, Got, Found}
use Rattle.promise.specs.Layout.{name_out, bytes_out, names_out, names_in, no_in, edition_in, got_in, found_in, reply_in, encode_reply, decode_reply}
use Rattle.codec.specs.Statements.{ShortNames, none, more, RepliesReadBack}
use Rattle.codec.proofs.Forms.{kind_back, number_back, lengthed_back}

no_back : (n : ℕ) → n < 256 → no_in (be 1 n) ≡ Some (No n)
no_back n hn =
    ap (λ z. no_in z) (sym (append-nil (be 1 n)))
    ∙ ap (λ o. bind o (λ n. ended (No n.0) n.1)) (number_back 1 n [] hn)

edition_back : (e : ℕ) → e < 2 ^ 64 → edition_in (be 8 e) ≡ Some (Edition e)
edition_back e he =
    ap (λ z. edition_in z) (sym (append-nil (be 8 e)))
    ∙ ap (λ o. bind o (λ e. ended (Edition e.0) e.1)) (number_back 8 e [] he)

got_back : (e : ℕ) (w : ℕ) (d : Bytes) → e < 2 ^ 64 → w < 2 ^ 32 → length d < 2 ^ 32 → got_in (be 8 e ++ (be 4 w ++ (bytes_out d))) ≡ Some (Got e w d)
got_back e w d he hw hd =
    ap (λ z. got_in (be 8 e ++ (be 4 w ++ z))) (sym (append-nil (bytes_out d)))
    ∙ ap (λ o. bind o (λ e. bind (number_in 4 e.1) (λ w. bind (lengthed_in 4 w.1) (λ d. ended (Got e.0 w.0 d.0) d.1)))) (number_back 8 e (be 4 w ++ (bytes_out d ++ [])) he)
    ∙ ap (λ o. bind o (λ w. bind (lengthed_in 4 w.1) (λ d. ended (Got e w.0 d.0) d.1))) (number_back 4 w (bytes_out d ++ []) hw)
    ∙ ap (λ o. bind o (λ d. ended (Got e w d.0) d.1)) (lengthed_back 4 d [] hd)

names_back : (ns : List Name) (rest : Bytes) → ShortNames ns → names_in (length ns) (names_out ns ++ rest) ≡ Some (ns, rest)
unfolding names_in names_out
names_back [] rest none = refl
names_back (n ∷ ns) rest (more h s) =
    ap (λ z. bind (lengthed_in 1 z) (λ n. bind (names_in (length ns) n.1) (λ ns. Some (n.0 ∷ ns.0, ns.1)))) (append_assoc (name_out n) (names_out ns) rest)
    ∙ ap (λ o. bind o (λ n. bind (names_in (length ns) n.1) (λ ns. Some (n.0 ∷ ns.0, ns.1)))) (lengthed_back 1 n (names_out ns ++ rest) h)
    ∙ ap (λ o. bind o (λ ns. Some (n ∷ ns.0, ns.1))) (names_back ns rest s)

found_back : (ns : List Name) → length ns < 2 ^ 16 → ShortNames ns → found_in (be 2 (length ns) ++ names_out ns) ≡ Some (Found ns)
found_back ns h s =
    ap (λ z. found_in (be 2 (length ns) ++ z)) (sym (append-nil (names_out ns)))
    ∙ ap (λ o. bind o (λ k. bind (names_in k.0 k.1) (λ ns. ended (Found ns.0) ns.1))) (number_back 2 (length ns) (names_out ns ++ []) h)
    ∙ ap (λ o. bind o (λ ns. ended (Found ns.0) ns.1)) (names_back ns [] s)

by_kind : (k : ℕ) (rest : Bytes) → k < 256 → decode_reply (k ∷ rest) ≡ reply_in k rest
unfolding decode_reply
by_kind k rest h = ap (λ o. bind o (λ k. reply_in k.0 k.1)) (kind_back k rest h)

pub replies_back : RepliesReadBack
unfolding encode_reply
replies_back (No n) h = by_kind 0 (be 1 n) (lit< tt) ∙ no_back n h
replies_back Yes h = by_kind 1 [] (lit< tt)
replies_back (Edition e) h = by_kind 2 (be 8 e) (lit< tt) ∙ edition_back e h
replies_back (Got e w d) h = by_kind 3 (be 8 e ++ (be 4 w ++ bytes_out d)) (lit< tt) ∙ got_back e w d h.0 h.1 h.2
replies_back (Found ns) h = by_kind 4 (be 2 (length ns) ++ names_out ns) (lit< tt) ∙ found_back ns h.0 h.1
