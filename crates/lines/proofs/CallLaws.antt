-- What was read of a call's line is written as it stood.
use Rattle.std.proofs.Common.{◌≡◌, ℕ, ◌^◌, ◌<◌, Bool, true, false, cond, eqb, [], ◌++◌, length, Some, None, codes, Option, sym, refl, ap, ◌∙◌, arith, eqb-true}
use Rattle.std.specs.Str.{bytes_eq}
use Rattle.std.proofs.lemmas.Slice.Eq.{bytes_eq-Decides}
use Rattle.std.proofs.lemmas.List.{nil_from_length}
use Rattle.promise.specs.Bytes.{Bytes, bind, ended}
use Rattle.promise.specs.Sheets as t
use Rattle.text.specs.Decimals.{decimal_in, decimal_text, number_word}
use Rattle.text.specs.Hex.{hex_in, hex_text}
use Rattle.text.specs.Names.{name_in, name_text}
use Rattle.text.specs.Words.{word_in, spaced}
use Rattle.text.proofs.NumeralLaws.{decimal_line}
use Rattle.text.proofs.HexLaws.{hex_line}
use Rattle.text.proofs.NameLaws.{name_line}
use Rattle.text.proofs.WordLaws.{word_line}
use Rattle.lines.specs.Fields.{name_word, hex_word, expect_in, expect_word, expect_text}
use Rattle.lines.specs.CallLines.{most16, most32, read_line, put_line, patch_line, remove_line, rename_line, names_line, take_line, let_line}
use Rattle.lines.specs.EventTexts.{call_text}
use Rattle.lines.proofs.Inverse.{some_bind, ended_is, as_line, as_last}

pub expect_line : (w : Bytes) (x : t.Expect) → expect_in w ≡ Some x → expect_text x ≡ w
expect_line w x e = go (bytes_eq w (codes "any")) refl e
  where
    go : (b : Bool) → bytes_eq w (codes "any") ≡ b → cond b (Some t.Any) (bind (decimal_in 18446744073709551615 w) (λ k. Some (t.Just' k))) ≡ Some x → expect_text x ≡ w
    go true q f = let k : t.Any ≡ x = cc in sym (ap expect_text k) ∙ sym ((bytes_eq-Decides w (codes "any")).0 q)
    go false q f =
        let s = some_bind (decimal_in 18446744073709551615 w) (λ k. Some (t.Just' k)) x f in
        let s2 : Some (t.Just' s.0) ≡ Some x = s.2 in
        let k : t.Just' s.0 ≡ x = cc in
        sym (ap expect_text k) ∙ decimal_line 18446744073709551615 w s.0 (omega arith) s.1

name_as : (b : Bytes) (p : Bytes × Bytes) → name_word b ≡ Some p → spaced (name_text p.0) ++ p.1 ≡ b
name_as b p e = as_line name_in name_text name_line b p e

name_last : (b : Bytes) (p : Bytes × Bytes) → name_word b ≡ Some p → p.1 ≡ [] → spaced (name_text p.0) ≡ b
name_last b p e z = as_last name_in name_text name_line b p e z

number_as : (most : ℕ) → most < 2 ^ 64 → (b : Bytes) (p : ℕ × Bytes) → number_word most b ≡ Some p → spaced (decimal_text p.0) ++ p.1 ≡ b
number_as most h b p e = as_line (decimal_in most) decimal_text (λ w n q. decimal_line most w n h q) b p e

number_last : (most : ℕ) → most < 2 ^ 64 → (b : Bytes) (p : ℕ × Bytes) → number_word most b ≡ Some p → p.1 ≡ [] → spaced (decimal_text p.0) ≡ b
number_last most h b p e z = as_last (decimal_in most) decimal_text (λ w n q. decimal_line most w n h q) b p e z

expect_as : (b : Bytes) (p : t.Expect × Bytes) → expect_word b ≡ Some p → spaced (expect_text p.0) ++ p.1 ≡ b
expect_as b p e = as_line expect_in expect_text expect_line b p e

expect_last : (b : Bytes) (p : t.Expect × Bytes) → expect_word b ≡ Some p → p.1 ≡ [] → spaced (expect_text p.0) ≡ b
expect_last b p e z = as_last expect_in expect_text expect_line b p e z

hex_last : (b : Bytes) (p : Bytes × Bytes) → hex_word b ≡ Some p → p.1 ≡ [] → spaced (hex_text p.0) ≡ b
hex_last b p e z = as_last hex_in hex_text hex_line b p e z

pub read_args : (b : Bytes) (c : t.Call) → read_line b ≡ Some c → call_text c ≡ spaced (codes "read") ++ b
read_args b c e =
    let n = some_bind (name_word b) _ c e in
    let s = some_bind (number_word most32 n.0.1) _ c n.2 in
    let m = some_bind (number_word most32 s.0.1) _ c s.2 in
    let z = ended_is _ c m.0.1 m.2 in
    sym (ap call_text z.0) ∙ ap (λ (y : Bytes). spaced (codes "read") ++ y) (ap (λ (x : Bytes). spaced (name_text n.0.0) ++ (spaced (decimal_text s.0.0) ++ x)) (number_last most32 (omega arith) s.0.1 m.0 m.1 z.1)
    ∙ (ap (λ (x : Bytes). spaced (name_text n.0.0) ++ x) (number_as most32 (omega arith) n.0.1 s.0 s.1) ∙ name_as b n.0 n.1))

pub remove_args : (b : Bytes) (c : t.Call) → remove_line b ≡ Some c → call_text c ≡ spaced (codes "remove") ++ b
remove_args b c e =
    let n = some_bind (name_word b) _ c e in
    let x = some_bind (expect_word n.0.1) _ c n.2 in
    let z = ended_is _ c x.0.1 x.2 in
    sym (ap call_text z.0) ∙ ap (λ (y : Bytes). spaced (codes "remove") ++ y) (ap (λ (y : Bytes). spaced (name_text n.0.0) ++ y) (expect_last n.0.1 x.0 x.1 z.1) ∙ name_as b n.0 n.1)

pub put_args : (b : Bytes) (c : t.Call) → put_line b ≡ Some c → call_text c ≡ spaced (codes "put") ++ b
put_args b c e =
    let n = some_bind (name_word b) _ c e in
    let x = some_bind (expect_word n.0.1) _ c n.2 in
    let d = some_bind (hex_word x.0.1) _ c x.2 in
    let z = ended_is _ c d.0.1 d.2 in
    sym (ap call_text z.0) ∙ ap (λ (y : Bytes). spaced (codes "put") ++ y) (ap (λ (y : Bytes). spaced (name_text n.0.0) ++ (spaced (expect_text x.0.0) ++ y)) (hex_last x.0.1 d.0 d.1 z.1)
    ∙ (ap (λ (y : Bytes). spaced (name_text n.0.0) ++ y) (expect_as n.0.1 x.0 x.1) ∙ name_as b n.0 n.1))

pub patch_args : (b : Bytes) (c : t.Call) → patch_line b ≡ Some c → call_text c ≡ spaced (codes "patch") ++ b
patch_args b c e =
    let n = some_bind (name_word b) _ c e in
    let a = some_bind (number_word most32 n.0.1) _ c n.2 in
    let x = some_bind (expect_word a.0.1) _ c a.2 in
    let d = some_bind (hex_word x.0.1) _ c x.2 in
    let z = ended_is _ c d.0.1 d.2 in
    sym (ap call_text z.0) ∙ ap (λ (y : Bytes). spaced (codes "patch") ++ y) (ap (λ (y : Bytes). spaced (name_text n.0.0) ++ (spaced (decimal_text a.0.0) ++ (spaced (expect_text x.0.0) ++ y))) (hex_last x.0.1 d.0 d.1 z.1)
    ∙ (ap (λ (y : Bytes). spaced (name_text n.0.0) ++ (spaced (decimal_text a.0.0) ++ y)) (expect_as a.0.1 x.0 x.1)
    ∙ (ap (λ (y : Bytes). spaced (name_text n.0.0) ++ y) (number_as most32 (omega arith) n.0.1 a.0 a.1) ∙ name_as b n.0 n.1)))

pub rename_args : (b : Bytes) (c : t.Call) → rename_line b ≡ Some c → call_text c ≡ spaced (codes "rename") ++ b
rename_args b c e =
    let n = some_bind (name_word b) _ c e in
    let k = some_bind (name_word n.0.1) _ c n.2 in
    let z = ended_is _ c k.0.1 k.2 in
    sym (ap call_text z.0) ∙ ap (λ (y : Bytes). spaced (codes "rename") ++ y) (ap (λ (y : Bytes). spaced (name_text n.0.0) ++ y) (name_last n.0.1 k.0 k.1 z.1) ∙ name_as b n.0 n.1)

pub names_args : (b : Bytes) (c : t.Call) → names_line b ≡ Some c → call_text c ≡ spaced (codes "names") ++ b
names_args b c e =
    let n = some_bind (name_word b) _ c e in
    let m = some_bind (number_word most16 n.0.1) _ c n.2 in
    let z = ended_is _ c m.0.1 m.2 in
    sym (ap call_text z.0) ∙ ap (λ (y : Bytes). spaced (codes "names") ++ y) (ap (λ (y : Bytes). spaced (name_text n.0.0) ++ y) (number_last most16 (omega arith) n.0.1 m.0 m.1 z.1) ∙ name_as b n.0 n.1)

-- a fixed word, and what follows it
fixed : (b : Bytes) (w : Bytes × Bytes) (word : Bytes) → word_in b ≡ Some w → bytes_eq w.0 word ≡ true → spaced word ++ w.1 ≡ b
fixed b w word e q = sym (ap (λ (y : Bytes). spaced y ++ w.1) ((bytes_eq-Decides w.0 word).0 q)) ∙ word_line b w.0 w.1 e

pub let_args : (b : Bytes) (c : t.Call) → let_line b ≡ Some c → call_text c ≡ spaced (codes "let") ++ b
let_args b c e =
    let w = some_bind (word_in b) _ c e in
    go w.0 w.1 (bytes_eq w.0.0 (codes "go")) refl w.2
  where
    go : (w : Bytes × Bytes) → word_in b ≡ Some w → (s : Bool) → bytes_eq w.0 (codes "go") ≡ s →
        cond s (bind (name_word w.1) (λ n. ended (t.LetGo n.0) n.1)) None ≡ Some c → call_text c ≡ spaced (codes "let") ++ b
    go w g false q f = let z : ◌≡◌ {A = ℕ} 0 1 = cc in absurd (omega arith)
    go w g true q f =
        let n = some_bind (name_word w.1) (λ n. ended (t.LetGo n.0) n.1) c f in
        let z = ended_is _ c n.0.1 n.2 in
        sym (ap call_text z.0) ∙ ap (λ (y : Bytes). spaced (codes "let") ++ y) (ap (λ (y : Bytes). spaced (codes "go") ++ y) (name_last w.1 n.0 n.1 z.1) ∙ fixed b w (codes "go") g q)

-- a name that is the last word
one_name : (b : Bytes) (w n : Bytes × Bytes) → word_in b ≡ Some w → w.1 ≡ [] → name_word b ≡ Some n → spaced (name_text n.0) ≡ b
one_name b w n g z e =
    let p = some_bind (word_in b) (λ y. bind (name_in y.0) (λ x. Some (x, y.1))) n e in
    let k = some_bind (name_in p.0.0) (λ x. Some (x, p.0.1)) n p.2 in
    let p1 : word_in b ≡ Some p.0 = p.1 in
    let k2 : ◌≡◌ {A = Option (Bytes × Bytes)} (Some (k.0, p.0.1)) (Some n) = k.2 in
    let u : p.0 ≡ w = cc in
    let v : ◌≡◌ {A = Bytes × Bytes} (k.0, p.0.1) n = cc in
    name_last b n e (sym (ap (λ (y : Bytes × Bytes). y.1) v) ∙ (ap (λ (y : Bytes × Bytes). y.1) u ∙ z))

pub take_args : (b : Bytes) (c : t.Call) → take_line b ≡ Some c → call_text c ≡ spaced (codes "take") ++ b
take_args b c e =
    let w = some_bind (word_in b) _ c e in
    go w.0 w.1 (eqb (length w.0.1) 0) refl w.2
  where
    alone : (w : Bytes × Bytes) → word_in b ≡ Some w → (s : Bool) → bytes_eq w.0 (codes "alone") ≡ s →
        cond s (bind (name_word w.1) (λ n. ended (t.Take n.0 true) n.1)) None ≡ Some c → call_text c ≡ spaced (codes "take") ++ b
    alone w g false q f = let z : ◌≡◌ {A = ℕ} 0 1 = cc in absurd (omega arith)
    alone w g true q f =
        let n = some_bind (name_word w.1) (λ n. ended (t.Take n.0 true) n.1) c f in
        let z = ended_is _ c n.0.1 n.2 in
        sym (ap call_text z.0) ∙ ap (λ (y : Bytes). spaced (codes "take") ++ y) (ap (λ (y : Bytes). spaced (codes "alone") ++ y) (name_last w.1 n.0 n.1 z.1) ∙ fixed b w (codes "alone") g q)

    go : (w : Bytes × Bytes) → word_in b ≡ Some w → (s : Bool) → eqb (length w.1) 0 ≡ s →
        cond s (bind (name_word b) (λ n. Some (t.Take n.0 false)))
        (cond (bytes_eq w.0 (codes "alone")) (bind (name_word w.1) (λ n. ended (t.Take n.0 true) n.1)) None) ≡ Some c → call_text c ≡ spaced (codes "take") ++ b
    go w g true q f =
        let n = some_bind (name_word b) (λ n. Some (t.Take n.0 false)) c f in
        let n2 : Some (t.Take n.0.0 false) ≡ Some c = n.2 in
        let k : t.Take n.0.0 false ≡ c = cc in
        sym (ap call_text k) ∙ ap (λ (y : Bytes). spaced (codes "take") ++ y) (one_name b w n.0 g (nil_from_length w.1 (eqb-true (length w.1) 0 q)) n.1)
    go w g false q f = alone w g (bytes_eq w.0 (codes "alone")) refl f
