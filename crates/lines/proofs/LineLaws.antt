-- What was read of a line is written as it stood.
use Rattle.std.proofs.Common.{◌≡◌, ℕ, Bool, true, false, cond, [], ◌++◌, Some, None, Ok, Err, codes, Option, Result, sym, refl, ap, ◌∙◌, subst, arith}
use Rattle.std.specs.Str.{bytes_eq}
use Rattle.std.specs.Option.{ok_or}
use Rattle.std.proofs.lemmas.Slice.Eq.{bytes_eq-Decides}
use Rattle.std.proofs.lemmas.List.{append-nil}
use Rattle.promise.specs.Bytes.{Bytes}
use Rattle.promise.specs.Sheets as t
use Rattle.text.specs.Decimals.{decimal_in, decimal_text}
use Rattle.text.specs.Hex.{hex_in, hex_text}
use Rattle.text.specs.Words.{first_in, word_in, spaced}
use Rattle.text.proofs.NumeralLaws.{decimal_line}
use Rattle.text.proofs.HexLaws.{hex_line}
use Rattle.text.proofs.WordLaws.{first_line, word_line}
use Rattle.lines.specs.CallLines.{verb_in, call_line}
use Rattle.lines.specs.Events.{Event, Clock, From, Beat, Light, Sync, Asked, most64, most_clock, and_then, last_word, needed, all_seen, clock_line, from_line, sync_line, plain_line, house_line, asked_in, asked_or, desk_line}
use Rattle.lines.specs.EventTexts.{call_text, event_text, HasText, WrittenBack}
use Rattle.lines.specs.declared.error.LineError.{LineError}
use Rattle.lines.specs.declared.error.LineError.TheVariants.{MissingWord, BadNumber, BadHex, BadWord}
use Rattle.codec.specs.declared.call.Kind.{Kind}
use Rattle.codec.specs.declared.call.Kind.TheVariants as v
use Rattle.lines.proofs.Inverse.{some_bind, ok_then, ok_or_lem, last_is}
use Rattle.lines.proofs.CallLaws.{read_args, put_args, patch_args, remove_args, rename_args, names_args, take_args, let_args}

-- the last word of a line
word_last : (b : Bytes) (w : Bytes × Bytes) (x : Bytes) → needed b ≡ Ok w → x ≡ w.0 → w.1 ≡ [] → spaced x ≡ b
word_last b w x e q z =
    ap spaced q ∙ (sym (append-nil (spaced w.0)) ∙ (sym (ap (λ (y : Bytes). spaced w.0 ++ y) z) ∙ word_line b w.0 w.1 (ok_or_lem (word_in b) MissingWord w e)))

clock_line_lem : (b : Bytes) (e : Event) → clock_line b ≡ Ok e → event_text e ≡ codes "clock" ++ b
clock_line_lem b e f =
    let w = ok_then (needed b) (λ w. and_then (ok_or (decimal_in most_clock w.0) BadNumber) (λ n. last_word (Clock n) w.1)) e f in
    let n = ok_then (ok_or (decimal_in most_clock w.0.0) BadNumber) (λ n. last_word (Clock n) w.0.1) e w.2 in
    let z = last_is (Clock n.0) e w.0.1 n.2 in
    let d : decimal_text n.0 ≡ w.0.0 = decimal_line most_clock w.0.0 n.0 (omega arith) (ok_or_lem (decimal_in most_clock w.0.0) BadNumber n.0 n.1) in
    sym (ap event_text z.0) ∙ ap (λ (y : Bytes). codes "clock" ++ y) (word_last b w.0 (decimal_text n.0) w.1 d z.1)

from_line_lem : (b : Bytes) (e : Event) → from_line b ≡ Ok e → event_text e ≡ codes "from" ++ b
from_line_lem b e f =
    let w = ok_then (needed b) (λ w. and_then (ok_or (decimal_in most64 w.0) BadNumber) (λ j. and_then (needed w.1) (λ h. and_then (ok_or (hex_in h.0) BadHex) (λ bs. last_word (From j bs) h.1)))) e f in
    let j = ok_then (ok_or (decimal_in most64 w.0.0) BadNumber) (λ j. and_then (needed w.0.1) (λ h. and_then (ok_or (hex_in h.0) BadHex) (λ bs. last_word (From j bs) h.1))) e w.2 in
    let h = ok_then (needed w.0.1) (λ h. and_then (ok_or (hex_in h.0) BadHex) (λ bs. last_word (From j.0 bs) h.1)) e j.2 in
    let d = ok_then (ok_or (hex_in h.0.0) BadHex) (λ bs. last_word (From j.0 bs) h.0.1) e h.2 in
    let z = last_is (From j.0 d.0) e h.0.1 d.2 in
    let u : decimal_text j.0 ≡ w.0.0 = decimal_line most64 w.0.0 j.0 (omega arith) (ok_or_lem (decimal_in most64 w.0.0) BadNumber j.0 j.1) in
    let x : hex_text d.0 ≡ h.0.0 = hex_line h.0.0 d.0 (ok_or_lem (hex_in h.0.0) BadHex d.0 d.1) in
    sym (ap event_text z.0)
    ∙ ap (λ (y : Bytes). codes "from" ++ y) (ap (λ (y : Bytes). spaced (decimal_text j.0) ++ y) (word_last w.0.1 h.0 (hex_text d.0) h.1 x z.1)
    ∙ (ap (λ (y : Bytes). spaced y ++ w.0.1) u ∙ word_line b w.0.0 w.0.1 (ok_or_lem (word_in b) MissingWord w.0 w.1)))

sync_line_lem : (b : Bytes) (e : Event) → sync_line b ≡ Ok e → event_text e ≡ codes "sync" ++ b
sync_line_lem b e f =
    let w = ok_then (needed b) (λ w. cond (all_seen w.0) (last_word (Sync w.0) w.1) (Err BadWord)) e f in
    go w.0 w.1 (all_seen w.0.0) w.2
  where
    go : (w : Bytes × Bytes) → needed b ≡ Ok w → (s : Bool) → cond s (last_word (Sync w.0) w.1) (Err BadWord) ≡ Ok e → event_text e ≡ codes "sync" ++ b
    go w g true f =
        let z = last_is (Sync w.0) e w.1 f in
        sym (ap event_text z.0) ∙ ap (λ (y : Bytes). codes "sync" ++ y) (word_last b w w.0 g refl z.1)
    go w g false f = let z : ◌≡◌ {A = ℕ} 0 1 = cc in absurd (omega arith)

-- a word alone
alone_line : (x e : Event) (word b : Bytes) → event_text x ≡ word → last_word x b ≡ Ok e → event_text e ≡ word ++ b
alone_line x e word b q f =
    let z = last_is x e b f in
    sym (ap event_text z.0) ∙ (q ∙ (sym (append-nil word) ∙ ap (λ (y : Bytes). word ++ y) (sym z.1)))

-- one more fixed first word
by_word : (w word b : Bytes) (e : Event) (r s : Result Event LineError) → (r ≡ Ok e → event_text e ≡ word ++ b) → (s ≡ Ok e → event_text e ≡ w ++ b) →
    cond (bytes_eq w word) r s ≡ Ok e → event_text e ≡ w ++ b
by_word w word b e r s yes' no' f = go (bytes_eq w word) refl f
  where
    go : (t : Bool) → bytes_eq w word ≡ t → cond t r s ≡ Ok e → event_text e ≡ w ++ b
    go true q g = yes' g ∙ ap (λ (y : Bytes). y ++ b) (sym ((bytes_eq-Decides w word).0 q))
    go false q g = no' g

plain_line_lem : (w b : Bytes) (e : Event) → plain_line w b ≡ Ok e → event_text e ≡ w ++ b
plain_line_lem w b e f =
    by_word w (codes "clock") b e _ _ (λ g. clock_line_lem b e g) (λ g.
    by_word w (codes "from") b e _ _ (λ h. from_line_lem b e h) (λ h.
    by_word w (codes "beat") b e _ _ (λ k. alone_line Beat e (codes "beat") b refl k) (λ k.
    by_word w (codes "sync") b e _ _ (λ l. sync_line_lem b e l) (λ l. let z : ◌≡◌ {A = ℕ} 0 1 = cc in absurd (omega arith)) k) h) g) f

-- what was read of a line at the house is written as it stood
pub house_written_back : (line : Bytes) → WrittenBack house_line line
house_written_back line e has f =
    let w = ok_then (ok_or (first_in line) MissingWord) (λ w. cond (bytes_eq w.0 (codes "light")) (last_word Light w.1) (plain_line w.0 w.1)) e f in
    by_word w.0.0 (codes "light") w.0.1 e _ _ (λ g. alone_line Light e (codes "light") w.0.1 refl g) (λ g. plain_line_lem w.0.0 w.0.1 e g) w.2
    ∙ first_line line w.0.0 w.0.1 (ok_or_lem (first_in line) MissingWord w.0 w.1)

-- CALLS

verb_text : Kind → Bytes
verb_text v.Read = codes "read"
verb_text v.Put = codes "put"
verb_text v.Patch = codes "patch"
verb_text v.Remove = codes "remove"
verb_text v.Rename = codes "rename"
verb_text v.Names = codes "names"
verb_text v.Take = codes "take"
verb_text v.LetGo = codes "let"

verb_line : (w : Bytes) (x : Kind) → verb_in w ≡ Some x → verb_text x ≡ w
unfolding verb_text
verb_line w x e =
    step (codes "read") v.Read _ refl (λ a. step (codes "put") v.Put _ refl (λ b. step (codes "patch") v.Patch _ refl (λ c. step (codes "remove") v.Remove _ refl (λ d.
    step (codes "rename") v.Rename _ refl (λ f. step (codes "names") v.Names _ refl (λ g. step (codes "take") v.Take _ refl (λ h. step (codes "let") v.LetGo _ refl
    (λ k. let z : ◌≡◌ {A = ℕ} 0 1 = cc in absurd (omega arith)) h) g) f) d) c) b) a) e
  where
    step : (word : Bytes) (y : Kind) (rest : Option Kind) → verb_text y ≡ word → (rest ≡ Some x → verb_text x ≡ w) → cond (bytes_eq w word) (Some y) rest ≡ Some x → verb_text x ≡ w
    step word y rest t more f = go (bytes_eq w word) refl f
      where
        go : (s : Bool) → bytes_eq w word ≡ s → cond s (Some y) rest ≡ Some x → verb_text x ≡ w
        go true q g = let k : y ≡ x = cc in sym (ap verb_text k) ∙ (t ∙ sym ((bytes_eq-Decides w word).0 q))
        go false q g = more g

call_line_lem : (x : Kind) (b : Bytes) (c : t.Call) → call_line x b ≡ Some c → call_text c ≡ spaced (verb_text x) ++ b
unfolding verb_text
call_line_lem v.Read b c e = read_args b c e
call_line_lem v.Put b c e = put_args b c e
call_line_lem v.Patch b c e = patch_args b c e
call_line_lem v.Remove b c e = remove_args b c e
call_line_lem v.Rename b c e = rename_args b c e
call_line_lem v.Names b c e = names_args b c e
call_line_lem v.Take b c e = take_args b c e
call_line_lem v.LetGo b c e = let_args b c e

asked_line : (w b : Bytes) (x : ℕ × (Kind × Bytes)) (c : t.Call) → asked_in w b ≡ Some x → call_line x.1.0 x.1.1 ≡ Some c → decimal_text x.0 ++ call_text c ≡ w ++ b
asked_line w b x c e f =
    let k = some_bind (decimal_in most64 w) _ x e in
    let y = some_bind (word_in b) _ x k.2 in
    let u = some_bind (verb_in y.0.0) _ x y.2 in
    go k.0 y.0 u.0 k.1 y.1 u.1 u.2
  where
    go : (k : ℕ) (y : Bytes × Bytes) (u : Kind) → decimal_in most64 w ≡ Some k → word_in b ≡ Some y → verb_in y.0 ≡ Some u →
        ◌≡◌ {A = Option (ℕ × (Kind × Bytes))} (Some (k, (u, y.1))) (Some x) → decimal_text x.0 ++ call_text c ≡ w ++ b
    go k y u p q r s =
        let z : ◌≡◌ {A = ℕ × (Kind × Bytes)} (k, (u, y.1)) x = cc in
        let z0 : k ≡ x.0 = ap (λ (m : ℕ × (Kind × Bytes)). m.0) z in
        let z1 : u ≡ x.1.0 = ap (λ (m : ℕ × (Kind × Bytes)). m.1.0) z in
        let z2 : y.1 ≡ x.1.1 = ap (λ (m : ℕ × (Kind × Bytes)). m.1.1) z in
        let n : decimal_text x.0 ≡ w = sym (ap decimal_text z0) ∙ decimal_line most64 w k (omega arith) p in
        let a : call_text c ≡ spaced (verb_text x.1.0) ++ x.1.1 = call_line_lem x.1.0 x.1.1 c f in
        let h : spaced (verb_text x.1.0) ++ x.1.1 ≡ b =
        sym (ap (λ (m : Kind). spaced (verb_text m) ++ x.1.1) z1) ∙ (sym (ap (λ (m : Bytes). spaced (verb_text u) ++ m) z2)
        ∙ (ap (λ (m : Bytes). spaced m ++ y.1) (verb_line y.0 u r) ∙ word_line b y.0 y.1 q)) in
        ap (λ (m : Bytes). m ++ call_text c) n ∙ ap (λ (m : Bytes). w ++ m) (a ∙ h)

-- what was read of a line at a desk is written as it stood
pub desk_written_back : (line : Bytes) → WrittenBack desk_line line
desk_written_back line e has f =
    let w = ok_then (ok_or (first_in line) MissingWord) (λ w. asked_or (asked_in w.0 w.1) (plain_line w.0 w.1)) e f in
    go w.0 (asked_in w.0.0 w.0.1) refl w.2 ∙ first_line line w.0.0 w.0.1 (ok_or_lem (first_in line) MissingWord w.0 w.1)
  where
    call : (w : Bytes × Bytes) (x : ℕ × (Kind × Bytes)) → asked_in w.0 w.1 ≡ Some x → (o : Option t.Call) → call_line x.1.0 x.1.1 ≡ o →
        ◌≡◌ {A = Result Event LineError} (Ok (Asked x.0 o)) (Ok e) → event_text e ≡ w.0 ++ w.1
    call w x q None g k = let z : Asked x.0 None ≡ e = cc in absurd (subst HasText (sym z) has)
    call w x q (Some c) g k = let z : Asked x.0 (Some c) ≡ e = cc in sym (ap event_text z) ∙ asked_line w.0 w.1 x c q g

    go : (w : Bytes × Bytes) (o : Option (ℕ × (Kind × Bytes))) → asked_in w.0 w.1 ≡ o → asked_or o (plain_line w.0 w.1) ≡ Ok e → event_text e ≡ w.0 ++ w.1
    go w None q g = plain_line_lem w.0 w.1 e g
    go w (Some x) q g = call w x q (call_line x.1.0 x.1.1) refl g
