-- Words read letter by letter, as the arms of a `match` read them.
use Rattle.std.proofs.Common.{◌≡◌, ℕ, ◌<◌, ◌≤◌, [], ◌∷◌, length, get_or, Some, sym, ap, arith}
use Rattle.promise.specs.Bytes.{Bytes}
use Rattle.lines.specs.CallLines.{verb_in}
use Rattle.lines.specs.Events.{clock_line, from_line, last_word, sync_line, plain_line, Beat}
use Rattle.codec.specs.declared.call.Kind.TheVariants as v

three : (w : Bytes) (a b c : ℕ) → 3 ≤ length w → length w < 4 → get_or w 0 0 ≡ a → get_or w 1 0 ≡ b → get_or w 2 0 ≡ c → w ≡ a ∷ b ∷ c ∷ []
three [] a b c l h p q r = absurd (omega arith)
three (x0 ∷ []) a b c l h p q r = absurd (omega arith)
three (x0 ∷ x1 ∷ []) a b c l h p q r = absurd (omega arith)
three (x0 ∷ x1 ∷ x2 ∷ x3 ∷ w) a b c l h p q r = absurd (omega arith)
three (x0 ∷ x1 ∷ x2 ∷ []) a b c l h p q r = cc

four : (w : Bytes) (a b c d : ℕ) → 4 ≤ length w → length w < 5 → get_or w 0 0 ≡ a → get_or w 1 0 ≡ b → get_or w 2 0 ≡ c → get_or w 3 0 ≡ d → w ≡ a ∷ b ∷ c ∷ d ∷ []
four [] a b c d l h p q r s = absurd (omega arith)
four (x0 ∷ []) a b c d l h p q r s = absurd (omega arith)
four (x0 ∷ x1 ∷ []) a b c d l h p q r s = absurd (omega arith)
four (x0 ∷ x1 ∷ x2 ∷ []) a b c d l h p q r s = absurd (omega arith)
four (x0 ∷ x1 ∷ x2 ∷ x3 ∷ x4 ∷ w) a b c d l h p q r s = absurd (omega arith)
four (x0 ∷ x1 ∷ x2 ∷ x3 ∷ []) a b c d l h p q r s = cc

five : (w : Bytes) (a b c d e : ℕ) → 5 ≤ length w → length w < 6 → get_or w 0 0 ≡ a → get_or w 1 0 ≡ b → get_or w 2 0 ≡ c → get_or w 3 0 ≡ d → get_or w 4 0 ≡ e → w ≡ a ∷ b ∷ c ∷ d ∷ e ∷ []
five [] a b c d e l h p q r s t = absurd (omega arith)
five (x0 ∷ []) a b c d e l h p q r s t = absurd (omega arith)
five (x0 ∷ x1 ∷ []) a b c d e l h p q r s t = absurd (omega arith)
five (x0 ∷ x1 ∷ x2 ∷ []) a b c d e l h p q r s t = absurd (omega arith)
five (x0 ∷ x1 ∷ x2 ∷ x3 ∷ []) a b c d e l h p q r s t = absurd (omega arith)
five (x0 ∷ x1 ∷ x2 ∷ x3 ∷ x4 ∷ x5 ∷ w) a b c d e l h p q r s t = absurd (omega arith)
five (x0 ∷ x1 ∷ x2 ∷ x3 ∷ x4 ∷ []) a b c d e l h p q r s t = cc

six : (w : Bytes) (a b c d e f : ℕ) → 6 ≤ length w → length w < 7 → get_or w 0 0 ≡ a → get_or w 1 0 ≡ b → get_or w 2 0 ≡ c → get_or w 3 0 ≡ d → get_or w 4 0 ≡ e → get_or w 5 0 ≡ f → w ≡ a ∷ b ∷ c ∷ d ∷ e ∷ f ∷ []
six [] a b c d e f l h p q r s t u = absurd (omega arith)
six (x0 ∷ []) a b c d e f l h p q r s t u = absurd (omega arith)
six (x0 ∷ x1 ∷ []) a b c d e f l h p q r s t u = absurd (omega arith)
six (x0 ∷ x1 ∷ x2 ∷ []) a b c d e f l h p q r s t u = absurd (omega arith)
six (x0 ∷ x1 ∷ x2 ∷ x3 ∷ []) a b c d e f l h p q r s t u = absurd (omega arith)
six (x0 ∷ x1 ∷ x2 ∷ x3 ∷ x4 ∷ []) a b c d e f l h p q r s t u = absurd (omega arith)
six (x0 ∷ x1 ∷ x2 ∷ x3 ∷ x4 ∷ x5 ∷ x6 ∷ w) a b c d e f l h p q r s t u = absurd (omega arith)
six (x0 ∷ x1 ∷ x2 ∷ x3 ∷ x4 ∷ x5 ∷ []) a b c d e f l h p q r s t u = cc

-- the verbs

pub put_in : (w : Bytes) → 3 ≤ length w → length w < 4 → get_or w 0 0 ≡ 112 → get_or w 1 0 ≡ 117 → get_or w 2 0 ≡ 116 → Some v.Put ≡ verb_in w
put_in w l h p q r = sym (ap verb_in (three w 112 117 116 l h p q r))

pub let_in : (w : Bytes) → 3 ≤ length w → length w < 4 → get_or w 0 0 ≡ 108 → get_or w 1 0 ≡ 101 → get_or w 2 0 ≡ 116 → Some v.LetGo ≡ verb_in w
let_in w l h p q r = sym (ap verb_in (three w 108 101 116 l h p q r))

pub read_in : (w : Bytes) → 4 ≤ length w → length w < 5 → get_or w 0 0 ≡ 114 → get_or w 1 0 ≡ 101 → get_or w 2 0 ≡ 97 → get_or w 3 0 ≡ 100 → Some v.Read ≡ verb_in w
read_in w l h p q r s = sym (ap verb_in (four w 114 101 97 100 l h p q r s))

pub take_in : (w : Bytes) → 4 ≤ length w → length w < 5 → get_or w 0 0 ≡ 116 → get_or w 1 0 ≡ 97 → get_or w 2 0 ≡ 107 → get_or w 3 0 ≡ 101 → Some v.Take ≡ verb_in w
take_in w l h p q r s = sym (ap verb_in (four w 116 97 107 101 l h p q r s))

pub patch_in : (w : Bytes) → 5 ≤ length w → length w < 6 → get_or w 0 0 ≡ 112 → get_or w 1 0 ≡ 97 → get_or w 2 0 ≡ 116 → get_or w 3 0 ≡ 99 → get_or w 4 0 ≡ 104 → Some v.Patch ≡ verb_in w
patch_in w l h p q r s t = sym (ap verb_in (five w 112 97 116 99 104 l h p q r s t))

pub names_in : (w : Bytes) → 5 ≤ length w → length w < 6 → get_or w 0 0 ≡ 110 → get_or w 1 0 ≡ 97 → get_or w 2 0 ≡ 109 → get_or w 3 0 ≡ 101 → get_or w 4 0 ≡ 115 → Some v.Names ≡ verb_in w
names_in w l h p q r s t = sym (ap verb_in (five w 110 97 109 101 115 l h p q r s t))

pub remove_in : (w : Bytes) → 6 ≤ length w → length w < 7 → get_or w 0 0 ≡ 114 → get_or w 1 0 ≡ 101 → get_or w 2 0 ≡ 109 → get_or w 3 0 ≡ 111 → get_or w 4 0 ≡ 118 → get_or w 5 0 ≡ 101 → Some v.Remove ≡ verb_in w
remove_in w l h p q r s t u = sym (ap verb_in (six w 114 101 109 111 118 101 l h p q r s t u))

pub rename_in : (w : Bytes) → 6 ≤ length w → length w < 7 → get_or w 0 0 ≡ 114 → get_or w 1 0 ≡ 101 → get_or w 2 0 ≡ 110 → get_or w 3 0 ≡ 97 → get_or w 4 0 ≡ 109 → get_or w 5 0 ≡ 101 → Some v.Rename ≡ verb_in w
rename_in w l h p q r s t u = sym (ap verb_in (six w 114 101 110 97 109 101 l h p q r s t u))

-- the first words

pub clock_in : (w b : Bytes) → 5 ≤ length w → length w < 6 → get_or w 0 0 ≡ 99 → get_or w 1 0 ≡ 108 → get_or w 2 0 ≡ 111 → get_or w 3 0 ≡ 99 → get_or w 4 0 ≡ 107 → plain_line w b ≡ clock_line b
clock_in w b l h p q r s t = ap (λ (x : Bytes). plain_line x b) (five w 99 108 111 99 107 l h p q r s t)

pub from_in : (w b : Bytes) → 4 ≤ length w → length w < 5 → get_or w 0 0 ≡ 102 → get_or w 1 0 ≡ 114 → get_or w 2 0 ≡ 111 → get_or w 3 0 ≡ 109 → plain_line w b ≡ from_line b
from_in w b l h p q r s = ap (λ (x : Bytes). plain_line x b) (four w 102 114 111 109 l h p q r s)

pub beat_in : (w b : Bytes) → 4 ≤ length w → length w < 5 → get_or w 0 0 ≡ 98 → get_or w 1 0 ≡ 101 → get_or w 2 0 ≡ 97 → get_or w 3 0 ≡ 116 → plain_line w b ≡ last_word Beat b
beat_in w b l h p q r s = ap (λ (x : Bytes). plain_line x b) (four w 98 101 97 116 l h p q r s)

pub sync_in : (w b : Bytes) → 4 ≤ length w → length w < 5 → get_or w 0 0 ≡ 115 → get_or w 1 0 ≡ 121 → get_or w 2 0 ≡ 110 → get_or w 3 0 ≡ 99 → plain_line w b ≡ sync_line b
sync_in w b l h p q r s = ap (λ (x : Bytes). plain_line x b) (four w 115 121 110 99 l h p q r s)
