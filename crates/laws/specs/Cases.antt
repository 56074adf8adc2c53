-- Worked cases: what calls by which desk are answered, one after the other, on a table that is empty at the beginning of each case.
-- Assumes nothing.
use Rattle.std.specs.Prelude.{◌≡◌, ℕ, false, cond, List, [], ◌∷◌, map, codes, ◌==◌}
use Rattle.promise.specs.Sheets.{State, blank, Call, Read, Put, Patch, Rename, Take, LetGo, Reply, No, Yes, Edition, Got, Any, Just', does, out_of_range, other_edition, in_others_hand}

pub record Row : Type 0 where
  pub case : ℕ
  pub desk : ℕ
  pub call : Call
  pub reply : Reply

abbrev row : (case desk : ℕ) → Call → Reply → Row
row n i c r = record { case = n; desk = i; call = c; reply = r }

-- A. On an empty table desk 1 puts a, 3 bytes, expecting no sheet: edition 1. Desk 2 patches at 3 with 2 bytes: edition 2; 1 reads 5.
abbrev case_a : (case : ℕ) → List Row → List Row
case_a n rest =
    row n 1 (Put (codes "a") (codes "xyz") (Just' 0)) (Edition 1)
    ∷ row n 2 (Patch (codes "a") 3 (codes "uv") Any) (Edition 2)
    ∷ row n 1 (Read (codes "a") 0 100) (Got 2 5 (codes "xyzuv"))
    ∷ rest

-- B. After A 1 takes a; 2 puts a: in another's hand; 2 reads it; 2 takes a; 1 puts a: in another's hand; 2 lets go; 1 puts.
abbrev case_b : (case : ℕ) → List Row → List Row
case_b n rest = case_a n (
    row n 1 (Take (codes "a") false) Yes
    ∷ row n 2 (Put (codes "a") (codes "q") Any) (No in_others_hand)
    ∷ row n 2 (Read (codes "a") 1 2) (Got 2 5 (codes "yz"))
    ∷ row n 2 (Take (codes "a") false) Yes
    ∷ row n 1 (Put (codes "a") (codes "q") Any) (No in_others_hand)
    ∷ row n 2 (LetGo (codes "a")) Yes
    ∷ row n 1 (Put (codes "a") (codes "q") Any) (Edition 3)
    ∷ rest)

-- E. Two desks put k, each expecting no sheet: the first has edition 1, the other is told that it has another edition.
abbrev case_e : (case : ℕ) → List Row → List Row
case_e n rest =
    row n 1 (Put (codes "k") (codes "1") (Just' 0)) (Edition 1)
    ∷ row n 2 (Put (codes "k") (codes "2") (Just' 0)) (No other_edition)
    ∷ rest

-- G. After A 1 renames a to b while 2 holds b: in another's hand. A patch of a at 6: out of range.
abbrev case_g : (case : ℕ) → List Row → List Row
case_g n rest = case_a n (
    row n 2 (Take (codes "b") false) Yes
    ∷ row n 1 (Rename (codes "a") (codes "b")) (No in_others_hand)
    ∷ row n 1 (Patch (codes "a") 6 (codes "w") Any) (No out_of_range)
    ∷ rest)

abbrev pub rows : List Row
rows = case_a 1 (case_b 2 (case_e 3 (case_g 4 [])))

-- what is answered, row by row; last: which case the state is of
unfoldable pub answers : (last : ℕ) → State → List Row → List Reply
answers last s [] = []
answers last s (r ∷ rs) =
    (does 268435456 r.desk r.call (cond (last == r.case) s blank)).reply
    ∷ answers r.case (does 268435456 r.desk r.call (cond (last == r.case) s blank)).state rs

abbrev pub CasesAnswered : Type 0
CasesAnswered = answers 0 blank rows ≡ map (λ (r : Row). r.reply) rows
