-- Answers as lines: the call's number, and what it is told.
-- Assumes nothing.
use Rattle.std.specs.Prelude.{ℕ, zero, suc, List, [], ◌∷◌, ◌++◌, length, Some, None, codes, Option}
use Rattle.promise.specs.Bytes.{Bytes, lengthed_in}
use Rattle.promise.specs.Sheets as t
use Rattle.codec.specs.Answers.{refusal_number}
use Rattle.codec.specs.declared.answer.Answer.{Answer}
use Rattle.codec.specs.declared.answer.Answer.TheVariants as a
use Rattle.text.specs.Decimals.{decimal_text}
use Rattle.text.specs.Hex.{hex_text}
use Rattle.text.specs.Names.{name_text}
use Rattle.text.specs.Words.{spaced}
use Rattle.printing.specs.Printed.{newline}

-- the first name of a list of names, each with its length before it, and the rest
abbrev pub head_name : Bytes → Option (Bytes × Bytes)
head_name b = lengthed_in 1 b

abbrev pub before : Option (Bytes × Bytes) → (Bytes → List Bytes) → List Bytes
before None rest = []
before (Some n) rest = n.0 ∷ rest n.1

-- so many names, or as many as are there
abbrev pub listed : (count : ℕ) → Bytes → List Bytes
listed zero b = []
listed (suc k) b = before (head_name b) (λ r. listed k r)

abbrev pub answer_of : Answer → t.Reply
answer_of (a.No r) = t.No (refusal_number r)
answer_of a.Yes = t.Yes
answer_of (a.Edition e) = t.Edition e.0
answer_of (a.Read e whole bs) = t.Got e.0 whole bs.now
answer_of (a.Names count ns) = t.Found (listed count ns.now)

abbrev pub names_text : List Bytes → Bytes
names_text [] = []
names_text (n ∷ ns) = spaced (name_text n) ++ names_text ns

-- what is told, behind the call's number
abbrev pub reply_text : t.Reply → Bytes
reply_text (t.No k) = spaced (codes "no") ++ spaced (decimal_text k)
reply_text t.Yes = spaced (codes "yes")
reply_text (t.Edition e) = spaced (codes "edition") ++ spaced (decimal_text e)
reply_text (t.Got e whole bs) = spaced (codes "read") ++ (spaced (decimal_text e) ++ (spaced (decimal_text whole) ++ spaced (hex_text bs)))
reply_text (t.Found ns) = spaced (codes "names") ++ (spaced (decimal_text (length ns)) ++ names_text ns)

abbrev pub answer_line : ℕ → t.Reply → Bytes
answer_line k r = decimal_text k ++ (reply_text r ++ newline)

-- how many bytes come with an answer
abbrev pub carried : Answer → ℕ
carried (a.No r) = 0
carried a.Yes = 0
carried (a.Edition e) = 0
carried (a.Read e whole bs) = length bs.now
carried (a.Names count ns) = length ns.now
