-- The code's answers as those of the table.
-- Assumes nothing.
use Rattle.std.specs.Prelude.{◌≡◌, ℕ, ◌+◌, ◌^◌, ◌<◌, Bool, true, false, cond, List, [], ◌++◌, length, Some, None, Option, ◌==◌, Result, Ok, Err, MatchResult}
use Rattle.promise.specs.Bytes.{Bytes, be}
use Rattle.promise.specs.Sheets as t
use Rattle.promise.specs.Layout.{bytes_out, names_in}
use Rattle.codec.specs.declared.answer.Refusal.{Refusal}
use Rattle.codec.specs.declared.answer.Refusal.TheVariants as r
use Rattle.codec.specs.declared.UnknownKind.{UnknownKind}
use Rattle.codec.specs.declared.answer.Changed.{Changed}
use Rattle.codec.specs.declared.answer.Changed.TheVariants as ch
use Rattle.codec.specs.declared.answer.AnswerKind.{AnswerKind}
use Rattle.codec.specs.declared.answer.AnswerKind.TheVariants as k
use Rattle.codec.specs.declared.answer.Answer.{Answer}
use Rattle.codec.specs.declared.answer.Answer.TheVariants as a

-- the number by which a refusal is told
abbrev pub refusal_number : Refusal → ℕ
refusal_number r.OutOfRange = t.out_of_range
refusal_number r.Missing = t.missing
refusal_number r.Present = t.present
refusal_number r.OtherEdition = t.other_edition
refusal_number r.InOthersHand = t.in_others_hand
refusal_number r.UsedUp = t.used_up
refusal_number r.NoRoom = t.no_room
refusal_number r.EightWait = t.eight_wait
refusal_number r.NotBuilt = t.not_built
refusal_number (r.Other n) = n

-- the refusal that has this number, by its own name if it has one
abbrev pub refusal_of : ℕ → Refusal
refusal_of n =
    cond (n == t.out_of_range) r.OutOfRange (cond (n == t.missing) r.Missing (cond (n == t.present) r.Present
    (cond (n == t.other_edition) r.OtherEdition (cond (n == t.in_others_hand) r.InOthersHand (cond (n == t.used_up) r.UsedUp
    (cond (n == t.no_room) r.NoRoom (cond (n == t.eight_wait) r.EightWait (cond (n == t.not_built) r.NotBuilt (r.Other n)))))))))

-- NAMES, each with its length before it

abbrev pub listed : Option (List t.Name × Bytes) → List t.Name
listed None = []
listed (Some x) = x.0

abbrev pub whole : Option (List t.Name × Bytes) → Bool
whole None = false
whole (Some x) = length x.1 == 0

-- the first so many names
abbrev pub names_of : ℕ → Bytes → List t.Name
names_of k b = listed (names_in k b)

-- these bytes are just so many names
abbrev pub are_names : ℕ → Bytes → Bool
are_names k b = whole (names_in k b)

-- ANSWERS

abbrev pub reply_of : Answer → t.Reply
reply_of (a.No x) = t.No (refusal_number x)
reply_of a.Yes = t.Yes
reply_of (a.Edition e) = t.Edition e.0
reply_of (a.Read e w b) = t.Got e.0 w b.now
reply_of (a.Names k b) = t.Found (names_of k b.now)

-- the number by which it begins
abbrev pub answer_kind : Answer → ℕ
answer_kind (a.No x) = 0
answer_kind a.Yes = 1
answer_kind (a.Edition e) = 2
answer_kind (a.Read e w b) = 3
answer_kind (a.Names k b) = 4

abbrev pub answer_kind_number : AnswerKind → ℕ
answer_kind_number k.No = 0
answer_kind_number k.Yes = 1
answer_kind_number k.Edition = 2
answer_kind_number k.Read = 3
answer_kind_number k.Names = 4

-- this number is that of the kind, or no answer begins by it
abbrev pub BeginsAnswer : ℕ → Result AnswerKind UnknownKind → Type 0
BeginsAnswer n r = MatchResult r (λ k. answer_kind_number k ≡ n) (λ e. (e.0 ≡ n) × (4 < n))

-- what became of a change, as an answer
abbrev pub answer_of : Result Changed Refusal → Answer
answer_of (Ok ch.Yes) = a.Yes
answer_of (Ok (ch.Edition e)) = a.Edition e
answer_of (Err x) = a.No x

-- what follows, as it is written; Layout has the answer that it says
abbrev pub fields_out : Answer → Bytes
fields_out (a.No x) = be 1 (refusal_number x)
fields_out a.Yes = []
fields_out (a.Edition e) = be 8 e.0
fields_out (a.Read e w b) = be 8 e.0 ++ (be 4 w ++ bytes_out b.now)
fields_out (a.Names k b) = be 2 k ++ b.now

-- how many bytes these are
abbrev pub fields_size : Answer → ℕ
fields_size (a.No x) = 1
fields_size a.Yes = 0
fields_size (a.Edition e) = 8
fields_size (a.Read e w b) = 16 + length b.now
fields_size (a.Names k b) = 2 + length b.now

abbrev pub answer_size : Answer → ℕ
answer_size x = 1 + fields_size x

-- its length fits its field, its names are as many as it says
abbrev pub AnswerFits : Answer → Type 0
AnswerFits (a.No x) = Unit {0}
AnswerFits a.Yes = Unit {0}
AnswerFits (a.Edition e) = Unit {0}
AnswerFits (a.Read e w b) = length b.now < 2 ^ 32
AnswerFits (a.Names k b) = are_names k b.now ≡ true
