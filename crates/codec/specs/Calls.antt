-- The code's calls as those of the table.
-- Assumes nothing.
use Rattle.std.specs.Prelude.{◌≡◌, ℕ, ◌≤◌, Bool, Result, MatchResult}
use Rattle.std.specs.Borrow.{Bor}
use Rattle.promise.specs.Bytes.{Bytes}
use Rattle.promise.specs.Sheets as t
use Rattle.codec.specs.declared.UnknownKind.{UnknownKind}
use Rattle.codec.specs.declared.call.Expect.{Expect}
use Rattle.codec.specs.declared.call.Expect.TheVariants as e
use Rattle.codec.specs.declared.call.Kind.{Kind}
use Rattle.codec.specs.declared.call.Kind.TheVariants as k
use Rattle.codec.specs.declared.call.Call.{Call}
use Rattle.codec.specs.declared.call.Call.TheVariants as c

abbrev pub expect_of : Expect → t.Expect
expect_of e.Any = t.Any
expect_of (e.Just x) = t.Just' x.0

-- what is expected, and the rest of the bytes
abbrev pub expected : Expect × Bor Bytes → t.Expect × Bytes
expected x = (expect_of x.0, x.1.now)

-- yes or no, and the rest of the bytes
abbrev pub flagged : Bool × Bor Bytes → Bool × Bytes
flagged x = (x.0, x.1.now)

-- the number by which a call begins
abbrev pub kind_number : Kind → ℕ
kind_number k.Read = 1
kind_number k.Put = 2
kind_number k.Patch = 3
kind_number k.Remove = 4
kind_number k.Rename = 5
kind_number k.Names = 6
kind_number k.Take = 7
kind_number k.LetGo = 8

-- this number is that of the kind, or no call begins by it
abbrev pub BeginsCall : ℕ → Result Kind UnknownKind → Type 0
BeginsCall n r = MatchResult r (λ kind. kind_number kind ≡ n) (λ e. (e.0 ≡ n) × (1 ≤ n → n ≤ 8 → ⊥))

abbrev pub call_of : Call → t.Call
call_of (c.Read n f m) = t.Read n.now f m
call_of (c.Put n x b) = t.Put n.now b.now (expect_of x)
call_of (c.Patch n a x b) = t.Patch n.now a b.now (expect_of x)
call_of (c.Remove n x) = t.Remove n.now (expect_of x)
call_of (c.Rename n k) = t.Rename n.now k.now
call_of (c.Names a m) = t.Names a.now m
call_of (c.Take n a) = t.Take n.now a
call_of (c.LetGo n) = t.LetGo n.now

abbrev pub kind_of : Call → Kind
kind_of (c.Read n f m) = k.Read
kind_of (c.Put n x b) = k.Put
kind_of (c.Patch n a x b) = k.Patch
kind_of (c.Remove n x) = k.Remove
kind_of (c.Rename n to) = k.Rename
kind_of (c.Names a m) = k.Names
kind_of (c.Take n a) = k.Take
kind_of (c.LetGo n) = k.LetGo
