-- A call as its writer writes it: a kind, a name, and what follows it. Layout has the whole.
-- Assumes nothing.
use Rattle.std.specs.Prelude.{ℕ, ◌+◌, ◌^◌, ◌<◌, [], ◌++◌, length}
use Rattle.promise.specs.Bytes.{Bytes, be}
use Rattle.promise.specs.Sheets.{Name, Expect, Any, Just', Call, Read, Put, Patch, Remove, Rename, Names, Take, LetGo}
use Rattle.promise.specs.Layout.{name_out, bytes_out, expect_out, alone_out}

-- each call begins with a name
abbrev pub name_of : Call → Name
name_of (Read n f m) = n
name_of (Put n bs e) = n
name_of (Patch n at bs e) = n
name_of (Remove n e) = n
name_of (Rename n k) = n
name_of (Names a m) = a
name_of (Take n a) = n
name_of (LetGo n) = n

-- what follows it
abbrev pub rest_out : Call → Bytes
rest_out (Read n f m) = be 4 f ++ be 4 m
rest_out (Put n bs e) = expect_out e ++ bytes_out bs
rest_out (Patch n at bs e) = be 4 at ++ (expect_out e ++ bytes_out bs)
rest_out (Remove n e) = expect_out e
rest_out (Rename n k) = name_out k
rest_out (Names a m) = be 2 m
rest_out (Take n a) = alone_out a
rest_out (LetGo n) = []

-- HOW MANY BYTES

abbrev pub expect_size : Expect → ℕ
expect_size Any = 1
expect_size (Just' e) = 9

abbrev pub rest_size : Call → ℕ
rest_size (Read n f m) = 8
rest_size (Put n bs e) = expect_size e + 4 + length bs
rest_size (Patch n at bs e) = 8 + expect_size e + length bs
rest_size (Remove n e) = expect_size e
rest_size (Rename n k) = 1 + length k
rest_size (Names a m) = 2
rest_size (Take n a) = 1
rest_size (LetGo n) = 0

abbrev pub call_size : Call → ℕ
call_size c = 2 + length (name_of c) + rest_size c

-- LENGTHS that fit their fields

abbrev pub RestFits : Call → Type 0
RestFits (Read n f m) = Unit {0}
RestFits (Put n bs e) = length bs < 2 ^ 32
RestFits (Patch n at bs e) = length bs < 2 ^ 32
RestFits (Remove n e) = Unit {0}
RestFits (Rename n k) = length k < 256
RestFits (Names a m) = Unit {0}
RestFits (Take n a) = Unit {0}
RestFits (LetGo n) = Unit {0}

abbrev pub CallFits : Call → Type 0
CallFits c = (length (name_of c) < 256) × RestFits c
