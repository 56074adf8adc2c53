-- What an event is written as, and the laws of reading and writing it.
-- Assumes nothing.
use Rattle.std.specs.Prelude.{◌≡◌, Bool, true, false, [], ◌++◌, Some, None, Ok, codes, Option, Result}
use Rattle.promise.specs.Bytes.{Bytes}
use Rattle.promise.specs.Sheets as t
use Rattle.text.specs.Decimals.{decimal_text}
use Rattle.text.specs.Hex.{hex_text}
use Rattle.text.specs.Names.{name_text}
use Rattle.text.specs.Words.{spaced}
use Rattle.lines.specs.Fields.{expect_text}
use Rattle.lines.specs.Events.{Event, Clock, From, Beat, Light, Sync, Asked}
use Rattle.lines.specs.declared.error.LineError.{LineError}

-- `take` and `take alone`
abbrev pub alone_text : Bool → Bytes
alone_text false = []
alone_text true = spaced (codes "alone")

-- a call, behind its number
abbrev pub call_text : t.Call → Bytes
call_text (t.Read n s m) = spaced (codes "read") ++ (spaced (name_text n) ++ (spaced (decimal_text s) ++ spaced (decimal_text m)))
call_text (t.Put n bs e) = spaced (codes "put") ++ (spaced (name_text n) ++ (spaced (expect_text e) ++ spaced (hex_text bs)))
call_text (t.Patch n a bs e) = spaced (codes "patch") ++ (spaced (name_text n) ++ (spaced (decimal_text a) ++ (spaced (expect_text e) ++ spaced (hex_text bs))))
call_text (t.Remove n e) = spaced (codes "remove") ++ (spaced (name_text n) ++ spaced (expect_text e))
call_text (t.Rename n k) = spaced (codes "rename") ++ (spaced (name_text n) ++ spaced (name_text k))
call_text (t.Names a m) = spaced (codes "names") ++ (spaced (name_text a) ++ spaced (decimal_text m))
call_text (t.Take n a) = spaced (codes "take") ++ (alone_text a ++ spaced (name_text n))
call_text (t.LetGo n) = spaced (codes "let") ++ (spaced (codes "go") ++ spaced (name_text n))

-- a call that cannot be put into bytes has no text of its own
abbrev pub asked_text : Option t.Call → Bytes
asked_text None = []
asked_text (Some c) = call_text c

abbrev pub event_text : Event → Bytes
event_text (Clock n) = codes "clock" ++ spaced (decimal_text n)
event_text (From j bs) = codes "from" ++ (spaced (decimal_text j) ++ spaced (hex_text bs))
event_text Beat = codes "beat"
event_text Light = codes "light"
event_text (Sync w) = codes "sync" ++ spaced w
event_text (Asked k c) = decimal_text k ++ asked_text c

-- each but a call that cannot be put into bytes
abbrev pub HasText : Event → Type 0
HasText (Clock n) = Unit {0}
HasText (From j bs) = Unit {0}
HasText Beat = Unit {0}
HasText Light = Unit {0}
HasText (Sync w) = Unit {0}
HasText (Asked k None) = ⊥
HasText (Asked k (Some c)) = Unit {0}

-- what was read of a line is written as it stood
abbrev pub WrittenBack : (Bytes → Result Event LineError) → Bytes → Type 0
WrittenBack read line = (e : Event) → HasText e → read line ≡ Ok e → event_text e ≡ line
