-- What a reader leaves that appends to a buffer.
-- Assumes nothing.
use Rattle.std.specs.Prelude.{ℕ, List, ◌++◌, Some, Ok, Err, Option, Result, codes}
use Rattle.promise.specs.Bytes.{Bytes, bind}
use Rattle.text.specs.declared.room.Unread.{Unread}
use Rattle.text.specs.declared.room.Unread.TheVariants.{Malformed, NoRoom}

-- what was read so far, before what the rest says
abbrev pub ahead : Bytes → Option Bytes → Option Bytes
ahead p o = bind o (λ bs. Some (p ++ bs))

abbrev pub read_as : {E : Type 0} → Result Unit E → Bytes → Result Bytes E
read_as (Ok u) bs = Ok bs
read_as (Err e) bs = Err e

-- what is said of a word that was not read
abbrev pub unread_text : Unread → List ℕ
unread_text Malformed = codes "malformed"
unread_text NoRoom = codes "no room to read into"
