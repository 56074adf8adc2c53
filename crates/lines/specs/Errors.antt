-- What is said of a line that is none.
-- Assumes nothing.
use Rattle.std.specs.Prelude.{ℕ, List, codes}
use Rattle.lines.specs.declared.error.LineError.{LineError}
use Rattle.lines.specs.declared.error.LineError.TheVariants.{UnknownWord, MissingWord, ExtraWord, BadNumber, BadHex, BadWord, NoRoom}

abbrev pub error_text : LineError → List ℕ
error_text UnknownWord = codes "unknown word"
error_text MissingWord = codes "a word is missing"
error_text ExtraWord = codes "a word too many"
error_text BadNumber = codes "a bad number"
error_text BadHex = codes "bad hexadecimal"
error_text BadWord = codes "a byte that cannot be seen"
error_text NoRoom = codes "too long"
