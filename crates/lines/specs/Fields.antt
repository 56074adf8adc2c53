-- One word behind a space, read as a name, bytes or an expected edition, and the rest of the line.
-- Assumes nothing.
use Rattle.std.specs.Prelude.{cond, Some, codes, Option}
use Rattle.std.specs.Borrow.{Bor}
use Rattle.std.specs.Str.{bytes_eq}
use Rattle.promise.specs.Bytes.{Bytes, bind}
use Rattle.promise.specs.Sheets as t
use Rattle.codec.specs.declared.call.Expect.{Expect}
use Rattle.codec.specs.Calls.{expect_of}
use Rattle.text.specs.Decimals.{decimal_in, decimal_text}
use Rattle.text.specs.Hex.{hex_in}
use Rattle.text.specs.Names.{name_in}
use Rattle.text.specs.Words.{word_as}

abbrev pub name_word : Bytes → Option (Bytes × Bytes)
name_word b = word_as name_in b

abbrev pub hex_word : Bytes → Option (Bytes × Bytes)
hex_word b = word_as hex_in b

-- `any`, or an edition
abbrev pub expect_in : Bytes → Option t.Expect
expect_in w = cond (bytes_eq w (codes "any")) (Some t.Any) (bind (decimal_in 18446744073709551615 w) (λ e. Some (t.Just' e)))

abbrev pub expect_word : Bytes → Option (t.Expect × Bytes)
expect_word b = word_as expect_in b

abbrev pub expect_text : t.Expect → Bytes
expect_text t.Any = codes "any"
expect_text (t.Just' e) = decimal_text e

-- VIEWS

abbrev pub expect_tail : Expect × Bor Bytes → t.Expect × Bytes
expect_tail x = (expect_of x.0, x.1.now)
