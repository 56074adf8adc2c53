-- The lines that house and desks read, and what they say.
-- Assumes nothing.
use Rattle.std.specs.Prelude.{ℕ, Bool, cond, ◌&&◌, length, Some, None, Ok, Err, vec_items, codes, Option, Result, ◌==◌, nat_le}
use Rattle.std.specs.Borrow.{Bor}
use Rattle.std.specs.Str.{bytes_eq}
use Rattle.std.specs.List.{list_all}
use Rattle.std.specs.Option.{option_map, ok_or}
use Rattle.promise.specs.Bytes.{Bytes, bind}
use Rattle.promise.specs.Sheets as t
use Rattle.text.specs.Decimals.{decimal_in}
use Rattle.text.specs.Hex.{hex_in}
use Rattle.text.specs.Words.{both, first_in, word_in}
use Rattle.lines.specs.CallLines.{verb_in, call_line, formed}
use Rattle.lines.specs.declared.error.LineError.{LineError}
use Rattle.lines.specs.declared.error.LineError.TheVariants.{UnknownWord, MissingWord, ExtraWord, BadNumber, BadHex, BadWord}
use Rattle.codec.specs.declared.call.Kind.{Kind}
use Rattle.lines.specs.declared.shape.Shape.{Shape}
use Rattle.lines.specs.declared.shape.Shape.TheVariants as s
use Rattle.lines.specs.declared.shape.Scratch.{Scratch}

pub data Event : Type 0 where
  -- the clock shows so much from here on
  Clock : ℕ → Event
  -- a message, and who it is from
  From : ℕ → Bytes → Event
  Beat : Event
  -- the house goes on after it was dark
  Light : Event
  -- a word to be repeated when all before it is handled
  Sync : Bytes → Event
  -- a call under a number; None: it cannot be put into bytes
  Asked : ℕ → Option t.Call → Event

abbrev pub most64 : ℕ
most64 = 18446744073709551615

-- a clock shows less than 2 to the 63
abbrev pub most_clock : ℕ
most_clock = 9223372036854775807

abbrev pub and_then : {A B : Type 0} → Result A LineError → (A → Result B LineError) → Result B LineError
and_then (Ok x) f = f x
and_then (Err e) f = Err e

-- a value, if no word follows
abbrev pub last_word : {A : Type 0} → A → Bytes → Result A LineError
last_word x b = cond (length b == 0) (Ok x) (Err ExtraWord)

abbrev pub needed : Bytes → Result (Bytes × Bytes) LineError
needed b = ok_or (word_in b) MissingWord

abbrev pub clock_line : Bytes → Result Event LineError
clock_line b = and_then (needed b) (λ w. and_then (ok_or (decimal_in most_clock w.0) BadNumber) (λ n. last_word (Clock n) w.1))

abbrev pub from_line : Bytes → Result Event LineError
from_line b =
    and_then (needed b) (λ w. and_then (ok_or (decimal_in most64 w.0) BadNumber) (λ j.
    and_then (needed w.1) (λ h. and_then (ok_or (hex_in h.0) BadHex) (λ bs. last_word (From j bs) h.1))))

abbrev pub is_seen : ℕ → Bool
is_seen b = nat_le 33 b && nat_le b 126

-- each byte can be seen
abbrev pub all_seen : Bytes → Bool
all_seen w = list_all is_seen w

abbrev pub sync_line : Bytes → Result Event LineError
sync_line b = and_then (needed b) (λ w. cond (all_seen w.0) (last_word (Sync w.0) w.1) (Err BadWord))

-- what house and desks both read, by the first word
abbrev pub plain_line : (word rest : Bytes) → Result Event LineError
plain_line w b =
    cond (bytes_eq w (codes "clock")) (clock_line b) (cond (bytes_eq w (codes "from")) (from_line b)
    (cond (bytes_eq w (codes "beat")) (last_word Beat b) (cond (bytes_eq w (codes "sync")) (sync_line b) (Err UnknownWord))))

abbrev pub house_line : Bytes → Result Event LineError
house_line line = and_then (ok_or (first_in line) MissingWord) (λ w. cond (bytes_eq w.0 (codes "light")) (last_word Light w.1) (plain_line w.0 w.1))

-- a number and a call's word: a call, whatever follows
abbrev pub asked_in : (word rest : Bytes) → Option (ℕ × (Kind × Bytes))
asked_in w b = bind (decimal_in most64 w) (λ k. bind (word_in b) (λ x. bind (verb_in x.0) (λ v. Some (k, (v, x.1)))))

abbrev pub asked_or : Option (ℕ × (Kind × Bytes)) → Result Event LineError → Result Event LineError
asked_or None r = r
asked_or (Some x) r = Ok (Asked x.0 (call_line x.1.0 x.1.1))

abbrev pub desk_line : Bytes → Result Event LineError
desk_line line = and_then (ok_or (first_in line) MissingWord) (λ w. asked_or (asked_in w.0 w.1) (plain_line w.0 w.1))

-- VIEWS

abbrev pub asked_view : ℕ × Kind × Bor Bytes → ℕ × (Kind × Bytes)
asked_view x = (x.0, (x.1, x.2.now))

abbrev pub begun : Result (Bor Bytes × Bor Bytes) LineError → Result (Bytes × Bytes) LineError
begun (Ok x) = Ok (both x)
begun (Err e) = Err e

-- a shape with its names and bytes
abbrev pub shape_of : Scratch → Shape → Event
shape_of z (s.Clock c) = Clock c.0
shape_of z (s.From j) = From j (vec_items z.bytes)
shape_of z s.Beat = Beat
shape_of z s.Light = Light
shape_of z s.Sync = Sync (vec_items z.bytes)
shape_of z (s.Asked k f) = Asked k.0 (option_map (formed z) f)

abbrev pub shaped : Scratch → Result Shape LineError → Result Event LineError
shaped z (Ok x) = Ok (shape_of z x)
shaped z (Err e) = Err e
