-- What a desk does at a turn: small values that point into its memory or into the message that came, and what they stand for.
-- Assumes nothing.
use Rattle.std.specs.Prelude.{◌≡◌, ℕ, ◌+◌, ◌<◌, List, [], ◌∷◌, map, length, take, drop, Some, None, Option, slice_index_or}
use Rattle.promise.specs.Bytes.{Bytes}
use Rattle.promise.specs.Layout.{busy}
use Rattle.promise.specs.Desks as p
use Rattle.codec.specs.Messages as c
use Rattle.ids.specs.declared.Seq.{Seq}
use Rattle.desk_side.specs.declared.slot.Slot.{Slot}
use Rattle.desk_side.specs.declared.slot.Which.{Which}
use Rattle.desk_side.specs.declared.output.Output.{Output}
use Rattle.desk_side.specs.declared.output.Output.TheVariants.{Hello, Alive, Request, Tell, Busy}
use Rattle.desk_side.specs.Slots.{passing, blank, call_in}

-- what an output stands for. greeting: where Hello and Alive are written; came: the message that came
abbrev pub out_of : (parts : List Bytes) → (greeting came : Bytes) → Output → p.Does Bytes
out_of ps g b Hello = p.To 0 g
out_of ps g b Alive = p.To 0 g
out_of ps g b (Request j) = p.To 0 (slice_index_or ps j.0 [])
out_of ps g b (Tell k a n) = p.Tell k.0 (take n (drop a b))
out_of ps g b (Busy k) = p.Tell k.0 busy

abbrev pub outs_of : (parts : List Bytes) → (greeting came : Bytes) → List Output → List (p.Does Bytes)
outs_of ps g b os = map (out_of ps g b) os

-- a Request for each slot whose call waits and passes; the first of the list is slot j
abbrev pub asks_by : Option Seq → (j : ℕ) → List Output → List Output
asks_by None j os = os
asks_by (Some q) j os = Request (record { 0 = j }) ∷ os

unfoldable pub asks_of : Which → (j : ℕ) → List Slot → List Output
asks_of w j [] = []
asks_of w j (x ∷ xs) = asks_by (passing w x) j (asks_of w (j + 1) xs)

-- the message that then stands in slot j's part
abbrev pub sealed_by : Option Seq → (session j : ℕ) → (part : Bytes) → Bytes
sealed_by None s j p = p
sealed_by (Some q) s j p = c.encode_msg (c.Request s j q.0 (call_in p))

abbrev pub sealed : Which → (session j : ℕ) → Slot → (part : Bytes) → Bytes
sealed w s j x p = sealed_by (passing w x) s j p

-- the parts `all` hold what is asked for from slot j on, where they held `ps`
abbrev pub Holds : (all : List Bytes) → Which → (session j : ℕ) → List Slot → (ps : List Bytes) → Type 0
Holds all w s j xs ps = (k : ℕ) → k < length xs → slice_index_or all (j + k) [] ≡ sealed w s (j + k) (slice_index_or xs k blank) (slice_index_or ps k [])
