-- A turn over bytes.
-- Assumes nothing.
use Rattle.std.specs.Prelude.{◌≡◌, ℕ, ◌<◌, ◌≤◌, Bool, true, false, List, [], Some, None, Ok, Err, Option, Result}
use Rattle.ids.specs.declared.CallNumber.{CallNumber}
use Rattle.ids.specs.declared.Nonce.{Nonce}
use Rattle.ids.specs.declared.Clock.{Clock}
use Rattle.promise.specs.Bytes.{Bytes}
use Rattle.promise.specs.Desks as p
use Rattle.codec.specs.Messages.{Msg, decode_msg}
use Rattle.promise.specs.Sheets.{Call}
use Rattle.promise.specs.Machine.{sheets}
use Rattle.asking.specs.Code.{Settings, desk, byte_turn}
use Rattle.asking.specs.Desk as m
use Rattle.desk_side.specs.declared.desk.Desk.{Desk}
use Rattle.desk_side.specs.declared.output.BeginError.{BeginError}
use Rattle.desk_side.specs.declared.output.BeginError.TheVariants.{LentTooLittle, RetryOutOfRange, NoMemory}
use Rattle.desk_side.specs.Desks.{desk_in, outputs_of}
use Rattle.std.specs.Borrow.{Bor}
use Rattle.desk_side.specs.View.{requests_in, greeting_in}
use Rattle.desk_side.specs.declared.output.Output.{Output}
use Rattle.desk_side.specs.declared.output.Output.TheVariants as o
use Rattle.desk_side.specs.Outputs.{out_of}
use Rattle.desk_side.specs.declared.output.Event.{Event}
use Rattle.desk_side.specs.declared.output.Event.TheVariants as e

abbrev pub comes_of : Event → p.Comes Bytes
comes_of (e.Message i b) = p.From i.0 b.now
comes_of (e.Call k x) = p.Ask k.0 x.now
comes_of e.Tick = p.Beat

-- the bytes that came, into which outputs may point
abbrev pub came_of : Event → Bytes
came_of (e.Message i b) = b.now
came_of (e.Call k x) = []
came_of e.Tick = []

-- at what was decoded, or noise
abbrev pub decoded : (desk clock : ℕ) → Option Msg → m.Desk → m.DeskTurn
decoded i t None d = m.does_nothing d
decoded i t (Some x) d = m.desk_from i t x d

-- the model's turn of a desk, with what comes as bytes
abbrev pub turn_of : Settings → p.Comes Bytes → (clock : ℕ) → m.Desk → m.DeskTurn
turn_of z (p.From i b) t d = decoded i t (decode_msg b) d
turn_of z (p.Ask k x) t d = m.desk_called z.grabs t k x d
turn_of z p.Beat t d = m.desk_tick z.retry t d

-- from the desk d, at what came, the model over bytes does this and knows e then, whatever calls are built and whatever room there is
abbrev pub AsModel : Settings → p.Comes Bytes → (clock : ℕ) → (d : m.Desk) → List (p.Does Bytes) → (e : m.Desk) → Type 0
AsModel z x t d outs e = (can : Call → Bool) (room : ℕ) → byte_turn {m = sheets can room} z x t (desk d) ≡ record { does = outs; mind = desk e }

-- eight Requests with the longest call
abbrev pub needed : ℕ
needed = 8391040

-- a desk that has begun, or why it has not
abbrev pub Begins : (lent retry : ℕ) → Nonce → Clock → Result Desk BeginError → Type 0
Begins lent r n t (Ok d) = (desk_in d ≡ m.desk_begins n.0 t.0) × (outputs_of d ≡ []) × (d.retry ≡ r) × (needed ≤ lent) × (0 < r) × (r ≤ 50000)
Begins lent r n t (Err LentTooLittle) = lent < needed
Begins lent r n t (Err RetryOutOfRange) = (needed ≤ lent) × (0 < r → 50000 < r)
Begins lent r n t (Err NoMemory) = (needed ≤ lent) × (0 < r) × (r ≤ 50000)

-- the message that an output stands for, whatever bytes came; none for what is told
abbrev pub is_told : Output → Bool
is_told o.Hello = false
is_told o.Alive = false
is_told (o.Request j) = false
is_told (o.Tell k a n) = true
is_told (o.Busy k) = true

abbrev pub Says : Desk → Output → Option (Bor Bytes) → Type 0
Says d x None = is_told x ≡ true
Says d x (Some r) = (b : Bytes) → out_of (requests_in d.memory.requests) (greeting_in d.memory.greeting) b x ≡ p.To 0 r.now

-- the answer that an output tells, and under which number; none for a message
abbrev pub Tells : (came : Bytes) → Output → Option (CallNumber × Bor Bytes) → Type 0
Tells b x None = is_told x ≡ false
Tells b x (Some r) = (ps : List Bytes) (g : Bytes) → out_of ps g b x ≡ p.Tell r.0.0 r.1.now
