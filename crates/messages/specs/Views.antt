-- The code's messages as those that house and desks are said to send.
-- Assumes nothing.
use Rattle.std.specs.Prelude.{◌≡◌, ℕ, ◌+◌, ◌^◌, ◌<◌, false, [], length, Some, Option}
use Rattle.std.specs.Borrow.{Bor}
use Rattle.promise.specs.Bytes.{Bytes, bind, number_in, ended}
use Rattle.promise.specs.Layout.{is_busy}
use Rattle.codec.specs.Messages.{Msg, Hello, Welcome, Request, Response, Alive}
use Rattle.ids.specs.declared.RequestId.{RequestId}
use Rattle.messages.specs.declared.message.Message.{Message}
use Rattle.messages.specs.declared.message.Message.TheVariants as m

-- a number with nothing behind it
abbrev pub last_number_in : Bytes → Option ℕ
last_number_in b = bind (number_in 8 b) (λ n. ended n.0 n.1)

-- session, slot and seq, and the rest of the bytes
abbrev pub request_id_in : Bytes → Option (ℕ × ℕ × ℕ × Bytes)
request_id_in b = bind (number_in 8 b) (λ s. bind (number_in 1 s.1) (λ j. bind (number_in 8 j.1) (λ q. Some (s.0, j.0, q.0, q.1))))

abbrev pub identified : RequestId × Bor Bytes → ℕ × ℕ × ℕ × Bytes
identified x = (x.0.session.0, x.0.slot.0, x.0.seq.0, x.1.now)

abbrev pub msg_of : Message → Msg
msg_of (m.Hello c) = Hello c.0
msg_of (m.Welcome c s) = Welcome c.0 s.0
msg_of (m.Request r c) = Request r.session.0 r.slot.0 r.seq.0 c.now
msg_of (m.Response r g a) = Response r.session.0 r.slot.0 r.seq.0 g.0 a.now
msg_of (m.Alive s) = Alive s.0

-- how many bytes stand before the call or the answer that a message ends with
abbrev pub head_size : Msg → ℕ
head_size (Hello c) = 21
head_size (Welcome c s) = 29
head_size (Request s j q c) = 30
head_size (Response s j q g a) = 38
head_size (Alive s) = 21

-- the call or the answer that a message ends with
abbrev pub payload : Msg → Bytes
payload (Hello c) = []
payload (Welcome c s) = []
payload (Request s j q c) = c
payload (Response s j q g a) = a
payload (Alive s) = []

abbrev pub message_size : Msg → ℕ
message_size x = head_size x + length (payload x)

-- its length fits, and it is no answer that says 11
abbrev pub MessageFits : Msg → Type 0
MessageFits (Hello c) = Unit {0}
MessageFits (Welcome c s) = Unit {0}
MessageFits (Request s j q c) = length c < 2 ^ 31
MessageFits (Response s j q g a) = (length a < 2 ^ 31) × (is_busy a ≡ false)
MessageFits (Alive s) = Unit {0}
