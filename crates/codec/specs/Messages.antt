-- What house and desks say to each other, as messages and as bytes. Numbers have their highest byte first.
-- A message: sum (8) of all that follows, length (4) of the whole message, kind (1), and what its kind has:
--   1 Hello: nonce (8)                                       desk to house
--   2 Welcome: nonce (8), session (8)                        house to desk
--   3 Request: session (8), slot (1), seq (8), call          desk to house
--   4 Response: session (8), slot (1), seq (8), grant (8), answer    house to desk
--   5 Alive: session (8)                                     desk to house
-- Assumes nothing.
use Rattle.std.specs.Prelude.{◌≡◌, ℕ, ◌+◌, ◌^◌, ◌<◌, cond, not, T, ◌∷◌, ◌++◌, length, Some, None, Option, ◌==◌}
use Rattle.promise.specs.Bytes.{Bytes, be, bind, number_in, ended, all_bytes}
use Rattle.promise.specs.Layout.{is_busy}
use Rattle.codec.specs.Sum.{sum_of}

pub data Msg : Type 0 where
  Hello : (nonce : ℕ) → Msg
  Welcome : (nonce session : ℕ) → Msg
  Request : (session slot seq : ℕ) → (call : Bytes) → Msg
  Response : (session slot seq grant : ℕ) → (answer : Bytes) → Msg
  Alive : (session : ℕ) → Msg

-- a message without its sum and length
abbrev pub body_of : Msg → Bytes
body_of (Hello c) = 1 ∷ be 8 c
body_of (Welcome c s) = 2 ∷ (be 8 c ++ be 8 s)
body_of (Request s j q c) = 3 ∷ (be 8 s ++ (j ∷ (be 8 q ++ c)))
body_of (Response s j q g a) = 4 ∷ (be 8 s ++ (j ∷ (be 8 q ++ (be 8 g ++ a))))
body_of (Alive s) = 5 ∷ be 8 s

abbrev pub lengthed : Bytes → Bytes
lengthed b = be 4 (12 + length b) ++ b

abbrev pub summed : Bytes → Bytes
summed b = be 8 (sum_of b) ++ b

unfoldable pub encode_msg : Msg → Bytes
encode_msg m = summed (lengthed (body_of m))

-- READING: None for noise

abbrev pub hello_in : Bytes → Option Msg
hello_in b = bind (number_in 8 b) (λ c. ended (Hello c.0) c.1)

abbrev pub welcome_in : Bytes → Option Msg
welcome_in b = bind (number_in 8 b) (λ c. bind (number_in 8 c.1) (λ s. ended (Welcome c.0 s.0) s.1))

abbrev pub request_in : Bytes → Option Msg
request_in b = bind (number_in 8 b) (λ s. bind (number_in 1 s.1) (λ j. bind (number_in 8 j.1) (λ q. Some (Request s.0 j.0 q.0 q.1))))

-- an answer that says 11 is never sent, so it is noise
abbrev pub response_in : Bytes → Option Msg
response_in b =
    bind (number_in 8 b) (λ s. bind (number_in 1 s.1) (λ j. bind (number_in 8 j.1) (λ q. bind (number_in 8 q.1) (λ g.
    cond (is_busy g.1) None (Some (Response s.0 j.0 q.0 g.0 g.1))))))

abbrev pub alive_in : Bytes → Option Msg
alive_in b = bind (number_in 8 b) (λ s. ended (Alive s.0) s.1)

abbrev pub kind_in : (kind : ℕ) → Bytes → Option Msg
kind_in k b =
    cond (k == 1) (hello_in b) (cond (k == 2) (welcome_in b) (cond (k == 3) (request_in b)
    (cond (k == 4) (response_in b) (cond (k == 5) (alive_in b) None))))

unfoldable pub body_in : Bytes → Option Msg
body_in b = bind (number_in 1 b) (λ k. kind_in k.0 k.1)

-- what follows the sum of a message of so many bytes
abbrev pub lengthed_msg_in : (whole : ℕ) → Bytes → Option Msg
lengthed_msg_in n b = bind (number_in 4 b) (λ l. cond (l.0 == n) (body_in l.1) None)

unfoldable pub decode_msg : Bytes → Option Msg
decode_msg b = bind (number_in 8 b) (λ h. cond (h.0 == sum_of h.1) (lengthed_msg_in (length b) h.1) None)

-- RANGES: what the bytes of a message can say

abbrev pub Sayable : Msg → Type 0
Sayable (Hello c) = c < 2 ^ 64
Sayable (Welcome c s) = (c < 2 ^ 64) × (s < 2 ^ 64)
Sayable (Request s j q c) = (s < 2 ^ 64) × (j < 256) × (q < 2 ^ 64) × (length c < 2 ^ 31) × T (all_bytes c)
Sayable (Response s j q g a) = (s < 2 ^ 64) × (j < 256) × (q < 2 ^ 64) × (g < 2 ^ 64) × (length a < 2 ^ 31) × T (all_bytes a) × T (not (is_busy a))
Sayable (Alive s) = s < 2 ^ 64

-- what was written is read as it was
abbrev pub ReadsBack : Type 0
ReadsBack = (m : Msg) → Sayable m → decode_msg (encode_msg m) ≡ Some m
