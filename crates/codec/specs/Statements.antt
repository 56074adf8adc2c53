-- What holds of calls and answers as bytes: what is written is read as it was, and there is one way to write each.
-- Assumes nothing.
use Rattle.std.specs.Prelude.{◌≡◌, ℕ, ◌+◌, ◌^◌, ◌<◌, T, List, [], ◌∷◌, ◌++◌, length, Some}
use Rattle.promise.specs.Bytes.{Bytes, all_bytes}
use Rattle.promise.specs.Sheets.{Name, Expect, Any, Just', Call, Read, Put, Patch, Remove, Rename, Names, Take, LetGo, Reply, No, Yes, Edition, Got, Found}
use Rattle.promise.specs.Layout.{encode_call, decode_call, encode_reply, decode_reply, framed, frame_in}

-- RANGES: what bytes can say

abbrev pub SayableExpect : Expect → Type 0
SayableExpect Any = Unit {0}
SayableExpect (Just' e) = e < 2 ^ 64

abbrev pub SayableCall : Call → Type 0
SayableCall (Read n f m) = (length n < 256) × (f < 2 ^ 32) × (m < 2 ^ 32)
SayableCall (Put n bs e) = (length n < 256) × SayableExpect e × (length bs < 2 ^ 32)
SayableCall (Patch n at bs e) = (length n < 256) × (at < 2 ^ 32) × SayableExpect e × (length bs < 2 ^ 32)
SayableCall (Remove n e) = (length n < 256) × SayableExpect e
SayableCall (Rename n k) = (length n < 256) × (length k < 256)
SayableCall (Names a m) = (length a < 256) × (m < 2 ^ 16)
SayableCall (Take n a) = length n < 256
SayableCall (LetGo n) = length n < 256

pub data ShortNames : List Name → Type 0 where
  none : ShortNames []
  more : {n : Name} {ns : List Name} → length n < 256 → ShortNames ns → ShortNames (n ∷ ns)

abbrev pub SayableReply : Reply → Type 0
SayableReply (No k) = k < 256
SayableReply Yes = Unit {0}
SayableReply (Edition e) = e < 2 ^ 64
SayableReply (Got e w bs) = (e < 2 ^ 64) × (w < 2 ^ 32) × (length bs < 2 ^ 32)
SayableReply (Found ns) = (length ns < 2 ^ 16) × ShortNames ns

-- what was written is read as it was
abbrev pub CallsReadBack : Type 0
CallsReadBack = (c : Call) → SayableCall c → decode_call (encode_call c) ≡ Some c

abbrev pub RepliesReadBack : Type 0
RepliesReadBack = (r : Reply) → SayableReply r → decode_reply (encode_reply r) ≡ Some r

-- what is read was written so and in no other way, and each number fits its field
abbrev pub CallsHaveOneForm : Type 0
CallsHaveOneForm = (b : Bytes) (c : Call) → T (all_bytes b) → decode_call b ≡ Some c → (encode_call c ≡ b) × SayableCall c

abbrev pub RepliesHaveOneForm : Type 0
RepliesHaveOneForm = (b : Bytes) (r : Reply) → T (all_bytes b) → decode_reply b ≡ Some r → (encode_reply r ≡ b) × SayableReply r

-- a frame is read as it was written, whatever follows it
abbrev pub FramesReadBack : Type 0
FramesReadBack = (k : ℕ) (b rest : Bytes) → k < 2 ^ 64 → 8 + length b < 2 ^ 32 → frame_in (framed k b ++ rest) ≡ Some (k, b, rest)

abbrev pub FramesHaveOneForm : Type 0
FramesHaveOneForm = (b : Bytes) (k : ℕ) (x rest : Bytes) → T (all_bytes b) → frame_in b ≡ Some (k, x, rest) → (framed k x ++ rest ≡ b) × (k < 2 ^ 64) × (8 + length x < 2 ^ 32)
