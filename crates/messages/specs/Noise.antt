-- What holds of messages as bytes: there is one way to write each, and damage is noticed.
-- Assumes nothing.
use Rattle.std.specs.Prelude.{◌≡◌, ℕ, ◌%◌, ◌^◌, ◌<◌, ◌≤◌, T, ◌++◌, length, take, Some, None, ◌≢◌}
use Rattle.promise.specs.Bytes.{Bytes, all_bytes}
use Rattle.codec.specs.Messages.{Msg, Sayable, encode_msg, decode_msg}

-- what is read was written so and in no other way, and each number fits its field
abbrev pub MessagesHaveOneForm : Type 0
MessagesHaveOneForm = (b : Bytes) (m : Msg) → T (all_bytes b) → decode_msg b ≡ Some m → (encode_msg m ≡ b) × (length b < 2 ^ 31 → Sayable m)

-- what was cut short is noise
abbrev pub CutIsNoise : Type 0
CutIsNoise = (m : Msg) (k : ℕ) → Sayable m → k < length (encode_msg m) → decode_msg (take k (encode_msg m)) ≡ None

-- what was lengthened is noise
abbrev pub LengthenedIsNoise : Type 0
LengthenedIsNoise = (m : Msg) (more : Bytes) → Sayable m → 0 < length more → decode_msg (encode_msg m ++ more) ≡ None

-- a message in which some of the 8 bytes of one word were changed is noise
abbrev pub ChangedWordIsNoise : Type 0
ChangedWordIsNoise =
    (front x y back : Bytes) (m : Msg) → T (all_bytes (front ++ (x ++ back))) → T (all_bytes (front ++ (y ++ back))) →
    length front % 8 ≡ 0 → length x ≡ length y → length x ≤ 8 → (x ≢ y) →
    decode_msg (front ++ (x ++ back)) ≡ Some m → decode_msg (front ++ (y ++ back)) ≡ None
