-- Strings of bytes, each in its part of memory.
-- Assumes nothing.
use Rattle.std.specs.Prelude.{ℕ, ◌≤◌, Bool, cond, List, [], ◌++◌, length, take, drop, nat_le, vec_len, vec_capacity}
use Rattle.std.specs.declared.vec.Vec.{Vec}
use Rattle.codec.specs.Messages.{encode_msg, Request}

-- a string that has its head, and is no longer than its part of the memory
pub record HasPart {Z : Type 0} (head size : ℕ) (string : Vec ℕ Z) : Type 0 where
  pub headed : head ≤ vec_len string
  pub short : vec_len string ≤ size
  pub reserved : size ≤ vec_capacity string

-- a string with another body
abbrev pub bodied : (head : ℕ) → (part body : List ℕ) → List ℕ
bodied head p b = take head p ++ b

-- a body that is too long counts as the empty one
abbrev pub fitted : (room : ℕ) → (body : List ℕ) → List ℕ
fitted room b = cond (nat_le (length b) room) b []

-- a string that is a Request for the call behind its head, if it could be made one
abbrev pub sealed_by : (could : Bool) → (session slot seq : ℕ) → (part : List ℕ) → List ℕ
sealed_by b s j q p = cond b (encode_msg (Request s j q (drop 30 p))) p
