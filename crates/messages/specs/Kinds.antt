-- The kinds of messages and their numbers.
-- Assumes nothing.
use Rattle.std.specs.Prelude.{◌≡◌, ℕ, None, Result, MatchResult}
use Rattle.promise.specs.Bytes.{Bytes}
use Rattle.codec.specs.Messages.{kind_in}
use Rattle.messages.specs.declared.kind.Kind.{Kind}
use Rattle.messages.specs.declared.kind.Kind.TheVariants as k
use Rattle.codec.specs.declared.UnknownKind.{UnknownKind}

-- the number that stands in a message of this kind
abbrev pub kind_number : Kind → ℕ
kind_number k.Hello = 1
kind_number k.Welcome = 2
kind_number k.Request = 3
kind_number k.Response = 4
kind_number k.Alive = 5

-- the kind with this number; if there is none, no bytes are a message of it
abbrev pub IsKind : ℕ → Result Kind UnknownKind → Type 0
IsKind n r = MatchResult r (λ x. kind_number x ≡ n) (λ _. (b : Bytes) → kind_in n b ≡ None)
