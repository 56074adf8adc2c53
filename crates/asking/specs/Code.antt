-- House and desks as one code: over messages, and over bytes.
-- Assumes nothing.
use Rattle.std.specs.Prelude.{◌≡◌, ℕ, ◌≤◌, Bool, true, false, cond, List, [], map, Some, None, Option, ◌==◌}
use Rattle.promise.specs.Bytes.{Bytes}
use Rattle.promise.specs.Sheets.{Name, Expect, Call, Put, Patch}
use Rattle.promise.specs.Machine.{Machine, sheets}
use Rattle.promise.specs.Desks.{Comes, From, Ask, Beat, Does, To, Tell, Lapse, Code}
use Rattle.promise.specs.Promise.{Whole}
use Rattle.codec.specs.Messages.{Msg, encode_msg, decode_msg}
use Rattle.asking.specs.House.{House, HouseTurn, house_begins, house_goes_on, house_from, house_tick, nothing}
use Rattle.asking.specs.Desk.{Desk, DeskTurn, desk_begins, desk_from, desk_called, desk_tick}

-- retry: the retransmission time; grabs: may a call put something into hand
pub record Settings : Type 0 where
  pub retry : ℕ
  pub grabs : Bytes → Bool

unfoldable pub house_turn : {m : Machine} → Comes Msg → (clock : ℕ) → House m → HouseTurn m
house_turn (From i x) t h = house_from i x t h
house_turn (Ask k c) t h = nothing h
house_turn Beat t h = house_tick t h

unfoldable pub desk_turn : Settings → Comes Msg → (clock : ℕ) → Desk → DeskTurn
desk_turn z (From i x) t d = desk_from i t x d
desk_turn z (Ask k c) t d = desk_called z.grabs t k c d
desk_turn z Beat t d = desk_tick z.retry t d

-- OVER MESSAGES

pub data Mind (m : Machine) : Type 0 where
  house : House m → Mind m
  desk : Desk → Mind m

abbrev pub Turn : Machine → Type 0
Turn m = record { does : List (Does Msg); mind : Mind m }

abbrev pub of_house : {m : Machine} → HouseTurn m → Turn m
of_house x = record { does = x.does; mind = house x.house }

abbrev pub of_desk : {m : Machine} → DeskTurn → Turn m
of_desk x = record { does = x.does; mind = desk x.desk }

unfoldable pub mind_turn : {m : Machine} → Settings → Comes Msg → (clock : ℕ) → Mind m → Turn m
mind_turn z x t (house h) = of_house (house_turn x t h)
mind_turn z x t (desk d) = of_desk (desk_turn z x t d)

unfoldable pub mind_begins : (m : Machine) → (me nonce clock : ℕ) → Mind m
mind_begins m me c t = cond (me == 0) (house (house_begins m t)) (desk (desk_begins c t))

unfoldable pub mind_goes_on : {m : Machine} → (clock : ℕ) → Mind m → Mind m
mind_goes_on t (house h) = house (house_goes_on t h)
mind_goes_on t (desk d) = desk d

abbrev pub asking : (m : Machine) → Settings → Code Msg
asking m z = record {
  Mind = Mind m;
  begins = λ me all c t. mind_begins m me c t;
  goes_on = λ t x. mind_goes_on t x;
  turns = λ x t y. mind_turn z x t y;
  noise = λ x. false;
}

-- OVER BYTES: what comes is decoded, what is said encoded; what doesn't decode is noise, and changes nothing

unfoldable pub is_none : Option Msg → Bool
is_none None = true
is_none (Some x) = false

abbrev pub saying : Does Msg → Does Bytes
saying (To i x) = To i (encode_msg x)
saying (Tell k a) = Tell k a
saying (Lapse i) = Lapse i

abbrev pub ByteTurn : Machine → Type 0
ByteTurn m = record { does : List (Does Bytes); mind : Mind m }

abbrev pub written : {m : Machine} → Turn m → ByteTurn m
written x = record { does = map saying x.does; mind = x.mind }

unfoldable pub decoded_turn : {m : Machine} → Settings → (i : ℕ) → Option Msg → (clock : ℕ) → Mind m → ByteTurn m
decoded_turn z i None t y = record { does = []; mind = y }
decoded_turn z i (Some x) t y = written (mind_turn z (From i x) t y)

unfoldable pub byte_turn : {m : Machine} → Settings → Comes Bytes → (clock : ℕ) → Mind m → ByteTurn m
byte_turn z (From i b) t y = decoded_turn z i (decode_msg b) t y
byte_turn z (Ask k c) t y = written (mind_turn z (Ask k c) t y)
byte_turn z Beat t y = written (mind_turn z Beat t y)

abbrev pub asking_bytes : (m : Machine) → Settings → Code Bytes
asking_bytes m z = record {
  Mind = Mind m;
  begins = λ me all c t. mind_begins m me c t;
  goes_on = λ t x. mind_goes_on t x;
  turns = λ x t y. byte_turn z x t y;
  noise = λ b. is_none (decode_msg b);
}

-- THE THEOREM

-- Over bytes the promise is kept of this machine with every retransmission time up to the longest. It is proved of every lawful machine; a
-- contract can speak of one family only.
abbrev pub KeepsPromise : (longest : ℕ) → (m : Machine) → Type 0
KeepsPromise r m = (z : Settings) → z.retry ≤ r → Whole m (asking_bytes m z)

-- for the table of sheets, however much there is room for, and whichever calls are built, puts and patches among them
abbrev pub SheetsKeepPromise : (longest : ℕ) → Type 0
SheetsKeepPromise r = (can : Call → Bool) (room : ℕ) → ((n : Name) (bs : Bytes) (e : Expect) → can (Put n bs e) ≡ true) → ((n : Name) (at : ℕ) (bs : Bytes) (e : Expect) → can (Patch n at bs e) ≡ true) → KeepsPromise r (sheets can room)
