-- What is promised of the whole, and of the table alone. Each is a type; a proof of the type is the theorem.
-- Assumes nothing.
use Rattle.std.specs.Prelude.{◌≡◌, ℕ, ◌≤◌, Bool, true, not, ◌&&◌, ◌||◌, T, List, [], ◌∷◌, length, ◌==◌, ◌≢◌, nat_eq, nat_le, nat_lt}
use mathlib.Core.List.{Memᴰ}
use Rattle.promise.specs.Bytes.{Bytes, every}
use Rattle.promise.specs.Sheets.{Name, Sheet, Hold, State, blank, keep, find, less, same, is_sheet, Expect, Call, Read, Put, Take, No, Yes, Got, Edition, does, leaves, core, any_call, bytes_ok, name_ok, weight, first_of, drop_of, in_others_hand}
use Rattle.promise.specs.Layout.{encode_call, encode_reply}
use Rattle.promise.specs.Machine.{Machine, Sure, sheets}
use Rattle.promise.specs.Desks.{Code, OneTable, BusyAtNine, TwoMinutes, LapsesRightly, NotUntilMonday, SeenByMonday, SpeaksWhileHolding, PassesNoise}

-- THE MAIN PROMISE. For one house and up to 63 desks, whatever letters are lost, late, doubled or out of order, whatever noise comes,
-- whichever desks fall and forget, however often the house is dark, however clocks run within their error: what is seen at all desks is
-- what desks around one table see; two minutes are enough for any desk, with all others silent; and nobody holds until Monday.
abbrev pub Whole : {M : Type 0} → Machine → Code M → Type 0
Whole {M} m h = OneTable m h × BusyAtNine h × TwoMinutes h × LapsesRightly h × NotUntilMonday m h × PassesNoise h

-- of the table of sheets over bytes, with the core calls; room: what all sheets together may weigh
abbrev pub CoreWhole : (room : ℕ) → Code Bytes → Type 0
CoreWhole room h = Whole (sheets core room) h

-- with all calls, and what is promised of hands
abbrev pub AllWhole : (room : ℕ) → Code Bytes → Type 0
AllWhole room h = Whole (sheets any_call room) h × SeenByMonday (sheets any_call room) h × SpeaksWhileHolding (sheets any_call room) h

-- OF THE TABLE ALONE

pub data Run (room : ℕ) : State → Type 0 where
  laid : Run room blank
  onward : {s : State} (i : ℕ) (c : Call) → Run room s → Run room (does room i c s).state
  emptied : {s : State} (i : ℕ) → Run room s → Run room (leaves i s)

-- 1. Sheets stand by their names, each once; holds agree: where one holds alone nobody else holds; all is in range and fits the room.
unfoldable pub rising : List Sheet → Bool
rising [] = true
rising (x ∷ []) = true
rising (x ∷ y ∷ ys) = less x.name y.name && rising (y ∷ ys)

unfoldable pub agree : List Hold → Bool
agree [] = true
agree (h ∷ hs) = every (λ (k : Hold). not (same h.name k.name) || (not (h.desk == k.desk) && not h.alone && not k.alone)) hs && agree hs

abbrev pub Tidy : Type 0
Tidy = (room : ℕ) (s : State) → Run room s → T (rising s.sheets) × T (agree s.holds) × T (every (λ (x : Sheet). name_ok x.name && bytes_ok x.bytes && nat_lt 0 x.edition) s.sheets) × (weight s.sheets ≤ room)

-- 2. Who holds a sheet finds it as it was, whatever others do; who holds it alone is the only one who reads it.
abbrev pub HeldStays : Type 0
HeldStays =
    (room : ℕ) (s : State) → Run room s → (i j : ℕ) (c : Call) (h : Hold) → Memᴰ h s.holds → h.desk ≡ i → (i ≢ j) →
    (find (is_sheet h.name) (does room j c s).state.sheets ≡ find (is_sheet h.name) s.sheets) × Memᴰ h (does room j c s).state.holds ×
    (h.alone ≡ true → (f m : ℕ) → T (name_ok h.name) → T (nat_le m 1048576) → (does room j (Read h.name f m) s).reply ≡ No in_others_hand)

-- 3. An edition tells all: reading gives what was put.
abbrev pub PutThenRead : Type 0
PutThenRead =
    (room : ℕ) (s : State) → Run room s → (i f m e : ℕ) (n : Name) (bs : Bytes) (x : Expect) → m ≤ 1048576 → (does room i (Put n bs x) s).reply ≡ Edition e → (does room i (Read n f m) (does room i (Put n bs x) s).state).reply ≡ Got e (length bs) (first_of m (drop_of f bs))

-- 4. When hands are emptied nothing but what they held is free.
abbrev pub OnlyHands : Type 0
OnlyHands = (s : State) (i : ℕ) → ((leaves i s).sheets ≡ s.sheets) × (keep (λ (h : Hold). nat_eq i h.desk) (leaves i s).holds ≡ []) × ((h : Hold) → Memᴰ h s.holds → (h.desk ≢ i) → Memᴰ h (leaves i s).holds)

-- 5. What is turned away leaves sheets, hands and the count of changes as they were.
abbrev pub TurnedAwayLeaves : Type 0
TurnedAwayLeaves = (room i k : ℕ) (c : Call) (s : State) → (does room i c s).reply ≡ No k → (does room i c s).state ≡ s

-- 6. Taking a name alone is surely told yes while no other desk has anything in hand and the desk itself fewer than 64 things.
abbrev pub TakesAlone : Type 0
TakesAlone = (room i : ℕ) (n : Name) → T (name_ok n) → Sure (sheets any_call room) i (encode_call (Take n true)) (encode_reply Yes)
