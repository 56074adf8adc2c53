-- What a desk knows, and what it does at each message, at a call and at a tick; for every state, not only for those that can be come to.
-- Assumes nothing.
use Rattle.std.specs.Prelude.{ℕ, ◌+◌, ◌-◌, Bool, true, false, cond, not, ◌&&◌, ◌||◌, List, [], ◌∷◌, map, length, replicate, ◌==◌, nat_le, nat_lt, slice_index_or, slice_set}
use Rattle.promise.specs.Bytes.{Bytes}
use Rattle.promise.specs.Layout.{busy}
use Rattle.promise.specs.Desks.{Does, To, Tell}
use Rattle.codec.specs.Messages.{Msg, Hello, Welcome, Request, Response, Alive}
use Rattle.asking.specs.Lawful.{longest_call}
use Rattle.asking.specs.House.{next64, eight, is_session}

-- A place for a call. sent: under the present session; first, last: when it was first and last asked for, by the desk's clock.
pub data Slot : Type 0 where
  Idle : (seq : ℕ) → Slot
  Waiting : (seq number : ℕ) → (call : Bytes) → (sent : Bool) → (first last : ℕ) → Slot

-- session: 0 for none; answered: in this incarnation; spoke: when it last said anything; may_hold: may it have something in hand
pub record Desk : Type 0 where
  pub nonce : ℕ
  pub session : ℕ
  pub answered : Bool
  pub spoke : ℕ
  pub may_hold : Bool
  pub slots : List Slot

-- what it does, and what it knows then
pub record DeskTurn : Type 0 where
  pub does : List (Does Msg)
  pub desk : Desk

unfoldable pub desk_begins : (nonce clock : ℕ) → Desk
desk_begins c t = record { nonce = c; session = 0; answered = false; spoke = t; may_hold = false; slots = replicate eight (Idle 0) }

abbrev pub does_nothing : Desk → DeskTurn
does_nothing d = record { does = []; desk = d }

-- when it last said anything, if it says this now
unfoldable pub spoke_by : (clock old : ℕ) → List (Does Msg) → ℕ
spoke_by t old [] = old
spoke_by t old (x ∷ xs) = t

-- it says this, and has these slots then
abbrev pub speaks : (clock : ℕ) → List (Does Msg) → List Slot → Desk → DeskTurn
speaks t ds xs d = record { does = ds; desk = record { nonce = d.nonce; session = d.session; answered = d.answered; spoke = spoke_by t d.spoke ds; may_hold = d.may_hold; slots = xs } }

-- SLOTS

pub data Free : Type 0 where
  full : Free
  free : (slot seq : ℕ) → Free

-- the first idle slot, and the seq of its last call; the first of the list is slot j
unfoldable pub first_idle : (j : ℕ) → List Slot → Free
first_idle j [] = full
first_idle j (Idle q ∷ xs) = free j q
first_idle j (Waiting q k c s f l ∷ xs) = first_idle (j + 1) xs

unfoldable pub none_waits : List Slot → Bool
none_waits [] = true
none_waits (Idle q ∷ xs) = none_waits xs
none_waits (Waiting q k c s f l ∷ xs) = false

unfoldable pub say_if : Bool → Does Msg → List (Does Msg) → List (Does Msg)
say_if true x ds = x ∷ ds
say_if false x ds = ds

-- a Request for each call that waits and passes; the first of the list is slot j
unfoldable pub requests : (passes : (sent : Bool) → (last : ℕ) → Bool) → (session j : ℕ) → List Slot → List (Does Msg)
requests p s j [] = []
requests p s j (Idle q ∷ xs) = requests p s (j + 1) xs
requests p s j (Waiting q k c b f l ∷ xs) = say_if (p b l) (To 0 (Request s j q c)) (requests p s (j + 1) xs)

unfoldable pub sent_if : Bool → (clock : ℕ) → Slot → Slot
sent_if true t (Idle q) = Idle q
sent_if true t (Waiting q k c b f l) = Waiting q k c true f t
sent_if false t x = x

-- each that waits and passes was sent now
unfoldable pub sent_now : (passes : (sent : Bool) → (last : ℕ) → Bool) → (clock : ℕ) → Slot → Slot
sent_now p t (Idle q) = Idle q
sent_now p t (Waiting q k c b f l) = sent_if (p b l) t (Waiting q k c b f l)

-- nothing counts as sent
unfoldable pub unsent : Slot → Slot
unsent (Idle q) = Idle q
unsent (Waiting q k c b f l) = Waiting q k c false f l

-- nothing counts as sent, and all as last asked now
unfoldable pub unsent_now : (clock : ℕ) → Slot → Slot
unsent_now t (Idle q) = Idle q
unsent_now t (Waiting q k c b f l) = Waiting q k c false f t

abbrev pub not_sent : (sent : Bool) → (last : ℕ) → Bool
not_sent b l = not b

-- last asked the retransmission time ago or longer
abbrev pub is_due : (retry clock : ℕ) → (sent : Bool) → (last : ℕ) → Bool
is_due r t b l = nat_le r (t - l)

unfoldable pub any_due : (retry clock : ℕ) → List Slot → Bool
any_due r t [] = false
any_due r t (Idle q ∷ xs) = any_due r t xs
any_due r t (Waiting q k c b f l ∷ xs) = nat_le r (t - l) || any_due r t xs

-- A CALL. grabs: may a call put something into hand

-- bytes that are longer than any call are asked for as the empty call
abbrev pub shortened : Bytes → Bytes
shortened c = cond (nat_lt longest_call (length c)) [] c

-- with a session a Request; without one a Hello, if nothing else waits
unfoldable pub first_said : Desk → (slot seq : ℕ) → Bytes → (no_session alone : Bool) → List (Does Msg)
first_said d j q c false b = To 0 (Request d.session j q c) ∷ []
first_said d j q c true true = To 0 (Hello d.nonce) ∷ []
first_said d j q c true false = []

abbrev pub takes_call : (grabs : Bytes → Bool) → (clock k : ℕ) → Bytes → (slot seq : ℕ) → Desk → DeskTurn
takes_call grabs t k c j q d = record {
  does = first_said d j q c (d.session == 0) (none_waits d.slots);
  desk = record {
    nonce = d.nonce;
    session = d.session;
    answered = d.answered;
    spoke = spoke_by t d.spoke (first_said d j q c (d.session == 0) (none_waits d.slots));
    may_hold = d.may_hold || grabs c;
    slots = slice_set d.slots j (Waiting q k c (not (d.session == 0)) t t);
  };
}

unfoldable pub call_by : (grabs : Bytes → Bool) → (clock k : ℕ) → Bytes → Free → Desk → DeskTurn
call_by grabs t k c full d = record { does = Tell k busy ∷ []; desk = d }
call_by grabs t k c (free j q) d = takes_call grabs t k (shortened c) j (next64 q) d

abbrev pub desk_called : (grabs : Bytes → Bool) → (clock k : ℕ) → Bytes → Desk → DeskTurn
desk_called grabs t k c d = call_by grabs t k c (first_idle 0 d.slots) d

-- WELCOME

abbrev pub with_session : (s : ℕ) → List Slot → Desk → Desk
with_session s xs d = record { nonce = d.nonce; session = s; answered = d.answered; spoke = d.spoke; may_hold = d.may_hold; slots = xs }

-- another session than before: nothing counts as sent
unfoldable pub adopts_by : (s : ℕ) → (same : Bool) → Desk → Desk
adopts_by s true d = d
adopts_by s false d = with_session s (map unsent d.slots) d

-- a Request for all that waits and was not sent
abbrev pub sends_unsent : (clock : ℕ) → Desk → DeskTurn
sends_unsent t d = speaks t (requests not_sent d.session 0 d.slots) (map (sent_now not_sent t) d.slots) d

unfoldable pub welcome_by : (clock s : ℕ) → (mine : Bool) → Desk → DeskTurn
welcome_by t s true d = sends_unsent t (adopts_by s (s == d.session) d)
welcome_by t s false d = does_nothing d

abbrev pub welcome : (clock nonce s : ℕ) → Desk → DeskTurn
welcome t c s d = welcome_by t s (c == d.nonce && (not (s == 0) && not d.answered)) d

-- RESPONSE

abbrev pub tells_answer : (j q k : ℕ) → Bytes → Desk → DeskTurn
tells_answer j q k a d = record {
  does = Tell k a ∷ [];
  desk = record { nonce = d.nonce; session = d.session; answered = true; spoke = d.spoke; may_hold = d.may_hold; slots = slice_set d.slots j (Idle q) };
}

unfoldable pub seq_by : (j q k : ℕ) → Bytes → (same : Bool) → Desk → DeskTurn
seq_by j q k a true d = tells_answer j q k a d
seq_by j q k a false d = does_nothing d

unfoldable pub slot_by : (j q : ℕ) → Bytes → Slot → Desk → DeskTurn
slot_by j q a (Idle p) d = does_nothing d
slot_by j q a (Waiting p k c b f l) d = seq_by j q k a (p == q) d

unfoldable pub response_by : (j q : ℕ) → Bytes → (current : Bool) → Desk → DeskTurn
response_by j q a true d = slot_by j q a (slice_index_or d.slots j (Idle 0)) d
response_by j q a false d = does_nothing d

-- MESSAGES

unfoldable pub desk_hears : (clock : ℕ) → Msg → Desk → DeskTurn
desk_hears t (Hello c) d = does_nothing d
desk_hears t (Welcome c s) d = welcome t c s d
desk_hears t (Request s j q c) d = does_nothing d
desk_hears t (Response s j q g a) d = response_by j q a (is_session s d.session) d
desk_hears t (Alive s) d = does_nothing d

unfoldable pub desk_from_by : (clock : ℕ) → Msg → (house : Bool) → Desk → DeskTurn
desk_from_by t x true d = desk_hears t x d
desk_from_by t x false d = does_nothing d

-- what doesn't come from the house is noise
abbrev pub desk_from : (i clock : ℕ) → Msg → Desk → DeskTurn
desk_from i t x d = desk_from_by t x (i == 0) d

-- A TICK. retry: the retransmission time

unfoldable pub alive_by : (clock : ℕ) → (needed : Bool) → Desk → DeskTurn
alive_by t true d = speaks t (To 0 (Alive d.session) ∷ []) d.slots d
alive_by t false d = does_nothing d

-- a desk that says nothing else says that it is there, if it may have something in hand
abbrev pub alive : (clock : ℕ) → Desk → DeskTurn
alive t d = alive_by t (not (d.session == 0) && (d.may_hold && nat_le 20000 (t - d.spoke))) d

-- if it was answered, what is due is sent again; if not, one Hello says all
unfoldable pub tick_by : (retry clock : ℕ) → (due answered : Bool) → Desk → DeskTurn
tick_by r t false b d = alive t d
tick_by r t true true d = speaks t (requests (is_due r t) d.session 0 d.slots) (map (sent_now (is_due r t) t) d.slots) d
tick_by r t true false d = speaks t (To 0 (Hello d.nonce) ∷ []) (map (unsent_now t) d.slots) d

abbrev pub desk_tick : (retry clock : ℕ) → Desk → DeskTurn
desk_tick r t d = tick_by r t (any_due r t d.slots) d.answered d
