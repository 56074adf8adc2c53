-- No more messages than needed: of every state of house and desks, not only of those that can be come to; and over whole incarnations.
-- Assumes nothing.
use Rattle.std.specs.Prelude.{◌≡◌, ℕ, ◌+◌, ◌≤◌, Bool, false, List, [], ◌∷◌}
use Rattle.promise.specs.Bytes.{Bytes}
use Rattle.promise.specs.Sheets.{Call}
use Rattle.promise.specs.Machine.{Machine, sheets}
use Rattle.promise.specs.Desks.{From, Ask, Beat, Does, To, Tell, Lapse, Clocks}
use Rattle.codec.specs.Messages.{Msg, Hello, Welcome, Request, Response, Alive}
use Rattle.asking.specs.House.{House}
use Rattle.asking.specs.Desk.{Desk, desk_begins, is_due, welcome}
use Rattle.asking.specs.Code.{Settings, house_turn, desk_turn}

-- how many messages are sent
unfoldable pub sent_in : List (Does Msg) → ℕ
sent_in [] = 0
sent_in (To i x ∷ ds) = 1 + sent_in ds
sent_in (Tell k a ∷ ds) = sent_in ds
sent_in (Lapse i ∷ ds) = sent_in ds

-- while no message is later than 10,000 ms an answer is there before its call is due
abbrev pub AnsweredBeforeDue : (retry : ℕ) → Type 0
AnsweredBeforeDue r = (clock : ℕ → ℕ → ℕ) → Clocks clock → (i t u : ℕ) → t ≤ u → u ≤ t + 20000 → (sent : Bool) → is_due r (clock i u) sent (clock i t) ≡ false

-- a Welcome that comes twice sends nothing
abbrev pub SecondWelcomeSendsNothing : Type 0
SecondWelcomeSendsNothing = (t t' c s : ℕ) (d : Desk) → (welcome t' c s (welcome t c s d).desk).does ≡ []

-- the house sends at most one message for each that it hears
abbrev pub HouseSendsOne : Machine → Type 0
HouseSendsOne m = (i t : ℕ) (x : Msg) (h : House m) → sent_in (house_turn (From i x) t h).does ≤ 1

abbrev pub SheetsSendOne : Type 0
SheetsSendOne = (can : Call → Bool) (room : ℕ) → HouseSendsOne (sheets can room)

-- a desk sends at most one at a call, and none at an answer
abbrev pub CallSendsOne : Type 0
CallSendsOne = (z : Settings) (t k : ℕ) (c : Bytes) (d : Desk) → sent_in (desk_turn z (Ask k c) t d).does ≤ 1

abbrev pub AnswerSendsNone : Type 0
AnswerSendsNone = (z : Settings) (i t s j q g : ℕ) (a : Bytes) (d : Desk) → sent_in (desk_turn z (From i (Response s j q g a)) t d).does ≡ 0

-- OVER A WHOLE INCARNATION

-- a Welcome under a desk's nonce is to this session
abbrev pub OneSession : (nonce session : ℕ) → Msg → Type 0
OneSession n s (Hello c) = Unit {0}
OneSession n s (Welcome c k) = c ≡ n → k ≡ s
OneSession n s (Request k j q c) = Unit {0}
OneSession n s (Response k j q g a) = Unit {0}
OneSession n s (Alive k) = Unit {0}

-- The turns of a desk from its beginning on: how many calls were made, how many messages it sent, and what it knows then. It is welcomed to
-- one session, however often, and no tick has anything to send, as is so while no message is lost or late.
pub data Undisturbed (z : Settings) (session : ℕ) : (calls sent : ℕ) → Desk → Type 0 where
  begun : (nonce t : ℕ) → Undisturbed z session 0 0 (desk_begins nonce t)
  called : {calls sent : ℕ} {d : Desk} (t k : ℕ) (c : Bytes) → Undisturbed z session calls sent d →
      Undisturbed z session (calls + 1) (sent + sent_in (desk_turn z (Ask k c) t d).does) (desk_turn z (Ask k c) t d).desk
  heard : {calls sent : ℕ} {d : Desk} (i t : ℕ) (x : Msg) → OneSession d.nonce session x → Undisturbed z session calls sent d →
      Undisturbed z session calls (sent + sent_in (desk_turn z (From i x) t d).does) (desk_turn z (From i x) t d).desk
  ticked : {calls sent : ℕ} {d : Desk} (t : ℕ) → (desk_turn z Beat t d).does ≡ [] → Undisturbed z session calls sent d →
      Undisturbed z session calls sent (desk_turn z Beat t d).desk

-- then it sends one message for each call, and one more: and the house at most one for each of these
abbrev pub OneForEachCall : Type 0
OneForEachCall = (z : Settings) (session calls sent : ℕ) (d : Desk) → Undisturbed z session calls sent d → sent ≤ calls + 1
