-- No more messages than needed.
use Rattle.std.proofs.Common.{◌≡◌, ℕ, ◌+◌, ◌-◌, ◌<◌, ◌≤◌, Bool, true, false, not, ◌&&◌, eqb, List, [], ◌∷◌, map, get_or, sym, refl, ap, ◌∙◌, arith}
use Rattle.std.proofs.lemmas.Bool.{lt-leb, eq-eqb}
use Rattle.promise.specs.Bytes.{Bytes}
use Rattle.promise.specs.Machine.{Machine}
use Rattle.codec.specs.Messages.{Msg, Hello, Welcome, Request, Response, Alive}
use Rattle.asking.specs.House.{House, hello_by, new_change_by, change_by, serve_by, current_by, request_by, takes_up, house_hears, house_from_by, hearing}
use Rattle.asking.specs.Desk.{Slot, Idle, Waiting, Desk, Free, full, free, first_idle, say_if, requests, sent_if, sent_now, not_sent, first_said, call_by, shortened, adopts_by, sends_unsent, welcome_by, welcome, seq_by, slot_by, response_by, desk_hears, desk_from_by}
use Rattle.asking.specs.Code.{house_turn, desk_turn}
use Rattle.asking.proofs.AtDesk.{adopts_session}
use Rattle.asking.specs.Sparing.{sent_in, AnsweredBeforeDue, SecondWelcomeSendsNothing, HouseSendsOne, CallSendsOne, AnswerSendsNone}

-- a round trip of 20,000 ms is at most 20,201 ms of a desk's clock
pub answered_before_due : (r : ℕ) → 20201 < r → AnsweredBeforeDue r
answered_before_due r l clock clocks i t u tu ut sent = let a = clocks.slow i t u tu in lt-leb r (clock i u - clock i t) (omega arith)

-- A SECOND WELCOME

one_left : (t s j q k : ℕ) (c : Bytes) (b : Bool) (f l : ℕ) (ys : List Slot) → requests not_sent s (j + 1) ys ≡ [] → requests not_sent s j (sent_if (not b) t (Waiting q k c b f l) ∷ ys) ≡ []
unfolding requests sent_if say_if
one_left t s j q k c true f l ys e = e
one_left t s j q k c false f l ys e = e

-- after all that was not sent is sent, nothing is left
none_left : (t s j : ℕ) (xs : List Slot) → requests not_sent s j (map (sent_now not_sent t) xs) ≡ []
unfolding requests sent_now
none_left t s j [] = refl
none_left t s j (Idle q ∷ xs) = none_left t s (j + 1) xs
none_left t s j (Waiting q k c b f l ∷ xs) = one_left t s j q k c b f l (map (sent_now not_sent t) xs) (none_left t s (j + 1) xs)

again : (t t' s : ℕ) (d : Desk) → d.session ≡ s → (b c : Bool) → eqb s (sends_unsent t d).desk.session ≡ b → (welcome_by t' s c (sends_unsent t d).desk).does ≡ []
unfolding welcome_by adopts_by
again t t' s d e b false p = refl
again t t' s d e b true p = ap (λ x. (sends_unsent t' (adopts_by s x (sends_unsent t d).desk)).does) (eq-eqb s d.session (sym e)) ∙ none_left t d.session 0 d.slots

pub second_welcome : SecondWelcomeSendsNothing
unfolding welcome_by
second_welcome t t' c s d = go (eqb c d.nonce && (not (eqb s 0) && not d.answered)) refl
  where
    d1 : Desk
    d1 = adopts_by s (eqb s d.session) d

    go : (b : Bool) → (eqb c d.nonce && (not (eqb s 0) && not d.answered)) ≡ b → (welcome t' c s (welcome_by t s b d).desk).does ≡ []
    go true e = again t t' s d1 (adopts_session s (eqb s d.session) d refl) (eqb s d1.session) (eqb c d1.nonce && (not (eqb s 0) && not d1.answered)) refl
    go false e = ap (λ x. (welcome_by t' s x d).does) e

-- THE HOUSE

module _ {mc : Machine} where
  n_hello : (i c : ℕ) (a b : Bool) (h : House mc) → sent_in (hello_by i c a b h).does ≤ 1
  unfolding hello_by sent_in
  n_hello i c true b h = omega arith
  n_hello i c false true h = omega arith
  n_hello i c false false h = omega arith

  n_change : (i s j q : ℕ) (c : Bytes) (a b : Bool) (h : House mc) → sent_in (change_by i s j q c a b h).does ≤ 1
  unfolding change_by new_change_by sent_in
  n_change i s j q c true b h = omega arith
  n_change i s j q c false true h = omega arith
  n_change i s j q c false false h = omega arith

  n_serve : (i s j q : ℕ) (c : Bytes) (b : Bool) (h : House mc) → sent_in (serve_by i s j q c b h).does ≤ 1
  unfolding serve_by sent_in
  n_serve i s j q c true h = omega arith
  n_serve i s j q c false h = n_change i s j q c _ _ h

  n_current : (i s j q : ℕ) (c : Bytes) (b : Bool) (h : House mc) → sent_in (current_by i s j q c b h).does ≤ 1
  unfolding current_by sent_in
  n_current i s j q c true h = n_serve i s j q c (mc.reads c) h
  n_current i s j q c false h = omega arith

  n_request : (i s j q : ℕ) (c : Bytes) (b : Bool) (h : House mc) → sent_in (request_by i s j q c b h).does ≤ 1
  unfolding request_by sent_in
  n_request i s j q c true h = n_current i s j q c _ (takes_up i s h)
  n_request i s j q c false h = omega arith

  n_hears : (i : ℕ) (x : Msg) (h : House mc) → sent_in (house_hears i x h).does ≤ 1
  unfolding house_hears sent_in
  n_hears i (Hello c) h = n_hello i c _ _ h
  n_hears i (Welcome c s) h = omega arith
  n_hears i (Request s j q c) h = n_request i s j q c _ h
  n_hears i (Response s j q g a) h = omega arith
  n_hears i (Alive s) h = omega arith

  n_from : (i t : ℕ) (x : Msg) (b : Bool) (h : House mc) → sent_in (house_from_by i x t b h).does ≤ 1
  unfolding house_from_by sent_in
  n_from i t x true h = n_hears i x (hearing i t h)
  n_from i t x false h = omega arith

pub house_sends_one : (mc : Machine) → HouseSendsOne mc
unfolding house_turn
house_sends_one mc i t x h = n_from i t x _ h

-- A DESK

n_first : (d : Desk) (j q : ℕ) (c : Bytes) (a b : Bool) → sent_in (first_said d j q c a b) ≤ 1
unfolding first_said sent_in
n_first d j q c false b = omega arith
n_first d j q c true true = omega arith
n_first d j q c true false = omega arith

n_call : (grabs : Bytes → Bool) (t k : ℕ) (c : Bytes) (y : Free) (d : Desk) → sent_in (call_by grabs t k c y d).does ≤ 1
unfolding call_by sent_in
n_call grabs t k c full d = omega arith
n_call grabs t k c (free j q) d = n_first d j _ (shortened c) _ _

pub call_sends_one : CallSendsOne
unfolding desk_turn
call_sends_one z t k c d = n_call z.grabs t k c (first_idle 0 d.slots) d

n_seq : (j q k : ℕ) (a : Bytes) (b : Bool) (d : Desk) → sent_in (seq_by j q k a b d).does ≡ 0
unfolding seq_by sent_in
n_seq j q k a true d = refl
n_seq j q k a false d = refl

n_slot : (j q : ℕ) (a : Bytes) (y : Slot) (d : Desk) → sent_in (slot_by j q a y d).does ≡ 0
unfolding slot_by sent_in
n_slot j q a (Idle p) d = refl
n_slot j q a (Waiting p k c b f l) d = n_seq j q k a (eqb p q) d

n_response : (j q : ℕ) (a : Bytes) (b : Bool) (d : Desk) → sent_in (response_by j q a b d).does ≡ 0
unfolding response_by sent_in
n_response j q a true d = n_slot j q a (get_or d.slots j (Idle 0)) d
n_response j q a false d = refl

n_answer : (t s j q g : ℕ) (a : Bytes) (b : Bool) (d : Desk) → sent_in (desk_from_by t (Response s j q g a) b d).does ≡ 0
unfolding desk_from_by desk_hears sent_in
n_answer t s j q g a true d = n_response j q a _ d
n_answer t s j q g a false d = refl

pub answer_sends_none : AnswerSendsNone
unfolding desk_turn
answer_sends_none z i t s j q g a d = n_answer t s j q g a _ d
