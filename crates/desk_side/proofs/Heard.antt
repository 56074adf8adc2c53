-- What a desk says and knows after a Welcome and a Response.
use Rattle.std.proofs.Common.{◌≡◌, ◌≢◌, ℕ, Bool, true, false, eqb, ◌==◌, List, [], map, get_or, Some, None, Option, sym, refl, ap, ◌∙◌, arith}
use Rattle.std.specs.Bool.{then_some}
use Rattle.std.specs.Option.{ForSome, option_eq}
use Rattle.std.proofs.lemmas.Bool.Decides.{nat_tests}
use Rattle.promise.specs.Bytes.{Bytes}
use Rattle.codec.specs.Messages as c
use Rattle.ids.specs.declared.Seq.{Seq}
use Rattle.ids.specs.declared.Session.{Session}
use Rattle.ids.specs.declared.CallNumber.{CallNumber}
use Rattle.asking.specs.House.{is_session}
use Rattle.asking.specs.Desk as m
use Rattle.desk_side.specs.declared.slot.Slot.{Slot}
use Rattle.desk_side.specs.declared.slot.Waiting.{Waiting}
use Rattle.desk_side.specs.Slots.{blank, slot_with, slots_of}
use Rattle.desk_side.specs.Sessions.{session_of}
use Rattle.desk_side.specs.Steps.{waits_if, waits}
use Rattle.desk_side.specs.Said.{heard}
use Rattle.desk_side.proofs.Agree.{slot_at}

-- WELCOME

eq_sym : (a b : ℕ) → (a == b) ≡ (b == a)
eq_sym a b = grind (arith, nat_tests)

eq_not : (a b : ℕ) → a ≢ b → (a == b) ≡ false
eq_not a b h = grind (arith, nat_tests)

-- two that are given out, or none, are compared by the numbers that messages have for them
pub same_number : (o r : Option Session) → ForSome o (λ s. s.0 ≢ 0) → ForSome r (λ s. s.0 ≢ 0) → (n : ℕ) → session_of r ≡ n → option_eq (λ (a b : Session). a.0 == b.0) o r ≡ (n == session_of o)
same_number None None h k n e = ap (λ (x : ℕ). x == 0) e
same_number None (Some r) h k n e = sym (eq_not n 0 (λ z. k r refl (e ∙ z)))
same_number (Some s) None h k n e = sym (eq_not n s.0 (λ z. h s refl (sym z ∙ sym e)))
same_number (Some s) (Some r) h k n e = eq_sym s.0 r.0 ∙ ap (λ (x : ℕ). x == s.0) e

pub adopts_same : (s : ℕ) (v : Bool) (d : m.Desk) → v ≡ true → m.adopts_by s v d ≡ d
unfolding m.adopts_by
adopts_same s v d e = ap (λ u. m.adopts_by s u d) e

pub adopts_other : (s : ℕ) (v : Bool) (d : m.Desk) → v ≡ false → m.adopts_by s v d ≡ m.with_session s (map m.unsent d.slots) d
unfolding m.adopts_by
adopts_other s v d e = ap (λ u. m.adopts_by s u d) e

pub welcome_mine : (t s : ℕ) (v : Bool) (d e : m.Desk) → v ≡ true → e ≡ m.adopts_by s (eqb s d.session) d → m.sends_unsent t e ≡ m.welcome_by t s v d
unfolding m.welcome_by
welcome_mine t s v d e ev ee = ap (m.sends_unsent t) ee ∙ sym (ap (λ u. m.welcome_by t s u d) ev)

pub welcome_other : (t s : ℕ) (v : Bool) (d : m.Desk) → v ≡ false → m.does_nothing d ≡ m.welcome_by t s v d
unfolding m.welcome_by
welcome_other t s v d e = sym (ap (λ u. m.welcome_by t s u d) e)

-- RESPONSE

pub response_other : (j q : ℕ) (x : Bytes) (v : Bool) (d : m.Desk) → v ≡ false → m.does_nothing d ≡ m.response_by j q x v d
unfolding m.response_by
response_other j q x v d e = sym (ap (λ u. m.response_by j q x u d) e)

-- what the number of the call that is answered leaves, if there is one
abbrev pub answered_by : Option CallNumber → (j q : ℕ) → Bytes → m.Desk → m.DeskTurn
answered_by None j q x d = m.does_nothing d
answered_by (Some k) j q x d = m.tells_answer j q k.0 x d

seq_answered : (v : Bool) (k : CallNumber) (j q : ℕ) (x : Bytes) (d : m.Desk) → m.seq_by j q k.0 x v d ≡ answered_by (then_some v k) j q x d
unfolding m.seq_by
seq_answered true k j q x d = refl
seq_answered false k j q x d = refl

slot_answered : (r : Seq) (o : Option Waiting) (j q : ℕ) (x b : Bytes) (d : m.Desk) → m.slot_by j q x (slot_with r b o) d ≡ answered_by (waits_if (eqb r.0 q) o) j q x d
unfolding m.slot_by
slot_answered r None j q x b d = refl
slot_answered r (Some w) j q x b d = seq_answered (eqb r.0 q) w.number j q x d

pub response_answered : (j : ℕ) (q : Seq) (x : Bytes) (v : Bool) (xs : List Slot) (ps : List Bytes) (d : m.Desk) (o : Option CallNumber) → d.slots ≡ slots_of xs ps → v ≡ true → waits j q xs ≡ o →
    answered_by o j q.0 x d ≡ m.response_by j q.0 x v d
unfolding m.response_by
response_answered j q x v xs ps d o es e eo =
    sym (ap (λ u. m.response_by j q.0 x u d) e
    ∙ ap (λ (ss : List m.Slot). m.slot_by j q.0 x (get_or ss j (m.Idle 0)) d) es
    ∙ ap (λ (y : m.Slot). m.slot_by j q.0 x y d) (slot_at xs ps j)
    ∙ slot_answered (get_or xs j blank).seq (get_or xs j blank).waiting j q.0 x (get_or ps j []) d
    ∙ ap (λ (y : Option CallNumber). answered_by y j q.0 x d) eo)

-- BY MESSAGE

pub hears_as : (t : ℕ) (o : Option c.Msg) (x : c.Msg) (d : m.Desk) (y : m.DeskTurn) → o ≡ Some x → y ≡ m.desk_hears t x d → y ≡ heard t o d
hears_as t o x d y e h = h ∙ sym (ap (λ (z : Option c.Msg). heard t z d) e)

pub hello_still : (t n : ℕ) (d : m.Desk) → m.does_nothing d ≡ m.desk_hears t (c.Hello n) d
unfolding m.desk_hears
hello_still t n d = refl

pub alive_still : (t s : ℕ) (d : m.Desk) → m.does_nothing d ≡ m.desk_hears t (c.Alive s) d
unfolding m.desk_hears
alive_still t s d = refl

pub request_still : (t s j q : ℕ) (x : Bytes) (d : m.Desk) → m.does_nothing d ≡ m.desk_hears t (c.Request s j q x) d
unfolding m.desk_hears
request_still t s j q x d = refl

pub hears_welcome : (t n s : ℕ) (d : m.Desk) → m.welcome t n s d ≡ m.desk_hears t (c.Welcome n s) d
unfolding m.desk_hears
hears_welcome t n s d = refl

pub hears_response : (t s j q g : ℕ) (x y : Bytes) (d : m.Desk) → x ≡ y → m.response_by j q x (is_session s d.session) d ≡ m.desk_hears t (c.Response s j q g y) d
unfolding m.desk_hears
hears_response t s j q g x y d e = ap (λ (z : Bytes). m.response_by j q z (is_session s d.session) d) e
