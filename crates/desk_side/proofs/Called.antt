-- What a desk says and knows after a call.
use Rattle.std.proofs.Common.{◌≡◌, ℕ, Bool, true, false, not, ◌||◌, eqb, List, [], ◌∷◌, ◌==◌, get_or, set, sym, refl, ap, ◌∙◌, ap₂}
use Rattle.std.specs.Bool.{then_some}
use Rattle.promise.specs.Bytes.{Bytes}
use Rattle.promise.specs.Layout.{busy}
use Rattle.promise.specs.Desks as p
use Rattle.codec.specs.Messages as c
use Rattle.asking.specs.House.{next64}
use Rattle.asking.specs.Desk as m
use Rattle.desk_side.specs.Calls.{grabs}
use Rattle.desk_side.specs.declared.slot.Place.{Place}
use Rattle.desk_side.specs.declared.say.Say.TheVariants.{Hello}
use Rattle.desk_side.specs.declared.state.Asking.{Asking}
use Rattle.desk_side.specs.Slots.{call_in}
use Rattle.desk_side.specs.View.{desk_of}
use Rattle.desk_side.specs.Said.{says, tells, said_if, says_first}

-- THE FIRST MESSAGE

first_by : (t j q : ℕ) (x : Bytes) (alone v w : Bool) (d : m.Desk) → eqb d.session 0 ≡ v → alone ≡ w →
    m.speaks t (m.first_said d j q x v w) d.slots d ≡ m.speaks t (m.first_said d j q x (eqb d.session 0) alone) d.slots d
first_by t j q x alone v w d ev ew = sym (ap₂ (λ (a b : Bool). m.speaks t (m.first_said d j q x a b) d.slots d) ev ew)

pub first_request : (t j q : ℕ) (x : Bytes) (alone : Bool) (d : m.Desk) → eqb d.session 0 ≡ false →
    says t (c.Request d.session j q x) d ≡ m.speaks t (m.first_said d j q x (eqb d.session 0) alone) d.slots d
unfolding m.first_said
first_request t j q x alone d e = first_by t j q x alone false alone d e refl

-- without a session a Hello, if nothing else waits
pub first_alone : (t : ℕ) (x : Place) (alone : Bool) (b : Bytes) (ps : List Bytes) (a : Asking) → ((desk_of ps a).session == 0) ≡ true → said_if (then_some alone Hello) t b ps a ≡ says_first t x alone ps a
unfolding m.first_said m.spoke_by
first_alone t x alone b ps a e = by_alone alone ∙ first_by t x.slot.0 x.seq.0 _ alone true alone (desk_of ps a) e refl
  where
    by_alone : (v : Bool) → said_if (then_some v Hello) t b ps a ≡ m.speaks t (m.first_said (desk_of ps a) x.slot.0 x.seq.0 (call_in (get_or ps x.slot.0 [])) true v) (desk_of ps a).slots (desk_of ps a)
    by_alone true = refl
    by_alone false = refl

-- A CALL IN ITS SLOT

first_same : (d e : m.Desk) (j q : ℕ) (x : Bytes) (v w : Bool) → d.session ≡ e.session → d.nonce ≡ e.nonce → m.first_said d j q x v w ≡ m.first_said e j q x v w
unfolding m.first_said
first_same d e j q x false w es en = ap (λ (s : ℕ). p.To 0 (c.Request s j q x) ∷ []) es
first_same d e j q x true true es en = ap (λ (n : ℕ). p.To 0 (c.Hello n) ∷ []) en
first_same d e j q x true false es en = refl

-- its first message, out of what the desk knows then
pub taken_said : (t k : ℕ) (x here : Bytes) (j q : ℕ) (g alone : Bool) (d : m.Desk) (ss : List m.Slot) → here ≡ x → alone ≡ m.none_waits d.slots → g ≡ d.may_hold || grabs x →
    ss ≡ set d.slots j (m.Waiting q k x (not (eqb d.session 0)) t t) →
    m.speaks t (m.first_said (record d { may_hold = g; slots = ss }) j q here (eqb d.session 0) alone) ss (record d { may_hold = g; slots = ss }) ≡ m.takes_call grabs t k x j q d
taken_said t k x here j q g alone d ss eh ea eg es =
    let said : m.first_said (record d { may_hold = g; slots = ss }) j q here (eqb d.session 0) alone ≡ m.first_said d j q x (eqb d.session 0) (m.none_waits d.slots) =
    first_same (record d { may_hold = g; slots = ss }) d j q here (eqb d.session 0) alone refl refl ∙ ap₂ (λ (y : Bytes) (v : Bool). m.first_said d j q y (eqb d.session 0) v) eh ea in
    λ z. record {
      does = said z;
      desk = record { nonce = d.nonce; session = d.session; answered = d.answered; spoke = m.spoke_by t d.spoke (said z); may_hold = eg z; slots = es z };
    }

-- A CALL

pub call_free : (t k : ℕ) (x : Bytes) (j q r : ℕ) (d : m.Desk) → m.first_idle 0 d.slots ≡ m.free j q → r ≡ next64 q → m.takes_call grabs t k (m.shortened x) j r d ≡ m.desk_called grabs t k x d
unfolding m.call_by
call_free t k x j q r d e er = ap (λ (n : ℕ). m.takes_call grabs t k (m.shortened x) j n d) er ∙ sym (ap (λ (f : m.Free). m.call_by grabs t k x f d) e)

pub call_full : (t k : ℕ) (x : Bytes) (d : m.Desk) → m.first_idle 0 d.slots ≡ m.full → tells k busy d ≡ m.desk_called grabs t k x d
unfolding m.call_by
call_full t k x d e = sym (ap (λ (f : m.Free). m.call_by grabs t k x f d) e)
