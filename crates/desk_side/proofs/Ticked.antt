-- What a desk says after a beat of its clock.
use Rattle.std.proofs.Common.{◌≡◌, ℕ, Bool, true, false, List, map, refl, sym, ap, ◌∙◌, ap₂}
use Rattle.std.specs.Bool.{then_some}
use Rattle.promise.specs.Bytes.{Bytes}
use Rattle.codec.specs.Messages as c
use Rattle.asking.specs.Desk as m
use Rattle.desk_side.specs.declared.say.Say.TheVariants.{Alive}
use Rattle.desk_side.specs.declared.state.Asking.{Asking}
use Rattle.desk_side.specs.View.{desk_of}
use Rattle.desk_side.specs.Said.{says, said_if}
use Rattle.desk_side.specs.Steps.{started_over}

-- it says that it is there, if that is needed
pub alive_if : (t : ℕ) (v : Bool) (b : Bytes) (ps : List Bytes) (a : Asking) → said_if (then_some v Alive) t b ps a ≡ m.alive_by t v (desk_of ps a)
unfolding m.alive_by m.spoke_by
alive_if t true b ps a = refl
alive_if t false b ps a = refl

pub tick_alive : (r t : ℕ) (d : m.Desk) → m.any_due r t d.slots ≡ false → m.alive t d ≡ m.desk_tick r t d
unfolding m.tick_by
tick_alive r t d e = sym (ap (λ u. m.tick_by r t u d.answered d) e)

pub tick_ask : (r t : ℕ) (d : m.Desk) → m.any_due r t d.slots ≡ true → d.answered ≡ true → m.speaks t (m.requests (m.is_due r t) d.session 0 d.slots) (map (m.sent_now (m.is_due r t) t) d.slots) d ≡ m.desk_tick r t d
unfolding m.tick_by
tick_ask r t d e u = sym (ap₂ (λ x y. m.tick_by r t x y d) e u)

pub tick_hello : (r t : ℕ) (d e : m.Desk) → m.any_due r t d.slots ≡ true → d.answered ≡ false → e ≡ started_over t d → says t (c.Hello e.nonce) e ≡ m.desk_tick r t d
unfolding m.tick_by
tick_hello r t d e due u ee = ap (λ (x : m.Desk). says t (c.Hello x.nonce) x) ee ∙ sym (ap₂ (λ x y. m.tick_by r t x y d) due u)
