-- A whole turn.
use Rattle.std.proofs.Common.{◌≡◌, ℕ, Bool, true, false, eqb, map, Some, None, Option, sym, refl, ap, ◌∙◌, eqb-true}
use Rattle.codec.specs.Messages.{Msg, decode_msg}
use Rattle.promise.specs.Bytes.{Bytes}
use Rattle.promise.specs.Machine.{Machine, sheets}
use Rattle.promise.specs.Desks as p
use Rattle.asking.specs.Code.{Settings, desk, saying, byte_turn, decoded_turn, mind_turn, desk_turn}
use Rattle.asking.specs.Desk as m
use Rattle.desk_side.specs.declared.desk.Desk.{Desk}
use Rattle.desk_side.specs.Desks.{desk_in, outs_in, Did}
use Rattle.desk_side.specs.Said.{heard}
use Rattle.desk_side.specs.Turns.{decoded, turn_of, AsModel}

pub from_house : (i t : ℕ) (o : Option Msg) (d : m.Desk) → i ≡ 0 → heard t o d ≡ decoded i t o d
unfolding m.desk_from_by
from_house i t None d e = refl
from_house i t (Some x) d e = sym (ap (λ (k : ℕ). m.desk_from_by t x (eqb k 0) d) e)

from_by : (i t : ℕ) (x : Msg) (d : m.Desk) (v : Bool) → eqb i 0 ≡ v → (i ≡ 0 → ⊥) → m.does_nothing d ≡ m.desk_from_by t x v d
unfolding m.desk_from_by
from_by i t x d true e n = absurd (n (eqb-true i 0 e))
from_by i t x d false e n = refl

pub from_other : (i t : ℕ) (o : Option Msg) (d : m.Desk) → (i ≡ 0 → ⊥) → m.does_nothing d ≡ decoded i t o d
from_other i t None d n = refl
from_other i t (Some x) d n = from_by i t x d (eqb i 0) refl n

decoded_bytes : (k : Machine) (z : Settings) (i t : ℕ) (o : Option Msg) (d : m.Desk) → decoded_turn {m = k} z i o t (desk d) ≡ record { does = map saying (decoded i t o d).does; mind = desk (decoded i t o d).desk }
unfolding decoded_turn mind_turn desk_turn
decoded_bytes k z i t None d = refl
decoded_bytes k z i t (Some x) d = refl

turn_bytes : (k : Machine) (z : Settings) (x : p.Comes Bytes) (t : ℕ) (d : m.Desk) → byte_turn {m = k} z x t (desk d) ≡ record { does = map saying (turn_of z x t d).does; mind = desk (turn_of z x t d).desk }
unfolding byte_turn mind_turn desk_turn
turn_bytes k z (p.From i b) t d = decoded_bytes k z i t (decode_msg b) d
turn_bytes k z (p.Ask n x) t d = refl
turn_bytes k z p.Beat t d = refl

-- what a desk did is what the model over bytes does
pub as_model : (z : Settings) (x : p.Comes Bytes) (t : ℕ) (d : m.Desk) (e : Desk) (came : Bytes) → Did e.memory came (turn_of z x t d) → AsModel z x t d (outs_in e came) (desk_in e)
as_model z x t d e came h can room = turn_bytes (sheets can room) z x t d ∙ (λ i. record { does = sym h.does i; mind = desk (sym h.knows i) })
