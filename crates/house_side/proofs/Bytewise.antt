-- The model's turn over bytes, at the house.
use Rattle.std.proofs.Common.{◌≡◌, ℕ, Some, None, Option, sym, refl, ap, ◌∙◌}
use Rattle.promise.specs.Bytes.{Bytes}
use Rattle.promise.specs.Machine.{Machine}
use Rattle.promise.specs.Desks.{Comes, From, Beat}
use Rattle.codec.specs.Messages.{Msg, decode_msg}
use Rattle.asking.specs.House.{House, house_tick, house_begins, house_goes_on}
use Rattle.promise.specs.Sheets.{State, blank}
use Rattle.sessions.specs.Known.{Known, begun, going_on}
use Rattle.house_side.specs.Tables.{machine}
use Rattle.asking.specs.Code.{Settings, house, house_turn, mind_turn, decoded_turn, byte_turn}
use Rattle.house_side.specs.Houses.{Spoken, spoken, received, house_of}
use Rattle.house_side.specs.Comings.{minded}

module _ {m : Machine} (z : Settings) (t : ℕ) (h : House m) where
  decoded : (i : ℕ) (d : Option Msg) → decoded_turn z i d t (house h) ≡ minded (received i d t h)
  unfolding decoded_turn mind_turn house_turn
  decoded i None = refl
  decoded i (Some x) = refl

  pub turned_message : (i : ℕ) (b : Bytes) (e : Comes Bytes) (y : Spoken m) → e ≡ From i b → y ≡ received i (decode_msg b) t h → byte_turn z e t (house h) ≡ minded y
  unfolding byte_turn
  turned_message i b e y f g = ap (λ (x : Comes Bytes). byte_turn z x t (house h)) f ∙ (decoded i (decode_msg b) ∙ ap (λ (x : Spoken m). minded x) (sym g))

  pub turned_tick : (e : Comes Bytes) (y : Spoken m) → e ≡ Beat → y ≡ spoken (house_tick t h) → byte_turn z e t (house h) ≡ minded y
  unfolding byte_turn mind_turn house_turn
  turned_tick e y f g = ap (λ (x : Comes Bytes). byte_turn z x t (house h)) f ∙ ap (λ (x : Spoken m). minded x) (sym g)

pub goes_on_lem : (room t : ℕ) (s : State) (k k₁ : Known) → k₁ ≡ going_on t k → house_of room s k₁ ≡ house_goes_on t (house_of room s k)
unfolding house_goes_on
goes_on_lem room t s k k₁ e = ap (λ (v : Known). house_of room s v) e

pub begins : (room t : ℕ) (s : State) (k : Known) → k ≡ begun t → s ≡ blank → house_of room s k ≡ house_begins (machine room) t
unfolding house_begins
begins room t s k e f = λ z. house_of room (f z) (e z)
