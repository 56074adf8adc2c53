-- What comes from a desk, or from nobody, as the model has it.
use Rattle.std.proofs.Common.{◌≡◌, ℕ, Bool, true, false, ltb, List, [], Some, None, Option, refl, sym, ap, ◌∙◌}
use Rattle.promise.specs.Bytes.{Bytes}
use Rattle.promise.specs.Sheets.{State}
use Rattle.promise.specs.Desks.{Does}
use Rattle.codec.specs.Messages.{Msg, Hello, Welcome, Request, Response, Alive}
use Rattle.asking.specs.House.{hello, request_by, eight, hearing, house_hears, house_from_by}
use Rattle.sessions.specs.Desks.{is_desk}
use Rattle.sessions.specs.Known.{Known}
use Rattle.house_side.specs.Tables.{machine}
use Rattle.house_side.specs.Houses.{Spoken, spoken, turn_of, house_of, received}

-- what a desk says to no house
abbrev pub Aside : Msg → Type 0
Aside (Hello c) = ⊥
Aside (Welcome c n) = Unit {0}
Aside (Request n j q c) = ⊥
Aside (Response n j q g a) = Unit {0}
Aside (Alive n) = Unit {0}

aside_is : (room : ℕ) (s : State) (k : Known) (i : ℕ) (x : Msg) → Aside x → turn_of room s k [] ≡ spoken (house_hears i x (house_of room s k))
unfolding house_hears
aside_is room s k i (Hello c) h = absurd h
aside_is room s k i (Welcome c n) h = refl
aside_is room s k i (Request n j q c) h = absurd h
aside_is room s k i (Response n j q g a) h = refl
aside_is room s k i (Alive n) h = refl

pub from_noise : (room : ℕ) (s : State) (k : Known) (i t : ℕ) (d : Option Msg) (o : List (Does Bytes)) → None ≡ d → o ≡ [] → turn_of room s k o ≡ received i d t (house_of room s k)
from_noise room s k i t d o e g = (λ z. turn_of room s k (g z)) ∙ ap (λ (v : Option Msg). received i v t (house_of room s k)) e

module _ (room : ℕ) (s : State) (k : Known) (i : ℕ) (x : Msg) where
  pub heard_hello : (c : ℕ) (y : Spoken (machine room)) → x ≡ Hello c → y ≡ spoken (hello i c (house_of room s k)) → y ≡ spoken (house_hears i x (house_of room s k))
  unfolding house_hears
  heard_hello c y e f = f ∙ ap (λ (v : Msg). spoken (house_hears i v (house_of room s k))) (sym e)

  pub heard_request : (n j q : ℕ) (c : Bytes) (y : Spoken (machine room)) → x ≡ Request n j q c → y ≡ spoken (request_by i n j q c (ltb j eight) (house_of room s k)) →
      y ≡ spoken (house_hears i x (house_of room s k))
  unfolding house_hears
  heard_request n j q c y e f = f ∙ ap (λ (v : Msg). spoken (house_hears i v (house_of room s k))) (sym e)

  pub heard_aside : (o : List (Does Bytes)) → Aside x → o ≡ [] → turn_of room s k o ≡ spoken (house_hears i x (house_of room s k))
  heard_aside o aside e = ap (λ (l : List (Does Bytes)). turn_of room s k l) e ∙ aside_is room s k i x aside

  pub from_nobody : (t : ℕ) (d : Option Msg) (o : List (Does Bytes)) → Some x ≡ d → is_desk i ≡ false → o ≡ [] → turn_of room s k o ≡ received i d t (house_of room s k)
  unfolding house_from_by
  from_nobody t d o e f g =
      ap (λ (l : List (Does Bytes)). turn_of room s k l) g ∙ (ap (λ (b : Bool). spoken (house_from_by i x t b (house_of room s k))) (sym f) ∙ ap (λ (v : Option Msg). received i v t (house_of room s k)) e)

  pub from_desk : (t j : ℕ) (d : Option Msg) (y : Spoken (machine room)) → Some x ≡ d → is_desk i ≡ true → j ≡ i → y ≡ spoken (house_hears j x (hearing j t (house_of room s k))) →
      y ≡ received i d t (house_of room s k)
  unfolding house_from_by
  from_desk t j d y e f same g =
      g ∙ (ap (λ (n : ℕ). spoken (house_hears n x (hearing n t (house_of room s k)))) same ∙
      (ap (λ (b : Bool). spoken (house_from_by i x t b (house_of room s k))) (sym f) ∙ ap (λ (v : Option Msg). received i v t (house_of room s k)) e))
