-- What holds of everybody who is there, by induction on what happened: it is enough to look at beginnings and turns.
use Rattle.std.proofs.Common.{◌≡◌, ℕ, suc, ◌+◌, ◌<◌, ◌≤◌, cond, eqb, List, sym, subst, arith}
use Rattle.std.proofs.lemmas.Bool.{cond_both, eqb-true}
use Rattle.promise.specs.Machine.{Machine}
use Rattle.promise.specs.Desks.{Comes, From, Ask, Beat, Clocks, Seen, at, Stand, gone, dark, there, World, Goes, first, time, hears, garbled, asked, beats, falls, comes, lights}
use Rattle.codec.specs.Messages.{Msg}
use Rattle.asking.specs.Code.{Settings, Mind, mind_turn, mind_begins, mind_goes_on, asking}
use Rattle.asking.proofs.Base.{at_ind}

abbrev pub OfStand : {m : Machine} → (Mind m → Type 0) → Stand (Mind m) → Type 0
OfStand {m} P gone = Unit {0}
OfStand {m} P (dark x) = P x
OfStand {m} P (there x) = P x

pub of_map : {m : Machine} (P Q : Mind m → Type 0) → ((x : Mind m) → P x → Q x) → (x : Stand (Mind m)) → OfStand P x → OfStand Q x
of_map P Q f gone p = tt
of_map P Q f (dark x) p = f x p
of_map P Q f (there x) p = f x p

-- P: after so many steps, of whom, at what his clock shows
module _ (mc : Machine) (z : Settings) (clock : ℕ → ℕ → ℕ) (clocks : Clocks clock) (all : ℕ) (P : (n i t : ℕ) → Mind mc → Type 0)
    (begins : (n i r t : ℕ) → r < 18446744073709551616 → P n i t (mind_begins mc i r t))
    (turns : (n i t : ℕ) (x : Comes Msg) (y : Mind mc) → P n i t y → P (suc n) i t (mind_turn z x t y).mind)
    (goes_on : (n i t : ℕ) (y : Mind mc) → P n i t y → P (suc n) i t (mind_goes_on t y))
    (later' : (n i t t' : ℕ) (y : Mind mc) → t ≤ t' → P n i t y → P (suc n) i t' y) where
  abbrev pub AllHave : ℕ → ℕ → (ℕ → Stand (Mind mc)) → Type 0
  AllHave n now who = (i : ℕ) → OfStand (P n i (clock i now)) (who i)

  kept : (n i now : ℕ) (x : Stand (Mind mc)) → OfStand (P n i (clock i now)) x → OfStand (P (suc n) i (clock i now)) x
  kept n i now x p = of_map (P n i (clock i now)) (P (suc n) i (clock i now)) (λ y q. later' n i (clock i now) (clock i now) y (omega arith) q) x p

  turned' : (n now : ℕ) (who : ℕ → Stand (Mind mc)) (i : ℕ) (y : Mind mc) (x : Comes Msg) → who i ≡ there y → AllHave n now who → AllHave (suc n) now (at i (there (mind_turn z x (clock i now) y).mind) who)
  turned' n now who i y x e v = at_ind (λ b s. OfStand (P (suc n) b (clock b now)) s) i (there (mind_turn z x (clock i now) y).mind) who (turns n i (clock i now) x y (subst (λ s. OfStand (P n i (clock i now)) s) e (v i))) (λ b _. kept n b now (who b) (v b))

  pub all_have : {n : ℕ} {es : List Seen} {w : World (Mind mc) Msg} → Goes (asking mc z) clock all n es w → AllHave n w.now w.who
  all_have first = λ i. cond_both (eqb i 0) (there (mind_begins mc 0 0 (clock 0 0))) gone (OfStand (P 0 i (clock i 0))) (λ e. subst (λ b. P 0 b (clock b 0) (mind_begins mc 0 0 (clock 0 0))) (sym (eqb-true i 0 e)) (begins 0 0 0 (clock 0 0) (omega arith))) (λ _. tt)
  all_have (time {n = n} {w = w} g) = λ i. of_map (P n i (clock i w.now)) (P (suc n) i (clock i (w.now + 1))) (λ y q. later' n i (clock i w.now) (clock i (w.now + 1)) y (clocks.onward i w.now (w.now + 1) (omega arith)) q) (w.who i) (all_have g i)
  all_have (hears {n = n} {w = w} i y l a g e m to) = turned' n w.now w.who i y (From l.by l.word) e (all_have g)
  all_have (garbled {n = n} {w = w} i j y x a t g e) = absurd t
  all_have (asked {n = n} {w = w} i k c y p a b t g e u) = turned' n w.now w.who i y (Ask k c) e (all_have g)
  all_have (beats {n = n} {w = w} i y a g e) = turned' n w.now w.who i y Beat e (all_have g)
  all_have (falls {n = n} {w = w} i y a g e) = at_ind (λ b s. OfStand (P (suc n) b (clock b w.now)) s) i (cond (eqb i 0) (dark y) gone) w.who (cond_both (eqb i 0) (dark y) gone (OfStand (P (suc n) i (clock i w.now))) (λ _. kept n i w.now (there y) (subst (λ s. OfStand (P n i (clock i w.now)) s) e (all_have g i))) (λ _. tt)) (λ b _. kept n b w.now (w.who b) (all_have g b))
  all_have (comes {n = n} {w = w} i r p a b new g e) = at_ind (λ b s. OfStand (P (suc n) b (clock b w.now)) s) i (there (mind_begins mc i r (clock i w.now))) w.who (begins (suc n) i r (clock i w.now) b) (λ b _. kept n b w.now (w.who b) (all_have g b))
  all_have (lights {n = n} {w = w} y g e) = at_ind (λ b s. OfStand (P (suc n) b (clock b w.now)) s) 0 (there (mind_goes_on (clock 0 w.now) y)) w.who (goes_on n 0 (clock 0 w.now) y (subst (λ s. OfStand (P n 0 (clock 0 w.now)) s) e (all_have g 0))) (λ b _. kept n b w.now (w.who b) (all_have g b))
