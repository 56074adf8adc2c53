-- The invariant holds however it went, by induction on what happened; so what is seen is what is seen around one table.
use Rattle.std.proofs.Common.{◌≡◌, ℕ, ◌<◌, ◌≤◌, false, cond, not, T, eqb, ◌⊎◌, List, [], ◌∷◌, ◌++◌, sym, refl, ap, ◌∙◌, subst, inl, inr, arith}
use mathlib.Core.List.{Memᴰ}
use Rattle.std.proofs.lemmas.Bool.{both_ways, cases_lt, ne_eqb, cond-false}
use Rattle.promise.specs.Bytes.{Bytes}
use Rattle.promise.specs.Machine.{Machine}
use Rattle.promise.specs.Desks.{Comes, From, Ask, Beat, Does, Letter, Seen, called, fell, posted, tells, is_used, is_in, at, Stand, gone, dark, there, World, Clocks, Goes, first, time, hears, garbled, asked, beats, falls, comes, lights, OneTable, SeenAtTable}
use Rattle.codec.specs.Messages.{Msg}
use Rattle.asking.specs.Lawful.{Lawful}
use Rattle.asking.specs.House.{House, HouseTurn, house_begins, house_goes_on, unused, nobody}
use Rattle.asking.specs.Desk.{Idle, Desk, DeskTurn, desk_begins, shortened}
use Rattle.asking.specs.Code.{Settings, Mind, house, desk, Turn, of_house, of_desk, house_turn, desk_turn, mind_turn, mind_begins, mind_goes_on, asking}
use Rattle.asking.proofs.View.{AbsHouse, AbsSlot, idle, abs_house, abs_peer, abs_slot}
use Rattle.asking.proofs.Base.{at_ind, at_same, at_other}
use Rattle.asking.proofs.Arrays.{replicate_same}
use Rattle.asking.proofs.Inv.{Ghost, Real, unpicked, Core, DeskOk}
use Rattle.asking.proofs.Facts.{HouseFacts, DeskFacts, Facts, all_facts}
use Rattle.asking.proofs.Lives as V
use Rattle.asking.proofs.AtHouse.{HouseStep, at_house, at_house_beat, limit}
use Rattle.asking.proofs.AtDesk.{DeskStep, at_desk, at_beats, at_call}
use Rattle.asking.proofs.Shortened.{short, short_tells, short_used, as_called, SeenBytes, seen_bytes}

abbrev pub DeskIs : (mc : Machine) → Ghost → AbsHouse mc → ℕ → Stand (Mind mc) → Type 0
DeskIs mc g h i x = ((x ≡ gone) × (g.alive i ≡ 0)) ⊎ ((d : Desk) × (x ≡ there (desk d)) × DeskOk mc g h i d)

abbrev pub HouseIs : {mc : Machine} → House mc → Stand (Mind mc) → Type 0
HouseIs h x = (x ≡ there (house h)) ⊎ (x ≡ dark (house h))

pub record Inv (mc : Machine) (drawn : List ℕ) (letters : List (Letter Msg)) (who : ℕ → Stand (Mind mc)) (es : List Seen) : Type 0 where
  pub g : Ghost
  pub h : House mc
  pub house_is : HouseIs h (who 0)
  pub desks : (i : ℕ) → 0 < i → DeskIs mc g (abs_house h) i (who i)
  pub core' : Core mc g (abs_house h) drawn letters es

abbrev pub InvOf : {mc : Machine} → World (Mind mc) Msg → List Seen → Type 0
InvOf {mc} w es = Inv mc w.drawn w.letters w.who (short es)

-- who is there is who it is
pub is_house : {mc : Machine} (h : House mc) (m : Mind mc) (x : Stand (Mind mc)) → x ≡ there m → HouseIs h x → m ≡ house h
is_house h m x e (inl a) = cc
is_house h m x e (inr a) = cc

pub is_desk_lem : {mc : Machine} (g : Ghost) (h : AbsHouse mc) (i : ℕ) (m : Mind mc) (x : Stand (Mind mc)) → x ≡ there m → DeskIs mc g h i x → (d : Desk) × (m ≡ desk d) × DeskOk mc g h i d
is_desk_lem g h i m x e (inl a) = absurd (let a0 = a.0 in let z : ◌≡◌ {A = ℕ} 0 1 = cc in omega arith)
is_desk_lem g h i m x e (inr a) = let a1 = a.1 in (a.0, cc, a.2)

module _ (mc : Machine) (law : Lawful mc) (z : Settings) (drawn : List ℕ) (letters : List (Letter Msg)) (who : ℕ → Stand (Mind mc)) (es : List Seen) (v : Inv mc drawn letters who es) (now : ℕ) where
  abbrev pub K : AbsHouse mc
  K = abs_house v.h

  -- after a turn at i
  abbrev pub After : (i : ℕ) → Turn mc → List Seen → Type 0
  After i t es' = Inv mc drawn (posted i now t.does ++ letters) (at i (there t.mind) who) (tells i t.does ++ es')

  house_turned : (t : HouseTurn mc) → HouseStep mc v.g K drawn letters es now t → After 0 (of_house t) es
  house_turned t st =
      record {
        g = st.g';
        h = t.house;
        house_is = inl (at_same 0 (there (house t.house)) who);
        desks = at_ind (λ i x. 0 < i → DeskIs mc st.g' (abs_house t.house) i x) 0 (there (house t.house)) who (λ l. absurd (omega arith)) (λ i _ l. kept i (v.desks i l));
        core' = st.core';
      }
    where
      kept : (i : ℕ) → DeskIs mc v.g K i (who i) → DeskIs mc st.g' (abs_house t.house) i (who i)
      kept i (inl a) = inl (a.0, st.alive' i ∙ a.1)
      kept i (inr a) = inr (a.0, a.1, st.desks' i a.0 a.2)

  desk_turned : (es' : List Seen) (i : ℕ) (t : DeskTurn) → 0 < i → DeskStep mc v.g K drawn letters es' i now t → After i (of_desk t) es'
  desk_turned es' i t p st =
      record {
        g = st.g';
        h = v.h;
        house_is = subst (HouseIs v.h) (sym (at_other i (there (desk t.desk)) who 0 (λ e. omega arith))) v.house_is;
        desks = at_ind (λ b x. 0 < b → DeskIs mc st.g' K b x) i (there (desk t.desk)) who (λ _. inr (t.desk, refl, st.me')) (λ b n l. kept b n (v.desks b l));
        core' = st.core';
      }
    where
      kept : (b : ℕ) → (b ≡ i → ⊥) → DeskIs mc v.g K b (who b) → DeskIs mc st.g' K b (who b)
      kept b n (inl a) = inl (a.0, st.alive' b ∙ a.1)
      kept b n (inr a) = inr (a.0, a.1, st.others' b a.0 n a.2)

  module _ (n : ℕ) (small : n < limit) (t : ℕ → ℕ) (facts : (i : ℕ) → Facts n (t i) (who i)) where
    house_facts : (m : Mind mc) → who 0 ≡ there m → HouseFacts n (t 0) v.h
    house_facts m e = subst (λ s. Facts n (t 0) s) (e ∙ ap there (is_house v.h m (who 0) e v.house_is)) (facts 0)

    heard_0 : (m : Mind mc) (l : Letter Msg) → Memᴰ l letters → who 0 ≡ there m → After 0 (mind_turn z (From l.by l.word) (t 0) m) es
    unfolding mind_turn
    heard_0 m l k e = subst (λ y. After 0 (mind_turn z (From l.by l.word) (t 0) y) es) (sym (is_house v.h m (who 0) e v.house_is))
        (house_turned (house_turn (From l.by l.word) (t 0) v.h) (at_house mc law v.g v.h drawn letters es v.core' now n (t 0) small (house_facts m e) l k))

    heard_i : (i : ℕ) (m : Mind mc) (l : Letter Msg) → 0 < i → Memᴰ l letters → who i ≡ there m → After i (mind_turn z (From l.by l.word) (t i) m) es
    unfolding mind_turn
    heard_i i m l p k e =
        let y = is_desk_lem v.g K i m (who i) e (v.desks i p) in
        subst (λ x. After i (mind_turn z (From l.by l.word) (t i) x) es) (sym y.1)
        (desk_turned es i (desk_turn z (From l.by l.word) (t i) y.0) p (at_desk mc v.g K drawn letters es v.core' i now y.0 y.2 z (t i) l k))

    -- at the house or at a desk
    at_both : (x : Comes Msg) → ((m : Mind mc) → who 0 ≡ there m → After 0 (mind_turn z x (t 0) m) es) → ((i : ℕ) (m : Mind mc) → 0 < i → who i ≡ there m → After i (mind_turn z x (t i) m) es) → (i : ℕ) (m : Mind mc) → who i ≡ there m → After i (mind_turn z x (t i) m) es
    at_both x f0 fi i m e = go (cases_lt 0 i)
      where
        go : (0 < i) ⊎ (i ≤ 0) → After i (mind_turn z x (t i) m) es
        go (inl p) = fi i m p e
        go (inr p) = let o : 0 ≡ i = omega arith in subst (λ b. who b ≡ there m → After b (mind_turn z x (t b) m) es) o (f0 m) e

    heard : (i : ℕ) (m : Mind mc) (l : Letter Msg) → Memᴰ l letters → who i ≡ there m → After i (mind_turn z (From l.by l.word) (t i) m) es
    heard i m l k e = at_both (From l.by l.word) (λ m' e'. heard_0 m' l k e') (λ i' m' p e'. heard_i i' m' l p k e') i m e

    beaten_0 : (m : Mind mc) → who 0 ≡ there m → After 0 (mind_turn z Beat (t 0) m) es
    unfolding mind_turn
    beaten_0 m e = subst (λ y. After 0 (mind_turn z Beat (t 0) y) es) (sym (is_house v.h m (who 0) e v.house_is)) (house_turned (house_turn Beat (t 0) v.h) (at_house_beat mc law v.g v.h drawn letters es v.core' now (t 0)))

    beaten_i : (i : ℕ) (m : Mind mc) → 0 < i → who i ≡ there m → After i (mind_turn z Beat (t i) m) es
    unfolding mind_turn
    beaten_i i m p e =
        let y = is_desk_lem v.g K i m (who i) e (v.desks i p) in
        subst (λ x. After i (mind_turn z Beat (t i) x) es) (sym y.1) (desk_turned es i (desk_turn z Beat (t i) y.0) p (at_beats mc v.g K drawn letters es v.core' i now y.0 y.2 z (t i)))

    beaten : (i : ℕ) (m : Mind mc) → who i ≡ there m → After i (mind_turn z Beat (t i) m) es
    beaten i m e = at_both Beat beaten_0 beaten_i i m e

    was_asked : (i k : ℕ) (c : Bytes) (m : Mind mc) → 0 < i → who i ≡ there m → T (not (is_used i k es)) → After i (mind_turn z (Ask k c) (t i) m) (called i k (shortened c) ∷ es)
    unfolding mind_turn desk_turn
    was_asked i k c m p e u =
        let y = is_desk_lem v.g K i m (who i) e (v.desks i p) in
        let f : DeskFacts n (t i) y.0 = subst (λ s. Facts n (t i) s) (e ∙ ap there y.1) (facts i) in
        subst (λ x. After i (mind_turn z (Ask k c) (t i) x) (called i k (shortened c) ∷ es)) (sym y.1) (desk_turned (called i k (shortened c) ∷ es) i (desk_turn z (Ask k c) (t i) y.0) p (at_call mc v.g K drawn letters es v.core' i now y.0 y.2 n (t i) small f z.grabs k c u))

-- FALLS

module _ (mc : Machine) (drawn : List ℕ) (letters : List (Letter Msg)) (who : ℕ → Stand (Mind mc)) (es : List Seen) (v : Inv mc drawn letters who es) where
  abbrev pub K' : AbsHouse mc
  K' = abs_house v.h

  kept_fallen : (i b : ℕ) → (b ≡ i → ⊥) → DeskIs mc v.g K' b (who b) → DeskIs mc (V.fallen mc v.g K' drawn letters es v.core' i) K' b (who b)
  kept_fallen i b n (inl a) = inl (a.0, at_other i 0 v.g.alive b n ∙ a.1)
  kept_fallen i b n (inr a) = let y = a.2 in inr (a.0, a.1, record { me = at_other i 0 v.g.alive b n ∙ y.me; pos = y.pos; slots' = y.slots'; session' = y.session'; settled' = y.settled'; current = y.current })

  fallen_0 : (m : Mind mc) → who 0 ≡ there m → Inv mc drawn letters (at 0 (dark m) who) (fell 0 ∷ es)
  fallen_0 m e =
      record {
        g = V.fallen mc v.g K' drawn letters es v.core' 0;
        h = v.h;
        house_is = inr (at_same 0 (dark m) who ∙ ap dark (is_house v.h m (who 0) e v.house_is));
        desks = at_ind (λ b x. 0 < b → DeskIs mc (V.fallen mc v.g K' drawn letters es v.core' 0) K' b x) 0 (dark m) who (λ l. absurd (omega arith)) (λ b n l. kept_fallen 0 b n (v.desks b l));
        core' = V.has_fallen_lem mc v.g K' drawn letters es v.core' 0;
      }

  fallen_i : (i : ℕ) (m : Mind mc) → 0 < i → who i ≡ there m → Inv mc drawn letters (at i (cond (eqb i 0) (dark m) gone) who) (fell i ∷ es)
  fallen_i i m p e =
      let x : Stand (Mind mc) = cond (eqb i 0) (dark m) gone in
      record {
        g = V.fallen mc v.g K' drawn letters es v.core' i;
        h = v.h;
        house_is = subst (HouseIs v.h) (sym (at_other i x who 0 (λ e. omega arith))) v.house_is;
        desks = at_ind (λ b x. 0 < b → DeskIs mc (V.fallen mc v.g K' drawn letters es v.core' i) K' b x) i x who (λ _. inl (cond-false (eqb i 0) (dark m) gone (ne_eqb i 0 (λ z. omega arith)), at_same i 0 v.g.alive)) (λ b n l. kept_fallen i b n (v.desks b l));
        core' = V.has_fallen_lem mc v.g K' drawn letters es v.core' i;
      }

  has_fallen' : (i : ℕ) (m : Mind mc) → who i ≡ there m → Inv mc drawn letters (at i (cond (eqb i 0) (dark m) gone) who) (fell i ∷ es)
  has_fallen' i m e = go (cases_lt 0 i)
    where
      go : (0 < i) ⊎ (i ≤ 0) → Inv mc drawn letters (at i (cond (eqb i 0) (dark m) gone) who) (fell i ∷ es)
      go (inl p) = fallen_i i m p e
      go (inr p) = let z : 0 ≡ i = omega arith in subst (λ b. who b ≡ there m → Inv mc drawn letters (at b (cond (eqb b 0) (dark m) gone) who) (fell b ∷ es)) z (fallen_0 m) e

  -- THE HOUSE GOES ON

  is_dark : (m : Mind mc) (x : Stand (Mind mc)) → x ≡ dark m → HouseIs v.h x → m ≡ house v.h
  is_dark m x e (inl a) = cc
  is_dark m x e (inr a) = cc

  was_lit : (m : Mind mc) (t : ℕ) → who 0 ≡ dark m → Inv mc drawn letters (at 0 (there (mind_goes_on t m)) who) es
  unfolding mind_goes_on house_goes_on
  was_lit m t e =
      record {
        g = v.g;
        h = house_goes_on t v.h;
        house_is = inl (at_same 0 (there (mind_goes_on t m)) who ∙ ap (λ y. there (mind_goes_on t y)) (is_dark m (who 0) e v.house_is));
        desks = at_ind (λ b x. 0 < b → DeskIs mc v.g K' b x) 0 (there (mind_goes_on t m)) who (λ l. absurd (omega arith)) (λ b n l. v.desks b l);
        core' = v.core';
      }

  -- A DESK COMES

  has_begun : (i r t : ℕ) → 0 < i → T (not (is_in r drawn)) → who i ≡ gone → Inv mc (r ∷ drawn) letters (at i (there (mind_begins mc i r t)) who) es
  unfolding mind_begins desk_begins
  has_begun i r t p new e =
      record {
        g = g';
        h = v.h;
        house_is = subst (HouseIs v.h) (sym (at_other i (there (mind_begins mc i r t)) who 0 (λ e. omega arith))) v.house_is;
        desks = at_ind (λ b x. 0 < b → DeskIs mc g' K' b x) i (there (mind_begins mc i r t)) who (λ _. inr (d0, ap there begins', ok0)) (λ b n l. kept b n (v.desks b l));
        core' = V.has_come mc v.g K' drawn letters es v.core' i r new is_gone;
      }
    where
      gone' : DeskIs mc v.g K' i (who i) → v.g.alive i ≡ 0
      gone' (inl a) = a.1
      gone' (inr a) = absurd (let a1 = a.1 in let z : ◌≡◌ {A = ℕ} 0 1 = cc in omega arith)

      is_gone : v.g.alive i ≡ 0
      is_gone = gone' (v.desks i p)

      g' : Ghost
      g' = V.comer mc v.g K' drawn letters es v.core' i r new is_gone

      d0 : Desk
      d0 = desk_begins r t

      begins' : mind_begins mc i r t ≡ desk d0
      begins' = cond-false (eqb i 0) (house (house_begins mc t)) (desk d0) (ne_eqb i 0 (λ z. omega arith))

      ok0 : DeskOk mc g' K' i d0
      ok0 = record { me = at_same i r v.g.alive; pos = V.r_pos mc v.g K' drawn letters es v.core' i r new is_gone; slots' = λ j. ap abs_slot (replicate_same 8 (Idle 0) j) ∙ sym (ap (λ (f : ℕ → AbsSlot). f j) (at_same r (λ (_ : ℕ). idle 0) v.g.last)); session' = λ l. absurd (omega arith); settled' = λ e'. absurd (both_ways false refl e'); current = λ e'. absurd (both_ways false refl e') }

      kept : (b : ℕ) → (b ≡ i → ⊥) → DeskIs mc v.g K' b (who b) → DeskIs mc g' K' b (who b)
      kept b n (inl a) = inl (a.0, at_other i r v.g.alive b n ∙ a.1)
      kept b n (inr a) =
          let y = a.2 in
          let l : 0 < v.g.alive b = (let a = y.me in let q = y.pos in omega arith) in
          let re = subst (λ c. Real drawn c) y.me (v.core'.births.alive_is b l).0 in
          inr (a.0, a.1, record { me = at_other i r v.g.alive b n ∙ y.me; pos = y.pos; slots' = λ j. y.slots' j ∙ sym (ap (λ (f : ℕ → AbsSlot). f j) (V.last_old mc v.g K' drawn letters es v.core' i r new is_gone a.0.nonce re)); session' = y.session'; settled' = y.settled'; current = y.current })

abs_begins : (mc : Machine) (t : ℕ) → abs_house (house_begins mc t) ≡ V.h0 mc
unfolding house_begins
abs_begins mc t = λ z. record { table = mc.start; next = 1; peers = λ i. (ap abs_peer (replicate_same 64 nobody i) ∙ (λ y. record { nonce = 0; session = 0; nonce' = 0; session' = 0; slots = λ j. replicate_same 8 unused j y })) z }

at_first' : (mc : Machine) → Lawful mc → (t : ℕ) → Inv mc (0 ∷ []) [] (λ i. cond (eqb i 0) (there (mind_begins mc 0 0 t)) gone) []
unfolding mind_begins
at_first' mc law t =
    record {
      g = V.g0;
      h = house_begins mc t;
      house_is = inl refl;
      desks = λ i p. inl (cond-false (eqb i 0) (there (mind_begins mc 0 0 t)) gone (ne_eqb i 0 (λ e. omega arith)), refl);
      core' = subst (λ h. Core mc V.g0 h (0 ∷ []) [] []) (sym (abs_begins mc t)) (V.at_first mc law);
    }

module _ (mc : Machine) (law : Lawful mc) (z : Settings) (clock : ℕ → ℕ → ℕ) (clocks : Clocks clock) where
  -- tells goes through shortening
  shorter : {drawn : List ℕ} {letters : List (Letter Msg)} {who : ℕ → Stand (Mind mc)} (i : ℕ) (ds : List (Does Msg)) (es : List Seen) → Inv mc drawn letters who (tells i ds ++ short es) → Inv mc drawn letters who (short (tells i ds ++ es))
  shorter {drawn} {letters} {who} i ds es v = subst (λ y. Inv mc drawn letters who y) (sym (short_tells i ds es)) v

  pub inv : {all n : ℕ} {es : List Seen} {w : World (Mind mc) Msg} → Goes (asking mc z) clock all n es w → n < limit → InvOf w es
  unfolding short
  inv first lt = at_first' mc law (clock 0 0)
  inv (time g) lt = inv g (omega arith)
  inv (hears {n = n} {es = es} {w = w} i m l a g e k to) lt = shorter i (mind_turn z (From l.by l.word) (clock i w.now) m).does es (heard mc law z w.drawn w.letters w.who (short es) (inv g (omega arith)) w.now n (omega arith) (λ b. clock b w.now) (all_facts mc law z clock clocks g) i m l k e)
  inv (garbled i j m x a t g e) lt = absurd t
  inv (asked {n = n} {es = es} {w = w} i k c m p a b t g e u) lt = shorter i (mind_turn z (Ask k c) (clock i w.now) m).does (called i k c ∷ es) (was_asked mc law z w.drawn w.letters w.who (short es) (inv g (omega arith)) w.now n (omega arith) (λ b. clock b w.now) (all_facts mc law z clock clocks g) i k c m p e (subst (λ b. T (not b)) (sym (short_used i k es)) u))
  inv (beats {n = n} {es = es} {w = w} i m a g e) lt = shorter i (mind_turn z Beat (clock i w.now) m).does es (beaten mc law z w.drawn w.letters w.who (short es) (inv g (omega arith)) w.now n (omega arith) (λ b. clock b w.now) (all_facts mc law z clock clocks g) i m e)
  inv (falls {es = es} {w = w} i m a g e) lt = has_fallen' mc w.drawn w.letters w.who (short es) (inv g (omega arith)) i m e
  inv (comes {es = es} {w = w} i r p a b new g e) lt = has_begun mc w.drawn w.letters w.who (short es) (inv g (omega arith)) i r (clock i w.now) p new e
  inv (lights {es = es} {w = w} m g e) lt = was_lit mc w.drawn w.letters w.who (short es) (inv g (omega arith)) m (clock 0 w.now) e

  -- the table that everybody sees is the house's
  pub seen_at_table : (w : World (Mind mc) Msg) (es : List Seen) → SeenBytes es → (v : InvOf w es) (P : mc.State → Type 0) → P v.h.table → SeenAtTable mc es P
  seen_at_table w es sb v P p =
      let u = v.core'.table (λ _ _. unpicked) (λ c j r e. absurd (let o : ◌≡◌ {A = ℕ} 0 1 = cc in omega arith)) in
      let y = as_called mc law u.tab es sb refl in
      (v.h.table, y.os', u.rs, v.g.lives, v.g.emptied, y.tab, p)

pub one_table : (mc : Machine) → Lawful mc → (z : Settings) → OneTable mc (asking mc z)
one_table mc law z clock clocks all n a b c es w g = let v = inv mc law z clock clocks g (omega arith) in seen_at_table mc law z clock clocks w es (seen_bytes mc z clock g) v (λ s. Unit {0}) tt
