-- The house knows when it last heard a desk: it lapses a hold only after a minute of silence, and then always.
use Rattle.std.proofs.Common.{◌≡◌, ℕ, zero, suc, ◌+◌, ◌-◌, ◌<◌, ◌≤◌, Bool, true, false, cond, ◌&&◌, eqb, ltb, leb, ◌⊎◌, List, [], ◌∷◌, ◌++◌, length, get_or, set, sym, refl, ap, ◌∙◌, subst, inl, inr, append-nil, arith, get_or-set_other, get_or-set_same}
use mathlib.Core.List.Memᴰ
use mathlib.Core.List.{Memᴰ}
use lib.ListN.{get_or-replicate, get_or-eq_default}
use Rattle.std.proofs.lemmas.Bool.{both_ways, eq-eqb, cases_lt, cases_eq, ne_eqb, cond-true, cond-false, cond_both, leb-true, le-leb, eqb-true, ltb-true, lt-ltb, ltb-false, and_parts, and_from, and_cases}
use Rattle.promise.specs.Bytes.{Bytes}
use Rattle.promise.specs.Machine.{Machine}
use Rattle.promise.specs.Desks.{Comes, From, Ask, Beat, Does, To, Tell, Lapse, Seen, tells, at, Stand, gone, dark, there, World, Clocks, turned, later, lit, Goes, first, time, hears, garbled, asked, beats, falls, comes, lights, Between, stay, light, beat, Within, SeenAtTable, LapsesRightly, NotUntilMonday}
use Rattle.promise.specs.Desks as D
use Rattle.codec.specs.Messages.{Msg, Hello, Welcome, Request, Response, Alive}
use Rattle.asking.specs.Lawful.{Lawful}
use Rattle.asking.specs.House.{Peer, House, HouseTurn, nobody, peer_of, hearing, hello_by, new_change_by, change_by, serve_by, current_by, request_by, takes_up_by, takes_up, house_hears, house_from_by, is_silent, lapse_by, lapses_from, house_goes_on}
use Rattle.asking.specs.Code.{Settings, Mind, house, desk, Turn, house_turn, mind_turn, mind_begins, mind_goes_on, asking}
use Rattle.asking.proofs.Base.{at_ind, at_same, at_other}
use Rattle.asking.proofs.Facts.{HouseFacts, Facts, all_facts}
use Rattle.asking.proofs.AtHouse.{limit}
use Rattle.asking.proofs.OneTable.{InvOf, HouseIs, inv, is_house, seen_at_table}
use Rattle.asking.proofs.Shortened.{seen_bytes}

-- NO STEP BUT A LETTER CHANGES WHO WAS HEARD, AND NONE BUT A TICK LAPSES

abbrev pub LapsesNobody : List (Does Msg) → Type 0
LapsesNobody [] = Unit {0}
LapsesNobody (To j m ∷ ds) = LapsesNobody ds
LapsesNobody (Tell k r ∷ ds) = LapsesNobody ds
LapsesNobody (Lapse j ∷ ds) = ⊥

not_lapsed : (ds : List (Does Msg)) (i : ℕ) → LapsesNobody ds → Memᴰ (Lapse i) ds → ⊥
not_lapsed [] i h m = Memᴰ.not-nil m
not_lapsed (To j x ∷ ds) i h m = elim (Memᴰ.cases_cons m) [ inl e ↦ (let z : ◌≡◌ {A = ℕ} 0 1 = cc in omega arith) | inr m' ↦ not_lapsed ds i h m' ]
not_lapsed (Tell k r ∷ ds) i h m = elim (Memᴰ.cases_cons m) [ inl e ↦ (let z : ◌≡◌ {A = ℕ} 0 1 = cc in omega arith) | inr m' ↦ not_lapsed ds i h m' ]
not_lapsed (Lapse j ∷ ds) i h m = absurd h

-- a turn that leaves who was heard, and lapses nobody
abbrev LeavesHeard : {mc : Machine} → List ℕ → HouseTurn mc → Type 0
LeavesHeard f t = (t.house.heard ≡ f) × LapsesNobody t.does

module _ {mc : Machine} (f : List ℕ) where
  q_hello : (i c : ℕ) (a b : Bool) (h : House mc) → h.heard ≡ f → LeavesHeard f (hello_by i c a b h)
  unfolding hello_by
  q_hello i c true b h e = (e, tt)
  q_hello i c false true h e = (e, tt)
  q_hello i c false false h e = (e, tt)

  q_change : (i s j q : ℕ) (c : Bytes) (a b : Bool) (h : House mc) → h.heard ≡ f → LeavesHeard f (change_by i s j q c a b h)
  unfolding change_by new_change_by
  q_change i s j q c true b h e = (e, tt)
  q_change i s j q c false true h e = (e, tt)
  q_change i s j q c false false h e = (e, tt)

  q_serve : (i s j q : ℕ) (c : Bytes) (b : Bool) (h : House mc) → h.heard ≡ f → LeavesHeard f (serve_by i s j q c b h)
  unfolding serve_by
  q_serve i s j q c true h e = (e, tt)
  q_serve i s j q c false h e = q_change i s j q c _ _ h e

  q_current : (i s j q : ℕ) (c : Bytes) (b : Bool) (h : House mc) → h.heard ≡ f → LeavesHeard f (current_by i s j q c b h)
  unfolding current_by
  q_current i s j q c true h e = q_serve i s j q c (mc.reads c) h e
  q_current i s j q c false h e = (e, tt)

  q_takes : (i : ℕ) (b : Bool) (h : House mc) → h.heard ≡ f → (takes_up_by i b h).heard ≡ f
  unfolding takes_up_by
  q_takes i true h e = e
  q_takes i false h e = e

  q_request : (i s j q : ℕ) (c : Bytes) (b : Bool) (h : House mc) → h.heard ≡ f → LeavesHeard f (request_by i s j q c b h)
  unfolding request_by
  q_request i s j q c true h e = q_current i s j q c _ (takes_up i s h) (q_takes i _ h e)
  q_request i s j q c false h e = (e, tt)

  q_hears : (i : ℕ) (x : Msg) (h : House mc) → h.heard ≡ f → LeavesHeard f (house_hears i x h)
  unfolding house_hears
  q_hears i (Hello c) h e = q_hello i c _ _ h e
  q_hears i (Welcome c s) h e = (e, tt)
  q_hears i (Request s j q c) h e = q_request i s j q c _ h e
  q_hears i (Response s j q gr a) h e = (e, tt)
  q_hears i (Alive s) h e = (e, tt)

  h_lapse : (i : ℕ) (b : Bool) (x : HouseTurn mc) → x.house.heard ≡ f → (lapse_by i b x).house.heard ≡ f
  unfolding lapse_by
  h_lapse i true x e = e
  h_lapse i false x e = e

  h_lapses : (t i k : ℕ) (h : House mc) → h.heard ≡ f → (lapses_from t i k h).house.heard ≡ f
  unfolding lapses_from
  h_lapses t i zero h e = e
  h_lapses t i (suc k) h e = h_lapse i _ (lapses_from t (i + 1) k h) (h_lapses t (i + 1) k h e)

-- WHAT THE HOUSE WROTE DOWN IS NO EARLIER THAN WHAT IT HEARD

abbrev HeardMind : {mc : Machine} → Mind mc → (ℕ → ℕ) → Type 0
HeardMind (house h) f = (i : ℕ) → 0 < i → i < 64 → f i ≤ get_or h.heard i 0
HeardMind (desk d) f = Unit {0}

abbrev HeardStand : {mc : Machine} → Stand (Mind mc) → (ℕ → ℕ) → Type 0
HeardStand gone f = Unit {0}
HeardStand (dark m) f = HeardMind m f
HeardStand (there m) f = HeardMind m f

-- what the world writes down at a turn of the house
abbrev heard_then : Comes Msg → ℕ → (ℕ → ℕ) → ℕ → ℕ
heard_then (From j m) t f = at j t f
heard_then (Ask k c) t f = f
heard_then Beat t f = f

module _ {mc : Machine} (t : ℕ) (f : ℕ → ℕ) where
  k_from : (j : ℕ) (x : Msg) (b : Bool) (h : House mc) → length h.heard ≡ 64 → (ltb 0 j && ltb j 64) ≡ b → HeardMind (house h) f → HeardMind (house (house_from_by j x t b h).house) (at j t f)
  unfolding house_from_by
  k_from j x true h l e v i p s =
      subst (λ xs. at j t f i ≤ get_or xs i 0) (sym (q_hears (set h.heard j t) j x (hearing j t h) refl).0) (go (cases_eq i j))
    where
      a : (ltb 0 j ≡ true) × (ltb j 64 ≡ true)
      a = and_parts (ltb 0 j) (ltb j 64) e

      go : (i ≡ j) ⊎ (i ≡ j → ⊥) → at j t f i ≤ get_or (set h.heard j t) i 0
      go (inl q) = subst (λ b. at j t f b ≤ get_or (set h.heard j t) b 0) (sym q) (let u = at_same j t f in let w = get_or-set_same h.heard j t 0 (let y = ltb-true j 64 a.1 in omega arith) in omega arith)
      go (inr n) = let u = at_other j t f i n in let w = get_or-set_other h.heard j i t 0 n in let y = v i p s in omega arith
  k_from j x false h l e v i p s = let u = at_other j t f i (λ q. both_ways (ltb 0 j && ltb j 64) e (and_from (ltb 0 j) (ltb j 64) (lt-ltb 0 j (omega arith)) (lt-ltb j 64 (omega arith)))) in let y = v i p s in omega arith

  k_house : (x : Comes Msg) (h : House mc) → length h.heard ≡ 64 → HeardMind (house h) f → HeardMind (house (house_turn x t h).house) (heard_then x t f)
  unfolding house_turn
  k_house (From j x) h l v = k_from j x _ h l refl v
  k_house (Ask k c) h l v = v
  k_house Beat h l v = λ i p s. subst (λ xs. f i ≤ get_or xs i 0) (sym (h_lapses h.heard t 1 63 h refl)) (v i p s)

module _ (mc : Machine) (law : Lawful mc) (z : Settings) (clock : ℕ → ℕ → ℕ) (clocks : Clocks clock) where
  -- the house heard nobody in the future
  heard_before : {all n : ℕ} {es : List Seen} {w : World (Mind mc) Msg} → Goes (asking mc z) clock all n es w → (i : ℕ) → w.heard i ≤ clock 0 w.now
  heard_before first i = omega arith
  heard_before (time {w = w} g) i = let a = heard_before g i in let b = clocks.onward 0 w.now (w.now + 1) (omega arith) in omega arith
  heard_before (hears {w = w} i m l a g e n to) b = cond_both (eqb i 0) (at l.by (clock i w.now) w.heard) w.heard (λ (f : ℕ → ℕ). f b ≤ clock 0 w.now) (λ y. let y0 = eqb-true i 0 y in at_ind (λ _ u. u ≤ clock 0 w.now) l.by (clock i w.now) w.heard (let q : clock i w.now ≡ clock 0 w.now = ap (λ k. clock k w.now) y0 in omega arith) (λ d _. heard_before g d) b) (λ _. heard_before g b)
  heard_before (garbled i j m x a t g e) b = absurd t
  heard_before (asked i k x m p a b t g e u) j = heard_before g j
  heard_before (beats i m a g e) j = heard_before g j
  heard_before (falls i m a g e) j = heard_before g j
  heard_before (comes i r p a b new g e) j = heard_before g j
  heard_before (lights m g e) j = heard_before g j

  -- a turn at 0 is the house's; a turn elsewhere is none of its
  k_turned : (n : ℕ) (who : ℕ → Stand (Mind mc)) (h : House mc) (i t : ℕ) (m : Mind mc) (x : Comes Msg) (f f' : ℕ → ℕ) → HouseIs h (who 0) → who i ≡ there m → Facts n t (who i) → HeardStand (who 0) f → (i ≡ 0 → (b : ℕ) → f' b ≡ heard_then x t f b) → ((i ≡ 0 → ⊥) → (b : ℕ) → f' b ≡ f b) → HeardStand (at i (there (mind_turn z x t m).mind) who 0) f'
  unfolding mind_turn
  k_turned n who h i t m x f f' hs e fa v same other = go (cases_eq i 0)
    where
      weaken : (y : Stand (Mind mc)) → ((b : ℕ) → f' b ≡ f b) → HeardStand y f → HeardStand y f'
      weaken gone w u = tt
      weaken (dark (house h2)) w u = λ b p s. let a = u b p s in let c = w b in omega arith
      weaken (dark (desk d)) w u = tt
      weaken (there (house h2)) w u = λ b p s. let a = u b p s in let c = w b in omega arith
      weaken (there (desk d)) w u = tt

      go : (i ≡ 0) ⊎ (i ≡ 0 → ⊥) → HeardStand (at i (there (mind_turn z x t m).mind) who 0) f'
      go (inr o) = subst (λ y. HeardStand y f') (sym (at_other i (there (mind_turn z x t m).mind) who 0 (λ y. o (sym y)))) (weaken (who 0) (other o) v)
      go (inl o) =
          let e0 : who 0 ≡ there m = ap who (sym o) ∙ e in
          let em = is_house h m (who 0) e0 hs in
          let hv : HeardMind (house h) f = subst (λ y. HeardStand y f) (e0 ∙ ap there em) v in
          let hf : HouseFacts n t h = subst (λ y. Facts n t y) (e ∙ ap there em) fa in
          subst (λ b. HeardStand (at b (there (mind_turn z x t m).mind) who 0) f') (sym o)
          (subst (λ y. HeardStand y f') (sym (at_same 0 (there (mind_turn z x t m).mind) who))
          (subst (λ y. HeardMind (mind_turn z x t y).mind f') (sym em) (λ b p s. let a = k_house t f x h hf.heard64 hv b p s in let c = same o b in omega arith)))

  k_fallen : (who : ℕ → Stand (Mind mc)) (i : ℕ) (m : Mind mc) (f : ℕ → ℕ) → who i ≡ there m → HeardStand (who 0) f → HeardStand (at i (cond (eqb i 0) (dark m) gone) who 0) f
  k_fallen who i m f e v = go (cases_eq i 0)
    where
      go : (i ≡ 0) ⊎ (i ≡ 0 → ⊥) → HeardStand (at i (cond (eqb i 0) (dark m) gone) who 0) f
      go (inr n) = subst (λ y. HeardStand y f) (sym (at_other i (cond (eqb i 0) (dark m) gone) who 0 (λ y. n (sym y)))) v
      go (inl o) = subst (λ b. HeardStand (at b (cond (eqb b 0) (dark m) gone) who 0) f) (sym o) (subst (λ y. HeardStand y f) (ap who (sym o) ∙ e) v)

  goes_on_lem : (t : ℕ) (f : ℕ → ℕ) (m : Mind mc) → ((i : ℕ) → f i ≤ t) → HeardMind (mind_goes_on t m) f
  unfolding mind_goes_on house_goes_on
  goes_on_lem t f (house h) l = λ i p s. let a = get_or-replicate 64 i t 0 s in let b = l i in omega arith
  goes_on_lem t f (desk d) l = tt

  pub all_heard : {all n : ℕ} {es : List Seen} {w : World (Mind mc) Msg} → Goes (asking mc z) clock all n es w → n < limit → HeardStand (w.who 0) w.heard
  unfolding mind_begins
  all_heard first lt = λ i p s. omega arith
  all_heard (time g) lt = all_heard g (omega arith)
  all_heard (hears {n = n} {w = w} i m l a g e k to) lt = k_turned n w.who (inv mc law z clock clocks g (omega arith)).h i (clock i w.now) m (From l.by l.word) w.heard (cond (eqb i 0) (at l.by (clock i w.now) w.heard) w.heard) (inv mc law z clock clocks g (omega arith)).house_is e (all_facts mc law z clock clocks g i) (all_heard g (omega arith)) (λ y b. ap (λ (f : ℕ → ℕ). f b) (cond-true (eqb i 0) (at l.by (clock i w.now) w.heard) w.heard (eq-eqb i 0 y))) (λ y b. ap (λ (f : ℕ → ℕ). f b) (cond-false (eqb i 0) (at l.by (clock i w.now) w.heard) w.heard (ne_eqb i 0 y)))
  all_heard (garbled i j m x a t g e) lt = absurd t
  all_heard (asked {n = n} {w = w} i k c m p a b t g e u) lt = k_turned n w.who (inv mc law z clock clocks g (omega arith)).h i (clock i w.now) m (Ask k c) w.heard w.heard (inv mc law z clock clocks g (omega arith)).house_is e (all_facts mc law z clock clocks g i) (all_heard g (omega arith)) (λ y b. refl) (λ y b. refl)
  all_heard (beats {n = n} {w = w} i m a g e) lt = k_turned n w.who (inv mc law z clock clocks g (omega arith)).h i (clock i w.now) m Beat w.heard w.heard (inv mc law z clock clocks g (omega arith)).house_is e (all_facts mc law z clock clocks g i) (all_heard g (omega arith)) (λ y b. refl) (λ y b. refl)
  all_heard (falls {w = w} i m a g e) lt = k_fallen w.who i m w.heard e (all_heard g (omega arith))
  all_heard (comes {w = w} i r p a b new g e) lt = subst (λ y. HeardStand y w.heard) (sym (at_other i (there (mind_begins mc i r (clock i w.now))) w.who 0 (λ y. omega arith))) (all_heard g (omega arith))
  all_heard (lights {w = w} m g e) lt = goes_on_lem (clock 0 w.now) w.heard m (heard_before g)

-- LAPSES RIGHTLY

stale_by : {mc : Machine} (i j : ℕ) (b : Bool) (x : HouseTurn mc) → Memᴰ (Lapse i) (lapse_by j b x).does → ((i ≡ j) × (b ≡ true)) ⊎ Memᴰ (Lapse i) x.does
unfolding lapse_by
stale_by i j true x m = elim (Memᴰ.cases_cons m) [ inl e ↦ inl (cc, refl) | inr m' ↦ inr m' ]
stale_by i j false x m = inr m

-- who is lapsed is one of these desks, and was not heard for a minute
pub stale : {mc : Machine} (t j k : ℕ) (h : House mc) (i : ℕ) → Memᴰ (Lapse i) (lapses_from t j k h).does → (j ≤ i) × (i < j + k) × (get_or h.heard i 0 + 60000 ≤ t)
unfolding lapses_from
stale t j zero h i m = absurd (Memᴰ.not-nil m)
stale {mc} t j (suc k) h i m = elim (stale_by i j (is_silent t h j) (lapses_from t (j + 1) k h) m) [
  | inl e ↦ (let e0 = e.0 in let a = (and_parts (ltb 0 (mc.in_hand j h.table)) (leb 60000 (t - get_or h.heard j 0)) e.1).1 in let b = leb-true 60000 (t - get_or h.heard j 0) a in let c : get_or h.heard i 0 ≡ get_or h.heard j 0 = ap (λ y. get_or h.heard y 0) e0 in (omega arith, omega arith, omega arith))
  | inr m' ↦ (let y = stale t (j + 1) k h i m' in let y0 = y.0 in let y1 = y.1 in (omega arith, omega arith, y.2))
]

no_lapse : {mc : Machine} (j t : ℕ) (x : Msg) (b : Bool) (h : House mc) → LapsesNobody (house_from_by j x t b h).does
unfolding house_from_by
no_lapse j t x true h = (q_hears (set h.heard j t) j x (hearing j t h) refl).1
no_lapse j t x false h = tt

stale_turn : {mc : Machine} (x : Comes Msg) (t : ℕ) (h : House mc) (i : ℕ) → Memᴰ (Lapse i) (house_turn x t h).does → (0 < i) × (i < 64) × (get_or h.heard i 0 + 60000 ≤ t)
unfolding house_turn
stale_turn (From j x) t h i m = absurd (not_lapsed _ i (no_lapse j t x _ h) m)
stale_turn (Ask k c) t h i m = absurd (Memᴰ.not-nil m)
stale_turn Beat t h i m = let y = stale t 1 63 h i m in let y0 = y.0 in let y1 = y.1 in (omega arith, omega arith, y.2)

pub lapses_rightly : (mc : Machine) → Lawful mc → (z : Settings) → LapsesRightly (asking mc z)
unfolding mind_turn
lapses_rightly mc law z clock clocks all n a b c es w g i m x e k =
    let v = inv mc law z clock clocks g (omega arith) in
    let em = is_house v.h m (w.who 0) e v.house_is in
    let hv : HeardMind (house v.h) w.heard = subst (λ y. HeardStand y w.heard) (e ∙ ap there em) (all_heard mc law z clock clocks g (omega arith)) in
    let y = stale_turn x (clock 0 w.now) v.h i (subst (λ u. Memᴰ (Lapse i) (mind_turn z x (clock 0 w.now) u).does) em k) in
    let hi = hv i y.0 y.1 in
    let y2 = y.2 in
    omega arith

-- NOT UNTIL MONDAY

-- so much time goes by
pub record Waited (mc : Machine) (z : Settings) (clock : ℕ → ℕ → ℕ) (all me n turns : ℕ) (fs es : List Seen) (w w1 : World (Mind mc) Msg) (k : ℕ) : Type 0 where
  pub v : World (Mind mc) Msg
  pub between : Between (asking mc z) clock me w turns fs v
  pub goes : Goes (asking mc z) clock all (n + k) es v
  pub now' : v.now ≡ w1.now + k
  pub who' : v.who ≡ w1.who
  pub letters' : v.letters ≡ w1.letters
  pub waits' : v.waits ≡ w1.waits

pub waited : (mc : Machine) (z : Settings) (clock : ℕ → ℕ → ℕ) (all me n turns : ℕ) (fs es : List Seen) (w w1 : World (Mind mc) Msg) → Between (asking mc z) clock me w turns fs w1 → Goes (asking mc z) clock all n es w1 → (k : ℕ) → Waited mc z clock all me n turns fs es w w1 k
waited mc z clock all me n turns fs es w w1 b g zero = record { v = w1; between = b; goes = subst (λ m. Goes (asking mc z) clock all m es w1) (omega arith) g; now' = omega arith; who' = refl; letters' = refl; waits' = refl }
waited mc z clock all me n turns fs es w w1 b g (suc k) =
    let y = waited mc z clock all me n turns fs es w w1 b g k in
    record { v = later y.v; between = D.Between.time y.between; goes = subst (λ m. Goes (asking mc z) clock all m es (later y.v)) (omega arith) (time y.goes); now' = (let a = y.now' in omega arith); who' = y.who'; letters' = y.letters'; waits' = y.waits' }

-- hands after lapses: nobody has more than before, and who was silent has nothing
module _ {mc : Machine} (law : Lawful mc) (t : ℕ) (h : House mc) (old : (i : ℕ) → leb 60000 (t - get_or h.heard i 0) ≡ true) where
  lapse_less : (i : ℕ) (b : Bool) (x : HouseTurn mc) (j : ℕ) → mc.in_hand j (lapse_by i b x).house.table ≤ mc.in_hand j x.house.table
  unfolding lapse_by
  lapse_less i true x j = law.leaves_less i j x.house.table
  lapse_less i false x j = omega arith

  lapses_less : (i k j : ℕ) → mc.in_hand j (lapses_from t i k h).house.table ≤ mc.in_hand j h.table
  unfolding lapses_from
  lapses_less i zero j = omega arith
  lapses_less i (suc k) j = let a = lapse_less i (is_silent t h i) (lapses_from t (i + 1) k h) j in let b = lapses_less (i + 1) k j in omega arith

  lapse_free : (i : ℕ) (b : Bool) (x : HouseTurn mc) → is_silent t h i ≡ b → mc.in_hand i x.house.table ≤ mc.in_hand i h.table → mc.in_hand i (lapse_by i b x).house.table ≡ 0
  unfolding lapse_by
  lapse_free i true x e l = law.leaves_empty i x.house.table
  lapse_free i false x e l = go (and_cases (ltb 0 (mc.in_hand i h.table)) (leb 60000 (t - get_or h.heard i 0)) e)
    where
      go : (ltb 0 (mc.in_hand i h.table) ≡ false) ⊎ (leb 60000 (t - get_or h.heard i 0) ≡ false) → mc.in_hand i x.house.table ≡ 0
      go (inl a) = let b = ltb-false 0 (mc.in_hand i h.table) a in omega arith
      go (inr a) = absurd (both_ways (leb 60000 (t - get_or h.heard i 0)) a (old i))

  lapses_free : (i k j : ℕ) → i ≤ j → j < i + k → mc.in_hand j (lapses_from t i k h).house.table ≡ 0
  unfolding lapses_from
  lapses_free i zero j l u = absurd (omega arith)
  lapses_free i (suc k) j l u = go (λ l' u'. lapses_free (i + 1) k j l' u') (cases_eq j i)
    where
      go : ((i + 1) ≤ j → j < (i + 1) + k → mc.in_hand j (lapses_from t (i + 1) k h).house.table ≡ 0) → (j ≡ i) ⊎ (j ≡ i → ⊥) → mc.in_hand j (lapse_by i (is_silent t h i) (lapses_from t (i + 1) k h)).house.table ≡ 0
      go ih (inl e) = subst (λ b. mc.in_hand b (lapse_by i (is_silent t h i) (lapses_from t (i + 1) k h)).house.table ≡ 0) (sym e) (lapse_free i (is_silent t h i) (lapses_from t (i + 1) k h) refl (lapses_less (i + 1) k i))
      go ih (inr e) = let a = lapse_less i (is_silent t h i) (lapses_from t (i + 1) k h) j in let b = ih (omega arith) (omega arith) in omega arith

module _ (mc : Machine) (law : Lawful mc) (z : Settings) (clock : ℕ → ℕ → ℕ) (clocks : Clocks clock) (all n : ℕ) (some' : 2 ≤ all) (small : n < 72057594037927936) (es : List Seen) (w : World (Mind mc) Msg) (g : Goes (asking mc z) clock all n es w) where
  -- the house is there
  record Awake : Type 0 where
    w1 : World (Mind mc) Msg
    turns : ℕ
    few : turns ≤ 1
    between : Between (asking mc z) clock 0 w turns [] w1
    steps : ℕ
    steps' : steps ≤ n + 1
    goes : Goes (asking mc z) clock all steps es w1
    now' : w1.now ≡ w.now
    h : House mc
    house_is : w1.who 0 ≡ there (house h)

  awake : (h : House mc) → HouseIs h (w.who 0) → Awake
  unfolding mind_goes_on
  awake h (inl e) = record { w1 = w; turns = 0; few = omega arith; between = stay; steps = n; steps' = omega arith; goes = g; now' = refl; h = h; house_is = e }
  awake h (inr e) = record { w1 = lit (asking mc z) clock (house h) w; turns = 1; few = omega arith; between = light (house h) stay e; steps = suc n; steps' = omega arith; goes = lights (house h) g e; now' = refl; h = house_goes_on (clock 0 w.now) h; house_is = at_same 0 (there (mind_goes_on (clock 0 w.now) (house h))) w.who }

  monday : Within (asking mc z) clock 0 w (λ fs v. SeenAtTable mc (fs ++ es) (λ s. (i : ℕ) → mc.in_hand i s ≡ 0))
  unfolding mind_turn house_turn
  monday = (
    suc a.turns,
    tells 0 tn.does ++ [],
    v2,
    beat 0 (house a.h) (inl refl) q.between there2,
    (let b = q.now' in let c = a.now' in omega arith),
    (let b = a.few in omega arith),
    subst (λ y. SeenAtTable mc y (λ s. (i : ℕ) → mc.in_hand i s ≡ 0)) (ap (λ y. y ++ es) (sym (append-nil (tells 0 tn.does)))) (seen_at_table mc law z clock clocks v2 (tells 0 tn.does ++ es) (seen_bytes mc z clock goes2) v3 (λ s. (i : ℕ) → mc.in_hand i s ≡ 0) empty),
  )
    where
      a : Awake
      a = let v0 = inv mc law z clock clocks g (omega arith) in awake v0.h v0.house_is

      q : Waited mc z clock all 0 a.steps a.turns [] es w a.w1 61000
      q = waited mc z clock all 0 a.steps a.turns [] es w a.w1 a.between a.goes 61000

      t : ℕ
      t = clock 0 q.v.now

      tn : Turn mc
      tn = mind_turn z Beat t (house a.h)

      there2 : q.v.who 0 ≡ there (house a.h)
      there2 = ap (λ (f : ℕ → Stand (Mind mc)). f 0) q.who' ∙ a.house_is

      v2 : World (Mind mc) Msg
      v2 = turned (asking mc z) 0 tn q.v

      goes2 : Goes (asking mc z) clock all (suc (a.steps + 61000)) (tells 0 tn.does ++ es) v2
      goes2 = beats 0 (house a.h) (omega arith) q.goes there2

      small2 : suc (a.steps + 61000) < limit
      small2 = let b = a.steps' in omega arith

      v3 : InvOf v2 (tells 0 tn.does ++ es)
      v3 = inv mc law z clock clocks goes2 small2

      v1 : InvOf q.v es
      v1 = inv mc law z clock clocks q.goes (let b = a.steps' in omega arith)

      h3 : House mc
      h3 = (lapses_from t 1 63 a.h).house

      same3 : v3.h ≡ h3
      same3 = let e = is_house v3.h (house h3) (v2.who 0) (at_same 0 (there (house h3)) q.v.who) v3.house_is in cc

      same1 : v1.h ≡ a.h
      same1 = let e = is_house v1.h (house a.h) (q.v.who 0) there2 v1.house_is in cc

      facts1 : HouseFacts a.steps (clock 0 a.w1.now) a.h
      facts1 = subst (λ s. Facts a.steps (clock 0 a.w1.now) s) a.house_is (all_facts mc law z clock clocks a.goes 0)

      old : (i : ℕ) → leb 60000 (t - get_or a.h.heard i 0) ≡ true
      old i =
          let b = facts1.heard' i in
          let c = clocks.quick 0 a.w1.now (a.w1.now + 61000) (omega arith) in
          let d : t ≡ clock 0 (a.w1.now + 61000) = ap (clock 0) q.now' in
          le-leb 60000 (t - get_or a.h.heard i 0) (omega arith)

      free1 : (i : ℕ) → (peer_of a.h i).session ≡ 0 → mc.in_hand i a.h.table ≡ 0
      free1 i e = subst (λ y. mc.in_hand i y.table ≡ 0) same1 (v1.core'.free i (ap (λ (y : House mc). (peer_of y i).session) same1 ∙ e))

      outside : (i : ℕ) → (peer_of a.h i).session ≡ 0 → mc.in_hand i h3.table ≡ 0
      outside i e = let b = free1 i e in let c = lapses_less law t a.h old 1 63 i in omega arith

      by_place : (i : ℕ) → (0 < i) ⊎ (i ≤ 0) → (i < 64) ⊎ (64 ≤ i) → mc.in_hand i h3.table ≡ 0
      by_place i (inl p) (inl s) = lapses_free law t a.h old 1 63 i (omega arith) (omega arith)
      by_place i (inl p) (inr s) = outside i (ap (λ (p' : Peer). p'.session) (get_or-eq_default a.h.peers nobody (let l = facts1.peers64 in omega arith)))
      by_place i (inr p) s = outside i (let o : i ≡ 0 = omega arith in ap (λ b. (peer_of a.h b).session) o ∙ facts1.no_self)

      empty : (i : ℕ) → mc.in_hand i v3.h.table ≡ 0
      empty i = subst (λ y. mc.in_hand i y.table ≡ 0) (sym same3) (by_place i (cases_lt 0 i) (cases_lt i 64))

pub not_until_monday : (mc : Machine) → Lawful mc → (z : Settings) → NotUntilMonday mc (asking mc z)
not_until_monday mc law z clock clocks all n a b c es w g = monday mc law z clock clocks all n a c es w g
