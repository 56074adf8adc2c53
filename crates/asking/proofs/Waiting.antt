-- What waits at a desk is what its slots wait for.
use Rattle.std.proofs.Common.{◌≡◌, ℕ, ◌+◌, ◌<◌, Bool, true, false, cond, not, T, eqb, ◌⊎◌, List, [], ◌∷◌, map, get_or, set, sym, refl, ap, ◌∙◌, subst, inl, inr, arith, T_not}
use mathlib.Core.List.Memᴰ
use mathlib.Core.List.{Memᴰ}
use Rattle.std.proofs.lemmas.Bool.{ne_eqb, cond-false}
use Rattle.promise.specs.Bytes.{Bytes}
use Rattle.promise.specs.Machine.{Machine}
use Rattle.promise.specs.Desks.{Comes, From, Ask, Beat, Does, To, Tell, Lapse, Letter, Seen, is_used, at, Stand, gone, dark, there, World, Clocks, Waits, Goes, first, time, hears, garbled, asked, beats, falls, comes, lights, settled, away_from, without}
use Rattle.codec.specs.Messages.{Msg, Hello, Welcome, Request, Response, Alive}
use Rattle.asking.specs.Lawful.{Lawful}
use Rattle.asking.specs.House.{next64}
use Rattle.asking.specs.Desk.{Slot, Idle, Waiting, Desk, DeskTurn, Free, full, free, first_idle, none_waits, say_if, requests, sent_now, unsent_now, not_sent, is_due, first_said, call_by, shortened, adopts_by, welcome_by, seq_by, slot_by, response_by, desk_hears, desk_from_by, alive_by, tick_by, desk_begins}
use Rattle.asking.specs.Code.{Settings, Mind, desk, Turn, desk_turn, mind_turn, mind_begins, mind_goes_on, asking}
use Rattle.asking.proofs.View.{AbsSlot, idle, waiting, abs_slot, slots_of, abs_house, AbsHouse}
use Rattle.asking.proofs.Base.{at_ind, at_same, at_other, at_cases}
use Rattle.asking.proofs.Arrays.{get_d_at, slots_map, waits_inside, first_idle_0, replicate_same}
use Rattle.asking.proofs.Inv.{Ghost, Real, Core, DeskOk}
use Rattle.asking.proofs.AtHouse.{limit}
use Rattle.asking.proofs.AtDesk.{a_sent, a_unsent_now, adopts_slots}
use Rattle.asking.proofs.OneTable.{Inv, inv, is_desk_lem}
use Rattle.asking.proofs.Shortened.{short, short_used}
use Rattle.asking.proofs.Counting.{W, in_without, without_in, in_away, away_in, in_settled, settled_in}

pub record WaitsOk (i : ℕ) (f : ℕ → AbsSlot) (ws : List Waits) : Type 0 where
  pub slot_in : (j q k : ℕ) (x : Bytes) → f j ≡ waiting q k x → Memᴰ (W i k) ws
  pub in_slot : (k : ℕ) → Memᴰ (W i k) ws → (j : ℕ) × (q : ℕ) × (x : Bytes) × (f j ≡ waiting q k x)

abbrev pub WaitsIs : {mc : Machine} → ℕ → Stand (Mind mc) → List Waits → Type 0
WaitsIs i x ws = ((x ≡ gone) × ((k : ℕ) → Memᴰ (W i k) ws → ⊥)) ⊎ ((d : Desk) × (x ≡ there (desk d)) × WaitsOk i (slots_of d.slots) ws)

-- only the members count
pub waits_same : {mc : Machine} (i : ℕ) (x : Stand (Mind mc)) (ws ws' : List Waits) → ((k : ℕ) → Memᴰ (W i k) ws → Memᴰ (W i k) ws') → ((k : ℕ) → Memᴰ (W i k) ws' → Memᴰ (W i k) ws) → WaitsIs i x ws → WaitsIs i x ws'
waits_same i x ws ws' f f' (inl a) = inl (a.0, λ k m. a.1 k (f' k m))
waits_same i x ws ws' f f' (inr a) = inr (a.0, a.1, record { slot_in = λ j q k y w. f k (a.2.slot_in j q k y w); in_slot = λ k m. a.2.in_slot k (f' k m) })

-- NO TELLING
abbrev pub SendsOnly : List (Does Msg) → Type 0
SendsOnly [] = Unit {0}
SendsOnly (To j m ∷ ds) = SendsOnly ds
SendsOnly (Tell k r ∷ ds) = ⊥
SendsOnly (Lapse j ∷ ds) = ⊥

pub sends_settled : (i : ℕ) (ds : List (Does Msg)) (ws : List Waits) → SendsOnly ds → settled i ds ws ≡ ws
unfolding settled
sends_settled i [] ws h = refl
sends_settled i (To j x ∷ ds) ws h = sends_settled i ds ws h
sends_settled i (Tell k r ∷ ds) ws h = absurd h
sends_settled i (Lapse j ∷ ds) ws h = absurd h

pub sends_not_told : (ds : List (Does Msg)) (k : ℕ) (r : Bytes) → SendsOnly ds → Memᴰ (Tell k r) ds → ⊥
sends_not_told [] k r h m = Memᴰ.not-nil m
sends_not_told (To j x ∷ ds) k r h m = elim (Memᴰ.cases_cons m) [ inl e ↦ (let z : ◌≡◌ {A = ℕ} 0 1 = cc in omega arith) | inr m' ↦ sends_not_told ds k r h m' ]
sends_not_told (Tell k' r' ∷ ds) k r h m = absurd h
sends_not_told (Lapse j ∷ ds) k r h m = absurd h

sends_say : (b : Bool) (m : Msg) (ds : List (Does Msg)) → SendsOnly ds → SendsOnly (say_if b (To 0 m) ds)
unfolding say_if
sends_say true m ds h = h
sends_say false m ds h = h

pub sends_requests : (t : Bool → ℕ → Bool) (s j : ℕ) (xs : List Slot) → SendsOnly (requests t s j xs)
unfolding requests
sends_requests t s j [] = tt
sends_requests t s j (Idle q ∷ xs) = sends_requests t s (j + 1) xs
sends_requests t s j (Waiting q k c b f l ∷ xs) = sends_say (t b l) (Request s j q c) (requests t s (j + 1) xs) (sends_requests t s (j + 1) xs)

pub sends_first : (d : Desk) (j q : ℕ) (x : Bytes) (a b : Bool) → SendsOnly (first_said d j q x a b)
unfolding first_said
sends_first d j q x false b = tt
sends_first d j q x true true = tt
sends_first d j q x true false = tt

-- A DESK'S TURNS

abbrev pub DeskWaits : ℕ → DeskTurn → List Waits → Type 0
DeskWaits i t ws = WaitsOk i (slots_of t.desk.slots) ws

-- each number waits once
abbrev pub Once : (ℕ → AbsSlot) → Type 0
Once f = (j q k : ℕ) (x : Bytes) (j' q' : ℕ) (x' : Bytes) → f j ≡ waiting q k x → f j' ≡ waiting q' k x' → j ≡ j'

module _ (i : ℕ) (d : Desk) (ws : List Waits) (ok : WaitsOk i (slots_of d.slots) ws) (once : Once (slots_of d.slots)) where
  same : (xs : List Slot) (ds : List (Does Msg)) → ((j : ℕ) → slots_of xs j ≡ slots_of d.slots j) → SendsOnly ds → WaitsOk i (slots_of xs) (settled i ds ws)
  same xs ds e h = subst (λ f. WaitsOk i f (settled i ds ws)) (λ z j. sym (e j) z) (subst (λ y. WaitsOk i (slots_of d.slots) y) (sym (sends_settled i ds ws h)) ok)

  w_seq : (j q p k : ℕ) (x r : Bytes) → slots_of d.slots j ≡ waiting p k x → (b : Bool) → DeskWaits i (seq_by j q k r b d) (settled i (seq_by j q k r b d).does ws)
  unfolding seq_by settled
  w_seq j q p k x r w false = same d.slots [] (λ _. refl) tt
  w_seq j q p k x r w true = subst (λ f. WaitsOk i f (without i k ws)) (λ z j'. sym (get_d_at abs_slot d.slots j (Idle q) (Idle 0) (waits_inside d.slots j p k x w) j') z) (record { slot_in = slot_in_lem; in_slot = in_slot_lem })
    where
      f : ℕ → AbsSlot
      f = slots_of d.slots

      f' : ℕ → AbsSlot
      f' = at j (idle q) f

      slot_in_lem : (j' q' k' : ℕ) (x' : Bytes) → f' j' ≡ waiting q' k' x' → Memᴰ (W i k') (without i k ws)
      slot_in_lem j' q' k' x' e = go (at_cases j (idle q) f j')
        where
          go : ((j' ≡ j) × (f' j' ≡ idle q)) ⊎ ((j' ≡ j → ⊥) × (f' j' ≡ f j')) → Memᴰ (W i k') (without i k ws)
          go (inl a) = absurd (let a1 = a.1 in let z : ◌≡◌ {A = ℕ} 0 1 = cc in omega arith)
          go (inr a) = let e' : f j' ≡ waiting q' k' x' = sym a.1 ∙ e in without_in i k ws (W i k') (ok.slot_in j' q' k' x' e') (λ _ ek. a.0 (once j' q' k x' j p x (e' ∙ ap (λ z. waiting q' z x') ek) w))

      in_slot_lem : (k' : ℕ) → Memᴰ (W i k') (without i k ws) → (j' : ℕ) × (q' : ℕ) × (x' : Bytes) × (f' j' ≡ waiting q' k' x')
      in_slot_lem k' m =
          let z = in_without i k ws (W i k') m in
          let y = ok.in_slot k' z.0 in
          let w' = y.3 in
          (y.0, y.1, y.2, at_other j (idle q) f y.0 (λ e. z.1 refl (let e1 : f y.0 ≡ f j = ap f e in cc)) ∙ w')

  w_slot : (j q : ℕ) (r : Bytes) (y : Slot) → get_or d.slots j (Idle 0) ≡ y → DeskWaits i (slot_by j q r y d) (settled i (slot_by j q r y d).does ws)
  unfolding slot_by
  w_slot j q r (Idle p) e = same d.slots [] (λ _. refl) tt
  w_slot j q r (Waiting p k x b f l) e = w_seq j q p k x r (ap abs_slot e) (eqb p q)

  w_response : (j q : ℕ) (r : Bytes) (b : Bool) → DeskWaits i (response_by j q r b d) (settled i (response_by j q r b d).does ws)
  unfolding response_by
  w_response j q r true = w_slot j q r (get_or d.slots j (Idle 0)) refl
  w_response j q r false = same d.slots [] (λ _. refl) tt

  w_welcome : (t s : ℕ) (b : Bool) → DeskWaits i (welcome_by t s b d) (settled i (welcome_by t s b d).does ws)
  unfolding welcome_by
  w_welcome t s true =
      let d1 : Desk = adopts_by s (eqb s d.session) d in
      same (map (sent_now not_sent t) d1.slots) (requests not_sent d1.session 0 d1.slots) (λ j. slots_map (sent_now not_sent t) (a_sent not_sent t) d1.slots j ∙ adopts_slots s (eqb s d.session) d j) (sends_requests not_sent d1.session 0 d1.slots)
  w_welcome t s false = same d.slots [] (λ _. refl) tt

  w_alive : (t : ℕ) (b : Bool) → DeskWaits i (alive_by t b d) (settled i (alive_by t b d).does ws)
  unfolding alive_by
  w_alive t true = same d.slots (To 0 (Alive d.session) ∷ []) (λ _. refl) tt
  w_alive t false = same d.slots [] (λ _. refl) tt

  w_tick : (r t : ℕ) (a b : Bool) → DeskWaits i (tick_by r t a b d) (settled i (tick_by r t a b d).does ws)
  unfolding tick_by
  w_tick r t false b = w_alive t _
  w_tick r t true true = same (map (sent_now (is_due r t) t) d.slots) (requests (is_due r t) d.session 0 d.slots) (slots_map (sent_now (is_due r t) t) (a_sent (is_due r t) t) d.slots) (sends_requests (is_due r t) d.session 0 d.slots)
  w_tick r t true false = same (map (unsent_now t) d.slots) (To 0 (Hello d.nonce) ∷ []) (slots_map (unsent_now t) (a_unsent_now t) d.slots) tt

  w_hears : (t : ℕ) (m : Msg) → DeskWaits i (desk_hears t m d) (settled i (desk_hears t m d).does ws)
  unfolding desk_hears
  w_hears t (Hello c) = same d.slots [] (λ _. refl) tt
  w_hears t (Welcome c s) = w_welcome t s _
  w_hears t (Request s j q x) = same d.slots [] (λ _. refl) tt
  w_hears t (Response s j q gr r) = w_response j q r _
  w_hears t (Alive s) = same d.slots [] (λ _. refl) tt

  w_from_by : (t : ℕ) (m : Msg) (b : Bool) → DeskWaits i (desk_from_by t m b d) (settled i (desk_from_by t m b d).does ws)
  unfolding desk_from_by
  w_from_by t m true = w_hears t m
  w_from_by t m false = same d.slots [] (λ _. refl) tt

  pub w_from : (z : Settings) (t by : ℕ) (m : Msg) → DeskWaits i (desk_turn z (From by m) t d) (settled i (desk_turn z (From by m) t d).does ws)
  unfolding desk_turn
  w_from z t by m = w_from_by t m _

  pub w_beats : (z : Settings) (t : ℕ) → DeskWaits i (desk_turn z Beat t d) (settled i (desk_turn z Beat t d).does ws)
  unfolding desk_turn
  w_beats z t = w_tick z.retry t _ _

  w_free : (grabs : Bytes → Bool) (t k : ℕ) (x0 : Bytes) → ((j q : ℕ) (x' : Bytes) → slots_of d.slots j ≡ waiting q k x' → ⊥) → (y : Free) → first_idle 0 d.slots ≡ y → DeskWaits i (call_by grabs t k x0 y d) (settled i (call_by grabs t k x0 y d).does (W i k ∷ ws))
  unfolding call_by settled
  w_free grabs t k x0 new full e =
      record {
        slot_in = λ j q k' x' w. without_in i k (W i k ∷ ws) (W i k') (Memᴰ.tail (ok.slot_in j q k' x' w)) (λ _ ek. new j q x' (w ∙ ap (λ z. waiting q z x') ek));
        in_slot = λ k' m. let z = in_without i k (W i k ∷ ws) (W i k') m in elim (Memᴰ.cases_cons z.0) [ inl p ↦ absurd (z.1 refl (ap (λ (a : Waits). a.number) p)) | inr m' ↦ ok.in_slot k' m' ];
      }
  w_free grabs t k x0 new (free j q) e =
      subst (λ y. WaitsOk i (slots_of (set d.slots j s')) y) (sym (sends_settled i (first_said d j (next64 q) (shortened x0) (eqb d.session 0) (none_waits d.slots)) (W i k ∷ ws) (sends_first d j (next64 q) (shortened x0) (eqb d.session 0) (none_waits d.slots))))
      (subst (λ f. WaitsOk i f (W i k ∷ ws)) (λ z j'. sym (get_d_at abs_slot d.slots j s' (Idle 0) (first_idle_0 d.slots j q e).inside j') z) (record { slot_in = slot_in_lem; in_slot = in_slot_lem }))
    where
      s' : Slot
      s' = Waiting (next64 q) k (shortened x0) (not (eqb d.session 0)) t t

      y' : AbsSlot
      y' = abs_slot s'

      f : ℕ → AbsSlot
      f = slots_of d.slots

      f' : ℕ → AbsSlot
      f' = at j y' f

      slot_in_lem : (j' q' k' : ℕ) (x' : Bytes) → f' j' ≡ waiting q' k' x' → Memᴰ (W i k') (W i k ∷ ws)
      slot_in_lem j' q' k' x' e' = go (at_cases j y' f j')
        where
          go : ((j' ≡ j) × (f' j' ≡ y')) ⊎ ((j' ≡ j → ⊥) × (f' j' ≡ f j')) → Memᴰ (W i k') (W i k ∷ ws)
          go (inl a) = let a1 : f' j' ≡ waiting (next64 q) k (shortened x0) = a.1 in let ek : k' ≡ k = cc in Memᴰ.head (λ z. W i (ek z))
          go (inr a) = Memᴰ.tail (ok.slot_in j' q' k' x' (sym a.1 ∙ e'))

      in_slot_lem : (k' : ℕ) → Memᴰ (W i k') (W i k ∷ ws) → (j' : ℕ) × (q' : ℕ) × (x' : Bytes) × (f' j' ≡ waiting q' k' x')
      in_slot_lem k' m = go (Memᴰ.cases_cons m)
        where
          idle' : f j ≡ idle q
          idle' = ap abs_slot (first_idle_0 d.slots j q e).idle'

          go : (W i k' ≡ W i k) ⊎ Memᴰ (W i k') ws → (j' : ℕ) × (q' : ℕ) × (x' : Bytes) × (f' j' ≡ waiting q' k' x')
          go (inl p) = (j, next64 q, shortened x0, at_same j y' f ∙ ap (λ (z : Waits). waiting (next64 q) z.number (shortened x0)) (sym p))
          go (inr m') =
              let y = ok.in_slot k' m' in
              let w' = y.3 in
              (y.0, y.1, y.2, at_other j y' f y.0 (λ e'. let e1 : f y.0 ≡ f j = ap f e' in let i' = idle' in let z : ◌≡◌ {A = ℕ} 0 1 = cc in omega arith) ∙ w')

  pub w_asks : (z : Settings) (t k : ℕ) (x : Bytes) → ((j q : ℕ) (x' : Bytes) → slots_of d.slots j ≡ waiting q k x' → ⊥) → DeskWaits i (desk_turn z (Ask k x) t d) (settled i (desk_turn z (Ask k x) t d).does (W i k ∷ ws))
  unfolding desk_turn
  w_asks z t k x new = w_free z.grabs t k x new (first_idle 0 d.slots) refl

-- from what is known of a desk
real_of : (mc : Machine) (g : Ghost) (h : AbsHouse mc) (drawn : List ℕ) (letters : List (Letter Msg)) (es : List Seen) → Core mc g h drawn letters es → (i : ℕ) (d : Desk) → DeskOk mc g h i d → Real drawn d.nonce × (g.desk d.nonce ≡ i)
real_of mc g h drawn letters es v i d y =
    let l : 0 < g.alive i = (let a = y.me in let p = y.pos in omega arith) in
    let z = v.births.alive_is i l in
    (subst (λ c. Real drawn c) y.me z.0, ap g.desk (sym y.me) ∙ z.1)

pub once_of : (mc : Machine) (g : Ghost) (h : AbsHouse mc) (drawn : List ℕ) (letters : List (Letter Msg)) (es : List Seen) → Core mc g h drawn letters es → (i : ℕ) (d : Desk) → DeskOk mc g h i d → Once (slots_of d.slots)
once_of mc g h drawn letters es v i d y j q k x j' q' x' w w' = v.numbers.once d.nonce j q k x j' q' x' (real_of mc g h drawn letters es v i d y).0 (sym (y.slots' j) ∙ w) (sym (y.slots' j') ∙ w')

new_of : (mc : Machine) (g : Ghost) (h : AbsHouse mc) (drawn : List ℕ) (letters : List (Letter Msg)) (es : List Seen) → Core mc g h drawn letters es → (i : ℕ) (d : Desk) → DeskOk mc g h i d → (k : ℕ) → T (not (is_used i k es)) → (j q : ℕ) (x : Bytes) → slots_of d.slots j ≡ waiting q k x → ⊥
new_of mc g h drawn letters es v i d y k u j q x w = let z = real_of mc g h drawn letters es v i d y in T_not (is_used i k es) u (subst (λ b. T (is_used b k es)) z.1 (v.numbers.used d.nonce j q k x z.0 (sym (y.slots' j) ∙ w)))

-- ALL DESKS

abbrev pub AllWait : {mc : Machine} → (ℕ → Stand (Mind mc)) → List Waits → Type 0
AllWait who ws = (i : ℕ) → 0 < i → WaitsIs i (who i) ws

pub waits_of : {mc : Machine} (i : ℕ) (d : Desk) (x : Stand (Mind mc)) (ws : List Waits) → x ≡ there (desk d) → WaitsIs i x ws → WaitsOk i (slots_of d.slots) ws
waits_of i d x ws e (inl a) = absurd (let a0 = a.0 in let z : ◌≡◌ {A = ℕ} 0 1 = cc in omega arith)
waits_of i d x ws e (inr a) = let a1 = a.1 in let p : a.0 ≡ d = cc in subst (λ z. WaitsOk i (slots_of z.slots) ws) p a.2

module _ (mc : Machine) (z : Settings) (drawn : List ℕ) (letters : List (Letter Msg)) (who : ℕ → Stand (Mind mc)) (es : List Seen) (v : Inv mc drawn letters who es) (ws : List Waits) (aw : AllWait who ws) (t : ℕ) where
  -- after a turn at i
  w_turned : (i : ℕ) (tn : Turn mc) (ws1 : List Waits) → ((b k : ℕ) → (b ≡ i → ⊥) → Memᴰ (W b k) ws → Memᴰ (W b k) ws1) → ((b k : ℕ) → (b ≡ i → ⊥) → Memᴰ (W b k) ws1 → Memᴰ (W b k) ws) → (0 < i → (d : Desk) × (tn.mind ≡ desk d) × WaitsOk i (slots_of d.slots) (settled i tn.does ws1)) → AllWait (at i (there tn.mind) who) (settled i tn.does ws1)
  w_turned i tn ws1 f f' y = at_ind (λ b x. 0 < b → WaitsIs b x (settled i tn.does ws1)) i (there tn.mind) who (λ l. let u = y l in inr (u.0, ap there u.1, u.2)) (λ b n l. waits_same b (who b) ws (settled i tn.does ws1) (λ k m. settled_in i tn.does ws1 (W b k) n (f b k n m)) (λ k m. f' b k n (in_settled i tn.does ws1 (W b k) m)) (aw b l))

  -- a turn of a desk
  w_desk : (i : ℕ) (m : Mind mc) (x : Comes Msg) (ws1 : List Waits) → who i ≡ there m → ((d : Desk) → WaitsOk i (slots_of d.slots) ws → DeskOk mc v.g (abs_house v.h) i d → DeskWaits i (desk_turn z x t d) (settled i (desk_turn z x t d).does ws1)) → 0 < i → (d : Desk) × ((mind_turn z x t m).mind ≡ desk d) × WaitsOk i (slots_of d.slots) (settled i (mind_turn z x t m).does ws1)
  unfolding mind_turn
  w_desk i m x ws1 e f p =
      let y = is_desk_lem v.g (abs_house v.h) i m (who i) e (v.desks i p) in
      let d = y.0 in
      ((desk_turn z x t d).desk, ap (λ u. (mind_turn z x t u).mind) y.1, subst (λ u. WaitsOk i (slots_of (desk_turn z x t d).desk.slots) (settled i (mind_turn z x t u).does ws1)) (sym y.1) (f d (waits_of i d (who i) ws (e ∙ ap there y.1) (aw i p)) y.2))

  once' : (i : ℕ) (d : Desk) → DeskOk mc v.g (abs_house v.h) i d → Once (slots_of d.slots)
  once' i d y = once_of mc v.g (abs_house v.h) drawn letters es v.core' i d y

  w_heard : (i : ℕ) (m : Mind mc) (by : ℕ) (x : Msg) → who i ≡ there m → AllWait (at i (there (mind_turn z (From by x) t m).mind) who) (settled i (mind_turn z (From by x) t m).does ws)
  w_heard i m by x e = w_turned i (mind_turn z (From by x) t m) ws (λ b k _ a. a) (λ b k _ a. a) (w_desk i m (From by x) ws e (λ d ok y. w_from i d ws ok (once' i d y) z t by x))

  w_beaten : (i : ℕ) (m : Mind mc) → who i ≡ there m → AllWait (at i (there (mind_turn z Beat t m).mind) who) (settled i (mind_turn z Beat t m).does ws)
  w_beaten i m e = w_turned i (mind_turn z Beat t m) ws (λ b k _ a. a) (λ b k _ a. a) (w_desk i m Beat ws e (λ d ok y. w_beats i d ws ok (once' i d y) z t))

  w_asked : (i k : ℕ) (x : Bytes) (m : Mind mc) → who i ≡ there m → T (not (is_used i k es)) → AllWait (at i (there (mind_turn z (Ask k x) t m).mind) who) (settled i (mind_turn z (Ask k x) t m).does (W i k ∷ ws))
  w_asked i k x m e u = w_turned i (mind_turn z (Ask k x) t m) (W i k ∷ ws) (λ b k' _ a. Memᴰ.tail a) (λ b k' n a. elim (Memᴰ.cases_cons a) [ inl p ↦ absurd (n (ap (λ (y : Waits). y.desk) p)) | inr a' ↦ a' ]) (w_desk i m (Ask k x) (W i k ∷ ws) e (λ d ok y. w_asks i d ws ok (once' i d y) z t k x (new_of mc v.g (abs_house v.h) drawn letters es v.core' i d y k u)))

  w_fallen : (i : ℕ) (m : Mind mc) → AllWait (at i (cond (eqb i 0) (dark m) gone) who) (away_from i ws)
  w_fallen i m = at_ind (λ b x. 0 < b → WaitsIs b x (away_from i ws)) i (cond (eqb i 0) (dark m) gone) who (λ l. inl (cond-false (eqb i 0) (dark m) gone (ne_eqb i 0 (λ y. omega arith)), λ k a. (in_away i ws (W i k) a).1 refl)) (λ b n l. waits_same b (who b) ws (away_from i ws) (λ k a. away_in i ws (W b k) a n) (λ k a. (in_away i ws (W b k) a).0) (aw b l))

  w_lit : (m : Mind mc) → AllWait (at 0 (there m) who) ws
  w_lit m = at_ind (λ b x. 0 < b → WaitsIs b x ws) 0 (there m) who (λ l. absurd (omega arith)) (λ b n l. aw b l)

  none_yet : (i : ℕ) → who i ≡ gone → WaitsIs i (who i) ws → (k : ℕ) → Memᴰ (W i k) ws → ⊥
  none_yet i e (inl a) k m = a.1 k m
  none_yet i e (inr a) k m = let a1 = a.1 in let o : ◌≡◌ {A = ℕ} 0 1 = cc in omega arith

  w_begun : (i r : ℕ) → 0 < i → who i ≡ gone → AllWait (at i (there (mind_begins mc i r t)) who) ws
  unfolding mind_begins desk_begins
  w_begun i r p e = at_ind (λ b x. 0 < b → WaitsIs b x ws) i (there (mind_begins mc i r t)) who (λ _. inr (desk_begins r t, ap there (cond-false (eqb i 0) _ (desk (desk_begins r t)) (ne_eqb i 0 (λ y. omega arith))), record { slot_in = λ j q k x w. absurd (let w1 : idle 0 ≡ waiting q k x = sym (ap abs_slot (replicate_same 8 (Idle 0) j)) ∙ w in let o : ◌≡◌ {A = ℕ} 0 1 = cc in omega arith); in_slot = λ k m. absurd (none_yet i e (aw i p) k m) })) (λ b n l. aw b l)

module _ (mc : Machine) (law : Lawful mc) (z : Settings) (clock : ℕ → ℕ → ℕ) (clocks : Clocks clock) where
  pub all_wait : {all n : ℕ} {es : List Seen} {w : World (Mind mc) Msg} → Goes (asking mc z) clock all n es w → n < limit → AllWait w.who w.waits
  all_wait first lt = λ i p. inl (cond-false (eqb i 0) (there (mind_begins mc 0 0 (clock 0 0))) gone (ne_eqb i 0 (λ e. omega arith)), λ k m. Memᴰ.not-nil m)
  all_wait (time g) lt = all_wait g (omega arith)
  all_wait (hears {es = es} {w = w} i m l a g e n to) lt = w_heard mc z w.drawn w.letters w.who (short es) (inv mc law z clock clocks g (omega arith)) w.waits (all_wait g (omega arith)) (clock i w.now) i m l.by l.word e
  all_wait (garbled i j m x a t g e) lt = absurd t
  all_wait (asked {es = es} {w = w} i k c m p a b t g e u) lt = w_asked mc z w.drawn w.letters w.who (short es) (inv mc law z clock clocks g (omega arith)) w.waits (all_wait g (omega arith)) (clock i w.now) i k c m e (subst (λ b. T (not b)) (sym (short_used i k es)) u)
  all_wait (beats {es = es} {w = w} i m a g e) lt = w_beaten mc z w.drawn w.letters w.who (short es) (inv mc law z clock clocks g (omega arith)) w.waits (all_wait g (omega arith)) (clock i w.now) i m e
  all_wait (falls {es = es} {w = w} i m a g e) lt = w_fallen mc z w.drawn w.letters w.who (short es) (inv mc law z clock clocks g (omega arith)) w.waits (all_wait g (omega arith)) 0 i m
  all_wait (comes {es = es} {w = w} i r p a b new g e) lt = w_begun mc z w.drawn w.letters w.who (short es) (inv mc law z clock clocks g (omega arith)) w.waits (all_wait g (omega arith)) (clock i w.now) i r p e
  all_wait (lights {es = es} {w = w} m g e) lt = w_lit mc z w.drawn w.letters w.who (short es) (inv mc law z clock clocks g (omega arith)) w.waits (all_wait g (omega arith)) 0 (mind_goes_on (clock 0 w.now) m)
