-- A desk tells that eight wait only at a call, and only where eight wait.
use Rattle.std.proofs.Common.{◌≡◌, ℕ, zero, suc, ◌+◌, ◌<◌, ◌≤◌, Bool, true, false, eqb, ◌⊎◌, List, [], ◌∷◌, length, get_or, sym, refl, ap, ◌∙◌, subst, inl, inr, arith}
use mathlib.Core.List.Memᴰ
use mathlib.Core.List.{Memᴰ}
use Rattle.std.proofs.lemmas.Bool.{both_ways, cases_lt}
use Rattle.promise.specs.Bytes.{Bytes, be}
use Rattle.promise.specs.Layout.{busy, is_busy, encode_reply}
use Rattle.promise.specs.Machine.{Machine}
use Rattle.promise.specs.Desks.{Comes, From, Ask, Beat, Does, To, Tell, Lapse, Seen, there, World, Waits, Clocks, Goes, count_at}
use Rattle.codec.specs.Messages.{Msg, Hello, Welcome, Request, Response, Alive}
use Rattle.asking.specs.Lawful.{Lawful}
use Rattle.asking.specs.House.{House, HouseTurn, next64, hello_by, new_change_by, change_by, serve_by, current_by, request_by, takes_up, house_hears, house_from_by, hearing, lapse_by, lapses_from}
use Rattle.asking.specs.Desk.{Slot, Idle, Waiting, Desk, DeskTurn, Free, full, free, first_idle, none_waits, requests, not_sent, is_due, first_said, call_by, shortened, adopts_by, welcome_by, seq_by, slot_by, response_by, desk_hears, desk_from_by, alive_by, tick_by}
use Rattle.asking.specs.Code.{Settings, Mind, house_turn, desk_turn, mind_turn, asking}
use Rattle.asking.proofs.View.{AbsSlot, idle, waiting, slots_of, abs_house}
use Rattle.asking.proofs.Arrays.{full_waits}
use Rattle.asking.proofs.Facts.{DeskFacts, Facts, all_facts}
use Rattle.asking.proofs.AtHouse.{limit}
use Rattle.asking.proofs.OneTable.{InvOf, inv, is_house, is_desk_lem}
use Rattle.asking.proofs.Shortened.{short}
use Rattle.asking.proofs.Counting.{W, count_most}
use Rattle.asking.proofs.Waiting.{WaitsOk, Once, sends_not_told, sends_requests, sends_first, waits_of, once_of, all_wait}

pub busy_is : is_busy busy ≡ true
unfolding busy encode_reply be
busy_is = refl

-- THE HOUSE TELLS NOTHING

abbrev pub TellsNothing : List (Does Msg) → Type 0
TellsNothing [] = Unit {0}
TellsNothing (To j m ∷ ds) = TellsNothing ds
TellsNothing (Tell k r ∷ ds) = ⊥
TellsNothing (Lapse j ∷ ds) = TellsNothing ds

pub not_told : (ds : List (Does Msg)) (k : ℕ) (r : Bytes) → TellsNothing ds → Memᴰ (Tell k r) ds → ⊥
not_told [] k r h m = Memᴰ.not-nil m
not_told (To j x ∷ ds) k r h m = elim (Memᴰ.cases_cons m) [ inl e ↦ (let z : ◌≡◌ {A = ℕ} 0 1 = cc in omega arith) | inr m' ↦ not_told ds k r h m' ]
not_told (Tell k' r' ∷ ds) k r h m = absurd h
not_told (Lapse j ∷ ds) k r h m = elim (Memᴰ.cases_cons m) [ inl e ↦ (let z : ◌≡◌ {A = ℕ} 0 1 = cc in omega arith) | inr m' ↦ not_told ds k r h m' ]

module _ {mc : Machine} where
  m_hello : (i c : ℕ) (a b : Bool) (h : House mc) → TellsNothing (hello_by i c a b h).does
  unfolding hello_by
  m_hello i c true b h = tt
  m_hello i c false true h = tt
  m_hello i c false false h = tt

  m_change : (i s j q : ℕ) (c : Bytes) (a b : Bool) (h : House mc) → TellsNothing (change_by i s j q c a b h).does
  unfolding change_by new_change_by
  m_change i s j q c true b h = tt
  m_change i s j q c false true h = tt
  m_change i s j q c false false h = tt

  m_serve : (i s j q : ℕ) (c : Bytes) (b : Bool) (h : House mc) → TellsNothing (serve_by i s j q c b h).does
  unfolding serve_by
  m_serve i s j q c true h = tt
  m_serve i s j q c false h = m_change i s j q c _ _ h

  m_current : (i s j q : ℕ) (c : Bytes) (b : Bool) (h : House mc) → TellsNothing (current_by i s j q c b h).does
  unfolding current_by
  m_current i s j q c true h = m_serve i s j q c (mc.reads c) h
  m_current i s j q c false h = tt

  m_request : (i s j q : ℕ) (c : Bytes) (b : Bool) (h : House mc) → TellsNothing (request_by i s j q c b h).does
  unfolding request_by
  m_request i s j q c true h = m_current i s j q c _ (takes_up i s h)
  m_request i s j q c false h = tt

  m_hears : (i : ℕ) (x : Msg) (h : House mc) → TellsNothing (house_hears i x h).does
  unfolding house_hears
  m_hears i (Hello c) h = m_hello i c _ _ h
  m_hears i (Welcome c s) h = tt
  m_hears i (Request s j q c) h = m_request i s j q c _ h
  m_hears i (Response s j q gr a) h = tt
  m_hears i (Alive s) h = tt

  m_from : (i t : ℕ) (x : Msg) (b : Bool) (h : House mc) → TellsNothing (house_from_by i x t b h).does
  unfolding house_from_by
  m_from i t x true h = m_hears i x (hearing i t h)
  m_from i t x false h = tt

  m_lapse : (i : ℕ) (b : Bool) (x : HouseTurn mc) → TellsNothing x.does → TellsNothing (lapse_by i b x).does
  unfolding lapse_by
  m_lapse i true x h = h
  m_lapse i false x h = h

  m_lapses : (t i k : ℕ) (h : House mc) → TellsNothing (lapses_from t i k h).does
  unfolding lapses_from
  m_lapses t i zero h = tt
  m_lapses t i (suc k) h = m_lapse i _ (lapses_from t (i + 1) k h) (m_lapses t (i + 1) k h)

  pub house_tells_nothing : (x : Comes Msg) (t : ℕ) (h : House mc) → TellsNothing (house_turn x t h).does
  unfolding house_turn
  house_tells_nothing (From i m) t h = m_from i t m _ h
  house_tells_nothing (Ask k c) t h = tt
  house_tells_nothing Beat t h = m_lapses t 1 63 h

-- A DESK

number_of : AbsSlot → ℕ
number_of (idle q) = 0
number_of (waiting q k x) = k

eight : (i : ℕ) (d : Desk) (ws : List Waits) → WaitsOk i (slots_of d.slots) ws → Once (slots_of d.slots) → length d.slots ≡ 8 → first_idle 0 d.slots ≡ full → 8 ≤ count_at i ws
unfolding number_of
eight i d ws ok once l8 e = count_most i (λ j. number_of (slots_of d.slots j)) 8 ws in' apart'
  where
    y : (j : ℕ) → j < 8 → (q : ℕ) × (k : ℕ) × (x : Bytes) × (slots_of d.slots j ≡ waiting q k x)
    y j l = full_waits 0 d.slots e j (omega arith)

    in' : (j : ℕ) → j < 8 → Memᴰ (W i (number_of (slots_of d.slots j))) ws
    in' j l = let z = y j l in subst (λ s. Memᴰ (W i (number_of s)) ws) (sym z.3) (ok.slot_in j z.0 z.1 z.2 z.3)

    apart' : (j j' : ℕ) → j < 8 → j' < 8 → number_of (slots_of d.slots j) ≡ number_of (slots_of d.slots j') → j ≡ j'
    apart' j j' l l' p =
        let z = y j l in
        let z' = y j' l' in
        let ek : z.1 ≡ z'.1 = sym (ap number_of z.3) ∙ (p ∙ ap number_of z'.3) in
        once j z.0 z.1 z.2 j' z'.0 z'.2 z.3 (z'.3 ∙ ap (λ s. waiting z'.0 s z'.2) (sym ek))

-- what can come: nobody says that eight wait
abbrev pub NotBusy : Msg → Type 0
NotBusy (Hello c) = Unit {0}
NotBusy (Welcome c s) = Unit {0}
NotBusy (Request s j q c) = Unit {0}
NotBusy (Response s j q gr a) = is_busy a ≡ false
NotBusy (Alive s) = Unit {0}

abbrev pub NotBusyComes : Comes Msg → Type 0
NotBusyComes (From i m) = NotBusy m
NotBusyComes (Ask k c) = Unit {0}
NotBusyComes Beat = Unit {0}

module _ (i : ℕ) (d : Desk) (ws : List Waits) (ok : WaitsOk i (slots_of d.slots) ws) (once : Once (slots_of d.slots)) (l8 : length d.slots ≡ 8) (k : ℕ) where
  abbrev Said : Comes Msg → DeskTurn → Type 0
  Said x t = Memᴰ (Tell k busy) t.does → (c : Bytes) × (x ≡ Ask k c) × (8 ≤ count_at i ws)

  b_seq : (x : Comes Msg) (j q k' : ℕ) (r : Bytes) → is_busy r ≡ false → (b : Bool) → Said x (seq_by j q k' r b d)
  unfolding seq_by
  b_seq x j q k' r e false m = absurd (Memᴰ.not-nil m)
  b_seq x j q k' r e true m = elim (Memᴰ.cases_cons m) [ inl p ↦ absurd (let p' : busy ≡ r = cc in both_ways (is_busy r) e (ap (λ y. is_busy y) (sym p') ∙ busy_is)) | inr m' ↦ absurd (Memᴰ.not-nil m') ]

  b_slot : (x : Comes Msg) (j q : ℕ) (r : Bytes) → is_busy r ≡ false → (y : Slot) → Said x (slot_by j q r y d)
  unfolding slot_by
  b_slot x j q r e (Idle p) m = absurd (Memᴰ.not-nil m)
  b_slot x j q r e (Waiting p k' c b f l) m = b_seq x j q k' r e (eqb p q) m

  b_response : (x : Comes Msg) (j q : ℕ) (r : Bytes) → is_busy r ≡ false → (b : Bool) → Said x (response_by j q r b d)
  unfolding response_by
  b_response x j q r e true m = b_slot x j q r e (get_or d.slots j (Idle 0)) m
  b_response x j q r e false m = absurd (Memᴰ.not-nil m)

  b_welcome : (x : Comes Msg) (t s : ℕ) (b : Bool) → Said x (welcome_by t s b d)
  unfolding welcome_by
  b_welcome x t s true m = let d1 : Desk = adopts_by s (eqb s d.session) d in absurd (sends_not_told (requests not_sent d1.session 0 d1.slots) k busy (sends_requests not_sent d1.session 0 d1.slots) m)
  b_welcome x t s false m = absurd (Memᴰ.not-nil m)

  b_hears : (t by : ℕ) (m : Msg) → NotBusy m → Said (From by m) (desk_hears t m d)
  unfolding desk_hears
  b_hears t by (Hello c) o m = absurd (Memᴰ.not-nil m)
  b_hears t by (Welcome c s) o m = b_welcome (From by (Welcome c s)) t s _ m
  b_hears t by (Request s j q x) o m = absurd (Memᴰ.not-nil m)
  b_hears t by (Response s j q gr r) o m = b_response (From by (Response s j q gr r)) j q r o _ m
  b_hears t by (Alive s) o m = absurd (Memᴰ.not-nil m)

  b_from : (t by : ℕ) (m : Msg) → NotBusy m → (b : Bool) → Said (From by m) (desk_from_by t m b d)
  unfolding desk_from_by
  b_from t by m o true n = b_hears t by m o n
  b_from t by m o false n = absurd (Memᴰ.not-nil n)

  b_alive : (t : ℕ) (b : Bool) → Said Beat (alive_by t b d)
  unfolding alive_by
  b_alive t true m = absurd (sends_not_told (To 0 (Alive d.session) ∷ []) k busy tt m)
  b_alive t false m = absurd (Memᴰ.not-nil m)

  b_tick : (r t : ℕ) (a b : Bool) → Said Beat (tick_by r t a b d)
  unfolding tick_by
  b_tick r t false b m = b_alive t _ m
  b_tick r t true true m = absurd (sends_not_told (requests (is_due r t) d.session 0 d.slots) k busy (sends_requests (is_due r t) d.session 0 d.slots) m)
  b_tick r t true false m = absurd (sends_not_told (To 0 (Hello d.nonce) ∷ []) k busy tt m)

  b_free : (grabs : Bytes → Bool) (t k' : ℕ) (c : Bytes) (y : Free) → first_idle 0 d.slots ≡ y → Said (Ask k' c) (call_by grabs t k' c y d)
  unfolding call_by
  b_free grabs t k' c full e m = elim (Memᴰ.cases_cons m) [ inl q ↦ (let ek : k' ≡ k = cc in (c, ap (λ z. Ask z c) ek, eight i d ws ok once l8 e)) | inr m' ↦ absurd (Memᴰ.not-nil m') ]
  b_free grabs t k' c (free j q) e m = absurd (sends_not_told (first_said d j (next64 q) (shortened c) (eqb d.session 0) (none_waits d.slots)) k busy (sends_first d j (next64 q) (shortened c) (eqb d.session 0) (none_waits d.slots)) m)

  b_desk : (z : Settings) (t : ℕ) (x : Comes Msg) → NotBusyComes x → Said x (desk_turn z x t d)
  unfolding desk_turn
  b_desk z t (From by x) o m = b_from t by x o _ m
  b_desk z t (Ask k' c) o m = b_free z.grabs t k' c (first_idle 0 d.slots) refl m
  b_desk z t Beat o m = b_tick z.retry t _ _ m

pub busy_at_nine : (mc : Machine) → Lawful mc → (z : Settings) (clock : ℕ → ℕ → ℕ) → Clocks clock → (all n : ℕ) → n < limit → (es : List Seen) (w : World (Mind mc) Msg) → Goes (asking mc z) clock all n es w → (i k : ℕ) (m : Mind mc) (x : Comes Msg) → NotBusyComes x → w.who i ≡ there m → Memᴰ (Tell k busy) (mind_turn z x (clock i w.now) m).does → (c : Bytes) × (x ≡ Ask k c) × (8 ≤ count_at i w.waits)
unfolding mind_turn
busy_at_nine mc law z clock clocks all n lt es w g i k m x o e t = go (cases_lt 0 i)
  where
    v : InvOf w es
    v = inv mc law z clock clocks g lt

    go : (0 < i) ⊎ (i ≤ 0) → (c : Bytes) × (x ≡ Ask k c) × (8 ≤ count_at i w.waits)
    go (inl p) =
        let y = is_desk_lem v.g (abs_house v.h) i m (w.who i) e (v.desks i p) in
        let f : DeskFacts n (clock i w.now) y.0 = subst (λ s. Facts n (clock i w.now) s) (e ∙ ap there y.1) (all_facts mc law z clock clocks g i) in
        b_desk i y.0 w.waits (waits_of i y.0 (w.who i) w.waits (e ∙ ap there y.1) (all_wait mc law z clock clocks g lt i p)) (once_of mc v.g (abs_house v.h) w.drawn w.letters (short es) v.core' i y.0 y.2) f.eight_slots k z (clock i w.now) x o (subst (λ u. Memᴰ (Tell k busy) (mind_turn z x (clock i w.now) u).does) y.1 t)
    go (inr p) =
        let i0 : i ≡ 0 = omega arith in
        let y = is_house v.h m (w.who 0) (ap w.who (sym i0) ∙ e) v.house_is in
        absurd (not_told (house_turn x (clock i w.now) v.h).does k busy (house_tells_nothing x (clock i w.now) v.h) (subst (λ u. Memᴰ (Tell k busy) (mind_turn z x (clock i w.now) u).does) y t))
