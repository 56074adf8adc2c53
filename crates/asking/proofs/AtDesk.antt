-- What a desk does keeps the invariant, step by step.
use Rattle.std.proofs.Common.{◌≡◌, ℕ, suc, ◌+◌, ◌<◌, ◌≤◌, Bool, true, false, not, ◌&&◌, T, eqb, ◌⊎◌, List, [], ◌∷◌, ◌++◌, length, get_or, set, sym, refl, ap, ◌∙◌, subst, inl, inr, arith, get_or-set_same}
use mathlib.Core.List.Memᴰ
use mathlib.Core.List.{Memᴰ}
use Rattle.std.proofs.lemmas.Bool.{both_ways, cases_eq, eqb-true, and_parts, not-true, not_from_false}
use Rattle.promise.specs.Bytes.{Bytes}
use Rattle.promise.specs.Machine.{Machine}
use Rattle.promise.specs.Desks.{From, Beat, Does, To, Letter, Seen, called, posted, tells, is_used, at}
use Rattle.codec.specs.Messages.{Msg, Hello, Welcome, Request, Response, Alive}
use Rattle.asking.specs.House.{next64, is_session}
use Rattle.asking.specs.Desk.{Slot, Idle, Waiting, Desk, DeskTurn, Free, full, free, first_idle, none_waits, say_if, requests, sent_if, sent_now, unsent, unsent_now, not_sent, is_due, first_said, takes_call, call_by, shortened, adopts_by, welcome_by, seq_by, slot_by, response_by, desk_hears, desk_from_by, alive_by, tick_by}
use Rattle.asking.specs.Code.{Settings, desk_turn}
use Rattle.asking.proofs.View.{AbsHouse, AbsSlot, idle, waiting, abs_slot, slots_of}
use Rattle.asking.proofs.Base.{at_same, at_other, put, put_same, put_other}
use Rattle.asking.proofs.Arrays.{get_d_at, slots_map, waits_inside, first_idle_0}
use Rattle.asking.proofs.Facts.{DeskFacts, SlotFacts, next64_is}
use Rattle.asking.proofs.Inv.{Ghost, seq_of, Real, Given, RequestOk, HelloOk, WelcomeOk, WordOk, Core, DeskOk, NoNewAnswer, sends}
use Rattle.asking.proofs.Asking as A
use Rattle.asking.proofs.Telling as L
use Rattle.asking.proofs.AtHouse.{is_true, pos_from, limit}

pub record DeskStep (mc : Machine) (g : Ghost) (h : AbsHouse mc) (drawn : List ℕ) (letters : List (Letter Msg)) (es : List Seen) (i now : ℕ) (t : DeskTurn) : Type 0 where
  pub g' : Ghost
  pub core' : Core mc g' h drawn (posted i now t.does ++ letters) (tells i t.does ++ es)
  pub me' : DeskOk mc g' h i t.desk
  pub others' : (b : ℕ) (d : Desk) → (b ≡ i → ⊥) → DeskOk mc g h b d → DeskOk mc g' h b d
  pub alive' : (b : ℕ) → g'.alive b ≡ g.alive b

-- WHAT IS SENT

-- a Request for what waits in some slot
pub record IsRequest (i now s j0 : ℕ) (xs : List Slot) (l : Letter Msg) : Type 0 where
  pub p : ℕ
  pub q : ℕ
  pub k : ℕ
  pub x : Bytes
  pub waits : slots_of xs p ≡ waiting q k x
  pub is' : l ≡ record { to = 0; by = i; at' = now; word = Request s (j0 + p) q x }

in_say : (i now : ℕ) (b : Bool) (m : Msg) (ds : List (Does Msg)) (l : Letter Msg) → Memᴰ l (posted i now (say_if b (To 0 m) ds)) → (l ≡ record { to = 0; by = i; at' = now; word = m }) ⊎ Memᴰ l (posted i now ds)
unfolding say_if posted
in_say i now true m ds l n = elim (Memᴰ.cases_cons n) [ inl e ↦ inl e | inr n' ↦ inr n' ]
in_say i now false m ds l n = inr n

next_request : (i now s j0 : ℕ) (y : Slot) (xs : List Slot) (l : Letter Msg) → IsRequest i now s (j0 + 1) xs l → IsRequest i now s j0 (y ∷ xs) l
next_request i now s j0 y xs l r = record { p = suc r.p; q = r.q; k = r.k; x = r.x; waits = r.waits; is' = r.is' ∙ (let e : (j0 + 1) + r.p ≡ j0 + suc r.p = omega arith in λ z. record { to = 0; by = i; at' = now; word = Request s (e z) r.q r.x }) }

pub in_requests : (i now : ℕ) (t : Bool → ℕ → Bool) (s j0 : ℕ) (xs : List Slot) (l : Letter Msg) → Memᴰ l (posted i now (requests t s j0 xs)) → IsRequest i now s j0 xs l
unfolding requests posted
in_requests i now t s j0 [] l m = absurd (Memᴰ.not-nil m)
in_requests i now t s j0 (Idle q ∷ xs) l m = next_request i now s j0 (Idle q) xs l (in_requests i now t s (j0 + 1) xs l m)
in_requests i now t s j0 (Waiting q k c b f u ∷ xs) l m = elim (in_say i now (t b u) (Request s j0 q c) (requests t s (j0 + 1) xs) l m) [
  | inl e ↦ record { p = 0; q = q; k = k; x = c; waits = refl; is' = e ∙ (let a : j0 ≡ j0 + 0 = omega arith in λ z. record { to = 0; by = i; at' = now; word = Request s (a z) q c }) }
  | inr m' ↦ next_request i now s j0 (Waiting q k c b f u) xs l (in_requests i now t s (j0 + 1) xs l m')
]

tells_say : (i : ℕ) (b : Bool) (m : Msg) (ds : List (Does Msg)) → tells i (say_if b (To 0 m) ds) ≡ tells i ds
unfolding say_if tells
tells_say i true m ds = refl
tells_say i false m ds = refl

pub tells_requests : (i : ℕ) (t : Bool → ℕ → Bool) (s j0 : ℕ) (xs : List Slot) → tells i (requests t s j0 xs) ≡ []
unfolding requests tells
tells_requests i t s j0 [] = refl
tells_requests i t s j0 (Idle q ∷ xs) = tells_requests i t s (j0 + 1) xs
tells_requests i t s j0 (Waiting q k c b f u ∷ xs) = tells_say i (t b u) (Request s j0 q c) (requests t s (j0 + 1) xs) ∙ tells_requests i t s (j0 + 1) xs

-- WHAT SENDING LEAVES OF SLOTS

a_sent_if : (b : Bool) (t : ℕ) (x : Slot) → abs_slot (sent_if b t x) ≡ abs_slot x
unfolding sent_if
a_sent_if true t (Idle q) = refl
a_sent_if true t (Waiting q k c b f l) = refl
a_sent_if false t (Idle q) = refl
a_sent_if false t (Waiting q k c b f l) = refl

pub a_sent : (p : Bool → ℕ → Bool) (t : ℕ) (x : Slot) → abs_slot (sent_now p t x) ≡ abs_slot x
unfolding sent_now
a_sent p t (Idle q) = refl
a_sent p t (Waiting q k c b f l) = a_sent_if (p b l) t (Waiting q k c b f l)

pub a_unsent : (x : Slot) → abs_slot (unsent x) ≡ abs_slot x
unfolding unsent
a_unsent (Idle q) = refl
a_unsent (Waiting q k c b f l) = refl

pub a_unsent_now : (t : ℕ) (x : Slot) → abs_slot (unsent_now t x) ≡ abs_slot x
unfolding unsent_now
a_unsent_now t (Idle q) = refl
a_unsent_now t (Waiting q k c b f l) = refl

-- the session that is adopted, and the slots then
pub adopts_session : (s : ℕ) (b : Bool) (d : Desk) → eqb s d.session ≡ b → (adopts_by s b d).session ≡ s
unfolding adopts_by
adopts_session s true d e = sym (eqb-true s d.session e)
adopts_session s false d e = refl

pub adopts_slots : (s : ℕ) (b : Bool) (d : Desk) (j : ℕ) → slots_of (adopts_by s b d).slots j ≡ slots_of d.slots j
unfolding adopts_by
adopts_slots s true d j = refl
adopts_slots s false d j = slots_map unsent a_unsent d.slots j

-- MESSAGES AND TICKS

module _ (mc : Machine) (g : Ghost) (h : AbsHouse mc) (drawn : List ℕ) (letters : List (Letter Msg)) (es : List Seen) (v : Core mc g h drawn letters es) (i now : ℕ) (d : Desk) (ok : DeskOk mc g h i d) where
  there' : 0 < g.alive i
  there' = let a = ok.me in let b = ok.pos in omega arith

  real0 : Real drawn d.nonce
  real0 = subst (λ c. Real drawn c) ok.me (v.births.alive_is i there').0

  desk0 : g.desk d.nonce ≡ i
  desk0 = ap g.desk (sym ok.me) ∙ (v.births.alive_is i there').1

  life0 : g.life d.nonce ≡ g.lives i
  life0 = ap g.life (sym ok.me) ∙ (v.births.alive_is i there').2

  hello_ok : HelloOk g.desk drawn i d.nonce
  hello_ok = record { real = real0; whose = desk0 }

  -- who offers a session to this life has an earlier one
  lifts' : (s : ℕ) → 0 < s → g.given s ≡ d.nonce → s ≡ (h.peers i).session' → 0 < (h.peers i).session → g.life (h.peers i).nonce < g.life d.nonce
  lifts' s p gi e on = go (v.births.born (h.peers i).nonce cur.real)
    where
      cur : Given g.desk g.given drawn h.next i (h.peers i).nonce (h.peers i).session
      cur = v.peers_ok.cur i on

      off : Given g.desk g.given drawn h.next i (h.peers i).nonce' (h.peers i).session'
      off = v.peers_ok.off i (omega arith)

      is_nonce : (h.peers i).nonce' ≡ d.nonce
      is_nonce = sym off.is' ∙ (ap g.given (sym e) ∙ gi)

      go : (g.life (h.peers i).nonce < g.lives (g.desk (h.peers i).nonce)) ⊎ ((g.alive (g.desk (h.peers i).nonce) ≡ (h.peers i).nonce) × (g.life (h.peers i).nonce ≡ g.lives (g.desk (h.peers i).nonce))) → g.life (h.peers i).nonce < g.life d.nonce
      go (inl a) = let b : g.lives (g.desk (h.peers i).nonce) ≡ g.lives i = ap g.lives cur.whose in let c = life0 in omega arith
      go (inr a) = absurd (v.peers_ok.two i on (omega arith) (sym a.0 ∙ (ap g.alive cur.whose ∙ (ok.me ∙ sym is_nonce))))

  request_ok : (s j q k : ℕ) (x : Bytes) → 0 < s → s < h.next → g.given s ≡ d.nonce → slots_of d.slots j ≡ waiting q k x → RequestOk mc g h.next (h.peers i) drawn i s j q x
  request_ok s j q k x p b gi w =
      let w' : g.last d.nonce j ≡ waiting q k x = sym (ok.slots' j) ∙ w in
      let e : seq_of (g.last d.nonce j) ≡ q = ap seq_of w' in
      record { c = d.nonce; pos = p; below = b; is' = gi; real = real0; whose = desk0; qpos = v.numbers.seq_pos d.nonce j q k x w'; upto = omega arith; stands = inl (k, w'); lifts = lifts' s p gi }

  -- Requests for what waits
  asks_again : (t : Bool → ℕ → Bool) → 0 < d.session → Core mc g h drawn (posted i now (requests t d.session 0 d.slots) ++ letters) (tells i (requests t d.session 0 d.slots) ++ es)
  asks_again t p = subst (λ z. Core mc g h drawn (posted i now (requests t s 0 d.slots) ++ letters) (z ++ es)) (sym (tells_requests i t s 0 d.slots)) (sends mc g h drawn letters es (posted i now (requests t s 0 d.slots)) v ok' no_new)
    where
      s : ℕ
      s = d.session

      ok' : (l : Letter Msg) → Memᴰ l (posted i now (requests t s 0 d.slots)) → WordOk mc g h drawn l.by l.word
      ok' l m =
          let y = in_requests i now t s 0 d.slots l m in
          let e : y.p ≡ 0 + y.p = omega arith in
          let u = ok.session' p in
          subst (λ z. WordOk mc g h drawn z.by z.word) (sym y.is') (request_ok s (0 + y.p) y.q y.k y.x p u.0 u.1 (ap (slots_of d.slots) (sym e) ∙ y.waits))

      no_new : NoNewAnswer mc g (posted i now (requests t s 0 d.slots))
      no_new l m s' j' q' gr' r' e = let y = in_requests i now t s 0 d.slots l m in absurd (let a : Request s (0 + y.p) y.q y.x ≡ Response s' j' q' gr' r' = sym (ap (λ (z : Letter Msg). z.word) y.is') ∙ e in let z : ◌≡◌ {A = ℕ} 0 1 = cc in omega arith)

  quiet : DeskStep mc g h drawn letters es i now (record { does = []; desk = d })
  unfolding posted tells
  quiet = record { g' = g; core' = v; me' = ok; others' = λ b d' _ y. y; alive' = λ b. refl }

  -- only time, and whether a call was sent, is another
  like : (d' : Desk) → d'.nonce ≡ d.nonce → d'.session ≡ d.session → d'.answered ≡ d.answered → ((j : ℕ) → slots_of d'.slots j ≡ slots_of d.slots j) → DeskOk mc g h i d'
  like d' en es' ea f =
      record {
        me = ok.me ∙ sym en;
        pos = (let a = ok.pos in omega arith);
        slots' = λ j. f j ∙ (ok.slots' j ∙ ap (λ c. g.last c j) (sym en));
        session' = λ l. let y = ok.session' (omega arith) in (let y0 = y.0 in omega arith, ap g.given es' ∙ (y.1 ∙ sym en));
        settled' = λ e. let a = ok.settled' (sym ea ∙ e) in omega arith;
        current = λ e. ok.current (sym ea ∙ e) ∙ sym es';
      }

  -- one letter that is no answer
  says_one : (m : Msg) (d' : Desk) → WordOk mc g h drawn i m → ((s j q gr : ℕ) (r : Bytes) → m ≡ Response s j q gr r → ⊥) → DeskOk mc g h i d' → DeskStep mc g h drawn letters es i now (record { does = To 0 m ∷ []; desk = d' })
  unfolding posted tells
  says_one m d' w n ok' =
      record {
        g' = g;
        core' = sends mc g h drawn letters es (l ∷ []) v (λ l' m'. elim (Memᴰ.cases_cons m') [ inl p ↦ subst (λ z. WordOk mc g h drawn z.by z.word) (sym p) w | inr e ↦ absurd (Memᴰ.not-nil e) ]) no_new;
        me' = ok';
        others' = λ b d2 _ y. y;
        alive' = λ b. refl;
      }
    where
      l : Letter Msg
      l = record { to = 0; by = i; at' = now; word = m }

      no_new : NoNewAnswer mc g (l ∷ [])
      no_new l' m' s j q gr r e' = elim (Memᴰ.cases_cons m') [ inl p ↦ absurd (n s j q gr r (sym (ap (λ (z : Letter Msg). z.word) p) ∙ e')) | inr e ↦ absurd (Memᴰ.not-nil e) ]

  at_alive : (t : ℕ) (b : Bool) → DeskStep mc g h drawn letters es i now (alive_by t b d)
  unfolding alive_by
  at_alive t true = says_one (Alive d.session) _ tt (λ s j q gr r e. let z : ◌≡◌ {A = ℕ} 0 1 = cc in omega arith) (like _ refl refl refl (λ j. refl))
  at_alive t false = quiet

  at_tick : (r t : ℕ) (a b : Bool) → d.answered ≡ b → DeskStep mc g h drawn letters es i now (tick_by r t a b d)
  unfolding tick_by
  at_tick r t false b e = at_alive t _
  at_tick r t true true e = record { g' = g; core' = asks_again (is_due r t) (ok.settled' e); me' = like _ refl refl refl (slots_map (sent_now (is_due r t) t) (a_sent (is_due r t) t) d.slots); others' = λ b d' _ y. y; alive' = λ b. refl }
  at_tick r t true false e = says_one (Hello d.nonce) _ hello_ok (λ s j q gr r' e'. let z : ◌≡◌ {A = ℕ} 0 1 = cc in omega arith) (like _ refl refl refl (slots_map (unsent_now t) (a_unsent_now t) d.slots))

  -- another desk has another nonce
  other_nonce : (b : ℕ) (d2 : Desk) → (b ≡ i → ⊥) → DeskOk mc g h b d2 → d2.nonce ≡ g.alive i → ⊥
  other_nonce b d2 n y e =
      let l : 0 < g.alive b = (let a = y.me in let p = y.pos in omega arith) in
      n (sym (v.births.alive_is b l).1 ∙ (ap g.desk (y.me ∙ e) ∙ (v.births.alive_is i there').1))

  last_is : (j : ℕ) → slots_of d.slots j ≡ g.last (g.alive i) j
  last_is j = ok.slots' j ∙ ap (λ c. g.last c j) (sym ok.me)

  -- a slot is set both at the desk and in what nobody has
  slot_set : (j : ℕ) (y : Slot) → j < length d.slots → (j' : ℕ) → slots_of (set d.slots j y) j' ≡ put (g.alive i) j (abs_slot y) g.last d.nonce j'
  slot_set j y l j' = get_d_at abs_slot d.slots j y (Idle 0) l j' ∙ go (cases_eq j' j)
    where
      f : ℕ → AbsSlot
      f = slots_of d.slots

      e0 : d.nonce ≡ g.alive i
      e0 = sym ok.me

      go : (j' ≡ j) ⊎ (j' ≡ j → ⊥) → at j (abs_slot y) f j' ≡ put (g.alive i) j (abs_slot y) g.last d.nonce j'
      go (inl e) = ap (at j (abs_slot y) f) e ∙ (at_same j (abs_slot y) f ∙ (sym (put_same (g.alive i) j (abs_slot y) g.last) ∙ (λ z. put (g.alive i) j (abs_slot y) g.last (sym e0 z) (sym e z))))
      go (inr n) = at_other j (abs_slot y) f j' n ∙ (ok.slots' j' ∙ sym (put_other (g.alive i) j (abs_slot y) g.last d.nonce j' (λ _ e. n e)))

  others_set : (j : ℕ) (y : AbsSlot) (b : ℕ) (d2 : Desk) → (b ≡ i → ⊥) → DeskOk mc g h b d2 → (j' : ℕ) → slots_of d2.slots j' ≡ put (g.alive i) j y g.last d2.nonce j'
  others_set j y b d2 n z j' = z.slots' j' ∙ sym (put_other (g.alive i) j y g.last d2.nonce j' (λ e _. other_nonce b d2 n z e))

  at_seq : (j q p k : ℕ) (x : Bytes) (s gr : ℕ) (r : Bytes) (l : Letter Msg) → Memᴰ l letters → l.word ≡ Response s j q gr r → 0 < s → s ≡ d.session → slots_of d.slots j ≡ waiting p k x → (b : Bool) → eqb p q ≡ b → DeskStep mc g h drawn letters es i now (seq_by j q k r b d)
  unfolding seq_by posted tells
  at_seq j q p k x s gr r l m w pos' sess sl false e = quiet
  at_seq j q p k x s gr r l m w pos' sess sl true e =
      record {
        g' = L.g' mc g h drawn letters es v i j q k x s gr r there' w0 gi l m w;
        core' = L.answer_told mc g h drawn letters es v i j q k x s gr r there' w0 gi l m w;
        me' = record { me = ok.me; pos = ok.pos; slots' = slot_set j (Idle q) (waits_inside d.slots j p k x sl); session' = ok.session'; settled' = λ _. (omega arith); current = λ _. (L.answer0 mc g h drawn letters es v i j q k x s gr r there' w0 gi l m w).is' ∙ sess };
        others' = λ b d2 n z. record { me = z.me; pos = z.pos; slots' = others_set j (idle q) b d2 n z; session' = z.session'; settled' = z.settled'; current = z.current };
        alive' = λ b. refl;
      }
    where
      w0 : g.last (g.alive i) j ≡ waiting q k x
      w0 = sym (last_is j) ∙ (sl ∙ ap (λ z. waiting z k x) (eqb-true p q e))

      gi : g.given s ≡ g.alive i
      gi = ap g.given sess ∙ ((ok.session' (omega arith)).1 ∙ sym ok.me)

  at_slot : (j q s gr : ℕ) (r : Bytes) (l : Letter Msg) → Memᴰ l letters → l.word ≡ Response s j q gr r → 0 < s → s ≡ d.session → (y : Slot) → get_or d.slots j (Idle 0) ≡ y → DeskStep mc g h drawn letters es i now (slot_by j q r y d)
  unfolding slot_by
  at_slot j q s gr r l m w p e (Idle p') sl = quiet
  at_slot j q s gr r l m w p e (Waiting p' k x b f u) sl = at_seq j q p' k x s gr r l m w p e (ap abs_slot sl) (eqb p' q) refl

  at_response : (j q s gr : ℕ) (r : Bytes) (l : Letter Msg) → Memᴰ l letters → l.word ≡ Response s j q gr r → (b : Bool) → is_session s d.session ≡ b → DeskStep mc g h drawn letters es i now (response_by j q r b d)
  unfolding response_by
  at_response j q s gr r l m w false e = quiet
  at_response j q s gr r l m w true e = let a = is_true s d.session e in at_slot j q s gr r l m w a.0 a.1 (get_or d.slots j (Idle 0)) refl

  adopts_ok : (s : ℕ) → 0 < s → s < h.next → g.given s ≡ d.nonce → d.answered ≡ false → (b : Bool) → eqb s d.session ≡ b → DeskOk mc g h i (adopts_by s b d) × ((adopts_by s b d).session ≡ s)
  unfolding adopts_by
  adopts_ok s p b gi na true e = (ok, sym (eqb-true s d.session e))
  adopts_ok s p b gi na false e = (record { me = ok.me; pos = ok.pos; slots' = λ j. slots_map unsent a_unsent d.slots j ∙ ok.slots' j; session' = λ _. (b, gi); settled' = λ _. p; current = λ e'. absurd (both_ways d.answered na e') }, refl)

module _ (mc : Machine) (g : Ghost) (h : AbsHouse mc) (drawn : List ℕ) (letters : List (Letter Msg)) (es : List Seen) (v : Core mc g h drawn letters es) (i now : ℕ) (d : Desk) (ok : DeskOk mc g h i d) where
  at_welcome : (t c s : ℕ) → WelcomeOk g.given h.next c s → (b : Bool) → (eqb c d.nonce && (not (eqb s 0) && not d.answered)) ≡ b → DeskStep mc g h drawn letters es i now (welcome_by t s b d)
  unfolding welcome_by
  at_welcome t c s y false e = quiet mc g h drawn letters es v i now d ok
  at_welcome t c s y true e =
      let a = and_parts (eqb c d.nonce) (not (eqb s 0) && not d.answered) e in
      let gi : g.given s ≡ d.nonce = y.is' ∙ eqb-true c d.nonce a.0 in
      let n = and_parts (not (eqb s 0)) (not d.answered) a.1 in
      let u = adopts_ok mc g h drawn letters es v i now d ok s y.pos y.below gi (not-true d.answered n.1) (eqb s d.session) refl in
      let d1 : Desk = adopts_by s (eqb s d.session) d in
      let p : 0 < d1.session = (let u1 = u.1 in let y1 = y.pos in omega arith) in
      record {
        g' = g;
        core' = asks_again mc g h drawn letters es v i now d1 u.0 not_sent p;
        me' = like mc g h drawn letters es v i now d1 u.0 _ refl refl refl (slots_map (sent_now not_sent t) (a_sent not_sent t) d1.slots);
        others' = λ b d' _ y. y;
        alive' = λ b. refl;
      }

  at_hears : (t : ℕ) (l : Letter Msg) → Memᴰ l letters → (m : Msg) → l.word ≡ m → DeskStep mc g h drawn letters es i now (desk_hears t m d)
  unfolding desk_hears
  at_hears t l m (Hello c) w = quiet mc g h drawn letters es v i now d ok
  at_hears t l m (Welcome c s) w = at_welcome t c s (subst (λ z. WordOk mc g h drawn l.by z) w (v.letters_ok l m)) _ refl
  at_hears t l m (Request s j q x) w = quiet mc g h drawn letters es v i now d ok
  at_hears t l m (Response s j q gr r) w = at_response mc g h drawn letters es v i now d ok j q s gr r l m w _ refl
  at_hears t l m (Alive s) w = quiet mc g h drawn letters es v i now d ok

  at_from : (t : ℕ) (l : Letter Msg) → Memᴰ l letters → (b : Bool) → DeskStep mc g h drawn letters es i now (desk_from_by t l.word b d)
  unfolding desk_from_by
  at_from t l m true = at_hears t l m l.word refl
  at_from t l m false = quiet mc g h drawn letters es v i now d ok

  pub at_desk : (z : Settings) (t : ℕ) (l : Letter Msg) → Memᴰ l letters → DeskStep mc g h drawn letters es i now (desk_turn z (From l.by l.word) t d)
  unfolding desk_turn
  at_desk z t l m = at_from t l m _

  pub at_beats : (z : Settings) (t : ℕ) → DeskStep mc g h drawn letters es i now (desk_turn z Beat t d)
  unfolding desk_turn
  at_beats z t = at_tick mc g h drawn letters es v i now d ok z.retry t _ d.answered refl

-- A CALL

tells_first : (i : ℕ) (d : Desk) (j q : ℕ) (x : Bytes) (a b : Bool) → tells i (first_said d j q x a b) ≡ []
unfolding first_said tells
tells_first i d j q x false b = refl
tells_first i d j q x true true = refl
tells_first i d j q x true false = refl

-- what is said first: of a desk that keeps the call already
first_said_lem : (mc : Machine) (g : Ghost) (h : AbsHouse mc) (drawn : List ℕ) (letters : List (Letter Msg)) (es : List Seen) (v : Core mc g h drawn letters es) (i now : ℕ) (d1 : Desk) (ok : DeskOk mc g h i d1) (d : Desk) → d.nonce ≡ d1.nonce → d.session ≡ d1.session → (j q k : ℕ) (x : Bytes) → slots_of d1.slots j ≡ waiting q k x → (a b : Bool) → eqb d.session 0 ≡ a → (l : Letter Msg) → Memᴰ l (posted i now (first_said d j q x a b)) → WordOk mc g h drawn l.by l.word × ((s' j' q' gr' : ℕ) (r : Bytes) → l.word ≡ Response s' j' q' gr' r → ⊥)
unfolding first_said posted
first_said_lem mc g h drawn letters es v i now d1 ok d en es' j q k x w false b e l m = elim (Memᴰ.cases_cons m) [
  | inl p ↦ (let pos' : 0 < d1.session = (let a = pos_from d.session (not_from_false (eqb d.session 0) e) in omega arith) in
      let y = ok.session' pos' in
      let w' : Request d1.session j q x ≡ l.word = sym (ap (λ (z : Letter Msg). z.word) p ∙ ap (λ s. Request s j q x) es') in
      let by' : i ≡ l.by = sym (ap (λ (z : Letter Msg). z.by) p) in (
        subst (λ z. WordOk mc g h drawn l.by z) w' (subst (λ z. WordOk mc g h drawn z (Request d1.session j q x)) by' (request_ok mc g h drawn letters es v i now d1 ok d1.session j q k x pos' y.0 y.1 w)),
        λ s' j2 q2 gr2 r e'. let a : Request d1.session j q x ≡ Response s' j2 q2 gr2 r = w' ∙ e' in let z : ◌≡◌ {A = ℕ} 0 1 = cc in omega arith,
      ))
  | inr n ↦ absurd (Memᴰ.not-nil n)
]
first_said_lem mc g h drawn letters es v i now d1 ok d en es' j q k x w true true e l m = elim (Memᴰ.cases_cons m) [
  | inl p ↦ (let w' : Hello d1.nonce ≡ l.word = sym (ap (λ (z : Letter Msg). z.word) p ∙ ap Hello en) in
      let by' : i ≡ l.by = sym (ap (λ (z : Letter Msg). z.by) p) in (
        subst (λ z. WordOk mc g h drawn l.by z) w' (subst (λ z. WordOk mc g h drawn z (Hello d1.nonce)) by' (hello_ok mc g h drawn letters es v i now d1 ok)),
        λ s' j2 q2 gr2 r e'. let a : Hello d1.nonce ≡ Response s' j2 q2 gr2 r = w' ∙ e' in let z : ◌≡◌ {A = ℕ} 0 1 = cc in omega arith,
      ))
  | inr n ↦ absurd (Memᴰ.not-nil n)
]
first_said_lem mc g h drawn letters es v i now d1 ok d en es' j q k x w true false e l m = absurd (Memᴰ.not-nil m)

module _ (mc : Machine) (g : Ghost) (h : AbsHouse mc) (drawn : List ℕ) (letters : List (Letter Msg)) (es : List Seen) (v : Core mc g h drawn letters es) (i now : ℕ) (d : Desk) (ok : DeskOk mc g h i d)
    (n t : ℕ) (small : n < limit) (facts : DeskFacts n t d) (grabs : Bytes → Bool) (k : ℕ) (x0 : Bytes) (unused : T (not (is_used i k es))) where
  abbrev x : Bytes
  x = shortened x0

  at_free : (y : Free) → first_idle 0 d.slots ≡ y → DeskStep mc g h drawn letters (called i k x ∷ es) i now (call_by grabs t k x0 y d)
  unfolding call_by posted tells
  at_free full e = record { g' = g; core' = A.call_back mc g h drawn letters es v i k x; me' = ok; others' = λ b d' _ y. y; alive' = λ b. refl }
  at_free (free j q) e =
      record {
        g' = g1;
        core' = subst (λ z. Core mc g1 h drawn (posted i now ds ++ letters) (z ++ called i k x ∷ es)) (sym (tells_first i d j q1 x _ _)) (sends mc g1 h drawn letters (called i k x ∷ es) (posted i now ds) v1 (λ l m. (said l m).0) (λ l m s' j' q' gr' r' e' c' k' x' gi w ch. (said l m).1 s' j' q' gr' r' e'));
        me' = ok1;
        others' = λ b d2 n' z. record { me = z.me; pos = z.pos; slots' = others_set mc g h drawn letters es v i now d ok j (waiting (q + 1) k x) b d2 n' z; session' = z.session'; settled' = z.settled'; current = z.current };
        alive' = λ b. refl;
      }
    where
      q1 : ℕ
      q1 = next64 q

      ds : List (Does Msg)
      ds = first_said d j q1 x (eqb d.session 0) (none_waits d.slots)

      fi : (j < length d.slots) × (get_or d.slots j (Idle 0) ≡ Idle q)
      fi = let y = first_idle_0 d.slots j q e in (y.inside, y.idle')

      qe : q1 ≡ q + 1
      qe = next64_is q (let l : q ≤ n = subst (λ y. SlotFacts n t y) fi.1 (facts.slot j) in omega arith)

      t' : 0 < g.alive i
      t' = there' mc g h drawn letters es v i now d ok

      idle' : g.last (g.alive i) j ≡ idle q
      idle' = sym (last_is mc g h drawn letters es v i now d ok j) ∙ ap abs_slot fi.1

      g1 : Ghost
      g1 = A.g' mc g h drawn letters es v i k x unused j q t' idle'

      v1 : Core mc g1 h drawn letters (called i k x ∷ es)
      v1 = A.call_kept mc g h drawn letters es v i k x unused j q t' idle'

      d1 : Desk
      d1 = (takes_call grabs t k x j q1 d).desk

      ok1 : DeskOk mc g1 h i d1
      ok1 = record { me = ok.me; pos = ok.pos; slots' = λ j'. slot_set mc g h drawn letters es v i now d ok j (Waiting q1 k x (not (eqb d.session 0)) t t) fi.0 j' ∙ ap (λ y. put (g.alive i) j y g.last d.nonce j') (ap (λ z. waiting z k x) qe); session' = ok.session'; settled' = ok.settled'; current = ok.current }

      said : (l : Letter Msg) → Memᴰ l (posted i now ds) → WordOk mc g1 h drawn l.by l.word × ((s' j' q' gr' : ℕ) (r : Bytes) → l.word ≡ Response s' j' q' gr' r → ⊥)
      said = first_said_lem mc g1 h drawn letters (called i k x ∷ es) v1 i now d1 ok1 d refl refl j q1 k x (ap abs_slot (get_or-set_same d.slots j (Waiting q1 k x (not (eqb d.session 0)) t t) (Idle 0) fi.0)) (eqb d.session 0) (none_waits d.slots) refl

  pub at_call : DeskStep mc g h drawn letters (called i k x ∷ es) i now (call_by grabs t k x0 (first_idle 0 d.slots) d)
  at_call = at_free (first_idle 0 d.slots) refl
