-- What the house does keeps the invariant, step by step.
use Rattle.std.proofs.Common.{◌≡◌, ℕ, zero, suc, ◌+◌, ◌<◌, ◌≤◌, Bool, true, false, not, ◌&&◌, eqb, ltb, ◌⊎◌, List, [], ◌∷◌, ◌++◌, length, get_or, set, replicate, sym, refl, ap, ◌∙◌, subst, inl, inr, arith}
use mathlib.Core.List.Memᴰ
use mathlib.Core.List.{Memᴰ}
use Rattle.std.proofs.lemmas.Bool.{both_ways, eq-eqb, cases_lt, eqb-true, eqb-false, and_parts, not-true, ltb-true, and_from, not_from_false, not_from_true, ne_eqb}
use Rattle.promise.specs.Bytes.{Bytes}
use Rattle.promise.specs.Machine.{Machine}
use Rattle.promise.specs.Desks.{From, Beat, To, lapsed, is_used, has_lapsed, Letter, Seen, posted, tells, at}
use Rattle.codec.specs.Messages.{Msg, Hello, Welcome, Request, Response, Alive}
use Rattle.asking.specs.Lawful.{Lawful}
use Rattle.asking.specs.House.{next64, Done, Peer, House, HouseTurn, unused, nobody, peer_of, hearing, hello_by, offers, does_change, new_change_by, change_by, serve_by, promotes, takes_up_by, current_by, current, is_session, request_by, house_hears, house_from_by, lapse_by, lapses_from, is_silent}
use Rattle.asking.specs.Desk.{Desk}
use Rattle.asking.specs.Code.{house_turn}
use Rattle.asking.proofs.View.{AbsPeer, AbsHouse, waiting, changing, abs_peer, abs_house, abs_offers, abs_promoted, abs_promotes, abs_recorded, abs_records}
use Rattle.asking.proofs.Base.{at_ind, at_other}
use Rattle.asking.proofs.Arrays.{get_d_at, replicate_same}
use Rattle.asking.proofs.Facts.{HouseFacts, next64_is, f_takes, f_hearing}
use Rattle.asking.proofs.Inv.{Ghost, RequestOk, HelloOk, ResponseOk, WordOk, Core, DeskOk, NoNewAnswer, sends}
use Rattle.asking.proofs.Readings as R
use Rattle.asking.proofs.Changes as C
use Rattle.asking.proofs.Promote as P
use Rattle.asking.proofs.Offer as O

-- so many steps are looked at: those of any run that is spoken of, and a million more
abbrev pub limit : ℕ
limit = 72057594038976512

pub record HouseStep (mc : Machine) (g : Ghost) (h : AbsHouse mc) (drawn : List ℕ) (letters : List (Letter Msg)) (es : List Seen) (now : ℕ) (t : HouseTurn mc) : Type 0 where
  pub g' : Ghost
  pub core' : Core mc g' (abs_house t.house) drawn (posted 0 now t.does ++ letters) (tells 0 t.does ++ es)
  pub desks' : (i : ℕ) (d : Desk) → DeskOk mc g h i d → DeskOk mc g' (abs_house t.house) i d
  pub alive' : (i : ℕ) → g'.alive i ≡ g.alive i

pub pos_from : (a : ℕ) → not (eqb a 0) ≡ true → 0 < a
pos_from a e = go (cases_lt 0 a)
  where
    go : (0 < a) ⊎ (a ≤ 0) → 0 < a
    go (inl l) = l
    go (inr l) = absurd (eqb-false a 0 (not-true (eqb a 0) e) (omega arith))

pub is_true : (s t : ℕ) → is_session s t ≡ true → (0 < s) × (s ≡ t)
is_true s t e = let a = and_parts (not (eqb s 0)) (eqb s t) e in (pos_from s a.0, eqb-true s t a.1)

-- STEPS OVER LISTS ARE STEPS OVER FUNCTIONS

pub abs_offers_lem : {mc : Machine} (h : House mc) (i c : ℕ) → i < length h.peers → next64 h.next_session ≡ h.next_session + 1 → abs_house (offers i c h) ≡ abs_offers (abs_house h) i c
abs_offers_lem h i c l e = λ z. record { table = h.table; next = e z; peers = λ b. get_d_at abs_peer h.peers i (record { nonce = (peer_of h i).nonce; session = (peer_of h i).session; offered_nonce = c; offered_session = h.next_session; slots = (peer_of h i).slots }) nobody l b z }

pub abs_promotes_lem : {mc : Machine} (h : House mc) (i : ℕ) → i < length h.peers → abs_house (promotes i h) ≡ abs_promotes (abs_house h) i
abs_promotes_lem {mc} h i l = λ z. record { table = mc.leaves i h.table; next = h.next_session; peers = λ b. path b z }
  where
    p : Peer
    p = record { nonce = (peer_of h i).offered_nonce; session = (peer_of h i).offered_session; offered_nonce = 0; offered_session = 0; slots = replicate 8 unused }

    same : abs_peer p ≡ abs_promoted ((abs_house h).peers i)
    same = λ z. record { nonce = (peer_of h i).offered_nonce; session = (peer_of h i).offered_session; nonce' = 0; session' = 0; slots = λ j. replicate_same 8 unused j z }

    path : (b : ℕ) → abs_peer (get_or (set h.peers i p) b nobody) ≡ at i (abs_promoted ((abs_house h).peers i)) (abs_house h).peers b
    path b = get_d_at abs_peer h.peers i p nobody l b ∙ ap (λ q. at i q (abs_house h).peers b) same

pub abs_records_lem : {mc : Machine} (h : House mc) (i j q : ℕ) (c : Bytes) → i < length h.peers → j < length (peer_of h i).slots → abs_house (does_change i j q c h) ≡ abs_records (abs_house h) i j q c
abs_records_lem {mc} h i j q c l l' = λ z. record { table = (mc.does i c h.table).state; next = h.next_session; peers = λ b. path b z }
  where
    d : Done
    d = record { seq = q; answer = (mc.does i c h.table).answer }

    p : Peer
    p = record { nonce = (peer_of h i).nonce; session = (peer_of h i).session; offered_nonce = (peer_of h i).offered_nonce; offered_session = (peer_of h i).offered_session; slots = set (peer_of h i).slots j d }

    same : abs_peer p ≡ abs_recorded ((abs_house h).peers i) j d
    same = λ z. record { nonce = (peer_of h i).nonce; session = (peer_of h i).session; nonce' = (peer_of h i).offered_nonce; session' = (peer_of h i).offered_session; slots = λ k. get_d_at (λ (x : Done). x) (peer_of h i).slots j d unused l' k z }

    path : (b : ℕ) → abs_peer (get_or (set h.peers i p) b nobody) ≡ at i (abs_recorded ((abs_house h).peers i) j d) (abs_house h).peers b
    path b = get_d_at abs_peer h.peers i p nobody l b ∙ ap (λ q'. at i q' (abs_house h).peers b) same

-- the house is then as this one
step_as : (mc : Machine) (g : Ghost) (h : AbsHouse mc) (drawn : List ℕ) (letters : List (Letter Msg)) (es : List Seen) (now : ℕ) (t : HouseTurn mc) (h' : AbsHouse mc) (g' : Ghost) → abs_house t.house ≡ h' → Core mc g' h' drawn (posted 0 now t.does ++ letters) (tells 0 t.does ++ es) → ((i : ℕ) (d : Desk) → DeskOk mc g h i d → DeskOk mc g' h' i d) → ((i : ℕ) → g'.alive i ≡ g.alive i) → HouseStep mc g h drawn letters es now t
step_as mc g h drawn letters es now t h' g' e c ds al =
    record {
      g' = g';
      core' = subst (λ y. Core mc g' y drawn (posted 0 now t.does ++ letters) (tells 0 t.does ++ es)) (sym e) c;
      desks' = λ i d y. subst (λ x. DeskOk mc g' x i d) (sym e) (ds i d y);
      alive' = al;
    }

-- MESSAGES

module _ (mc : Machine) (law : Lawful mc) (g : Ghost) (h : House mc) (drawn : List ℕ) (letters : List (Letter Msg)) (es : List Seen) (v : Core mc g (abs_house h) drawn letters es) (now : ℕ)
    (n t : ℕ) (small : n < limit) (facts : HouseFacts n t h) (i : ℕ) (i-pos : 0 < i) (i-small : i < 64) where
  abbrev pub H : AbsHouse mc
  H = abs_house h

  inside : i < length h.peers
  inside = let a = facts.peers64 in omega arith

  stay : HouseStep mc g H drawn letters es now (record { does = []; house = h })
  unfolding posted tells
  stay = record { g' = g; core' = v; desks' = λ i d y. y; alive' = λ i. refl }

  -- one letter that is no answer to a query
  one : (x : Msg) → WordOk mc g H drawn 0 x → ((s j q gr : ℕ) (r : Bytes) → x ≡ Response s j q gr r → (c k : ℕ) (y : Bytes) → g.given s ≡ c → g.last c j ≡ waiting q k y → changing mc y ≡ false → ⊥) → HouseStep mc g H drawn letters es now (record { does = To i x ∷ []; house = h })
  unfolding posted tells
  one x ok no_new =
      record {
        g' = g;
        core' = sends mc g H drawn letters es (l ∷ []) v (λ l' m'. elim (Memᴰ.cases_cons m') [ inl e ↦ subst (λ z. WordOk mc g H drawn z.by z.word) (sym e) ok | inr n' ↦ absurd (Memᴰ.not-nil n') ]) no_new';
        desks' = λ i' d y. y;
        alive' = λ i'. refl;
      }
    where
      l : Letter Msg
      l = record { to = i; by = 0; at' = now; word = x }

      no_new' : NoNewAnswer mc g (l ∷ [])
      no_new' l' m' s j q gr r e = elim (Memᴰ.cases_cons m') [ inl e' ↦ no_new s j q gr r (sym (ap (λ (z : Letter Msg). z.word) e') ∙ e) | inr n' ↦ absurd (Memᴰ.not-nil n') ]

  at_hello : (c : ℕ) → HelloOk g.desk drawn i c → (a b : Bool) → (not (eqb (peer_of h i).session 0) && eqb (peer_of h i).nonce c) ≡ a → (not (eqb (peer_of h i).offered_session 0) && eqb (peer_of h i).offered_nonce c) ≡ b → HouseStep mc g H drawn letters es now (hello_by i c a b h)
  unfolding hello_by posted tells
  at_hello c ok true b ea eb =
      let p = and_parts (not (eqb (H.peers i).session 0)) (eqb (H.peers i).nonce c) ea in
      let on = pos_from (H.peers i).session p.0 in
      let y = v.peers_ok.cur i on in
      one (Welcome c (H.peers i).session) (record { pos = on; below = y.below; is' = y.is' ∙ eqb-true (H.peers i).nonce c p.1 }) (λ s j q gr r e. absurd (let z : ◌≡◌ {A = ℕ} 0 1 = cc in omega arith))
  at_hello c ok false true ea eb =
      let p = and_parts (not (eqb (H.peers i).session' 0)) (eqb (H.peers i).nonce' c) eb in
      let on = pos_from (H.peers i).session' p.0 in
      let y = v.peers_ok.off i on in
      one (Welcome c (H.peers i).session') (record { pos = on; below = y.below; is' = y.is' ∙ eqb-true (H.peers i).nonce' c p.1 }) (λ s j q gr r e. absurd (let z : ◌≡◌ {A = ℕ} 0 1 = cc in omega arith))
  at_hello c ok false false ea eb =
      let new : 0 < (H.peers i).session → (H.peers i).nonce ≡ c → ⊥ = λ on e. both_ways (not (eqb (H.peers i).session 0) && eqb (H.peers i).nonce c) ea (and_from (not (eqb (H.peers i).session 0)) (eqb (H.peers i).nonce c) (not_from_false (eqb (H.peers i).session 0) (ne_eqb (H.peers i).session 0 (λ z. omega arith))) (eq-eqb (H.peers i).nonce c e)) in
      step_as mc g H drawn letters es now (hello_by i c false false h) (O.h' mc g H drawn letters es v i c ok new now) (O.g' mc g H drawn letters es v i c ok new now)
      (abs_offers_lem h i c inside (next64_is h.next_session (let a = facts.next' in omega arith)))
      (O.offer_made mc g H drawn letters es v i c ok new now)
      (λ i' d y. record { me = y.me; pos = y.pos; slots' = y.slots'; settled' = y.settled'; session' = λ l. let z = y.session' l in (let z0 = z.0 in omega arith, O.given_same mc g H drawn letters es v i c ok new now d.session z.0 ∙ z.1); current = λ e. at_ind (λ b p. p.session ≡ (H.peers b).session) i (O.peer' mc g H drawn letters es v i c ok new now) H.peers refl (λ _ _. refl) i' ∙ y.current e })
      (λ i'. refl)

  module _ (s j q : ℕ) (x : Bytes) (j-small : j < 8) (ok : RequestOk mc g H.next (H.peers i) drawn i s j q x) (on : 0 < (H.peers i).session) (is_s : (H.peers i).session ≡ s) where
    at_new : changing mc x ≡ true → ltb ((H.peers i).slots j).seq q ≡ true → HouseStep mc g H drawn letters es now (new_change_by i s j q x false h)
    unfolding new_change_by posted tells
    at_new ea eb =
        step_as mc g H drawn letters es now (new_change_by i s j q x false h) (C.h' mc law g H drawn letters es v i s j q x ea ok on is_s (ltb-true _ q eb) now) g
        (abs_records_lem h i j q x inside (let a = (facts.peer i).eight_slots in omega arith))
        (C.change_done mc law g H drawn letters es v i s j q x ea ok on is_s (ltb-true _ q eb) now)
        (λ i' d y. record { me = y.me; pos = y.pos; slots' = y.slots'; session' = y.session'; settled' = y.settled'; current = λ e. at_ind (λ b p. p.session ≡ (H.peers b).session) i (C.peer' mc law g H drawn letters es v i s j q x ea ok on is_s (ltb-true _ q eb) now) H.peers refl (λ _ _. refl) i' ∙ y.current e })
        (λ i'. refl)

    at_change : changing mc x ≡ true → (b d : Bool) → ltb ((H.peers i).slots j).seq q ≡ b → eqb ((H.peers i).slots j).seq q ≡ d → HouseStep mc g H drawn letters es now (change_by i s j q x b d h)
    unfolding change_by
    at_change ea true d eb ed = at_new ea eb
    at_change ea false true eb ed = one (Response s j q 0 ((H.peers i).slots j).answer) here no_new
      where
        seq_is : ((H.peers i).slots j).seq ≡ q
        seq_is = eqb-true ((H.peers i).slots j).seq q ed

        here : ResponseOk mc g H drawn s j q ((H.peers i).slots j).answer
        here = record { c = ok.c; i = i; pos = ok.pos; below = ok.below; is' = ok.is'; real = ok.real; whose = ok.whose; upto = ok.upto; stands = inr (record { on = on; is' = is_s; recorded' = λ k y w ch. (seq_is, refl) }) }

        no_new : (s' j' q' gr : ℕ) (r : Bytes) → Response s j q 0 ((H.peers i).slots j).answer ≡ Response s' j' q' gr r → (c k : ℕ) (x' : Bytes) → g.given s' ≡ c → g.last c j' ≡ waiting q' k x' → changing mc x' ≡ false → ⊥
        no_new s' j' q' gr r e c k x' gi w re =
            let e0 : s ≡ s' = cc in
            let e1 : j' ≡ j = cc in
            let e2 : q' ≡ q = cc in
            let e3 : c ≡ ok.c = sym gi ∙ (ap g.given (sym e0) ∙ ok.is') in
            elim ok.stands [ inl b ↦ (let b1 = b.1 in let ex : x' ≡ x = cc in both_ways (changing mc x') re (ap (changing mc) ex ∙ ea)) | inr b ↦ (let w1 : g.last ok.c j ≡ waiting q' k x' = cc in let l = b.over q' k x' w1 in omega arith) ]
    at_change ea false false eb ed = stay

    at_serve : (a : Bool) → mc.reads x ≡ a → HouseStep mc g H drawn letters es now (serve_by i s j q x a h)
    unfolding serve_by posted tells
    at_serve true ea = record { g' = g; core' = R.read_again mc law g H drawn letters es v i s j q x (not_from_true (mc.reads x) ea) ok on is_s now; desks' = λ i' d y. y; alive' = λ i'. refl }
    at_serve false ea = at_change (not_from_false (mc.reads x) ea) (ltb ((H.peers i).slots j).seq q) (eqb ((H.peers i).slots j).seq q) refl refl

  at_current : (s j q : ℕ) (x : Bytes) → j < 8 → RequestOk mc g H.next (H.peers i) drawn i s j q x → (b : Bool) → is_session s (H.peers i).session ≡ b → HouseStep mc g H drawn letters es now (current_by i s j q x b h)
  unfolding current_by
  at_current s j q x l ok true e = let a = is_true s (H.peers i).session e in let p = a.0 in let a1 = a.1 in at_serve s j q x l ok (omega arith) (sym a1) (mc.reads x) refl
  at_current s j q x l ok false e = stay

module _ (mc : Machine) (law : Lawful mc) (g : Ghost) (h : House mc) (drawn : List ℕ) (letters : List (Letter Msg)) (es : List Seen) (v : Core mc g (abs_house h) drawn letters es) (now : ℕ)
    (n t : ℕ) (small : n < limit) (facts : HouseFacts n t h) where
  abbrev pub K : AbsHouse mc
  K = abs_house h

  at_takes : (l : Letter Msg) → Memᴰ l letters → 0 < l.by → l.by < 64 → (s j q : ℕ) (x : Bytes) → l.word ≡ Request s j q x → j < 8 → (b : Bool) → is_session s (K.peers l.by).session' ≡ b → HouseStep mc g K drawn letters es now (current l.by s j q x (takes_up_by l.by b h))
  unfolding takes_up_by
  at_takes l m ip is s j q x w jl false e = at_current mc law g h drawn letters es v now n t small facts l.by ip is s j q x jl (subst (λ z. WordOk mc g K drawn l.by z) w (v.letters_ok l m)) (is_session s (K.peers l.by).session) refl
  at_takes l m ip is s j q x w jl true e = record { g' = st.g'; core' = st.core'; desks' = λ i d y. st.desks' i d (subst (λ z. DeskOk mc g1 z i d) (sym same) (record { me = y.me; pos = y.pos; slots' = y.slots'; session' = y.session'; settled' = y.settled'; current = λ e'. ap (λ (p : AbsPeer). p.session) (at_other l.by (abs_promoted (K.peers l.by)) K.peers i (λ eb. not_both i d y e' eb)) ∙ y.current e' })); alive' = st.alive' }
    where
      ok : RequestOk mc g K.next (K.peers l.by) drawn l.by s j q x
      ok = subst (λ z. WordOk mc g K drawn l.by z) w (v.letters_ok l m)

      is_s : s ≡ (K.peers l.by).session'
      is_s = (is_true s (K.peers l.by).session' e).1

      same : abs_house (promotes l.by h) ≡ abs_promotes K l.by
      same = abs_promotes_lem h l.by (let a = facts.peers64 in omega arith)

      -- a desk that was answered has the session that is current
      not_both : (b : ℕ) (d : Desk) → DeskOk mc g K b d → d.answered ≡ true → b ≡ l.by → ⊥
      not_both b d y e' eb =
          let on : 0 < (K.peers l.by).session = (let a = y.current e' in let c : (K.peers b).session ≡ (K.peers l.by).session = ap (λ z. (K.peers z).session) eb in let f = y.settled' e' in omega arith) in
          let lo = P.lower mc law g K drawn letters es v l.by s j q x ok is_s on in
          let up = P.upper mc law g K drawn letters es v l.by s j q x ok is_s in
          let em = v.emptied_ok.some l.by on in
          let nn : (K.peers l.by).nonce ≡ d.nonce = sym (v.peers_ok.cur l.by on).is' ∙ (ap g.given (ap (λ z. (K.peers z).session) (sym eb) ∙ y.current e') ∙ (y.session' (y.settled' e')).1) in
          let t' : 0 < g.alive b = (let a = y.me in let p = y.pos in omega arith) in
          let lf : g.life (K.peers l.by).nonce ≡ g.lives l.by = ap g.life (nn ∙ sym y.me) ∙ ((v.births.alive_is b t').2 ∙ ap g.lives eb) in
          omega arith

      g1 : Ghost
      g1 = P.g' mc law g K drawn letters es v l.by s j q x ok is_s

      v1 : Core mc g1 (abs_house (promotes l.by h)) drawn letters es
      v1 = subst (λ z. Core mc g1 z drawn letters es) (sym same) (P.taken_up_lem mc law g K drawn letters es v l.by s j q x ok is_s)

      st : HouseStep mc g1 (abs_house (promotes l.by h)) drawn letters es now (current l.by s j q x (promotes l.by h))
      st = at_current mc law g1 (promotes l.by h) drawn letters es v1 now n t small (f_takes law n t l.by true h ip facts) l.by ip is s j q x jl (subst (λ z. WordOk mc g1 (abs_house (promotes l.by h)) drawn l.by z) w (v1.letters_ok l m)) (is_session s ((abs_house (promotes l.by h)).peers l.by).session) refl

  at_request : (l : Letter Msg) → Memᴰ l letters → 0 < l.by → l.by < 64 → (s j q : ℕ) (x : Bytes) → l.word ≡ Request s j q x → (b : Bool) → ltb j 8 ≡ b → HouseStep mc g K drawn letters es now (request_by l.by s j q x b h)
  unfolding request_by
  at_request l m ip is s j q x w true e = at_takes l m ip is s j q x w (ltb-true j 8 e) _ refl
  at_request l m ip is s j q x w false e = stay mc law g h drawn letters es v now n t small facts l.by ip is

  at_hears : (l : Letter Msg) → Memᴰ l letters → 0 < l.by → l.by < 64 → (m : Msg) → l.word ≡ m → HouseStep mc g K drawn letters es now (house_hears l.by m h)
  unfolding house_hears
  at_hears l m ip is (Hello c) w = at_hello mc law g h drawn letters es v now n t small facts l.by ip is c (subst (λ z. WordOk mc g K drawn l.by z) w (v.letters_ok l m)) _ _ refl refl
  at_hears l m ip is (Welcome c s) w = stay mc law g h drawn letters es v now n t small facts l.by ip is
  at_hears l m ip is (Request s j q x) w = at_request l m ip is s j q x w _ refl
  at_hears l m ip is (Response s j q gr r) w = stay mc law g h drawn letters es v now n t small facts l.by ip is
  at_hears l m ip is (Alive s) w = stay mc law g h drawn letters es v now n t small facts l.by ip is

quiet : (mc : Machine) (g : Ghost) (h : House mc) (drawn : List ℕ) (letters : List (Letter Msg)) (es : List Seen) (now : ℕ) → Core mc g (abs_house h) drawn letters es → HouseStep mc g (abs_house h) drawn letters es now (record { does = []; house = h })
unfolding posted tells
quiet mc g h drawn letters es now v = record { g' = g; core' = v; desks' = λ i d y. y; alive' = λ i. refl }

module _ (mc : Machine) (law : Lawful mc) (g : Ghost) (h : House mc) (drawn : List ℕ) (letters : List (Letter Msg)) (es : List Seen) (v : Core mc g (abs_house h) drawn letters es) (now : ℕ)
    (n t : ℕ) (small : n < limit) (facts : HouseFacts n t h) where
  at_from : (l : Letter Msg) → Memᴰ l letters → (b : Bool) → (ltb 0 l.by && ltb l.by 64) ≡ b → HouseStep mc g (abs_house h) drawn letters es now (house_from_by l.by l.word t b h)
  unfolding house_from_by
  at_from l m true e =
      let a = and_parts (ltb 0 l.by) (ltb l.by 64) e in
      at_hears mc law g (hearing l.by t h) drawn letters es v now n t small (f_hearing law n t l.by h facts) l m (ltb-true 0 l.by a.0) (ltb-true l.by 64 a.1) l.word refl
  at_from l m false e = quiet mc g h drawn letters es now v

  pub at_house : (l : Letter Msg) → Memᴰ l letters → HouseStep mc g (abs_house h) drawn letters es now (house_turn (From l.by l.word) t h)
  unfolding house_turn
  at_house l m = at_from l m _ refl

-- A TICK

word_like : (mc : Machine) (g : Ghost) (h : AbsHouse mc) (drawn : List ℕ) (s : mc.State) (by : ℕ) (m : Msg) → WordOk mc g h drawn by m → WordOk mc g (record { table = s; next = h.next; peers = h.peers }) drawn by m
word_like mc g h drawn s by (Hello c) a = a
word_like mc g h drawn s by (Welcome c s') a = a
word_like mc g h drawn s by (Request s' j q x) a = a
word_like mc g h drawn s by (Response s' j q gr r) y = record { c = y.c; i = y.i; pos = y.pos; below = y.below; is' = y.is'; real = y.real; whose = y.whose; upto = y.upto; stands = y.stands }
word_like mc g h drawn s by (Alive s') a = tt

core_lapsed : (mc : Machine) (law : Lawful mc) (g : Ghost) (h : AbsHouse mc) (drawn : List ℕ) (letters : List (Letter Msg)) (es : List Seen) (j : ℕ) → Core mc g h drawn letters es → Core mc g (record { table = mc.leaves j h.table; next = h.next; peers = h.peers }) drawn letters (lapsed j ∷ es)
unfolding is_used
core_lapsed mc law g h drawn letters es j v =
    record {
      births = v.births;
      peers_ok = v.peers_ok;
      seqs = v.seqs;
      emptied_ok = v.emptied_ok;
      numbers = record { seq_pos = v.numbers.seq_pos; used = v.numbers.used; once = v.numbers.once };
      free = λ i e. let a = v.free i e in let b = law.leaves_less j i h.table in omega arith;
      letters_ok = λ l m. word_like mc g h drawn (mc.leaves j h.table) l.by l.word (v.letters_ok l m);
      table = λ σ y. let u = v.table σ y in record { os = u.os; rs = u.rs; tab = has_lapsed j u.tab; change = u.change; reading = u.reading };
    }

module _ (mc : Machine) (law : Lawful mc) (g : Ghost) (h : House mc) (drawn : List ℕ) (letters : List (Letter Msg)) (es : List Seen) (v : Core mc g (abs_house h) drawn letters es) (now t : ℕ) where
  lapse_by_lem : (i : ℕ) (b : Bool) (x : HouseTurn mc) → HouseStep mc g (abs_house h) drawn letters es now x → HouseStep mc g (abs_house h) drawn letters es now (lapse_by i b x)
  unfolding lapse_by posted tells
  lapse_by_lem i true x y =
      record {
        g' = y.g';
        core' = core_lapsed mc law y.g' (abs_house x.house) drawn (posted 0 now x.does ++ letters) (tells 0 x.does ++ es) i y.core';
        desks' = λ i' d z. let u = y.desks' i' d z in record { me = u.me; pos = u.pos; slots' = u.slots'; session' = u.session'; settled' = u.settled'; current = u.current };
        alive' = y.alive';
      }
  lapse_by_lem i false x y = y

  lapses : (i k : ℕ) → HouseStep mc g (abs_house h) drawn letters es now (lapses_from t i k h)
  unfolding lapses_from
  lapses i zero = quiet mc g h drawn letters es now v
  lapses i (suc k) = lapse_by_lem i (is_silent t h i) (lapses_from t (i + 1) k h) (lapses (i + 1) k)

  pub at_house_beat : HouseStep mc g (abs_house h) drawn letters es now (house_turn Beat t h)
  unfolding house_turn
  at_house_beat = lapses 1 63
