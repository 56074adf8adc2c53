-- Two minutes are enough: the house and one desk alone, from whatever has come to be.
use Rattle.std.proofs.Common.{◌≡◌, ℕ, zero, suc, ◌+◌, ◌-◌, ◌<◌, ◌≤◌, Bool, true, false, eqb, ◌⊎◌, List, [], ◌∷◌, ◌++◌, map, length, get_or, set, sym, refl, ap, ◌∙◌, subst, inl, inr, append_assoc, arith}
use mathlib.Core.List.Memᴰ
use mathlib.Core.List.{Memᴰ}
use Rattle.std.proofs.lemmas.Bool.{cases_eq, le-leb}
use Rattle.promise.specs.Bytes.{Bytes}
use Rattle.promise.specs.Machine.{Machine}
use Rattle.promise.specs.Desks.{From, Beat, Does, To, Tell, Lapse, Letter, Seen, told, posted, tells, Stand, there, World, Clocks, turned, hearing, lit, Goes, hears, beats, lights, Between, stay, talk, beat, light, Within, TwoMinutes}
use Rattle.codec.specs.Messages.{Msg, Hello, Welcome, Request, Response}
use Rattle.asking.specs.Lawful.{Lawful}
use Rattle.asking.specs.House.{House, HouseTurn, peer_of, house_goes_on}
use Rattle.asking.specs.Desk.{Slot, Idle, Waiting, Desk, DeskTurn, requests, sent_now, unsent_now, not_sent, is_due, any_due, adopts_by, sends_unsent, tells_answer, tick_by, speaks}
use Rattle.asking.specs.Code.{Settings, Mind, house, desk, Turn, house_turn, desk_turn, mind_turn, mind_goes_on, asking}
use Rattle.asking.proofs.View.{AbsSlot, idle, waiting, abs_house, abs_slot, slots_of}
use Rattle.asking.proofs.Base.{at_same, at_other}
use Rattle.asking.proofs.Arrays.{get_d_at, slots_map, waits_inside}
use Rattle.asking.proofs.Facts.{DeskFacts, SlotFacts, Facts, all_facts}
use Rattle.asking.proofs.Inv.{Ghost, Core, DeskOk}
use Rattle.asking.proofs.AtDesk.{a_sent, a_unsent_now, adopts_session, adopts_slots}
use Rattle.asking.proofs.OneTable.{InvOf, HouseIs, inv, is_house, is_desk_lem}
use Rattle.asking.proofs.Shortened.{short}
use Rattle.asking.proofs.Waiting.{WaitsOk, WaitsIs, SendsOnly, all_wait}
use Rattle.asking.proofs.Silence.{waited}
use Rattle.asking.proofs.Answers.{Answered, house_answers, Welcomed, house_welcomes, desk_adopts, desk_tells, asking', all_asked, unsent_passes, adopts_passes, none_due, Passes}

sends_tells : (i : ℕ) (ds : List (Does Msg)) → SendsOnly ds → tells i ds ≡ []
unfolding tells
sends_tells i [] h = refl
sends_tells i (To j x ∷ ds) h = sends_tells i ds h
sends_tells i (Tell k r ∷ ds) h = absurd h
sends_tells i (Lapse j ∷ ds) h = absurd h

-- STEPS BETWEEN. w: where it began; t0: now; most: how many steps there were by then
module _ (mc : Machine) (law : Lawful mc) (z : Settings) (clock : ℕ → ℕ → ℕ) (clocks : Clocks clock) (all : ℕ) (some' : 2 ≤ all) (most' : all ≤ 64) (i : ℕ) (pos : 0 < i) (small : i < all) (w : World (Mind mc) Msg) (t0 base : ℕ) (base-small : base < 72057594038976000) where
  pub record At (turns : ℕ) (fs : List Seen) (h : House mc) (d : Desk) (new : List (Letter Msg)) : Type 0 where
    pub v : World (Mind mc) Msg
    pub between : Between (asking mc z) clock i w turns fs v
    pub n : ℕ
    pub few : n ≤ base + turns
    pub seen : List Seen
    pub goes : Goes (asking mc z) clock all n seen v
    pub letters' : v.letters ≡ new ++ w.letters
    pub house_is : v.who 0 ≡ there (house h)
    pub desk_is : v.who i ≡ there (desk d)
    pub now_is : v.now ≡ t0

  letters_are : (b t : ℕ) (ds ds' : List (Does Msg)) (ls new : List (Letter Msg)) → ds ≡ ds' → t ≡ t0 → ls ≡ new ++ w.letters → posted b t ds ++ ls ≡ (posted b t0 ds' ++ new) ++ w.letters
  letters_are b t ds ds' ls new e1 e2 e3 = rw append_assoc (λ y. posted b (e2 y) (e1 y) ++ e3 y)

  talk_house : (turns : ℕ) (fs : List Seen) (h : House mc) (d : Desk) (new : List (Letter Msg)) (a : At turns fs h d new) (l : Letter Msg) → Memᴰ l new → l.to ≡ 0 → l.by ≡ i → (ds : List (Does Msg)) (h' : House mc) → house_turn (From l.by l.word) (clock 0 a.v.now) h ≡ record { does = ds; house = h' } → SendsOnly ds → At (suc turns) fs h' d (posted 0 t0 ds ++ new)
  unfolding mind_turn
  talk_house turns fs h d new a l m to by ds h' e st =
      record {
        v = turned (asking mc z) 0 tn (hearing 0 l.by (clock 0 a.v.now) a.v);
        between = subst (λ y. Between (asking mc z) clock i w (suc turns) (y ++ fs) (turned (asking mc z) 0 tn (hearing 0 l.by (clock 0 a.v.now) a.v))) (ap (λ (t : HouseTurn mc). tells 0 t.does) e ∙ sends_tells 0 ds st) (talk 0 (house h) l new (inl refl) (inr by) a.between a.house_is a.letters' m to);
        n = suc a.n;
        few = (let f = a.few in omega arith);
        seen = tells 0 tn.does ++ a.seen;
        goes = hears 0 (house h) l (omega arith) a.goes a.house_is (subst (λ y. Memᴰ l y) (sym a.letters') (Memᴰ.append_left w.letters m)) to;
        letters' = letters_are 0 a.v.now tn.does ds a.v.letters new (ap (λ (t : HouseTurn mc). t.does) e) a.now_is a.letters';
        house_is = at_same 0 (there tn.mind) a.v.who ∙ ap (λ (t : HouseTurn mc). there (house t.house)) e;
        desk_is = at_other 0 (there tn.mind) a.v.who i (λ y. omega arith) ∙ a.desk_is;
        now_is = a.now_is;
      }
    where
      tn : Turn mc
      tn = mind_turn z (From l.by l.word) (clock 0 a.v.now) (house h)

  talk_desk : (turns : ℕ) (fs : List Seen) (h : House mc) (d : Desk) (new : List (Letter Msg)) (a : At turns fs h d new) (l : Letter Msg) → Memᴰ l new → l.to ≡ i → l.by ≡ 0 → (ds : List (Does Msg)) (d' : Desk) → desk_turn z (From l.by l.word) (clock i a.v.now) d ≡ record { does = ds; desk = d' } → At (suc turns) (tells i ds ++ fs) h d' (posted i t0 ds ++ new)
  unfolding mind_turn
  talk_desk turns fs h d new a l m to by ds d' e =
      record {
        v = turned (asking mc z) i tn (hearing i l.by (clock i a.v.now) a.v);
        between = subst (λ y. Between (asking mc z) clock i w (suc turns) (y ++ fs) (turned (asking mc z) i tn (hearing i l.by (clock i a.v.now) a.v))) (ap (λ (t : DeskTurn). tells i t.does) e) (talk i (desk d) l new (inr refl) (inl by) a.between a.desk_is a.letters' m to);
        n = suc a.n;
        few = (let f = a.few in omega arith);
        seen = tells i tn.does ++ a.seen;
        goes = hears i (desk d) l small a.goes a.desk_is (subst (λ y. Memᴰ l y) (sym a.letters') (Memᴰ.append_left w.letters m)) to;
        letters' = letters_are i a.v.now tn.does ds a.v.letters new (ap (λ (t : DeskTurn). t.does) e) a.now_is a.letters';
        house_is = at_other i (there tn.mind) a.v.who 0 (λ y. omega arith) ∙ a.house_is;
        desk_is = at_same i (there tn.mind) a.v.who ∙ ap (λ (t : DeskTurn). there (desk t.desk)) e;
        now_is = a.now_is;
      }
    where
      tn : Turn mc
      tn = mind_turn z (From l.by l.word) (clock i a.v.now) (desk d)

  beat_desk : (turns : ℕ) (fs : List Seen) (h : House mc) (d : Desk) (new : List (Letter Msg)) (a : At turns fs h d new) (ds : List (Does Msg)) (d' : Desk) → desk_turn z Beat (clock i a.v.now) d ≡ record { does = ds; desk = d' } → At (suc turns) (tells i ds ++ fs) h d' (posted i t0 ds ++ new)
  unfolding mind_turn
  beat_desk turns fs h d new a ds d' e =
      record {
        v = turned (asking mc z) i tn a.v;
        between = subst (λ y. Between (asking mc z) clock i w (suc turns) (y ++ fs) (turned (asking mc z) i tn a.v)) (ap (λ (t : DeskTurn). tells i t.does) e) (beat i (desk d) (inr refl) a.between a.desk_is);
        n = suc a.n;
        few = (let f = a.few in omega arith);
        seen = tells i tn.does ++ a.seen;
        goes = beats i (desk d) small a.goes a.desk_is;
        letters' = letters_are i a.v.now tn.does ds a.v.letters new (ap (λ (t : DeskTurn). t.does) e) a.now_is a.letters';
        house_is = at_other i (there tn.mind) a.v.who 0 (λ y. omega arith) ∙ a.house_is;
        desk_is = at_same i (there tn.mind) a.v.who ∙ ap (λ (t : DeskTurn). there (desk t.desk)) e;
        now_is = a.now_is;
      }
    where
      tn : Turn mc
      tn = mind_turn z Beat (clock i a.v.now) (desk d)

  -- WHAT IS KNOWN THERE

  record View (h : House mc) (d : Desk) : Type 0 where
    g : Ghost
    drawn : List ℕ
    letters : List (Letter Msg)
    es : List Seen
    core' : Core mc g (abs_house h) drawn letters es
    ok : DeskOk mc g (abs_house h) i d
    peers64 : length h.peers ≡ 64

  view : (turns : ℕ) → turns ≤ 100 → (fs : List Seen) (h : House mc) (d : Desk) (new : List (Letter Msg)) → At turns fs h d new → View h d
  view turns le fs h d new a =
      record {
        g = v.g;
        drawn = a.v.drawn;
        letters = a.v.letters;
        es = short a.seen;
        core' = subst (λ y. Core mc v.g (abs_house y) a.v.drawn a.v.letters (short a.seen)) (sym eh) v.core';
        ok = subst (λ y. DeskOk mc v.g (abs_house y) i d) (sym eh) (subst (λ y. DeskOk mc v.g (abs_house v.h) i y) (sym ed) y.2);
        peers64 = (subst (λ s. Facts a.n (clock 0 a.v.now) s) a.house_is (all_facts mc law z clock clocks a.goes 0)).peers64;
      }
    where
      v : InvOf a.v a.seen
      v = inv mc law z clock clocks a.goes (let f = a.few in omega arith)

      eh : h ≡ v.h
      eh = let o = is_house v.h (house h) (a.v.who 0) a.house_is v.house_is in cc

      y : (d2 : Desk) × (◌≡◌ {A = Mind mc} (desk d) (desk d2)) × DeskOk mc v.g (abs_house v.h) i d2
      y = is_desk_lem v.g (abs_house v.h) i (desk d) (a.v.who i) a.desk_is (v.desks i pos)

      ed : d ≡ y.0
      ed = let o = y.1 in cc

  -- ONE CALL AFTER THE OTHER

  -- house and desk know of one session, and what waits below n is asked
  record Ready' (n : ℕ) (h : House mc) (d : Desk) (new : List (Letter Msg)) : Type 0 where
    session : 0 < d.session
    on : (d.session ≡ (peer_of h i).session) ⊎ (d.session ≡ (peer_of h i).offered_session)
    sent : (j q k : ℕ) (x : Bytes) → j < n → slots_of d.slots j ≡ waiting q k x → Memᴰ (asking' i t0 d.session j q x) new

  pub record Served (n turns : ℕ) (fs : List Seen) (d : Desk) : Type 0 where
    pub turns' : ℕ
    pub few : turns' ≤ turns + (n + n)
    pub fs' : List Seen
    pub v : World (Mind mc) Msg
    pub between : Between (asking mc z) clock i w turns' fs' v
    pub now' : v.now ≡ t0
    pub more' : (e : Seen) → Memᴰ e fs → Memᴰ e fs'
    pub all_told : (j q k : ℕ) (x : Bytes) → j < n → slots_of d.slots j ≡ waiting q k x → (r : Bytes) × Memᴰ (told i k r) fs'

  record One (n turns : ℕ) (fs : List Seen) (d : Desk) (q k : ℕ) : Type 0 where
    r : Bytes
    h' : House mc
    new' : List (Letter Msg)
    here : At (suc (suc turns)) (told i k r ∷ fs) h' (tells_answer n q k r d).desk new'
    ready' : Ready' n h' (tells_answer n q k r d).desk new'

  serve_one : (n turns : ℕ) → turns + (suc n + suc n) ≤ 100 → suc n ≤ 8 → (fs : List Seen) (h : House mc) (d : Desk) (new : List (Letter Msg)) → At turns fs h d new → Ready' (suc n) h d new → (q k : ℕ) (x : Bytes) → slots_of d.slots n ≡ waiting q k x → One n turns fs d q k
  unfolding posted tells
  serve_one n turns le n8 fs h d new a y q k x e =
      record {
        r = an.r;
        h' = an.h';
        new' = l2 ∷ new;
        here = a2;
        ready' = record { session = y.session; on = inl an.on; sent = λ j q' k' x' l w'. Memᴰ.tail (y.sent j q' k' x' (omega arith) (sym (other_slot j (omega arith)) ∙ w')) };
      }
    where
      u : View h d
      u = view turns (omega arith) fs h d new a

      an : Answered (house_turn (From i (Request d.session n q x)) (clock 0 a.v.now) h) i d.session n q
      an = house_answers i u.g h u.drawn u.letters u.es u.core' u.peers64 pos (omega arith) d u.ok (clock 0 a.v.now) n q k x (omega arith) y.session e y.on

      l2 : Letter Msg
      l2 = record { to = i; by = 0; at' = t0; word = Response d.session n q 0 an.r }

      a1 : At (suc turns) fs an.h' d (l2 ∷ new)
      a1 = talk_house turns fs h d new a (asking' i t0 d.session n q x) (y.sent n q k x (omega arith) e) refl refl (To i (Response d.session n q 0 an.r) ∷ []) an.h' an.is' tt

      a2 : At (suc (suc turns)) (told i k an.r ∷ fs) an.h' (tells_answer n q k an.r d).desk (l2 ∷ new)
      a2 = talk_desk (suc turns) fs an.h' d (l2 ∷ new) a1 l2 (Memᴰ.head refl) refl refl (Tell k an.r ∷ []) (tells_answer n q k an.r d).desk (desk_tells z d (clock i a1.v.now) d.session n q k x an.r y.session refl e)

      other_slot : (j : ℕ) → j < n → slots_of (set d.slots n (Idle q)) j ≡ slots_of d.slots j
      other_slot j l = get_d_at abs_slot d.slots n (Idle q) (Idle 0) (waits_inside d.slots n q k x e) j ∙ at_other n (idle q) (slots_of d.slots) j (λ o. omega arith)

  serve_all : (n turns : ℕ) → turns + (n + n) ≤ 100 → n ≤ 8 → (fs : List Seen) (h : House mc) (d : Desk) (new : List (Letter Msg)) → At turns fs h d new → Ready' n h d new → Served n turns fs d
  serve_all zero turns le n8 fs h d new a y = record { turns' = turns; few = omega arith; fs' = fs; v = a.v; between = a.between; now' = a.now_is; more' = λ e m. m; all_told = λ j q k x l w'. absurd (omega arith) }
  serve_all (suc n) turns le n8 fs h d new a y = go (λ turns' le' fs' h' d' new' a' y'. serve_all n turns' le' (omega arith) fs' h' d' new' a' y') (slots_of d.slots n) refl
    where
      other_slot : (q q' k : ℕ) (x : Bytes) → slots_of d.slots n ≡ waiting q' k x → (j : ℕ) → (j ≡ n → ⊥) → slots_of (set d.slots n (Idle q)) j ≡ slots_of d.slots j
      other_slot q q' k x e j o = get_d_at abs_slot d.slots n (Idle q) (Idle 0) (waits_inside d.slots n q' k x e) j ∙ at_other n (idle q) (slots_of d.slots) j o

      go : ((turns' : ℕ) → turns' + (n + n) ≤ 100 → (fs' : List Seen) (h' : House mc) (d' : Desk) (new' : List (Letter Msg)) → At turns' fs' h' d' new' → Ready' n h' d' new' → Served n turns' fs' d') → (s : AbsSlot) → slots_of d.slots n ≡ s → Served (suc n) turns fs d
      go ih (idle p) e =
          let s = ih turns (omega arith) fs h d new a (record { session = y.session; on = y.on; sent = λ j q k x l w'. y.sent j q k x (omega arith) w' }) in
          record {
            turns' = s.turns';
            few = (let f = s.few in omega arith);
            fs' = s.fs';
            v = s.v;
            between = s.between;
            now' = s.now';
            more' = s.more';
            all_told = λ j q k x l w'. elim (cases_eq j n) [ inl p' ↦ absurd (let o : slots_of d.slots j ≡ slots_of d.slots n = ap (slots_of d.slots) p' in let t : ◌≡◌ {A = ℕ} 0 1 = cc in omega arith) | inr p' ↦ s.all_told j q k x (omega arith) w' ];
          }
      go ih (waiting q0 k0 x0) e =
          let o = serve_one n turns le n8 fs h d new a y q0 k0 x0 e in
          let s = ih (suc (suc turns)) (omega arith) (told i k0 o.r ∷ fs) o.h' (tells_answer n q0 k0 o.r d).desk o.new' o.here o.ready' in
          record {
            turns' = s.turns';
            few = (let f = s.few in omega arith);
            fs' = s.fs';
            v = s.v;
            between = s.between;
            now' = s.now';
            more' = λ e' m. s.more' e' (Memᴰ.tail m);
            all_told = λ j q k x l w'. elim (cases_eq j n) [ inl p' ↦ (let u : slots_of d.slots j ≡ slots_of d.slots n = ap (slots_of d.slots) p' in let ek : k ≡ k0 = cc in (o.r, s.more' (told i k o.r) (Memᴰ.head (ap (λ b. told i b o.r) ek)))) | inr p' ↦ s.all_told j q k x (omega arith) (other_slot q0 q0 k0 x0 e j p' ∙ w') ];
          }

  -- FROM A TICK ON, at which all that waits is due

  tick_is : (d : Desk) (t : ℕ) (a b : Bool) → any_due z.retry t d.slots ≡ a → d.answered ≡ b → desk_turn z Beat t d ≡ tick_by z.retry t a b d
  unfolding desk_turn
  tick_is d t a b ea eb = λ y. tick_by z.retry t (ea y) (eb y) d

  both_there : (turns : ℕ) → turns ≤ 1 → (h : House mc) (d : Desk) (a : At turns [] h d []) → ((j : ℕ) → Passes (is_due z.retry (clock i a.v.now)) (get_or d.slots j (Idle 0))) → Served 8 (turns + 3) [] d
  unfolding posted tells tick_by
  both_there turns le h d a due = go (any_due z.retry t d.slots) d.answered refl refl
    where
      t : ℕ
      t = clock i a.v.now

      u : View h d
      u = view turns (omega arith) [] h d [] a

      lh : Letter Msg
      lh = record { to = 0; by = i; at' = t0; word = Hello d.nonce }

      -- the desk after a Hello
      d1 : Desk
      d1 = (speaks t (To 0 (Hello d.nonce) ∷ []) (map (unsent_now t) d.slots) d).desk

      told_same : (xs : List Slot) (d' : Desk) → d'.slots ≡ xs → ((j : ℕ) → slots_of xs j ≡ slots_of d.slots j) → (turns' : ℕ) → turns' + 16 ≤ (turns + 3) + 16 → (fs : List Seen) → Served 8 turns' fs d' → Served 8 (turns + 3) [] d
      told_same xs d' ex same turns' le' fs s = record { turns' = s.turns'; few = (let f = s.few in omega arith); fs' = s.fs'; v = s.v; between = s.between; now' = s.now'; more' = λ e m. absurd (Memᴰ.not-nil m); all_told = λ j q k x l w'. s.all_told j q k x l (ap (λ ys. slots_of ys j) ex ∙ (same j ∙ w')) }

      welcome : (a1 : At (suc turns) [] h d1 (lh ∷ [])) → d.answered ≡ false → Served 8 (turns + 3) [] d
      welcome a1 ex =
          let wl : Welcomed (house_turn (From i (Hello d.nonce)) (clock 0 a1.v.now) h) i d.nonce = house_welcomes i d.nonce (clock 0 a1.v.now) h u.peers64 pos (omega arith) u.core'.peers_ok.next_pos in
          let lw : Letter Msg = record { to = i; by = 0; at' = t0; word = Welcome d.nonce wl.s } in
          let a2 : At (suc (suc turns)) [] wl.h' d1 (lw ∷ lh ∷ []) = talk_house (suc turns) [] h d1 (lh ∷ []) a1 lh (Memᴰ.head refl) refl refl (To i (Welcome d.nonce wl.s) ∷ []) wl.h' wl.is' tt in
          let t2 : ℕ = clock i a2.v.now in
          let d2 : Desk = adopts_by wl.s (eqb wl.s d1.session) d1 in
          let ds : List (Does Msg) = requests not_sent d2.session 0 d2.slots in
          let d3 : Desk = (sends_unsent t2 d2).desk in
          let a3 : At (suc (suc (suc turns))) (tells i ds ++ []) wl.h' d3 (posted i t0 ds ++ (lw ∷ lh ∷ [])) = talk_desk (suc (suc turns)) [] wl.h' d1 (lw ∷ lh ∷ []) a2 lw (Memᴰ.head refl) refl refl ds d3 (desk_adopts z d1 t2 wl.s ex wl.pos) in
          let sess : d2.session ≡ wl.s = adopts_session wl.s (eqb wl.s d1.session) d1 refl in
          let wpos = wl.pos in
          let same : (j : ℕ) → slots_of (map (sent_now not_sent t2) d2.slots) j ≡ slots_of d2.slots j = slots_map (sent_now not_sent t2) (a_sent not_sent t2) d2.slots in
          let s = serve_all 8 (suc (suc (suc turns))) (omega arith) (omega arith) (tells i ds ++ []) wl.h' d3 (posted i t0 ds ++ (lw ∷ lh ∷ [])) a3
          (record {
            session = omega arith;
            on = elim wl.on [ inl o ↦ inl (sess ∙ o) | inr o ↦ inr (sess ∙ o) ];
            sent = λ j q k x l w'. Memᴰ.append_left (lw ∷ lh ∷ []) (all_asked i t0 not_sent d2.session d2.slots (adopts_passes wl.s (eqb wl.s d1.session) d1 (unsent_passes t d.slots)) j q k x (sym (same j) ∙ w'));
          }) in
          told_same (map (sent_now not_sent t2) d2.slots) d3 refl (λ j. same j ∙ (adopts_slots wl.s (eqb wl.s d1.session) d1 j ∙ slots_map (unsent_now t) (a_unsent_now t) d.slots j)) (suc (suc (suc turns))) (omega arith) (tells i ds ++ []) s

      go : (x y : Bool) → any_due z.retry t d.slots ≡ x → d.answered ≡ y → Served 8 (turns + 3) [] d
      go false y ex ey = record { turns' = turns; few = omega arith; fs' = []; v = a.v; between = a.between; now' = a.now_is; more' = λ e m. m; all_told = λ j q k x l w'. absurd (none_due z.retry t d.slots ex due j q k x w') }
      go true true ex ey =
          let ds : List (Does Msg) = requests (is_due z.retry t) d.session 0 d.slots in
          let d4 : Desk = (speaks t ds (map (sent_now (is_due z.retry t) t) d.slots) d).desk in
          let same : (j : ℕ) → slots_of d4.slots j ≡ slots_of d.slots j = slots_map (sent_now (is_due z.retry t) t) (a_sent (is_due z.retry t) t) d.slots in
          let a1 : At (suc turns) (tells i ds ++ []) h d4 (posted i t0 ds ++ []) = beat_desk turns [] h d [] a ds d4 (tick_is d t true true ex ey) in
          let s = serve_all 8 (suc turns) (omega arith) (omega arith) (tells i ds ++ []) h d4 (posted i t0 ds ++ []) a1
          (record {
            session = u.ok.settled' ey;
            on = inl (sym (u.ok.current ey));
            sent = λ j q k x l w'. Memᴰ.append_left [] (all_asked i t0 (is_due z.retry t) d.session d.slots due j q k x (sym (same j) ∙ w'));
          }) in
          told_same d4.slots d4 refl same (suc turns) (omega arith) (tells i ds ++ []) s
      go true false ex ey = welcome (beat_desk turns [] h d [] a (To 0 (Hello d.nonce) ∷ []) d1 (tick_is d t true false ex ey)) ey

-- WHATEVER HAS COME TO BE

-- after enough time all that waits is due
late : (z : Settings) (n t t' : ℕ) (d : Desk) → DeskFacts n t d → t + z.retry ≤ t' → (j : ℕ) → Passes (is_due z.retry t') (get_or d.slots j (Idle 0))
late z n t t' d f l j = go (get_or d.slots j (Idle 0)) (f.slot j)
  where
    go : (y : Slot) → SlotFacts n t y → Passes (is_due z.retry t') y
    go (Idle q) u = tt
    go (Waiting q k c b f' l') u = le-leb z.retry (t' - l') (let u1 = u.1 in omega arith)

pub two_minutes : (mc : Machine) → Lawful mc → (z : Settings) → z.retry ≤ 50000 → TwoMinutes (asking mc z)
unfolding mind_goes_on
two_minutes mc law z r50 clock clocks all n a b c es w g i pos small = go (all_wait mc law z clock clocks g (omega arith) i pos)
  where
    v : InvOf w es
    v = inv mc law z clock clocks g (omega arith)

    -- the house is there, in at most one turn; then time goes by
    from_there : (d : Desk) → w.who i ≡ there (desk d) → WaitsOk i (slots_of d.slots) w.waits → (w1 : World (Mind mc) Msg) (h : House mc) (turns steps : ℕ) → turns ≤ 1 → steps ≤ n + 1 → Between (asking mc z) clock i w turns [] w1 → Goes (asking mc z) clock all steps es w1 → w1.who 0 ≡ there (house h) → w1.who i ≡ there (desk d) → w1.letters ≡ w.letters → w1.now ≡ w.now → Within (asking mc z) clock i w (λ fs u. (k : ℕ) → Memᴰ (record { desk = i; number = k }) w.waits → (r : Bytes) × Memᴰ (told i k r) fs)
    from_there d e ok w1 h turns steps tl sl bt gs hi di li ni =
        let q = waited mc z clock all i steps turns [] es w w1 bt gs 50600 in
        let t0 : ℕ = w.now + 50600 in
        let at0 : At mc law z clock clocks all a b i pos small w t0 (n + 50601) (omega arith) turns [] h d [] =
        record {
          v = q.v;
          between = q.between;
          n = steps + 50600;
          few = omega arith;
          seen = es;
          goes = q.goes;
          letters' = q.letters' ∙ li;
          house_is = ap (λ (f : ℕ → Stand (Mind mc)). f 0) q.who' ∙ hi;
          desk_is = ap (λ (f : ℕ → Stand (Mind mc)). f i) q.who' ∙ di;
          now_is = (let x = q.now' in omega arith);
        } in
        let facts : DeskFacts n (clock i w.now) d = subst (λ s. Facts n (clock i w.now) s) e (all_facts mc law z clock clocks g i) in
        let passed : clock i w.now + z.retry ≤ clock i q.v.now = (let x = clocks.quick i w.now (w.now + 50600) (omega arith) in let y : clock i q.v.now ≡ clock i (w.now + 50600) = ap (clock i) (q.now' ∙ ap (λ m. m + 50600) ni) in omega arith) in
        let s = both_there mc law z clock clocks all a b i pos small w t0 (n + 50601) (omega arith) turns tl h d at0 (late z n (clock i w.now) (clock i q.v.now) d facts passed) in (
          s.turns',
          s.fs',
          s.v,
          s.between,
          (let x = s.now' in omega arith),
          (let x = s.few in omega arith),
          λ k m. let f = ok.in_slot k m in s.all_told f.0 f.1 k f.2 (let x = waits_inside d.slots f.0 f.1 k f.2 f.3 in let y = facts.eight_slots in omega arith) f.3,
        )

    by_house : (d : Desk) → w.who i ≡ there (desk d) → WaitsOk i (slots_of d.slots) w.waits → HouseIs v.h (w.who 0) → Within (asking mc z) clock i w (λ fs u. (k : ℕ) → Memᴰ (record { desk = i; number = k }) w.waits → (r : Bytes) × Memᴰ (told i k r) fs)
    by_house d e ok (inl y) = from_there d e ok w v.h 0 n (omega arith) (omega arith) stay g y e refl refl
    by_house d e ok (inr y) = from_there d e ok (lit (asking mc z) clock (house v.h) w) (house_goes_on (clock 0 w.now) v.h) 1 (suc n) (omega arith) (omega arith) (light (house v.h) stay y) (lights (house v.h) g y) (at_same 0 (there (mind_goes_on (clock 0 w.now) (house v.h))) w.who) (at_other 0 (there (mind_goes_on (clock 0 w.now) (house v.h))) w.who i (λ o. omega arith) ∙ e) refl refl

    go : WaitsIs i (w.who i) w.waits → Within (asking mc z) clock i w (λ fs u. (k : ℕ) → Memᴰ (record { desk = i; number = k }) w.waits → (r : Bytes) × Memᴰ (told i k r) fs)
    go (inl y) = (0, [], w, stay, omega arith, omega arith, λ k m. absurd (y.1 k m))
    go (inr y) = by_house y.0 y.1 y.2 v.house_is
