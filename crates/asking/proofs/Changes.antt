-- The house does a change.
use Rattle.std.proofs.Common.{◌≡◌, ℕ, ◌<◌, ◌≤◌, true, ◌⊎◌, List, [], ◌∷◌, ◌++◌, sym, refl, ap, ◌∙◌, subst, inl, inr, arith}
use mathlib.Core.List.Memᴰ
use mathlib.Core.List.{Memᴰ}
use Rattle.std.proofs.lemmas.Bool.{both_ways, cases_eq}
use Rattle.promise.specs.Bytes.{Bytes}
use Rattle.promise.specs.Machine.{Machine}
use Rattle.asking.specs.Lawful.{Lawful}
use Rattle.promise.specs.Desks.{Letter, Seen, Open, Ready, Table, is_done}
use Rattle.codec.specs.Messages.{Msg, Hello, Welcome, Request, Response, Alive}
use Rattle.asking.specs.House.{Done}
use Rattle.asking.proofs.View.{AbsPeer, AbsHouse, waiting, changing, FreeOf, reply_to, left_by, abs_records, abs_recorded}
use Rattle.asking.proofs.Base.{Place, place, other_stays, at_ind, at_same, at_other}
use Rattle.asking.proofs.Inv.{Ghost, seq_of, Real, Given, PeersOk, Seqs, Emptied, IsPast, Settled, RequestOk, Answer, ResponseOk, WordOk, Pick, open_of, ready_of, Change, Held, Core, NoNewAnswer, fits_old}
use Rattle.asking.proofs.Readings.{distinct_open}

-- what a peer still says of a slot of a nonce
pub record Kept (p p' : AbsPeer) (c j : ℕ) : Type 0 where
  pub session : p'.session ≡ p.session
  pub nonce : p'.nonce ≡ p.nonce
  pub slot : 0 < p.session → p.nonce ≡ c → p'.slots j ≡ p.slots j

pub change_kept : (g : Ghost) (p p' : AbsPeer) (c j q k : ℕ) (x : Bytes) (os os' : List Open) (rs rs' : List Ready) → Kept p p' c j → Change g p c j q k x os rs → (Memᴰ (open_of g c k x) os → Memᴰ (open_of g c k x) os') → ((r : Bytes) → Memᴰ (ready_of g c k r) rs → Memᴰ (ready_of g c k r) rs') → Change g p' c j q k x os' rs'
change_kept g p p' c j q k x os os' rs rs' e u f f' =
    record {
      is_open = λ y. f (u.is_open (λ a b. let s = e.slot a b in let z : (p'.slots j).seq < q = y (let k1 = e.session in omega arith) (e.nonce ∙ b) in subst (λ w. w.seq < q) s z));
      is_ready = λ a b y. let a' : 0 < p.session = (let k1 = e.session in omega arith) in let b' : p.nonce ≡ c = sym e.nonce ∙ b in let s = e.slot a' b' in subst (λ w. Memᴰ (ready_of g c k w.answer) rs') (sym s) (f' (p.slots j).answer (u.is_ready a' b' (subst (λ w. q ≤ w.seq) s y)));
    }

module _ (mc : Machine) (law : Lawful mc) (g : Ghost) (h : AbsHouse mc) (drawn : List ℕ) (letters : List (Letter Msg)) (es : List Seen) (v : Core mc g h drawn letters es)
    (i s j q : ℕ) (x : Bytes) (changes' : changing mc x ≡ true) (ok : RequestOk mc g h.next (h.peers i) drawn i s j q x) (on : 0 < (h.peers i).session) (is_s : (h.peers i).session ≡ s) (newer : ((h.peers i).slots j).seq < q) (t : ℕ) where
  abbrev pub reply' : Bytes
  reply' = reply_to mc i x h.table

  abbrev pub answer : Letter Msg
  answer = record { to = i; by = 0; at' = t; word = Response s j q 0 reply' }

  abbrev pub peer' : AbsPeer
  peer' = abs_recorded (h.peers i) j (record { seq = q; answer = reply' })

  abbrev pub h' : AbsHouse mc
  h' = abs_records h i j q x

  nonce_is : (h.peers i).nonce ≡ ok.c
  nonce_is = let a = (v.peers_ok.cur i on).is' in let b = ok.is' in cc

  life_is : g.life ok.c ≡ g.emptied (g.desk ok.c)
  life_is = let a = v.emptied_ok.some i on in let b = ok.whose in let e = nonce_is in cc

  life_is' : g.life ok.c ≡ g.emptied i
  life_is' = let a = v.emptied_ok.some i on in let b = ok.whose in let e = nonce_is in cc

  waits : (k : ℕ) × (g.last ok.c j ≡ waiting q k x)
  waits = go ok.stands
    where
      past : (g.life ok.c < g.emptied i) ⊎ IsPast (h.peers i) ok.c j q → ⊥
      past (inl a) = let b = life_is' in omega arith
      past (inr a) = let b = a.upto in omega arith

      go : ((k : ℕ) × (g.last ok.c j ≡ waiting q k x)) ⊎ Settled mc g (h.peers i) i ok.c j q x → (k : ℕ) × (g.last ok.c j ≡ waiting q k x)
      go (inl a) = a
      go (inr a) = absurd (past (a.past changes'))

  peers_ok_lem : PeersOk g.desk g.given drawn h.next h'.peers
  peers_ok_lem =
      record {
        next_pos = v.peers_ok.next_pos;
        cur = at_ind (λ i' p. 0 < p.session → Given g.desk g.given drawn h.next i' p.nonce p.session) i peer' h.peers (v.peers_ok.cur i) (λ i' _. v.peers_ok.cur i');
        off = at_ind (λ i' p. 0 < p.session' → Given g.desk g.given drawn h.next i' p.nonce' p.session') i peer' h.peers (v.peers_ok.off i) (λ i' _. v.peers_ok.off i');
        two = at_ind (λ i' p. 0 < p.session → 0 < p.session' → p.nonce ≡ p.nonce' → ⊥) i peer' h.peers (v.peers_ok.two i) (λ i' _. v.peers_ok.two i');
      }

  slot_ind : (P : ℕ → Done → Type 0) → P j (record { seq = q; answer = reply' }) → ((j' : ℕ) → (j' ≡ j → ⊥) → P j' ((h.peers i).slots j')) → (j' : ℕ) → P j' (peer'.slots j')
  slot_ind P a b = at_ind P j (record { seq = q; answer = reply' }) (h.peers i).slots a b

  seqs' : Seqs g.last h'.peers
  seqs' = record { upto = λ i' j'. at_ind (λ _ p. 0 < p.session → (p.slots j').seq ≤ seq_of (g.last p.nonce j')) i peer' h.peers (λ _. slot_ind (λ j2 d. d.seq ≤ seq_of (g.last (h.peers i).nonce j2)) (subst (λ z. q ≤ seq_of (g.last z j)) (sym nonce_is) ok.upto) (λ j2 _. v.seqs.upto i j2 on) j') (λ i2 _. v.seqs.upto i2 j') i' }

  emptied' : Emptied g.life g.emptied h'.peers
  emptied' =
      record {
        none = at_ind (λ i' p. p.session ≡ 0 → g.emptied i' ≡ 0) i peer' h.peers (v.emptied_ok.none i) (λ i' _. v.emptied_ok.none i');
        some = at_ind (λ i' p. 0 < p.session → g.emptied i' ≡ g.life p.nonce) i peer' h.peers (v.emptied_ok.some i) (λ i' _. v.emptied_ok.some i');
      }

  request_ok : (by s' j' q' : ℕ) (x' : Bytes) → RequestOk mc g h.next (h.peers by) drawn by s' j' q' x' → RequestOk mc g h.next (h'.peers by) drawn by s' j' q' x'
  request_ok by s' j' q' x' a = at_ind (λ b p. RequestOk mc g h.next (h.peers b) drawn b s' j' q' x' → RequestOk mc g h.next p drawn b s' j' q' x') i peer' h.peers here (λ b _ y. y) by a
    where
      past : (c : ℕ) → (g.life c < g.emptied i) ⊎ IsPast (h.peers i) c j' q' → (g.life c < g.emptied i) ⊎ IsPast peer' c j' q'
      past c (inl a) = inl a
      past c (inr a) = inr (record { on = a.on; is' = a.is'; upto = slot_ind (λ j2 d. q' ≤ ((h.peers i).slots j2).seq → q' ≤ d.seq) (λ l. omega arith) (λ j2 _ l. l) j' a.upto })

      here : RequestOk mc g h.next (h.peers i) drawn i s' j' q' x' → RequestOk mc g h.next peer' drawn i s' j' q' x'
      here y = record {
        c = y.c;
        pos = y.pos;
        below = y.below;
        is' = y.is';
        real = y.real;
        whose = y.whose;
        qpos = y.qpos;
        upto = y.upto;
        lifts = y.lifts;
        stands = elim y.stands [ inl b ↦ inl b | inr b ↦ inr (record { over = b.over; past = λ ch. past y.c (b.past ch) }) ];
      }

  response_ok : (s' j' q' : ℕ) (r' : Bytes) → ResponseOk mc g h drawn s' j' q' r' → ResponseOk mc g h' drawn s' j' q' r'
  response_ok s' j' q' r' y = record { c = y.c; i = y.i; pos = y.pos; below = y.below; is' = y.is'; real = y.real; whose = y.whose; upto = y.upto; stands = elim y.stands [ inl a ↦ inl a | inr a ↦ inr (at_ind (λ b p. Answer mc g (h.peers b) y.c s' j' q' r' → Answer mc g p y.c s' j' q' r') i peer' h.peers here (λ b _ z. z) y.i a) ] }
    where
      here : Answer mc g (h.peers i) y.c s' j' q' r' → Answer mc g peer' y.c s' j' q' r'
      here a = record { on = a.on; is' = a.is'; recorded' = λ k' x' w ch. slot_ind (λ j2 d. (g.last y.c j2 ≡ waiting q' k' x') → (((h.peers i).slots j2).seq ≡ q') × (((h.peers i).slots j2).answer ≡ r') → (d.seq ≡ q') × (d.answer ≡ r')) (λ w2 z. absurd (let e1 : s' ≡ s = sym a.is' ∙ is_s in let e2 : y.c ≡ ok.c = sym y.is' ∙ (ap g.given e1 ∙ ok.is') in let w3 = waits.1 in let e3 : q' ≡ q = cc in let z0 = z.0 in omega arith)) (λ j2 _ _ z. z) j' w (a.recorded' k' x' w ch) }

  new_ok : ResponseOk mc g h' drawn s j q reply'
  new_ok = record {
    c = ok.c;
    i = i;
    pos = ok.pos;
    below = ok.below;
    is' = ok.is';
    real = ok.real;
    whose = ok.whose;
    upto = ok.upto;
    stands = inr (subst (λ p. Answer mc g p ok.c s j q reply') (sym (at_same i peer' h.peers)) (record { on = on; is' = is_s; recorded' = λ k' x' w ch. let e = at_same j (record { seq = q; answer = reply' }) (h.peers i).slots in (ap (λ (d : Done). d.seq) e, ap (λ (d : Done). d.answer) e) }));
  }

  word_ok : (by : ℕ) (m : Msg) → WordOk mc g h drawn by m → WordOk mc g h' drawn by m
  word_ok by (Hello c) a = a
  word_ok by (Welcome c s') a = a
  word_ok by (Request s' j' q' x') a = request_ok by s' j' q' x' a
  word_ok by (Alive s') a = tt
  word_ok by (Response s' j' q' gr' r') a = response_ok s' j' q' r' a

  no_new : NoNewAnswer mc g (answer ∷ [])
  no_new l m s' j' q' gr' r' e c k x' gi w re = go (Memᴰ.cases_cons m)
    where
      go : (l ≡ answer) ⊎ Memᴰ l [] → ⊥
      go (inr m') = Memᴰ.not-nil m'
      go (inl p) =
          let u : Response s' j' q' gr' r' ≡ Response s j q 0 reply' = sym e ∙ ap (λ (y : Letter Msg). y.word) p in
          let e0 : s' ≡ s = cc in
          let e1 : j' ≡ j = cc in
          let e2 : c ≡ ok.c = sym gi ∙ (ap g.given e0 ∙ ok.is') in
          let w3 = waits.1 in
          let e3 : x' ≡ x = cc in
          both_ways (changing mc x) (ap (changing mc) (sym e3) ∙ re) changes'

  table' : (σ : ℕ → ℕ → Pick) → Held mc g h drawn es σ → Held mc g h' drawn es σ
  table' σ u =
      record {
        os = p.before ++ p.after;
        rs = rdy ∷ u.rs;
        tab = tab2;
        change = λ c' j' q' k' x' re w' ch le. by_place c' j' q' k' x' re w' ch le (cases_eq c' ok.c) (cases_eq j' j);
        reading = λ c' j' q' k' x' re w' ch. record { is_open = λ e. other_stays o (open_of g c' k' x') p.before p.after (λ e'. both_ways (changing mc x') ch (ap (λ (z : Open). changing mc z.call) e' ∙ changes')) (moved c' k' x' ((u.reading c' j' q' k' x' re w' ch).is_open e)); is_ready = λ r e. Memᴰ.tail ((u.reading c' j' q' k' x' re w' ch).is_ready r e) };
      }
    where
      k : ℕ
      k = waits.0

      w : g.last ok.c j ≡ waiting q k x
      w = waits.1

      o : Open
      o = open_of g ok.c k x

      rdy : Ready
      rdy = record { desk = g.desk ok.c; number = k; life = g.life ok.c; answer = reply_to mc (g.desk ok.c) x h.table }

      newer' : ((h.peers (g.desk ok.c)).slots j).seq < q
      newer' = subst (λ z. ((h.peers z).slots j).seq < q) (sym ok.whose) newer

      p : Place o u.os
      p = place o u.os ((u.change ok.c j q k x ok.real w changes' (let e = life_is in omega arith)).is_open (λ _ _. newer'))

      moved : (c' k' : ℕ) (x' : Bytes) → Memᴰ (open_of g c' k' x') u.os → Memᴰ (open_of g c' k' x') (p.before ++ o ∷ p.after)
      moved c' k' x' m = subst (λ z. Memᴰ (open_of g c' k' x') z) p.whole m

      tab1 : Table mc es (left_by mc (g.desk ok.c) x h.table) (p.before ++ p.after) (rdy ∷ u.rs) g.lives g.emptied
      tab1 = is_done p.before p.after o (subst (λ z. Table mc es h.table z u.rs g.lives g.emptied) p.whole u.tab) life_is

      tab2 : Table mc es (left_by mc i x h.table) (p.before ++ p.after) (rdy ∷ u.rs) g.lives g.emptied
      tab2 = subst (λ z. Table mc es (left_by mc z x h.table) (p.before ++ p.after) (rdy ∷ u.rs) g.lives g.emptied) ok.whose tab1

      kept : (c' j' : ℕ) → (c' ≡ ok.c → j' ≡ j → ⊥) → (b : ℕ) → Kept (h.peers b) (h'.peers b) c' j'
      kept c' j' n b = at_ind (λ b' p'. Kept (h.peers b') p' c' j') i peer' h.peers (record { session = refl; nonce = refl; slot = λ _ e. at_other j (record { seq = q; answer = reply' }) (h.peers i).slots j' (λ e'. n (sym e ∙ nonce_is) e') }) (λ b' _. record { session = refl; nonce = refl; slot = λ _ _. refl }) b

      differs : (c' j' q' k' : ℕ) (x' : Bytes) → Real drawn c' → g.last c' j' ≡ waiting q' k' x' → changing mc x' ≡ true → g.emptied (g.desk c') ≤ g.life c' → (c' ≡ ok.c → j' ≡ j → ⊥) → Change g (h'.peers (g.desk c')) c' j' q' k' x' (p.before ++ p.after) (rdy ∷ u.rs)
      differs c' j' q' k' x' re w' ch le n = change_kept g (h.peers (g.desk c')) (h'.peers (g.desk c')) c' j' q' k' x' u.os (p.before ++ p.after) u.rs (rdy ∷ u.rs) (kept c' j' n (g.desk c')) (u.change c' j' q' k' x' re w' ch le) (λ m. other_stays o (open_of g c' k' x') p.before p.after (λ e'. let d = distinct_open mc g h drawn letters es v ok.c j q k x c' j' q' k' x' ok.real re w w' e' in n d.0 d.1) (moved c' k' x' m)) (λ r m. Memᴰ.tail m)

      by_place : (c' j' q' k' : ℕ) (x' : Bytes) → Real drawn c' → g.last c' j' ≡ waiting q' k' x' → changing mc x' ≡ true → g.emptied (g.desk c') ≤ g.life c' → (c' ≡ ok.c) ⊎ (c' ≡ ok.c → ⊥) → (j' ≡ j) ⊎ (j' ≡ j → ⊥) → Change g (h'.peers (g.desk c')) c' j' q' k' x' (p.before ++ p.after) (rdy ∷ u.rs)
      by_place c' j' q' k' x' re w' ch le (inr n) b = differs c' j' q' k' x' re w' ch le (λ e _. n e)
      by_place c' j' q' k' x' re w' ch le (inl a) (inr n) = differs c' j' q' k' x' re w' ch le (λ _ e. n e)
      by_place c' j' q' k' x' re w' ch le (inl a) (inl b) =
          let w0 = w in
          let ek : k' ≡ k = cc in
          let eq : q' ≡ q = cc in
          let di : g.desk c' ≡ i = ap g.desk a ∙ ok.whose in
          let ep : h'.peers (g.desk c') ≡ peer' = ap h'.peers di ∙ at_same i peer' h.peers in
          let es' : peer'.slots j' ≡ record { seq = q; answer = reply' } = ap peer'.slots b ∙ at_same j (record { seq = q; answer = reply' }) (h.peers i).slots in
          subst (λ z. Change g z c' j' q' k' x' (p.before ++ p.after) (rdy ∷ u.rs)) (sym ep)
          (record {
            is_open = λ f. absurd (let l : (peer'.slots j').seq < q' = f on (nonce_is ∙ sym a) in let l2 : (peer'.slots j').seq ≡ q = ap (λ (d : Done). d.seq) es' in omega arith);
            is_ready = λ _ _ _. Memᴰ.head (let er : (peer'.slots j').answer ≡ reply_to mc (g.desk ok.c) x h.table = ap (λ (d : Done). d.answer) es' ∙ ap (λ z. reply_to mc z x h.table) (sym ok.whose) in λ z. record { desk = g.desk (a z); number = ek z; life = g.life (a z); answer = er z });
          })

  -- whoever had nothing in hand has nothing after another's call
  free_stays : (b : ℕ) → (b ≡ i → ⊥) → FreeOf mc b h.table → FreeOf mc b (left_by mc i x h.table)
  free_stays b n e = let a = law.does_others_less i b x h.table n in omega arith

  pub change_done : Core mc g h' drawn (answer ∷ letters) es
  change_done =
      record {
        births = v.births;
        peers_ok = peers_ok_lem;
        seqs = seqs';
        emptied_ok = emptied';
        numbers = v.numbers;
        free = at_ind (λ b p. p.session ≡ 0 → FreeOf mc b (left_by mc i x h.table)) i peer' h.peers (λ e. absurd (let a = on in omega arith)) (λ b n e. free_stays b n (v.free b e));
        letters_ok = λ l m. elim (Memᴰ.cases_cons m) [ inl e ↦ subst (λ z. WordOk mc g h' drawn z.by z.word) (sym e) new_ok | inr b ↦ word_ok l.by l.word (v.letters_ok l b) ];
        table = λ σ f. table' σ (v.table σ (fits_old mc g (answer ∷ []) letters σ no_new f));
      }
