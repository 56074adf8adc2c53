-- The house takes up a new incarnation of a desk: the hands of the last one are emptied.
use Rattle.std.proofs.Common.{◌≡◌, ℕ, zero, suc, ◌+◌, ◌-◌, ◌<◌, ◌≤◌, ◌⊎◌, List, sym, refl, ap, ◌∙◌, subst, inl, inr, arith}
use Rattle.std.proofs.lemmas.Bool.{cases_eq, cases_lt}
use Rattle.promise.specs.Bytes.{Bytes}
use Rattle.promise.specs.Machine.{Machine}
use Rattle.asking.specs.Lawful.{Lawful}
use Rattle.promise.specs.Desks.{Letter, Seen, Open, Ready, Table, hands_empty, more}
use Rattle.codec.specs.Messages.{Msg, Hello, Welcome, Request, Response, Alive}
use Rattle.asking.proofs.View.{AbsPeer, AbsHouse, FreeOf, abs_promotes, abs_promoted}
use Rattle.asking.proofs.Base.{at_ind, more_same, more_other}
use Rattle.asking.proofs.Inv.{Ghost, seq_of, Given, PeersOk, Seqs, Emptied, IsPast, RequestOk, Answer, ResponseOk, WordOk, Pick, Change, Held, Core}

unfoldable pub raise : ℕ → ℕ → (ℕ → ℕ) → ℕ → ℕ
raise zero i f = f
raise (suc n) i f = more i (raise n i f)

raise_same : (n i : ℕ) (f : ℕ → ℕ) → raise n i f i ≡ f i + n
unfolding raise
raise_same zero i f = omega arith
raise_same (suc n) i f = let a = more_same i (raise n i f) in let b = raise_same n i f in omega arith

raise_other : (n i : ℕ) (f : ℕ → ℕ) (j : ℕ) → (j ≡ i → ⊥) → raise n i f j ≡ f j
unfolding raise
raise_other zero i f j d = refl
raise_other (suc n) i f j d = more_other i (raise n i f) j d ∙ raise_other n i f j d

raised_suc : (mc : Machine) (law : Lawful mc) (n i : ℕ) {es : List Seen} {s : mc.State} {os : List Open} {rs : List Ready} {l e : ℕ → ℕ} → Table mc es s os rs l e → e i + suc n ≤ l i → Table mc es (mc.leaves i s) os rs l (raise (suc n) i e)
unfolding raise
raised_suc mc law zero i t b = hands_empty i t (omega arith)
raised_suc mc law (suc n) i {es} {s} {os} {rs} {l} {e} t b =
    let a = raise_same (suc n) i e in
    let u = hands_empty i (raised_suc mc law n i t (omega arith)) (omega arith) in
    subst (λ z. Table mc es z os rs l (raise (suc (suc n)) i e)) (law.empty_leaves i (mc.leaves i s) (law.leaves_empty i s)) u

raised : (mc : Machine) (law : Lawful mc) (n i : ℕ) {es : List Seen} {s : mc.State} {os : List Open} {rs : List Ready} {l e : ℕ → ℕ} → Table mc es s os rs l e → e i + n ≤ l i → (n ≡ 0 → FreeOf mc i (s)) → Table mc es (mc.leaves i s) os rs l (raise n i e)
unfolding raise
raised mc law zero i {es} {s} {os} {rs} {l} {e} t b f = subst (λ z. Table mc es z os rs l e) (sym (law.empty_leaves i s (f refl))) t
raised mc law (suc n) i t b f = raised_suc mc law n i t b

module _ (mc : Machine) (law : Lawful mc) (g : Ghost) (h : AbsHouse mc) (drawn : List ℕ) (letters : List (Letter Msg)) (es : List Seen) (v : Core mc g h drawn letters es)
    (i s j q : ℕ) (x : Bytes) (ok : RequestOk mc g h.next (h.peers i) drawn i s j q x) (is_s : s ≡ (h.peers i).session') where
  abbrev pub steps : ℕ
  steps = g.life ok.c - g.emptied i

  abbrev pub g' : Ghost
  g' = record { desk = g.desk; life = g.life; given = g.given; last = g.last; lives = g.lives; emptied = raise steps i g.emptied; alive = g.alive }

  abbrev pub peer' : AbsPeer
  peer' = abs_promoted (h.peers i)

  abbrev pub h' : AbsHouse mc
  h' = abs_promotes h i

  on' : 0 < (h.peers i).session'
  on' = let a = ok.pos in omega arith

  nonce_is : (h.peers i).nonce' ≡ ok.c
  nonce_is = let a = (v.peers_ok.off i on').is' in let b = ok.is' in cc

  -- the life before was an earlier one
  pub lower : 0 < (h.peers i).session → g.emptied i < g.life ok.c
  lower on = let a = ok.lifts is_s on in let b = v.emptied_ok.some i on in omega arith

  lower' : g.emptied i ≤ g.life ok.c
  lower' = go (cases_lt 0 (h.peers i).session)
    where
      go : (0 < (h.peers i).session) ⊎ ((h.peers i).session ≤ 0) → g.emptied i ≤ g.life ok.c
      go (inl a) = let b = lower a in omega arith
      go (inr a) = let b = v.emptied_ok.none i (omega arith) in omega arith

  pub upper : g.life ok.c ≤ g.lives i
  upper = let e = ok.whose in go (subst (λ z. (g.life ok.c < g.lives z) ⊎ ((g.alive z ≡ ok.c) × (g.life ok.c ≡ g.lives z))) e (v.births.born ok.c ok.real))
    where
      go : (g.life ok.c < g.lives i) ⊎ ((g.alive i ≡ ok.c) × (g.life ok.c ≡ g.lives i)) → g.life ok.c ≤ g.lives i
      go (inl a) = omega arith
      go (inr a) = let b = a.1 in omega arith

  emptied_now : g'.emptied i ≡ g.life ok.c
  emptied_now = let a = raise_same steps i g.emptied in let b = lower' in omega arith

  emptied_grows : (b : ℕ) → g.emptied b ≤ g'.emptied b
  emptied_grows b = go (cases_eq b i)
    where
      go : (b ≡ i) ⊎ (b ≡ i → ⊥) → g.emptied b ≤ g'.emptied b
      go (inl e) = subst (λ z. g.emptied z ≤ g'.emptied z) (sym e) (let a = emptied_now in let c = lower' in omega arith)
      go (inr n) = let a = raise_other steps i g.emptied b n in omega arith

  -- who was current is over
  over' : (c : ℕ) → 0 < (h.peers i).session → (h.peers i).nonce ≡ c → g.life c < g'.emptied i
  over' c on e = let a = lower on in let b = v.emptied_ok.some i on in let d = emptied_now in let f : g.life (h.peers i).nonce ≡ g.life c = ap g.life e in omega arith

  peers_ok_lem : PeersOk g.desk g.given drawn h.next h'.peers
  peers_ok_lem =
      record {
        next_pos = v.peers_ok.next_pos;
        cur = at_ind (λ i' p. 0 < p.session → Given g.desk g.given drawn h.next i' p.nonce p.session) i peer' h.peers (v.peers_ok.off i) (λ i' _. v.peers_ok.cur i');
        off = at_ind (λ i' p. 0 < p.session' → Given g.desk g.given drawn h.next i' p.nonce' p.session') i peer' h.peers (λ l. absurd (omega arith)) (λ i' _. v.peers_ok.off i');
        two = at_ind (λ i' p. 0 < p.session → 0 < p.session' → p.nonce ≡ p.nonce' → ⊥) i peer' h.peers (λ _ l _. omega arith) (λ i' _. v.peers_ok.two i');
      }

  seqs' : Seqs g.last h'.peers
  seqs' = record { upto = λ i' j'. at_ind (λ _ p. 0 < p.session → (p.slots j').seq ≤ seq_of (g.last p.nonce j')) i peer' h.peers (λ _. omega arith) (λ i2 _. v.seqs.upto i2 j') i' }

  emptied' : Emptied g'.life g'.emptied h'.peers
  emptied' =
      record {
        none = at_ind (λ i' p. p.session ≡ 0 → g'.emptied i' ≡ 0) i peer' h.peers (λ e. absurd (let a = on' in omega arith)) (λ i' n e. raise_other steps i g.emptied i' n ∙ v.emptied_ok.none i' e);
        some = at_ind (λ i' p. 0 < p.session → g'.emptied i' ≡ g.life p.nonce) i peer' h.peers (λ _. emptied_now ∙ ap g.life (sym nonce_is)) (λ i' n l. raise_other steps i g.emptied i' n ∙ v.emptied_ok.some i' l);
      }

  request_ok : (by s' j' q' : ℕ) (x' : Bytes) → RequestOk mc g h.next (h.peers by) drawn by s' j' q' x' → RequestOk mc g' h.next (h'.peers by) drawn by s' j' q' x'
  request_ok by s' j' q' x' y =
      record {
        c = y.c;
        pos = y.pos;
        below = y.below;
        is' = y.is';
        real = y.real;
        whose = y.whose;
        qpos = y.qpos;
        upto = y.upto;
        stands = elim y.stands [ inl b ↦ inl b | inr b ↦ inr (record { over = b.over; past = λ ch. past (b.past ch) }) ];
        lifts = at_ind (λ b p. (s' ≡ (h.peers b).session' → 0 < (h.peers b).session → g.life (h.peers b).nonce < g.life y.c) → s' ≡ p.session' → 0 < p.session → g.life p.nonce < g.life y.c) i peer' h.peers (λ _ e _. absurd (let a = y.pos in omega arith)) (λ _ _ z. z) by y.lifts;
      }
    where
      later' : (b : ℕ) → IsPast (h.peers b) y.c j' q' → (g.life y.c < g'.emptied b) ⊎ IsPast (h'.peers b) y.c j' q'
      later' b a = at_ind (λ b' p. IsPast (h.peers b') y.c j' q' → (g.life y.c < g'.emptied b') ⊎ IsPast p y.c j' q') i peer' h.peers (λ z. inl (over' y.c z.on z.is')) (λ _ _ z. inr z) b a

      past : (g.life y.c < g.emptied by) ⊎ IsPast (h.peers by) y.c j' q' → (g.life y.c < g'.emptied by) ⊎ IsPast (h'.peers by) y.c j' q'
      past (inl a) = inl (let b = emptied_grows by in omega arith)
      past (inr a) = later' by a

  response_ok : (s' j' q' : ℕ) (r' : Bytes) → ResponseOk mc g h drawn s' j' q' r' → ResponseOk mc g' h' drawn s' j' q' r'
  response_ok s' j' q' r' y = record { c = y.c; i = y.i; pos = y.pos; below = y.below; is' = y.is'; real = y.real; whose = y.whose; upto = y.upto; stands = go y.stands }
    where
      go : (g.life y.c < g.emptied y.i) ⊎ Answer mc g (h.peers y.i) y.c s' j' q' r' → (g.life y.c < g'.emptied y.i) ⊎ Answer mc g' (h'.peers y.i) y.c s' j' q' r'
      go (inl a) = inl (let b = emptied_grows y.i in omega arith)
      go (inr a) = at_ind (λ b p. Answer mc g (h.peers b) y.c s' j' q' r' → (g.life y.c < g'.emptied b) ⊎ Answer mc g' p y.c s' j' q' r') i peer' h.peers (λ z. inl (over' y.c z.on (sym (v.peers_ok.cur i z.on).is' ∙ (ap g.given z.is' ∙ y.is')))) (λ _ _ z. inr (record { on = z.on; is' = z.is'; recorded' = z.recorded' })) y.i a

  word_ok : (by : ℕ) (m : Msg) → WordOk mc g h drawn by m → WordOk mc g' h' drawn by m
  word_ok by (Hello c) a = a
  word_ok by (Welcome c s') a = a
  word_ok by (Request s' j' q' x') a = request_ok by s' j' q' x' a
  word_ok by (Alive s') a = tt
  word_ok by (Response s' j' q' gr' r') a = response_ok s' j' q' r' a

  free0 : steps ≡ 0 → (0 < (h.peers i).session) ⊎ ((h.peers i).session ≤ 0) → FreeOf mc i h.table
  free0 z (inl a) = absurd (let b = lower a in omega arith)
  free0 z (inr a) = v.free i (omega arith)

  table' : (σ : ℕ → ℕ → Pick) → Held mc g h drawn es σ → Held mc g' h' drawn es σ
  table' σ u =
      record {
        os = u.os;
        rs = u.rs;
        tab = raised mc law steps i u.tab (let a = upper in let b = lower' in omega arith) (λ z. free0 z (cases_lt 0 (h.peers i).session));
        change = λ c' j' q' k' x' re w' ch le. at_ind (λ b p. (g.desk c' ≡ b) → g'.emptied b ≤ g.life c' → Change g (h.peers b) c' j' q' k' x' u.os u.rs → Change g' p c' j' q' k' x' u.os u.rs) i peer' h.peers
            (λ d l z. record { is_open = λ _. z.is_open (λ a b. absurd (let y = over' c' a b in omega arith)); is_ready = λ _ _ l2. absurd (let y = v.numbers.seq_pos c' j' q' k' x' w' in omega arith) })
            (λ _ _ _ _ z. record { is_open = z.is_open; is_ready = z.is_ready }) (g.desk c') refl le (u.change c' j' q' k' x' re w' ch (let b = emptied_grows (g.desk c') in omega arith));
        reading = λ c' j' q' k' x' re w' ch. let z = u.reading c' j' q' k' x' re w' ch in record { is_open = z.is_open; is_ready = z.is_ready };
      }

  free_stays : (b : ℕ) → FreeOf mc b h.table → FreeOf mc b (mc.leaves i h.table)
  free_stays b e = let a = law.leaves_less i b h.table in omega arith

  pub taken_up_lem : Core mc g' h' drawn letters es
  taken_up_lem =
      record {
        births = v.births;
        peers_ok = peers_ok_lem;
        seqs = seqs';
        emptied_ok = emptied';
        numbers = v.numbers;
        free = at_ind (λ b p. p.session ≡ 0 → FreeOf mc b (mc.leaves i h.table)) i peer' h.peers (λ e. absurd (let a = on' in omega arith)) (λ b n e. free_stays b (v.free b e));
        letters_ok = λ l m. word_ok l.by l.word (v.letters_ok l m);
        table = λ σ f. table' σ (v.table σ f);
      }
