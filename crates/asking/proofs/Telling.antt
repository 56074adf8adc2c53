-- A desk tells an answer.
use Rattle.std.proofs.Common.{◌≡◌, ℕ, ◌<◌, ◌≤◌, Bool, true, false, ◌⊎◌, List, ◌∷◌, ◌++◌, sym, refl, ap, ◌∙◌, subst, inl, inr, arith}
use mathlib.Core.List.{Memᴰ}
use Rattle.std.proofs.lemmas.Bool.{cases_lt}
use Rattle.promise.specs.Bytes.{Bytes}
use Rattle.promise.specs.Machine.{Machine}
use Rattle.promise.specs.Desks.{Letter, Seen, told, Ready, Table, goes_out, is_used}
use Rattle.codec.specs.Messages.{Msg, Hello, Welcome, Request, Response, Alive}
use Rattle.asking.proofs.View.{AbsHouse, idle, waiting, changing}
use Rattle.asking.proofs.Base.{put, put_same, put_cases, put_other, Place, place, other_stays}
use Rattle.asking.proofs.Inv.{Ghost, seq_of, Real, Seqs, Numbers, IsPast, Settled, RequestOk, Answer, ResponseOk, WordOk, Pick, unpicked, picked, Evid, Fits, ready_of, Change, Held, Core}
use Rattle.asking.proofs.Readings.{distinct_ready}

pub emptied_most : (mc : Machine) (g : Ghost) (h : AbsHouse mc) (drawn : List ℕ) (letters : List (Letter Msg)) (es : List Seen) → Core mc g h drawn letters es → (i : ℕ) → g.emptied i ≤ g.lives i
emptied_most mc g h drawn letters es v i = go (cases_lt 0 (h.peers i).session)
  where
    here : (c : ℕ) → g.desk c ≡ i → (g.life c < g.lives (g.desk c)) ⊎ ((g.alive (g.desk c) ≡ c) × (g.life c ≡ g.lives (g.desk c))) → g.life c ≤ g.lives i
    here c e (inl a) = let b : g.lives (g.desk c) ≡ g.lives i = ap g.lives e in omega arith
    here c e (inr a) = let b : g.lives (g.desk c) ≡ g.lives i = ap g.lives e in let d = a.1 in omega arith

    go : (0 < (h.peers i).session) ⊎ ((h.peers i).session ≤ 0) → g.emptied i ≤ g.lives i
    go (inl a) = let b = v.emptied_ok.some i a in let y = v.peers_ok.cur i a in let z = here (h.peers i).nonce y.whose (v.births.born (h.peers i).nonce y.real) in omega arith
    go (inr a) = let b = v.emptied_ok.none i (omega arith) in omega arith

module _ (mc : Machine) (g : Ghost) (h : AbsHouse mc) (drawn : List ℕ) (letters : List (Letter Msg)) (es : List Seen) (v : Core mc g h drawn letters es)
    (i j q k : ℕ) (x : Bytes) (s gr : ℕ) (r : Bytes) (there' : 0 < g.alive i) (w0 : g.last (g.alive i) j ≡ waiting q k x) (gi : g.given s ≡ g.alive i) (l0 : Letter Msg) (m0 : Memᴰ l0 letters) (word0 : l0.word ≡ Response s j q gr r) where
  abbrev pub c0 : ℕ
  c0 = g.alive i

  abbrev pub g' : Ghost
  g' = record { desk = g.desk; life = g.life; given = g.given; last = put c0 j (idle q) g.last; lives = g.lives; emptied = g.emptied; alive = g.alive }

  abbrev pub es' : List Seen
  es' = told i k r ∷ es

  real0 : Real drawn c0
  real0 = (v.births.alive_is i there').0

  desk0 : g.desk c0 ≡ i
  desk0 = (v.births.alive_is i there').1

  life0 : g.life c0 ≡ g.lives i
  life0 = (v.births.alive_is i there').2

  ok0 : ResponseOk mc g h drawn s j q r
  ok0 = subst (λ z. WordOk mc g h drawn l0.by z) word0 (v.letters_ok l0 m0)

  c_is : ok0.c ≡ c0
  c_is = sym ok0.is' ∙ gi

  i_is : ok0.i ≡ i
  i_is = sym ok0.whose ∙ (ap g.desk c_is ∙ desk0)

  pub answer0 : Answer mc g (h.peers i) c0 s j q r
  answer0 = go (subst (λ z. (g.life ok0.c < g.emptied z) ⊎ Answer mc g (h.peers z) ok0.c s j q r) i_is ok0.stands)
    where
      go : (g.life ok0.c < g.emptied i) ⊎ Answer mc g (h.peers i) ok0.c s j q r → Answer mc g (h.peers i) c0 s j q r
      go (inl a) = absurd (let b : g.life ok0.c ≡ g.lives i = ap g.life c_is ∙ life0 in let d = emptied_most mc g h drawn letters es v i in omega arith)
      go (inr a) = subst (λ z. Answer mc g (h.peers i) z s j q r) c_is a

  nonce0 : (h.peers i).nonce ≡ c0
  nonce0 = sym (v.peers_ok.cur i answer0.on).is' ∙ (ap g.given answer0.is' ∙ gi)

  abbrev pub Cases : ℕ → ℕ → Type 0
  Cases c' j' = ((c' ≡ c0) × (j' ≡ j) × (g'.last c' j' ≡ idle q)) ⊎ ((c' ≡ c0 → j' ≡ j → ⊥) × (g'.last c' j' ≡ g.last c' j'))

  cases' : (c' j' : ℕ) → Cases c' j'
  cases' c' j' = put_cases c0 j (idle q) g.last c' j'

  waited : (c' j' : ℕ) → c' ≡ c0 → j' ≡ j → g.last c' j' ≡ waiting q k x
  waited c' j' a b = (λ z. g.last (a z) (b z)) ∙ w0

  same_seq : (c' j' : ℕ) → seq_of (g'.last c' j') ≡ seq_of (g.last c' j')
  same_seq c' j' = go (cases' c' j')
    where
      go : Cases c' j' → seq_of (g'.last c' j') ≡ seq_of (g.last c' j')
      go (inl a) = ap seq_of a.2 ∙ sym (ap seq_of (waited c' j' a.0 a.1))
      go (inr a) = ap seq_of a.1

  abbrev pub Was : (c' j' q' k' : ℕ) → Bytes → Type 0
  Was c' j' q' k' x' = (c' ≡ c0 → j' ≡ j → ⊥) × (g.last c' j' ≡ waiting q' k' x')

  was : (c' j' q' k' : ℕ) (x' : Bytes) → g'.last c' j' ≡ waiting q' k' x' → Was c' j' q' k' x'
  was c' j' q' k' x' w = go (cases' c' j')
    where
      go : Cases c' j' → Was c' j' q' k' x'
      go (inl a) = absurd (let a2 = a.2 in let z : ◌≡◌ {A = ℕ} 0 1 = cc in omega arith)
      go (inr a) = (a.0, sym a.1 ∙ w)

  numbers' : Numbers g.desk g'.last drawn es'
  unfolding is_used
  numbers' =
      record {
        seq_pos = λ c' j' q' k' x' w. v.numbers.seq_pos c' j' q' k' x' (was c' j' q' k' x' w).1;
        used = λ c' j' q' k' x' re w. v.numbers.used c' j' q' k' x' re (was c' j' q' k' x' w).1;
        once = λ c' j' q' k' x' j2 q2 x2 re w w2. v.numbers.once c' j' q' k' x' j2 q2 x2 re (was c' j' q' k' x' w).1 (was c' j2 q2 k' x2 w2).1;
      }

  seqs' : Seqs g'.last h.peers
  seqs' = record { upto = λ i' j' l. let a = v.seqs.upto i' j' l in let b = same_seq (h.peers i').nonce j' in omega arith }

  request_ok : (by s' j' q' : ℕ) (x' : Bytes) → RequestOk mc g h.next (h.peers by) drawn by s' j' q' x' → RequestOk mc g' h.next (h.peers by) drawn by s' j' q' x'
  request_ok by s' j' q' x' y =
      record {
        c = y.c;
        pos = y.pos;
        below = y.below;
        is' = y.is';
        real = y.real;
        whose = y.whose;
        qpos = y.qpos;
        upto = (let a = y.upto in let b = same_seq y.c j' in omega arith);
        lifts = y.lifts;
        stands = elim y.stands [ inl b ↦ go b.0 b.1 (cases' y.c j') | inr b ↦ inr (record { over = λ q2 k2 x2 w. b.over q2 k2 x2 (was y.c j' q2 k2 x2 w).1; past = b.past }) ];
      }
    where
      go : (k' : ℕ) → g.last y.c j' ≡ waiting q' k' x' → Cases y.c j' → ((k2 : ℕ) × (g'.last y.c j' ≡ waiting q' k2 x')) ⊎ Settled mc g' (h.peers by) by y.c j' q' x'
      go k' w (inr a) = inl (k', a.1 ∙ w)
      go k' w (inl a) =
          let a0 : y.c ≡ c0 = a.0 in
          let a1 : j' ≡ j = a.1 in
          let w1 = waited y.c j' a0 a1 in
          let eq : q' ≡ q = cc in
          let ex : x' ≡ x = cc in
          let bi : by ≡ i = sym y.whose ∙ (ap g.desk a0 ∙ desk0) in
          inr (record {
            over = λ q2 k2 x2 w2. absurd ((was y.c j' q2 k2 x2 w2).0 a0 a1);
            past = λ ch. inr (subst (λ b. IsPast (h.peers b) y.c j' q') (sym bi) (record { on = answer0.on; is' = nonce0 ∙ sym a0; upto = (let e = (answer0.recorded' k x w0 (ap (changing mc) (sym ex) ∙ ch)).0 in let e2 : ((h.peers i).slots j').seq ≡ ((h.peers i).slots j).seq = ap (λ z. ((h.peers i).slots z).seq) a1 in omega arith) }));
          })

  response_ok : (s' j' q' : ℕ) (r' : Bytes) → ResponseOk mc g h drawn s' j' q' r' → ResponseOk mc g' h drawn s' j' q' r'
  response_ok s' j' q' r' y =
      record {
        c = y.c;
        i = y.i;
        pos = y.pos;
        below = y.below;
        is' = y.is';
        real = y.real;
        whose = y.whose;
        upto = (let a = y.upto in let b = same_seq y.c j' in omega arith);
        stands = elim y.stands [ inl a ↦ inl a | inr z ↦ inr (record { on = z.on; is' = z.is'; recorded' = λ k' x' w ch. z.recorded' k' x' (was y.c j' q' k' x' w).1 ch }) ];
      }

  word_ok : (by : ℕ) (m : Msg) → WordOk mc g h drawn by m → WordOk mc g' h drawn by m
  word_ok by (Hello c') a = a
  word_ok by (Welcome c' s') a = a
  word_ok by (Request s' j' q' x') a = request_ok by s' j' q' x' a
  word_ok by (Alive s') a = tt
  word_ok by (Response s' j' q' gr' r') a = response_ok s' j' q' r' a

  old_evid : (c' j' : ℕ) (r' : Bytes) → Evid mc g.given g'.last letters c' j' r' → Evid mc g.given g.last letters c' j' r'
  old_evid c' j' r' u = record { s = u.s; q = u.q; gr = u.gr; k = u.k; x = u.x; l = u.l; waits = (was c' j' u.q u.k u.x u.waits).1; reads = u.reads; is' = u.is'; mem = u.mem; word' = u.word' }

  -- the answer is there: it goes out. y is what was chosen at this place before
  out : (σ : ℕ → ℕ → Pick) (y : Pick) (u : Held mc g h drawn es (put c0 j y σ)) → Memᴰ (ready_of g c0 k r) u.rs → Held mc g' h drawn es' σ
  out σ y u m =
      record {
        os = u.os;
        rs = p.before ++ p.after;
        tab = tab2;
        change = λ c' j' q' k' x' re w ch le. let d = was c' j' q' k' x' w in let z = u.change c' j' q' k' x' re d.1 ch le in record { is_open = z.is_open; is_ready = λ a b l. kept c' j' q' k' x' ((h.peers (g.desk c')).slots j').answer re d (z.is_ready a b l) };
        reading = λ c' j' q' k' x' re w ch. let d = was c' j' q' k' x' w in let z = u.reading c' j' q' k' x' re d.1 ch in let e = put_other c0 j y σ c' j' d.0 in record { is_open = λ a. z.is_open (e ∙ a); is_ready = λ r' a. kept c' j' q' k' x' r' re d (z.is_ready r' (e ∙ a)) };
      }
    where
      rdy : Ready
      rdy = ready_of g c0 k r

      p : Place rdy u.rs
      p = place rdy u.rs m

      tab1 : Table mc (told (g.desk c0) k r ∷ es) h.table u.os (p.before ++ p.after) g.lives g.emptied
      tab1 = goes_out p.before p.after rdy (subst (λ z. Table mc es h.table u.os z g.lives g.emptied) p.whole u.tab) (life0 ∙ ap g.lives (sym desk0))

      tab2 : Table mc es' h.table u.os (p.before ++ p.after) g.lives g.emptied
      tab2 = subst (λ z. Table mc (told z k r ∷ es) h.table u.os (p.before ++ p.after) g.lives g.emptied) desk0 tab1

      kept : (c' j' q' k' : ℕ) (x' : Bytes) (r' : Bytes) → Real drawn c' → Was c' j' q' k' x' → Memᴰ (ready_of g c' k' r') u.rs → Memᴰ (ready_of g c' k' r') (p.before ++ p.after)
      kept c' j' q' k' x' r' re d n = other_stays rdy (ready_of g c' k' r') p.before p.after (λ e. let z = distinct_ready mc g h drawn letters es v c0 j q k x r c' j' q' k' x' r' real0 re w0 d.1 e in d.0 z.0 z.1) (subst (λ z. Memᴰ (ready_of g c' k' r') z) p.whole n)

  table' : (σ : ℕ → ℕ → Pick) → Fits mc g.given g'.last letters σ → Held mc g' h drawn es' σ
  table' σ f = go (changing mc x) refl
    where
      fits' : (y : Pick) → ((r' : Bytes) → y ≡ picked r' → Evid mc g.given g.last letters c0 j r') → Fits mc g.given g.last letters (put c0 j y σ)
      fits' y here c' j' r' e = by_place (put_cases c0 j y σ c' j')
        where
          by_place : ((c' ≡ c0) × (j' ≡ j) × (put c0 j y σ c' j' ≡ y)) ⊎ ((c' ≡ c0 → j' ≡ j → ⊥) × (put c0 j y σ c' j' ≡ σ c' j')) → Evid mc g.given g.last letters c' j' r'
          by_place (inl a) = subst (λ z. Evid mc g.given g.last letters z j' r') (sym a.0) (subst (λ z. Evid mc g.given g.last letters c0 z r') (sym a.1) (here r' (sym a.2 ∙ e)))
          by_place (inr a) = old_evid c' j' r' (f c' j' r' (sym a.1 ∙ e))

      go : (b : Bool) → changing mc x ≡ b → Held mc g' h drawn es' σ
      go true ch =
          let u = v.table (put c0 j unpicked σ) (fits' unpicked (λ r' e. absurd (let z : ◌≡◌ {A = ℕ} 0 1 = cc in omega arith))) in
          let d = answer0.recorded' k x w0 ch in
          let le : g.emptied (g.desk c0) ≤ g.life c0 = (let a = emptied_most mc g h drawn letters es v i in let b : g.emptied (g.desk c0) ≡ g.emptied i = ap g.emptied desk0 in let c = life0 in omega arith) in
          let z = subst (λ b. Change g (h.peers b) c0 j q k x u.os u.rs) desk0 (u.change c0 j q k x real0 w0 ch le) in
          let d0 : ((h.peers i).slots j).seq ≡ q = d.0 in
          out σ unpicked u (subst (λ b. Memᴰ (ready_of g c0 k b) u.rs) d.1 (z.is_ready answer0.on nonce0 (omega arith)))
      go false ch =
          let u = v.table (put c0 j (picked r) σ) (fits' (picked r) (λ r' e. let er : r ≡ r' = cc in subst (λ z. Evid mc g.given g.last letters c0 j z) er (record { s = s; q = q; gr = gr; k = k; x = x; l = l0; waits = w0; reads = ch; is' = gi; mem = m0; word' = word0 }))) in
          out σ (picked r) u ((u.reading c0 j q k x real0 w0 ch).is_ready r (put_same c0 j (picked r) σ))

  pub answer_told : Core mc g' h drawn letters es'
  answer_told =
      record {
        births = v.births;
        peers_ok = v.peers_ok;
        seqs = seqs';
        emptied_ok = v.emptied_ok;
        numbers = numbers';
        free = v.free;
        letters_ok = λ l m. word_ok l.by l.word (v.letters_ok l m);
        table = table';
      }
