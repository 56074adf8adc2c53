-- A desk is asked, and keeps the call in a slot.
use Rattle.std.proofs.Common.{◌≡◌, ℕ, ◌+◌, ◌<◌, ◌≤◌, Bool, true, false, not, ◌&&◌, ◌||◌, T, eqb, ◌⊎◌, List, [], ◌∷◌, sym, refl, ap, ◌∙◌, subst, inl, inr, arith, T_not}
use mathlib.Core.List.{Memᴰ}
use Rattle.std.proofs.lemmas.Bool.{eq-eqb}
use Rattle.promise.specs.Bytes.{Bytes}
use Rattle.promise.specs.Machine.{Machine}
use Rattle.promise.specs.Layout.{busy}
use Rattle.promise.specs.Desks.{Letter, Seen, called, told, Open, comes_in, handed_back, is_used}
use Rattle.codec.specs.Messages.{Msg, Hello, Welcome, Request, Response, Alive}
use Rattle.asking.proofs.View.{AbsHouse, AbsSlot, idle, waiting, changing}
use Rattle.asking.proofs.Base.{put, put_cases, put_other}
use Rattle.asking.proofs.Inv.{Ghost, seq_of, Real, Seqs, Numbers, RequestOk, ResponseOk, WordOk, Pick, Evid, Fits, open_of, Change, Reading, Held, Core}

pub used_more : (i k i' k' : ℕ) (x : Bytes) (es : List Seen) → T (is_used i k es) → T (is_used i k (called i' k' x ∷ es))
unfolding is_used
used_more i k i' k' x es h = go (eqb i i' && eqb k k') h
  where
    go : (b : Bool) → T (is_used i k es) → T (b || is_used i k es)
    go true t = tt
    go false t = t

used_now : (i k : ℕ) (x : Bytes) (es : List Seen) → T (is_used i k (called i k x ∷ es))
unfolding is_used
used_now i k x es = subst (λ a. T ((a && eqb k k) || is_used i k es)) (sym (eq-eqb i i refl)) (subst (λ a. T (a || is_used i k es)) (sym (eq-eqb k k refl)) tt)

module _ (mc : Machine) (g : Ghost) (h : AbsHouse mc) (drawn : List ℕ) (letters : List (Letter Msg)) (es : List Seen) (v : Core mc g h drawn letters es)
    (i k : ℕ) (x : Bytes) (unused : T (not (is_used i k es))) (j p : ℕ) (there' : 0 < g.alive i) (is_idle : g.last (g.alive i) j ≡ idle p) where
  abbrev pub c0 : ℕ
  c0 = g.alive i

  abbrev pub now : AbsSlot
  now = waiting (p + 1) k x

  abbrev pub g' : Ghost
  g' = record { desk = g.desk; life = g.life; given = g.given; last = put c0 j now g.last; lives = g.lives; emptied = g.emptied; alive = g.alive }

  abbrev pub es' : List Seen
  es' = called i k x ∷ es

  real0 : Real drawn c0
  real0 = (v.births.alive_is i there').0

  desk0 : g.desk c0 ≡ i
  desk0 = (v.births.alive_is i there').1

  life0 : g.life c0 ≡ g.lives i
  life0 = (v.births.alive_is i there').2

  abbrev pub Cases : ℕ → ℕ → Type 0
  Cases c' j' = ((c' ≡ c0) × (j' ≡ j) × (g'.last c' j' ≡ now)) ⊎ ((c' ≡ c0 → j' ≡ j → ⊥) × (g'.last c' j' ≡ g.last c' j'))

  cases' : (c' j' : ℕ) → Cases c' j'
  cases' c' j' = put_cases c0 j now g.last c' j'

  was_idle : (c' j' : ℕ) → c' ≡ c0 → j' ≡ j → g.last c' j' ≡ idle p
  was_idle c' j' a b = (λ z. g.last (a z) (b z)) ∙ is_idle

  grows : (c' j' : ℕ) → seq_of (g.last c' j') ≤ seq_of (g'.last c' j')
  grows c' j' = go (cases' c' j')
    where
      go : Cases c' j' → seq_of (g.last c' j') ≤ seq_of (g'.last c' j')
      go (inl a) = let e1 : seq_of (g.last c' j') ≡ p = ap seq_of (was_idle c' j' a.0 a.1) in let e2 : seq_of (g'.last c' j') ≡ p + 1 = ap seq_of a.2 in omega arith
      go (inr a) = let e2 : seq_of (g'.last c' j') ≡ seq_of (g.last c' j') = ap seq_of a.1 in omega arith

  -- a waiting one is the new one or was there
  abbrev pub Either : (c' j' q' k' : ℕ) → Bytes → Type 0
  Either c' j' q' k' x' = ((c' ≡ c0) × (j' ≡ j) × (q' ≡ p + 1) × (k' ≡ k) × (x' ≡ x)) ⊎ ((c' ≡ c0 → j' ≡ j → ⊥) × (g.last c' j' ≡ waiting q' k' x'))

  either : (c' j' q' k' : ℕ) (x' : Bytes) → g'.last c' j' ≡ waiting q' k' x' → Either c' j' q' k' x'
  either c' j' q' k' x' w = go (cases' c' j')
    where
      go : Cases c' j' → Either c' j' q' k' x'
      go (inl a) = let a2 = a.2 in inl (a.0, a.1, cc, cc, cc)
      go (inr a) = inr (a.0, sym a.1 ∙ w)

  was : (c' j' q' k' : ℕ) (x' : Bytes) → g.last c' j' ≡ waiting q' k' x' → g'.last c' j' ≡ waiting q' k' x'
  was c' j' q' k' x' w = put_other c0 j now g.last c' j' (λ a b. let e = was_idle c' j' a b in let z : ◌≡◌ {A = ℕ} 0 1 = cc in omega arith) ∙ w

  numbers' : Numbers g.desk g'.last drawn es'
  numbers' =
      record {
        seq_pos = λ c' j' q' k' x' w. elim (either c' j' q' k' x' w) [ inl a ↦ (let b = a.2 in omega arith) | inr a ↦ v.numbers.seq_pos c' j' q' k' x' a.1 ];
        used = λ c' j' q' k' x' re w. elim (either c' j' q' k' x' w) [ inl a ↦ subst (λ z. T (is_used z k' es')) (sym (ap g.desk a.0 ∙ desk0)) (subst (λ z. T (is_used i z es')) (sym a.3) (used_now i k x es)) | inr a ↦ used_more (g.desk c') k' i k x es (v.numbers.used c' j' q' k' x' re a.1) ];
        once = λ c' j' q' k' x' j2 q2 x2 re w w2. once' c' j' q' k' x' j2 q2 x2 re (either c' j' q' k' x' w) (either c' j2 q2 k' x2 w2);
      }
    where
      clash : (c' j' q' k' : ℕ) (x' : Bytes) → Real drawn c' → c' ≡ c0 → k' ≡ k → g.last c' j' ≡ waiting q' k' x' → ⊥
      clash c' j' q' k' x' re a b w = T_not (is_used i k es) unused (subst (λ z. T (is_used i z es)) b (subst (λ z. T (is_used z k' es)) (ap g.desk a ∙ desk0) (v.numbers.used c' j' q' k' x' re w)))

      once' : (c' j' q' k' : ℕ) (x' : Bytes) (j2 q2 : ℕ) (x2 : Bytes) → Real drawn c' → Either c' j' q' k' x' → Either c' j2 q2 k' x2 → j' ≡ j2
      once' c' j' q' k' x' j2 q2 x2 re (inl a) (inl b) = a.1 ∙ sym b.1
      once' c' j' q' k' x' j2 q2 x2 re (inl a) (inr b) = absurd (clash c' j2 q2 k' x2 re a.0 a.3 b.1)
      once' c' j' q' k' x' j2 q2 x2 re (inr a) (inl b) = absurd (clash c' j' q' k' x' re b.0 b.3 a.1)
      once' c' j' q' k' x' j2 q2 x2 re (inr a) (inr b) = v.numbers.once c' j' q' k' x' j2 q2 x2 re a.1 b.1

  seqs' : Seqs g'.last h.peers
  seqs' = record { upto = λ i' j' l. let a = v.seqs.upto i' j' l in let b = grows (h.peers i').nonce j' in omega arith }

  request_ok : (by s' j' q' : ℕ) (x' : Bytes) → RequestOk mc g h.next (h.peers by) drawn by s' j' q' x' → RequestOk mc g' h.next (h.peers by) drawn by s' j' q' x'
  request_ok by s' j' q' x' y =
      record {
        c = y.c;
        pos = y.pos;
        below = y.below;
        is' = y.is';
        real = y.real;
        whose = y.whose;
        qpos = y.qpos;
        upto = (let a = y.upto in let b = grows y.c j' in omega arith);
        lifts = y.lifts;
        stands = elim y.stands [ inl b ↦ inl (b.0, was y.c j' q' b.0 x' b.1) | inr b ↦ inr (record { over = λ q2 k2 x2 w. elim (either y.c j' q2 k2 x2 w) [ inl a ↦ (let e1 : seq_of (g.last y.c j') ≡ p = ap seq_of (was_idle y.c j' a.0 a.1) in let e2 = a.2 in let e3 = y.upto in omega arith) | inr a ↦ b.over q2 k2 x2 a.1 ]; past = b.past }) ];
      }

  response_ok : (s' j' q' : ℕ) (r' : Bytes) → ResponseOk mc g h drawn s' j' q' r' → ResponseOk mc g' h drawn s' j' q' r'
  response_ok s' j' q' r' y =
      record {
        c = y.c;
        i = y.i;
        pos = y.pos;
        below = y.below;
        is' = y.is';
        real = y.real;
        whose = y.whose;
        upto = (let a = y.upto in let b = grows y.c j' in omega arith);
        stands = elim y.stands [ inl a ↦ inl a | inr z ↦ inr (record { on = z.on; is' = z.is'; recorded' = λ k' x' w ch. elim (either y.c j' q' k' x' w) [ inl a ↦ absurd (let e1 : seq_of (g.last y.c j') ≡ p = ap seq_of (was_idle y.c j' a.0 a.1) in let e2 = a.2 in let e3 = y.upto in omega arith) | inr a ↦ z.recorded' k' x' a.1 ch ] }) ];
      }

  word_ok : (by : ℕ) (m : Msg) → WordOk mc g h drawn by m → WordOk mc g' h drawn by m
  word_ok by (Hello c') a = a
  word_ok by (Welcome c' s') a = a
  word_ok by (Request s' j' q' x') a = request_ok by s' j' q' x' a
  word_ok by (Alive s') a = tt
  word_ok by (Response s' j' q' gr' r') a = response_ok s' j' q' r' a

  -- nothing new is answered yet
  old_evid : (c' j' : ℕ) (r : Bytes) → Evid mc g.given g'.last letters c' j' r → (c' ≡ c0 → j' ≡ j → ⊥) × Evid mc g.given g.last letters c' j' r
  old_evid c' j' r u = go (either c' j' u.q u.k u.x u.waits)
    where
      go : Either c' j' u.q u.k u.x → (c' ≡ c0 → j' ≡ j → ⊥) × Evid mc g.given g.last letters c' j' r
      go (inr a) = (a.0, record { s = u.s; q = u.q; gr = u.gr; k = u.k; x = u.x; l = u.l; waits = a.1; reads = u.reads; is' = u.is'; mem = u.mem; word' = u.word' })
      go (inl a) = absurd (
          let b : ResponseOk mc g h drawn u.s j' u.q r = subst (λ z. WordOk mc g h drawn u.l.by z) u.word' (v.letters_ok u.l u.mem) in
          let e0 : b.c ≡ c' = sym b.is' ∙ u.is' in
          let e1 : seq_of (g.last b.c j') ≡ p = ap seq_of (was_idle b.c j' (e0 ∙ a.0) a.1) in
          let e2 = a.2 in let e3 = b.upto in omega arith)

  table' : (σ : ℕ → ℕ → Pick) → Fits mc g.given g'.last letters σ → Held mc g h drawn es σ → Held mc g' h drawn es' σ
  table' σ f u =
      record {
        os = o ∷ u.os;
        rs = u.rs;
        tab = comes_in i k x u.tab;
        change = λ c' j' q' k' x' re w ch le. change' c' j' q' k' x' re ch le (either c' j' q' k' x' w);
        reading = λ c' j' q' k' x' re w ch. reading' c' j' q' k' x' re ch (either c' j' q' k' x' w);
      }
    where
      o : Open
      o = record { desk = i; number = k; life = g.lives i; call = x }

      is_o_lem : (c' k' : ℕ) (x' : Bytes) → c' ≡ c0 → k' ≡ k → x' ≡ x → open_of g c' k' x' ≡ o
      is_o_lem c' k' x' a b d = let d1 : g.desk c' ≡ i = ap g.desk a ∙ desk0 in let l1 : g.life c' ≡ g.lives i = ap g.life a ∙ life0 in λ z. record { desk = d1 z; number = b z; life = l1 z; call = d z }

      change' : (c' j' q' k' : ℕ) (x' : Bytes) → Real drawn c' → changing mc x' ≡ true → g.emptied (g.desk c') ≤ g.life c' → Either c' j' q' k' x' → Change g' (h.peers (g.desk c')) c' j' q' k' x' (o ∷ u.os) u.rs
      change' c' j' q' k' x' re ch le (inr a) = let z = u.change c' j' q' k' x' re a.1 ch le in record { is_open = λ y. Memᴰ.tail (z.is_open y); is_ready = z.is_ready }
      change' c' j' q' k' x' re ch le (inl a) = record { is_open = λ _. Memᴰ.head (is_o_lem c' k' x' a.0 a.3 a.4); is_ready = λ on e l. absurd (let b = v.seqs.upto (g.desk c') j' on in let e1 : seq_of (g.last (h.peers (g.desk c')).nonce j') ≡ p = ap seq_of (was_idle (h.peers (g.desk c')).nonce j' (e ∙ a.0) a.1) in let e2 = a.2 in omega arith) }

      reading' : (c' j' q' k' : ℕ) (x' : Bytes) → Real drawn c' → changing mc x' ≡ false → Either c' j' q' k' x' → Reading g' c' k' x' (σ c' j') (o ∷ u.os) u.rs
      reading' c' j' q' k' x' re ch (inr a) = let z = u.reading c' j' q' k' x' re a.1 ch in record { is_open = λ y. Memᴰ.tail (z.is_open y); is_ready = z.is_ready }
      reading' c' j' q' k' x' re ch (inl a) = record { is_open = λ _. Memᴰ.head (is_o_lem c' k' x' a.0 a.3 a.4); is_ready = λ r e. absurd ((old_evid c' j' r (f c' j' r e)).0 a.0 a.1) }

  pub call_kept : Core mc g' h drawn letters es'
  call_kept =
      record {
        births = v.births;
        peers_ok = v.peers_ok;
        seqs = seqs';
        emptied_ok = v.emptied_ok;
        numbers = numbers';
        free = v.free;
        letters_ok = λ l m. word_ok l.by l.word (v.letters_ok l m);
        table = λ σ f. table' σ f (v.table σ (λ c' j' r e. (old_evid c' j' r (f c' j' r e)).1));
      }

-- a call that is handed back at once
pub call_back : (mc : Machine) (g : Ghost) (h : AbsHouse mc) (drawn : List ℕ) (letters : List (Letter Msg)) (es : List Seen) → Core mc g h drawn letters es → (i k : ℕ) (x : Bytes) → Core mc g h drawn letters (told i k busy ∷ called i k x ∷ es)
unfolding is_used
call_back mc g h drawn letters es v i k x =
    record {
      births = v.births;
      peers_ok = v.peers_ok;
      seqs = v.seqs;
      emptied_ok = v.emptied_ok;
      free = v.free;
      numbers = record { seq_pos = v.numbers.seq_pos; used = λ c' j' q' k' x' re w. used_more (g.desk c') k' i k x es (v.numbers.used c' j' q' k' x' re w); once = v.numbers.once };
      letters_ok = v.letters_ok;
      table = λ σ f. let u = v.table σ f in record { os = u.os; rs = u.rs; tab = handed_back [] u.os (record { desk = i; number = k; life = g.lives i; call = x }) (comes_in i k x u.tab) refl; change = u.change; reading = u.reading };
    }
