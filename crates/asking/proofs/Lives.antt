-- A desk falls; a desk comes with a new nonce; the first moment.
use Rattle.std.proofs.Common.{◌≡◌, ℕ, ◌<◌, ◌≤◌, true, not, T, ◌⊎◌, List, [], ◌∷◌, sym, refl, ap, ◌∙◌, subst, inl, inr, arith}
use mathlib.Core.List.Memᴰ
use mathlib.Core.List.{Memᴰ}
use Rattle.std.proofs.lemmas.Bool.{cases_lt, cases_eq}
use Rattle.promise.specs.Bytes.{Bytes}
use Rattle.promise.specs.Machine.{Machine}
use Rattle.asking.specs.Lawful.{Lawful}
use Rattle.promise.specs.Desks.{Letter, Seen, fell, laid, has_fallen, at, is_used, is_in, more}
use Rattle.codec.specs.Messages.{Msg, Hello, Welcome, Request, Response, Alive}
use Rattle.asking.proofs.View.{AbsHouse, AbsSlot, idle, waiting, changing, abs_nobody}
use Rattle.asking.proofs.Base.{at_ind, at_same, at_other, at_cases, more_same, more_other, more_grows, not_in, in_tail, in_head, in_cases}
use Rattle.asking.proofs.Inv.{Ghost, seq_of, Real, Births, Given, WordOk, Pick, Fits, open_of, ready_of, Change, Held, Core}

-- FALLS
module _ (mc : Machine) (g : Ghost) (h : AbsHouse mc) (drawn : List ℕ) (letters : List (Letter Msg)) (es : List Seen) (v : Core mc g h drawn letters es) (i : ℕ) where
  abbrev pub fallen : Ghost
  fallen = record { desk = g.desk; life = g.life; given = g.given; last = g.last; lives = more i g.lives; emptied = g.emptied; alive = at i 0 g.alive }

  born' : (c : ℕ) → Real drawn c → (g.life c < fallen.lives (g.desk c)) ⊎ ((fallen.alive (g.desk c) ≡ c) × (g.life c ≡ fallen.lives (g.desk c)))
  born' c re = go (v.births.born c re) (cases_eq (g.desk c) i)
    where
      go : (g.life c < g.lives (g.desk c)) ⊎ ((g.alive (g.desk c) ≡ c) × (g.life c ≡ g.lives (g.desk c))) → (g.desk c ≡ i) ⊎ (g.desk c ≡ i → ⊥) → (g.life c < fallen.lives (g.desk c)) ⊎ ((fallen.alive (g.desk c) ≡ c) × (g.life c ≡ fallen.lives (g.desk c)))
      go (inl a) b = inl (let d = more_grows i g.lives (g.desk c) in omega arith)
      go (inr a) (inl e) = inl (let d = more_same i g.lives in let e1 : more i g.lives (g.desk c) ≡ more i g.lives i = ap (more i g.lives) e in let e2 : g.lives (g.desk c) ≡ g.lives i = ap g.lives e in let a1 = a.1 in omega arith)
      go (inr a) (inr n) = inr (at_other i 0 g.alive (g.desk c) n ∙ a.0, a.1 ∙ sym (more_other i g.lives (g.desk c) n))

  births' : Births g.desk g.life fallen.lives fallen.alive drawn
  births' =
      record {
        zero_in = v.births.zero_in;
        born = born';
        apart = v.births.apart;
        alive_is = λ i'. at_ind (λ b a. 0 < a → Real drawn a × (g.desk a ≡ b) × (g.life a ≡ fallen.lives b)) i 0 g.alive (λ l. absurd (omega arith)) (λ b n l. let z = v.births.alive_is b l in (z.0, z.1, z.2 ∙ sym (more_other i g.lives b n))) i';
      }

  word_fallen : (by : ℕ) (m : Msg) → WordOk mc g h drawn by m → WordOk mc fallen h drawn by m
  word_fallen by (Hello c') a = a
  word_fallen by (Welcome c' s') a = a
  word_fallen by (Request s' j' q' x') y =
      record {
        c = y.c;
        pos = y.pos;
        below = y.below;
        is' = y.is';
        real = y.real;
        whose = y.whose;
        qpos = y.qpos;
        upto = y.upto;
        lifts = y.lifts;
        stands = elim y.stands [ inl b ↦ inl b | inr b ↦ inr (record { over = b.over; past = b.past }) ];
      }
  word_fallen by (Alive s') a = tt
  word_fallen by (Response s' j' q' gr' r') y =
      record {
        c = y.c;
        i = y.i;
        pos = y.pos;
        below = y.below;
        is' = y.is';
        real = y.real;
        whose = y.whose;
        upto = y.upto;
        stands = elim y.stands [ inl a ↦ inl a | inr z ↦ inr (record { on = z.on; is' = z.is'; recorded' = z.recorded' }) ];
      }

  pub has_fallen_lem : Core mc fallen h drawn letters (fell i ∷ es)
  unfolding is_used
  has_fallen_lem =
      record {
        births = births';
        peers_ok = v.peers_ok;
        seqs = v.seqs;
        emptied_ok = v.emptied_ok;
        free = v.free;
        numbers = record { seq_pos = v.numbers.seq_pos; used = v.numbers.used; once = v.numbers.once };
        letters_ok = λ l m. word_fallen l.by l.word (v.letters_ok l m);
        table = λ σ f. let u = v.table σ f in record {
          os = u.os;
          rs = u.rs;
          tab = has_fallen i u.tab;
          change = λ c' j' q' k' x' re w ch le. let z = u.change c' j' q' k' x' re w ch le in record { is_open = z.is_open; is_ready = z.is_ready };
          reading = λ c' j' q' k' x' re w ch. let z = u.reading c' j' q' k' x' re w ch in record { is_open = z.is_open; is_ready = z.is_ready };
        };
      }

-- COMES
module _ (mc : Machine) (g : Ghost) (h : AbsHouse mc) (drawn : List ℕ) (letters : List (Letter Msg)) (es : List Seen) (v : Core mc g h drawn letters es) (i r : ℕ) (new : T (not (is_in r drawn))) (is_gone : g.alive i ≡ 0) where
  abbrev pub comer : Ghost
  comer = record { desk = at r i g.desk; life = at r (g.lives i) g.life; given = g.given; last = at r (λ j. idle 0) g.last; lives = g.lives; emptied = g.emptied; alive = at i r g.alive }

  abbrev pub drawn' : List ℕ
  drawn' = r ∷ drawn

  pub r_pos : 0 < r
  r_pos = go (cases_lt 0 r)
    where
      go : (0 < r) ⊎ (r ≤ 0) → 0 < r
      go (inl a) = a
      go (inr a) = absurd (not_in r 0 drawn new v.births.zero_in (omega arith))

  old : (c : ℕ) → Real drawn c → c ≡ r → ⊥
  old c re e = not_in r c drawn new re.drawn' e

  pub real_more : (c : ℕ) → Real drawn c → Real drawn' c
  real_more c re = record { pos = re.pos; drawn' = in_tail c r drawn re.drawn' }

  real_cases : (c : ℕ) → Real drawn' c → (c ≡ r) ⊎ Real drawn c
  real_cases c re = go (in_cases c r drawn re.drawn')
    where
      go : (c ≡ r) ⊎ T (is_in c drawn) → (c ≡ r) ⊎ Real drawn c
      go (inl e) = inl e
      go (inr t) = inr (record { pos = re.pos; drawn' = t })

  desk_old : (c : ℕ) → Real drawn c → comer.desk c ≡ g.desk c
  desk_old c re = at_other r i g.desk c (old c re)

  life_old : (c : ℕ) → Real drawn c → comer.life c ≡ g.life c
  life_old c re = at_other r (g.lives i) g.life c (old c re)

  pub last_old : (c : ℕ) → Real drawn c → comer.last c ≡ g.last c
  last_old c re = at_other r (λ j. idle 0) g.last c (old c re)

  -- what waits is of an older one
  old_wait : (c j q k : ℕ) (x : Bytes) → comer.last c j ≡ waiting q k x → (c ≡ r → ⊥) × (g.last c j ≡ waiting q k x)
  old_wait c j q k x w = go (at_cases r (λ (_ : ℕ). idle 0) g.last c)
    where
      go : ((c ≡ r) × (comer.last c ≡ (λ j. idle 0))) ⊎ ((c ≡ r → ⊥) × (comer.last c ≡ g.last c)) → (c ≡ r → ⊥) × (g.last c j ≡ waiting q k x)
      go (inl a) = absurd (let e : comer.last c j ≡ idle 0 = ap (λ (f : ℕ → AbsSlot). f j) a.1 in let z : ◌≡◌ {A = ℕ} 0 1 = cc in omega arith)
      go (inr a) = (a.0, sym (ap (λ (f : ℕ → AbsSlot). f j) a.1) ∙ w)

  old_real : (c : ℕ) → Real drawn' c → (c ≡ r → ⊥) → Real drawn c
  old_real c re n = elim (real_cases c re) [ inl e ↦ absurd (n e) | inr y ↦ y ]

  born'' : (c : ℕ) → Real drawn' c → (comer.life c < g.lives (comer.desk c)) ⊎ ((comer.alive (comer.desk c) ≡ c) × (comer.life c ≡ g.lives (comer.desk c)))
  born'' c re = go (real_cases c re)
    where
      this : (c ≡ r) → (comer.alive (comer.desk c) ≡ c) × (comer.life c ≡ g.lives (comer.desk c))
      this e =
          let d : comer.desk c ≡ i = ap comer.desk e ∙ at_same r i g.desk in
          let l : comer.life c ≡ g.lives i = ap comer.life e ∙ at_same r (g.lives i) g.life in
          (ap comer.alive d ∙ (at_same i r g.alive ∙ sym e), l ∙ ap g.lives (sym d))

      that : Real drawn c → (g.life c < g.lives (g.desk c)) ⊎ ((g.alive (g.desk c) ≡ c) × (g.life c ≡ g.lives (g.desk c))) → (comer.life c < g.lives (comer.desk c)) ⊎ ((comer.alive (comer.desk c) ≡ c) × (comer.life c ≡ g.lives (comer.desk c)))
      that y (inl a) = inl (let l = life_old c y in let d : g.lives (comer.desk c) ≡ g.lives (g.desk c) = ap g.lives (desk_old c y) in omega arith)
      that y (inr a) =
          let n : g.desk c ≡ i → ⊥ = (λ e. let z : g.alive (g.desk c) ≡ 0 = ap g.alive e ∙ is_gone in let a0 = a.0 in let p = y.pos in omega arith) in
          inr (ap comer.alive (desk_old c y) ∙ (at_other i r g.alive (g.desk c) n ∙ a.0), life_old c y ∙ (a.1 ∙ ap g.lives (sym (desk_old c y))))

      go : (c ≡ r) ⊎ Real drawn c → (comer.life c < g.lives (comer.desk c)) ⊎ ((comer.alive (comer.desk c) ≡ c) × (comer.life c ≡ g.lives (comer.desk c)))
      go (inl e) = inr (this e)
      go (inr y) = that y (v.births.born c y)

  -- who was there before lived earlier
  earlier : (c : ℕ) → Real drawn c → g.desk c ≡ i → g.life c < g.lives i
  earlier c y e = go (v.births.born c y)
    where
      go : (g.life c < g.lives (g.desk c)) ⊎ ((g.alive (g.desk c) ≡ c) × (g.life c ≡ g.lives (g.desk c))) → g.life c < g.lives i
      go (inl a) = let b : g.lives (g.desk c) ≡ g.lives i = ap g.lives e in omega arith
      go (inr a) = absurd (let z : g.alive (g.desk c) ≡ 0 = ap g.alive e ∙ is_gone in let a0 = a.0 in let p = y.pos in omega arith)

  new_desk : (c : ℕ) → c ≡ r → comer.desk c ≡ i
  new_desk c e = ap comer.desk e ∙ at_same r i g.desk

  new_life : (c : ℕ) → c ≡ r → comer.life c ≡ g.lives i
  new_life c e = ap comer.life e ∙ at_same r (g.lives i) g.life

  apart'' : (c c' : ℕ) → Real drawn' c → Real drawn' c' → comer.desk c ≡ comer.desk c' → comer.life c ≡ comer.life c' → c ≡ c'
  apart'' c c' re re' d l = go (real_cases c re) (real_cases c' re')
    where
      go : (c ≡ r) ⊎ Real drawn c → (c' ≡ r) ⊎ Real drawn c' → c ≡ c'
      go (inl a) (inl b) = a ∙ sym b
      go (inl a) (inr b) = absurd (let z = earlier c' b (sym (desk_old c' b) ∙ (sym d ∙ new_desk c a)) in let y = new_life c a in let y' = life_old c' b in omega arith)
      go (inr a) (inl b) = absurd (let z = earlier c a (sym (desk_old c a) ∙ (d ∙ new_desk c' b)) in let y = new_life c' b in let y' = life_old c a in omega arith)
      go (inr a) (inr b) = v.births.apart c c' a b (sym (desk_old c a) ∙ (d ∙ desk_old c' b)) (sym (life_old c a) ∙ (l ∙ life_old c' b))

  births'' : Births comer.desk comer.life g.lives comer.alive drawn'
  births'' =
      record {
        zero_in = in_tail 0 r drawn v.births.zero_in;
        born = born'';
        apart = apart'';
        alive_is = λ i'. at_ind (λ b a. 0 < a → Real drawn' a × (comer.desk a ≡ b) × (comer.life a ≡ g.lives b)) i r g.alive (λ l. (record { pos = l; drawn' = in_head r drawn }, at_same r i g.desk, at_same r (g.lives i) g.life)) (λ b n l. let z = v.births.alive_is b l in (real_more _ z.0, desk_old _ z.0 ∙ z.1, life_old _ z.0 ∙ z.2)) i';
      }

  given_map' : (i' c s : ℕ) → Given g.desk g.given drawn h.next i' c s → Given comer.desk g.given drawn' h.next i' c s
  given_map' i' c s a = record { below = a.below; is' = a.is'; real = real_more c a.real; whose = desk_old c a.real ∙ a.whose }

  seq_old : (c j : ℕ) → Real drawn c → seq_of (comer.last c j) ≡ seq_of (g.last c j)
  seq_old c j re = ap (λ (f : ℕ → AbsSlot). seq_of (f j)) (last_old c re)

  life_lower : (c i' : ℕ) → Real drawn c → g.life c < g.emptied i' → comer.life c < g.emptied i'
  life_lower c i' re l = let a = life_old c re in omega arith

  word_comer : (by : ℕ) (m : Msg) → WordOk mc g h drawn by m → WordOk mc comer h drawn' by m
  word_comer by (Hello c') a = record { real = real_more c' a.real; whose = desk_old c' a.real ∙ a.whose }
  word_comer by (Welcome c' s') a = a
  word_comer by (Request s' j' q' x') y =
      record {
        c = y.c;
        pos = y.pos;
        below = y.below;
        is' = y.is';
        real = real_more y.c y.real;
        whose = desk_old y.c y.real ∙ y.whose;
        qpos = y.qpos;
        upto = (let a = seq_old y.c j' y.real in let b = y.upto in omega arith);
        lifts = λ e on. let a = y.lifts e on in let b = life_old y.c y.real in let d = life_old (h.peers by).nonce (v.peers_ok.cur by on).real in omega arith;
        stands = elim y.stands [ inl b ↦ inl (b.0, ap (λ (f : ℕ → AbsSlot). f j') (last_old y.c y.real) ∙ b.1) | inr b ↦ inr (record { over = λ q2 k2 x2 w. b.over q2 k2 x2 (old_wait y.c j' q2 k2 x2 w).1; past = λ ch. elim (b.past ch) [ inl z ↦ inl (life_lower y.c by y.real z) | inr z ↦ inr z ] }) ];
      }
  word_comer by (Alive s') a = tt
  word_comer by (Response s' j' q' gr' r') y =
      record {
        c = y.c;
        i = y.i;
        pos = y.pos;
        below = y.below;
        is' = y.is';
        real = real_more y.c y.real;
        whose = desk_old y.c y.real ∙ y.whose;
        upto = (let a = seq_old y.c j' y.real in let b = y.upto in omega arith);
        stands = elim y.stands [ inl a ↦ inl (life_lower y.c y.i y.real a) | inr z ↦ inr (record { on = z.on; is' = z.is'; recorded' = λ k' x' w ch. z.recorded' k' x' (old_wait y.c j' q' k' x' w).1 ch }) ];
      }

  fits'' : (σ : ℕ → ℕ → Pick) → Fits mc g.given comer.last letters σ → Fits mc g.given g.last letters σ
  fits'' σ f c j r' e = let u = f c j r' e in record { s = u.s; q = u.q; gr = u.gr; k = u.k; x = u.x; l = u.l; waits = (old_wait c j u.q u.k u.x u.waits).1; reads = u.reads; is' = u.is'; mem = u.mem; word' = u.word' }

  open_old : (c k : ℕ) (x : Bytes) → Real drawn c → open_of comer c k x ≡ open_of g c k x
  open_old c k x re = let a = desk_old c re in let b = life_old c re in λ z. record { desk = a z; number = k; life = b z; call = x }

  ready_old : (c k : ℕ) (x : Bytes) → Real drawn c → ready_of comer c k x ≡ ready_of g c k x
  ready_old c k x re = let a = desk_old c re in let b = life_old c re in λ z. record { desk = a z; number = k; life = b z; answer = x }

  table'' : (σ : ℕ → ℕ → Pick) → Held mc g h drawn es σ → Held mc comer h drawn' es σ
  table'' σ u =
      record {
        os = u.os;
        rs = u.rs;
        tab = u.tab;
        change = λ c j q k x re w ch le. let d = old_wait c j q k x w in change' c j q k x (old_real c re d.0) d.1 ch le;
        reading = λ c j q k x re w ch. let d = old_wait c j q k x w in let re' = old_real c re d.0 in let z = u.reading c j q k x re' d.1 ch in record { is_open = λ e. subst (λ o. Memᴰ o u.os) (sym (open_old c k x re')) (z.is_open e); is_ready = λ r' e. subst (λ o. Memᴰ o u.rs) (sym (ready_old c k r' re')) (z.is_ready r' e) };
      }
    where
      change' : (c j q k : ℕ) (x : Bytes) → Real drawn c → g.last c j ≡ waiting q k x → changing mc x ≡ true → g.emptied (comer.desk c) ≤ comer.life c → Change comer (h.peers (comer.desk c)) c j q k x u.os u.rs
      change' c j q k x re w ch le =
          let a = desk_old c re in
          let z = u.change c j q k x re w ch (let b = life_old c re in let e : g.emptied (comer.desk c) ≡ g.emptied (g.desk c) = ap g.emptied a in omega arith) in
          subst (λ b. Change comer (h.peers b) c j q k x u.os u.rs) (sym a) (record { is_open = λ f. subst (λ o. Memᴰ o u.os) (sym (open_old c k x re)) (z.is_open f); is_ready = λ on e l. subst (λ o. Memᴰ o u.rs) (sym (ready_old c k ((h.peers (g.desk c)).slots j).answer re)) (z.is_ready on e l) })

  pub has_come : Core mc comer h drawn' letters es
  has_come =
      record {
        births = births'';
        free = v.free;
        peers_ok = record { next_pos = v.peers_ok.next_pos; cur = λ i' l. given_map' i' _ _ (v.peers_ok.cur i' l); off = λ i' l. given_map' i' _ _ (v.peers_ok.off i' l); two = v.peers_ok.two };
        seqs = record { upto = λ i' j l. let a = v.seqs.upto i' j l in let b = seq_old (h.peers i').nonce j (v.peers_ok.cur i' l).real in omega arith };
        emptied_ok = record { none = v.emptied_ok.none; some = λ i' l. v.emptied_ok.some i' l ∙ sym (life_old (h.peers i').nonce (v.peers_ok.cur i' l).real) };
        numbers = record {
          seq_pos = λ c j q k x w. v.numbers.seq_pos c j q k x (old_wait c j q k x w).1;
          used = λ c j q k x re w. let d = old_wait c j q k x w in let re' = old_real c re d.0 in subst (λ z. T (is_used z k es)) (sym (desk_old c re')) (v.numbers.used c j q k x re' d.1);
          once = λ c j q k x j' q' x' re w w'. let d = old_wait c j q k x w in v.numbers.once c j q k x j' q' x' (old_real c re d.0) d.1 (old_wait c j' q' k x' w').1;
        };
        letters_ok = λ l m. word_comer l.by l.word (v.letters_ok l m);
        table = λ σ f. table'' σ (v.table σ (fits'' σ f));
      }

-- THE FIRST MOMENT
abbrev pub g0 : Ghost
g0 = record { desk = λ c. 0; life = λ c. 0; given = λ s. 0; last = λ c j. idle 0; lives = λ i. 0; emptied = λ i. 0; alive = λ i. 0 }

abbrev pub h0 : (mc : Machine) → AbsHouse mc
h0 mc = record { table = mc.start; next = 1; peers = λ i. abs_nobody }

none_real : (c : ℕ) → Real (0 ∷ []) c → ⊥
unfolding is_in
none_real c re = go (in_cases c 0 [] re.drawn')
  where
    nil : T (is_in c []) → ⊥
    nil t = t

    go : (c ≡ 0) ⊎ T (is_in c []) → ⊥
    go (inl e) = let p = re.pos in omega arith
    go (inr t) = nil t

never : (q k : ℕ) (x : Bytes) → idle 0 ≡ waiting q k x → ⊥
never q k x e = let z : ◌≡◌ {A = ℕ} 0 1 = cc in omega arith

pub at_first : (mc : Machine) → Lawful mc → Core mc g0 (h0 mc) (0 ∷ []) [] []
at_first mc law =
    record {
      births = record { zero_in = in_head 0 []; born = λ c re. absurd (none_real c re); apart = λ c c' re _ _ _. absurd (none_real c re); alive_is = λ i l. absurd (omega arith) };
      peers_ok = record { next_pos = omega arith; cur = λ i l. absurd (omega arith); off = λ i l. absurd (omega arith); two = λ i l _ _. omega arith };
      seqs = record { upto = λ i j l. absurd (omega arith) };
      emptied_ok = record { none = λ i e. refl; some = λ i l. absurd (omega arith) };
      numbers = record { seq_pos = λ c j q k x w. absurd (never q k x w); used = λ c j q k x re w. absurd (never q k x w); once = λ c j q k x j' q' x' re w w'. absurd (never q k x w) };
      free = λ i _. law.start_empty i;
      letters_ok = λ l m. absurd (Memᴰ.not-nil m);
      table = λ σ f. record { os = []; rs = []; tab = laid; change = λ c j q k x re w. absurd (never q k x w); reading = λ c j q k x re w. absurd (never q k x w) };
    }
