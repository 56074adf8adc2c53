-- The house answers a query: the invariant holds with the new answer among those that can be chosen.
use Rattle.std.proofs.Common.{◌≡◌, ℕ, ◌<◌, false, ◌⊎◌, List, ◌∷◌, ◌++◌, sym, refl, ap, ◌∙◌, subst, inl, inr, arith}
use mathlib.Core.List.Memᴰ
use mathlib.Core.List.{Memᴰ}
use Rattle.std.proofs.lemmas.Bool.{both_ways, not-false}
use Rattle.promise.specs.Bytes.{Bytes}
use Rattle.promise.specs.Machine.{Machine}
use Rattle.asking.specs.Lawful.{Lawful}
use Rattle.promise.specs.Desks.{Letter, Seen, Open, Ready, Table, is_done}
use Rattle.codec.specs.Messages.{Msg, Response}
use Rattle.asking.proofs.View.{AbsHouse, waiting, changing, reply_to, left_by}
use Rattle.asking.proofs.Base.{put, put_same, put_cases, Place, place, other_stays}
use Rattle.asking.proofs.Inv.{Ghost, Real, RequestOk, ResponseOk, WordOk, Pick, unpicked, picked, Evid, Fits, open_of, ready_of, Reading, Held, Core}

-- two calls that wait are one only at one place
pub distinct : (mc : Machine) (g : Ghost) (h : AbsHouse mc) (drawn : List ℕ) (letters : List (Letter Msg)) (es : List Seen) → Core mc g h drawn letters es → (c j q k : ℕ) (x : Bytes) (c' j' q' k' : ℕ) (x' : Bytes) → Real drawn c → Real drawn c' → g.last c j ≡ waiting q k x → g.last c' j' ≡ waiting q' k' x' →
    g.desk c' ≡ g.desk c → g.life c' ≡ g.life c → k' ≡ k → (c' ≡ c) × (j' ≡ j)
distinct mc g h drawn letters es v c j q k x c' j' q' k' x' re re' w w' d l n =
    let e : c' ≡ c = v.births.apart c' c re' re d l in
    let w'' : g.last c j' ≡ waiting q' k x' = cc in
    (e, v.numbers.once c j' q' k x' j q x re w'' w)

pub distinct_open : (mc : Machine) (g : Ghost) (h : AbsHouse mc) (drawn : List ℕ) (letters : List (Letter Msg)) (es : List Seen) → Core mc g h drawn letters es → (c j q k : ℕ) (x : Bytes) (c' j' q' k' : ℕ) (x' : Bytes) → Real drawn c → Real drawn c' → g.last c j ≡ waiting q k x → g.last c' j' ≡ waiting q' k' x' →
    open_of g c' k' x' ≡ open_of g c k x → (c' ≡ c) × (j' ≡ j)
distinct_open mc g h drawn letters es v c j q k x c' j' q' k' x' re re' w w' e = distinct mc g h drawn letters es v c j q k x c' j' q' k' x' re re' w w' (ap (λ (o : Open). o.desk) e) (ap (λ (o : Open). o.life) e) (ap (λ (o : Open). o.number) e)

pub distinct_ready : (mc : Machine) (g : Ghost) (h : AbsHouse mc) (drawn : List ℕ) (letters : List (Letter Msg)) (es : List Seen) → Core mc g h drawn letters es → (c j q k : ℕ) (x : Bytes) (r : Bytes) (c' j' q' k' : ℕ) (x' : Bytes) (r' : Bytes) → Real drawn c → Real drawn c' → g.last c j ≡ waiting q k x → g.last c' j' ≡ waiting q' k' x' →
    ready_of g c' k' r' ≡ ready_of g c k r → (c' ≡ c) × (j' ≡ j)
distinct_ready mc g h drawn letters es v c j q k x r c' j' q' k' x' r' re re' w w' e = distinct mc g h drawn letters es v c j q k x c' j' q' k' x' re re' w w' (ap (λ (o : Ready). o.desk) e) (ap (λ (o : Ready). o.life) e) (ap (λ (o : Ready). o.number) e)

module _ (mc : Machine) (law : Lawful mc) (g : Ghost) (h : AbsHouse mc) (drawn : List ℕ) (letters : List (Letter Msg)) (es : List Seen) (v : Core mc g h drawn letters es)
    (i s j q : ℕ) (x : Bytes) (reading' : changing mc x ≡ false) (ok : RequestOk mc g h.next (h.peers i) drawn i s j q x) (on : 0 < (h.peers i).session) (is_s : (h.peers i).session ≡ s) (t : ℕ) where
  abbrev pub answer : Letter Msg
  answer = record { to = i; by = 0; at' = t; word = Response s j q 0 (reply_to mc i x h.table) }

  nonce_is : (h.peers i).nonce ≡ ok.c
  nonce_is = let a = (v.peers_ok.cur i on).is' in let b = ok.is' in cc

  life_is : g.life ok.c ≡ g.emptied (g.desk ok.c)
  life_is = let a = v.emptied_ok.some i on in let b = ok.whose in let e = nonce_is in cc

  word_is : (l : Letter Msg) (s' j' q' gr' : ℕ) (r' : Bytes) → l ≡ answer → l.word ≡ Response s' j' q' gr' r' → (s' ≡ s) × (j' ≡ j) × (q' ≡ q) × (r' ≡ reply_to mc i x h.table)
  word_is l s' j' q' gr' r' e w = let u : Response s' j' q' gr' r' ≡ Response s j q 0 (reply_to mc i x h.table) = sym w ∙ ap (λ (y : Letter Msg). y.word) e in (cc, cc, cc, cc)

  -- from an answer that is not the new one
  older : (σ : ℕ → ℕ → Pick) → Fits mc g.given g.last (answer ∷ letters) σ → ((r : Bytes) → σ ok.c j ≡ picked r → Evid mc g.given g.last letters ok.c j r) → Fits mc g.given g.last letters σ
  older σ f here c j' r e = go (f c j' r e) (Memᴰ.cases_cons (f c j' r e).mem)
    where
      go : (u : Evid mc g.given g.last (answer ∷ letters) c j' r) → (u.l ≡ answer) ⊎ Memᴰ u.l letters → Evid mc g.given g.last letters c j' r
      go u (inr m) = record { s = u.s; q = u.q; gr = u.gr; k = u.k; x = u.x; l = u.l; waits = u.waits; reads = u.reads; is' = u.is'; mem = m; word' = u.word' }
      go u (inl p) =
          let a = word_is u.l u.s j' u.q u.gr r p u.word' in
          let a0 : u.s ≡ s = a.0 in
          let a1 : j' ≡ j = a.1 in
          let b : c ≡ ok.c = sym u.is' ∙ (ap g.given a0 ∙ ok.is') in
          let e' : σ ok.c j ≡ picked r = (λ k. σ (sym b k) (sym a1 k)) ∙ e in
          subst (λ z. Evid mc g.given g.last letters z j' r) (sym b) (subst (λ z. Evid mc g.given g.last letters ok.c z r) (sym a1) (here r e'))

  -- the new answer is picked: the query is done now
  now_done : (σ : ℕ → ℕ → Pick) (k : ℕ) → σ ok.c j ≡ picked (reply_to mc i x h.table) → g.last ok.c j ≡ waiting q k x → Held mc g h drawn es (put ok.c j unpicked σ) → Held mc g h drawn es σ
  now_done σ k eσ w u =
      record {
        os = p.before ++ p.after;
        rs = rdy ∷ u.rs;
        tab = tab2;
        change = λ c' j' q' k' x' re w' ch le. record { is_open = λ f. other_stays o (open_of g c' k' x') p.before p.after (λ e. both_ways (changing mc x') (ap (λ (z : Open). changing mc z.call) e ∙ reading') ch) (moved c' k' x' ((u.change c' j' q' k' x' re w' ch le).is_open f)); is_ready = λ a b d. Memᴰ.tail ((u.change c' j' q' k' x' re w' ch le).is_ready a b d) };
        reading = λ c' j' q' k' x' re w' ch. by_place c' j' q' k' x' re w' ch (put_cases ok.c j unpicked σ c' j');
      }
    where
      o : Open
      o = open_of g ok.c k x

      rdy : Ready
      rdy = record { desk = g.desk ok.c; number = k; life = g.life ok.c; answer = reply_to mc (g.desk ok.c) x h.table }

      p : Place o u.os
      p = place o u.os ((u.reading ok.c j q k x ok.real w reading').is_open (put_same ok.c j unpicked σ))

      moved : (c' k' : ℕ) (x' : Bytes) → Memᴰ (open_of g c' k' x') u.os → Memᴰ (open_of g c' k' x') (p.before ++ o ∷ p.after)
      moved c' k' x' m = subst (λ z. Memᴰ (open_of g c' k' x') z) p.whole m

      tab1 : Table mc es (left_by mc (g.desk ok.c) x h.table) (p.before ++ p.after) (rdy ∷ u.rs) g.lives g.emptied
      tab1 = is_done p.before p.after o (subst (λ z. Table mc es h.table z u.rs g.lives g.emptied) p.whole u.tab) life_is

      tab2 : Table mc es h.table (p.before ++ p.after) (rdy ∷ u.rs) g.lives g.emptied
      tab2 = subst (λ z. Table mc es z (p.before ++ p.after) (rdy ∷ u.rs) g.lives g.emptied) (law.query_leaves (g.desk ok.c) x h.table (not-false (mc.reads x) reading')) tab1

      by_place : (c' j' q' k' : ℕ) (x' : Bytes) → Real drawn c' → g.last c' j' ≡ waiting q' k' x' → changing mc x' ≡ false → ((c' ≡ ok.c) × (j' ≡ j) × (put ok.c j unpicked σ c' j' ≡ unpicked)) ⊎ ((c' ≡ ok.c → j' ≡ j → ⊥) × (put ok.c j unpicked σ c' j' ≡ σ c' j')) → Reading g c' k' x' (σ c' j') (p.before ++ p.after) (rdy ∷ u.rs)
      by_place c' j' q' k' x' re w' ch (inl a) =
          let a0 : c' ≡ ok.c = a.0 in
          let a1 : j' ≡ j = a.1 in
          let ek : k' ≡ k = cc in
          let wh = ok.whose in
          let er : σ c' j' ≡ picked (reply_to mc i x h.table) = (λ z. σ (a0 z) (a1 z)) ∙ eσ in
          record { is_open = λ e. (let z : ◌≡◌ {A = ℕ} 0 1 = cc in absurd (omega arith)); is_ready = λ r e. Memᴰ.head (let e1 : r ≡ reply_to mc i x h.table = cc in let e2 : r ≡ reply_to mc (g.desk ok.c) x h.table = e1 ∙ ap (λ b. reply_to mc b x h.table) (sym wh) in λ z. record { desk = g.desk (a0 z); number = ek z; life = g.life (a0 z); answer = e2 z }) }
      by_place c' j' q' k' x' re w' ch (inr a) =
          let y = u.reading c' j' q' k' x' re w' ch in
          record { is_open = λ e. other_stays o (open_of g c' k' x') p.before p.after (λ e'. let d = distinct_open mc g h drawn letters es v ok.c j q k x c' j' q' k' x' ok.real re w w' e' in a.0 d.0 d.1) (moved c' k' x' (y.is_open (a.1 ∙ e))); is_ready = λ r e. Memᴰ.tail (y.is_ready r (a.1 ∙ e)) }

  unput : (σ : ℕ → ℕ → Pick) → Fits mc g.given g.last (answer ∷ letters) σ → Fits mc g.given g.last (answer ∷ letters) (put ok.c j unpicked σ)
  unput σ f c' j' r e = go (put_cases ok.c j unpicked σ c' j')
    where
      go : ((c' ≡ ok.c) × (j' ≡ j) × (put ok.c j unpicked σ c' j' ≡ unpicked)) ⊎ ((c' ≡ ok.c → j' ≡ j → ⊥) × (put ok.c j unpicked σ c' j' ≡ σ c' j')) → Evid mc g.given g.last (answer ∷ letters) c' j' r
      go (inl a) = let a2 = a.2 in let z : ◌≡◌ {A = ℕ} 0 1 = cc in absurd (omega arith)
      go (inr a) = f c' j' r (sym a.1 ∙ e)

  read_table : (σ : ℕ → ℕ → Pick) → Fits mc g.given g.last (answer ∷ letters) σ → Held mc g h drawn es σ
  read_table σ f = go (σ ok.c j) refl
    where
      again : (r : Bytes) → σ ok.c j ≡ picked r → (u : Evid mc g.given g.last (answer ∷ letters) ok.c j r) → (u.l ≡ answer) ⊎ Memᴰ u.l letters → Held mc g h drawn es σ
      again r e u (inr m) = v.table σ (older σ f (λ r' e'. let er : r ≡ r' = cc in subst (λ z. Evid mc g.given g.last letters ok.c j z) er (record { s = u.s; q = u.q; gr = u.gr; k = u.k; x = u.x; l = u.l; waits = u.waits; reads = u.reads; is' = u.is'; mem = m; word' = u.word' })))
      again r e u (inl p) =
          let a = word_is u.l u.s j u.q u.gr r p u.word' in
          let a2 : u.q ≡ q = a.2 in
          let a3 : r ≡ reply_to mc i x h.table = a.3 in
          let w = u.waits in
          elim ok.stands [ inl b ↦ now_done σ b.0 (e ∙ ap picked a3) b.1 (v.table (put ok.c j unpicked σ) (older (put ok.c j unpicked σ) (unput σ f) (λ r' e'. let b = put_same ok.c j unpicked σ in let z : ◌≡◌ {A = ℕ} 0 1 = cc in absurd (omega arith)))) | inr b ↦ absurd (let lt = b.over u.q u.k u.x w in omega arith) ]

      go : (y : Pick) → σ ok.c j ≡ y → Held mc g h drawn es σ
      go unpicked e = v.table σ (older σ f (λ r e'. let z : ◌≡◌ {A = ℕ} 0 1 = cc in absurd (omega arith)))
      go (picked r) e = again r e (f ok.c j r e) (Memᴰ.cases_cons (f ok.c j r e).mem)

  -- of a query that is over nothing is asked
  pub read_again : Core mc g h drawn (answer ∷ letters) es
  read_again =
      record {
        births = v.births;
        peers_ok = v.peers_ok;
        seqs = v.seqs;
        emptied_ok = v.emptied_ok;
        numbers = v.numbers;
        free = v.free;
        letters_ok = λ l m. elim (Memᴰ.cases_cons m) [ inl e ↦ subst (λ z. WordOk mc g h drawn z.by z.word) (sym e) here | inr b ↦ v.letters_ok l b ];
        table = read_table;
      }
    where
      here : ResponseOk mc g h drawn s j q (reply_to mc i x h.table)
      here = record { c = ok.c; i = i; pos = ok.pos; below = ok.below; is' = ok.is'; real = ok.real; whose = ok.whose; upto = ok.upto; stands = inr (record { on = on; is' = is_s; recorded' = λ k y w ch. elim ok.stands [ inl b ↦ (let b1 = b.1 in let e : y ≡ x = cc in absurd (both_ways (changing mc y) (ap (changing mc) e ∙ reading') ch)) | inr b ↦ absurd (let lt = b.over q k y w in omega arith) ] }) }
