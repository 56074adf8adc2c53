-- The house offers a new session: it was given to nobody before.
use Rattle.std.proofs.Common.{◌≡◌, ℕ, ◌+◌, ◌<◌, ◌≤◌, ◌⊎◌, List, ◌∷◌, sym, ap, ◌∙◌, subst, inl, inr, arith}
use mathlib.Core.List.Memᴰ
use mathlib.Core.List.{Memᴰ}
use Rattle.promise.specs.Bytes.{Bytes}
use Rattle.promise.specs.Machine.{Machine}
use Rattle.promise.specs.Desks.{Letter, Seen, at}
use Rattle.codec.specs.Messages.{Msg, Hello, Welcome, Request, Response, Alive}
use Rattle.asking.proofs.View.{AbsPeer, AbsHouse, FreeOf, abs_offers, abs_offered}
use Rattle.asking.proofs.Base.{at_ind, at_same, at_other}
use Rattle.asking.proofs.Inv.{Ghost, seq_of, Given, PeersOk, Seqs, Emptied, HelloOk, RequestOk, Answer, ResponseOk, WordOk, Pick, Evid, Fits, Change, Held, Core}

module _ (mc : Machine) (g : Ghost) (h : AbsHouse mc) (drawn : List ℕ) (letters : List (Letter Msg)) (es : List Seen) (v : Core mc g h drawn letters es)
    (i c : ℕ) (ok : HelloOk g.desk drawn i c) (new : 0 < (h.peers i).session → (h.peers i).nonce ≡ c → ⊥) (t : ℕ) where
  abbrev pub g' : Ghost
  g' = record { desk = g.desk; life = g.life; given = at h.next c g.given; last = g.last; lives = g.lives; emptied = g.emptied; alive = g.alive }

  abbrev pub peer' : AbsPeer
  peer' = abs_offered (h.peers i) c h.next

  abbrev pub h' : AbsHouse mc
  h' = abs_offers h i c

  abbrev pub answer : Letter Msg
  answer = record { to = i; by = 0; at' = t; word = Welcome c h.next }

  pub given_same : (s : ℕ) → s < h.next → g'.given s ≡ g.given s
  given_same s l = at_other h.next c g.given s (λ e. omega arith)

  given_map : (i' c' s' : ℕ) → Given g.desk g.given drawn h.next i' c' s' → Given g.desk g'.given drawn (h.next + 1) i' c' s'
  given_map i' c' s' a = record { below = (let b = a.below in omega arith); is' = given_same s' a.below ∙ a.is'; real = a.real; whose = a.whose }

  here : Given g.desk g'.given drawn (h.next + 1) i c h.next
  here = record { below = omega arith; is' = at_same h.next c g.given; real = ok.real; whose = ok.whose }

  peers_ok_lem : PeersOk g.desk g'.given drawn (h.next + 1) h'.peers
  peers_ok_lem =
      record {
        next_pos = omega arith;
        cur = at_ind (λ i' p. 0 < p.session → Given g.desk g'.given drawn (h.next + 1) i' p.nonce p.session) i peer' h.peers (λ l. given_map _ _ _ (v.peers_ok.cur i l)) (λ i' _ l. given_map _ _ _ (v.peers_ok.cur i' l));
        off = at_ind (λ i' p. 0 < p.session' → Given g.desk g'.given drawn (h.next + 1) i' p.nonce' p.session') i peer' h.peers (λ _. here) (λ i' _ l. given_map _ _ _ (v.peers_ok.off i' l));
        two = at_ind (λ i' p. 0 < p.session → 0 < p.session' → p.nonce ≡ p.nonce' → ⊥) i peer' h.peers (λ l _ e. new l e) (λ i' _. v.peers_ok.two i');
      }

  seqs' : Seqs g.last h'.peers
  seqs' = record { upto = λ i' j'. at_ind (λ _ p. 0 < p.session → (p.slots j').seq ≤ seq_of (g.last p.nonce j')) i peer' h.peers (v.seqs.upto i j') (λ i2 _. v.seqs.upto i2 j') i' }

  emptied' : Emptied g.life g.emptied h'.peers
  emptied' =
      record {
        none = at_ind (λ i' p. p.session ≡ 0 → g.emptied i' ≡ 0) i peer' h.peers (v.emptied_ok.none i) (λ i' _. v.emptied_ok.none i');
        some = at_ind (λ i' p. 0 < p.session → g.emptied i' ≡ g.life p.nonce) i peer' h.peers (v.emptied_ok.some i) (λ i' _. v.emptied_ok.some i');
      }

  request_ok : (by s' j' q' : ℕ) (x' : Bytes) → RequestOk mc g h.next (h.peers by) drawn by s' j' q' x' → RequestOk mc g' (h.next + 1) (h'.peers by) drawn by s' j' q' x'
  request_ok by s' j' q' x' a = at_ind (λ b p. RequestOk mc g h.next (h.peers b) drawn b s' j' q' x' → RequestOk mc g' (h.next + 1) p drawn b s' j' q' x') i peer' h.peers
      (λ y. record {
        c = y.c;
        pos = y.pos;
        below = (let l = y.below in omega arith);
        is' = given_same s' y.below ∙ y.is';
        real = y.real;
        whose = y.whose;
        qpos = y.qpos;
        upto = y.upto;
        lifts = λ e. absurd (let l = y.below in omega arith);
        stands = elim y.stands [ inl b ↦ inl b | inr b ↦ inr (record { over = b.over; past = λ ch. elim (b.past ch) [ inl z ↦ inl z | inr z ↦ inr (record { on = z.on; is' = z.is'; upto = z.upto }) ] }) ];
      })
      (λ b _ y. record {
        c = y.c;
        pos = y.pos;
        below = (let l = y.below in omega arith);
        is' = given_same s' y.below ∙ y.is';
        real = y.real;
        whose = y.whose;
        qpos = y.qpos;
        upto = y.upto;
        lifts = y.lifts;
        stands = elim y.stands [ inl b ↦ inl b | inr b ↦ inr (record { over = b.over; past = b.past }) ];
      }) by a

  response_ok : (s' j' q' : ℕ) (r' : Bytes) → ResponseOk mc g h drawn s' j' q' r' → ResponseOk mc g' h' drawn s' j' q' r'
  response_ok s' j' q' r' y = record { c = y.c; i = y.i; pos = y.pos; below = (let l = y.below in omega arith); is' = given_same s' y.below ∙ y.is'; real = y.real; whose = y.whose; upto = y.upto; stands = elim y.stands [ inl a ↦ inl a | inr a ↦ inr (at_ind (λ b p. Answer mc g (h.peers b) y.c s' j' q' r' → Answer mc g' p y.c s' j' q' r') i peer' h.peers (λ z. record { on = z.on; is' = z.is'; recorded' = z.recorded' }) (λ b _ z. record { on = z.on; is' = z.is'; recorded' = z.recorded' }) y.i a) ] }

  word_ok : (by : ℕ) (m : Msg) → WordOk mc g h drawn by m → WordOk mc g' h' drawn by m
  word_ok by (Hello c') a = a
  word_ok by (Welcome c' s') a = record { pos = a.pos; below = (let l = a.below in omega arith); is' = given_same s' a.below ∙ a.is' }
  word_ok by (Request s' j' q' x') a = request_ok by s' j' q' x' a
  word_ok by (Alive s') a = tt
  word_ok by (Response s' j' q' gr' r') a = response_ok s' j' q' r' a

  fits' : (σ : ℕ → ℕ → Pick) → Fits mc g'.given g.last (answer ∷ letters) σ → Fits mc g.given g.last letters σ
  fits' σ f c' j' r e = go (f c' j' r e) (Memᴰ.cases_cons (f c' j' r e).mem)
    where
      go : (u : Evid mc g'.given g.last (answer ∷ letters) c' j' r) → (u.l ≡ answer) ⊎ Memᴰ u.l letters → Evid mc g.given g.last letters c' j' r
      go u (inl p) = absurd (let a : Response u.s j' u.q u.gr r ≡ Welcome c h.next = sym u.word' ∙ ap (λ (y : Letter Msg). y.word) p in let z : ◌≡◌ {A = ℕ} 0 1 = cc in omega arith)
      go u (inr m) =
          let b : ResponseOk mc g h drawn u.s j' u.q r = subst (λ z. WordOk mc g h drawn u.l.by z) u.word' (v.letters_ok u.l m) in
          record { s = u.s; q = u.q; gr = u.gr; k = u.k; x = u.x; l = u.l; waits = u.waits; reads = u.reads; is' = sym (given_same u.s b.below) ∙ u.is'; mem = m; word' = u.word' }

  table' : (σ : ℕ → ℕ → Pick) → Held mc g h drawn es σ → Held mc g' h' drawn es σ
  table' σ u =
      record {
        os = u.os;
        rs = u.rs;
        tab = u.tab;
        change = λ c' j' q' k' x' re w' ch le. at_ind (λ b p. Change g (h.peers b) c' j' q' k' x' u.os u.rs → Change g' p c' j' q' k' x' u.os u.rs) i peer' h.peers (λ z. record { is_open = z.is_open; is_ready = z.is_ready }) (λ _ _ z. record { is_open = z.is_open; is_ready = z.is_ready }) (g.desk c') (u.change c' j' q' k' x' re w' ch le);
        reading = λ c' j' q' k' x' re w' ch. let z = u.reading c' j' q' k' x' re w' ch in record { is_open = z.is_open; is_ready = z.is_ready };
      }

  pub offer_made : Core mc g' h' drawn (answer ∷ letters) es
  offer_made =
      record {
        births = v.births;
        peers_ok = peers_ok_lem;
        seqs = seqs';
        emptied_ok = emptied';
        numbers = v.numbers;
        free = at_ind (λ b p. p.session ≡ 0 → FreeOf mc b h.table) i peer' h.peers (v.free i) (λ b n. v.free b);
        letters_ok = λ l m. elim (Memᴰ.cases_cons m) [ inl e ↦ subst (λ z. WordOk mc g' h' drawn z.by z.word) (sym e) (record { pos = v.peers_ok.next_pos; below = omega arith; is' = at_same h.next c g.given }) | inr b ↦ word_ok l.by l.word (v.letters_ok l b) ];
        table = λ σ f. table' σ (v.table σ (fits' σ f));
      }
