-- A run over bytes is a run over messages: so what is proved over messages holds over bytes.
use Rattle.std.proofs.Common.{◌≡◌, ℕ, suc, ◌<◌, ◌≤◌, cond, not, T, eqb, ◌⊎◌, List, [], ◌∷◌, ◌++◌, map, Some, None, Option, sym, refl, ap, ◌∙◌, subst, inl, inr, arith}
use mathlib.Core.List.Memᴰ
use mathlib.Core.List.{map-append, Memᴰ}
use Rattle.std.proofs.lemmas.Bool.{cases_eq}
use Rattle.promise.specs.Bytes.{Bytes}
use Rattle.promise.specs.Machine.{Machine}
use Rattle.promise.specs.Desks.{From, Ask, Beat, Does, To, Tell, Lapse, Code, Seen, told, lapsed, called, gone, dark, there, Letter, Waits, World, Clocks, at, posted, tells, settled, without, turned, asking, hearing, later, darkened, begun, lit, is_in, Goes, first, time, hears, garbled, asked, beats, falls, comes, lights, Between, stay, light, talk, beat}
use Rattle.promise.specs.Desks as D
use Rattle.codec.specs.Messages.{Msg, encode_msg, decode_msg, ReadsBack}
use Rattle.asking.specs.Lawful.{Lawful}
use Rattle.asking.specs.Code.{Settings, Mind, Turn, ByteTurn, mind_turn, asking as over_messages, is_none, saying, written, decoded_turn, byte_turn, asking_bytes}
use Rattle.asking.proofs.Base.{at_same, at_other}
use Rattle.asking.proofs.Ranges.{all_sayable}

abbrev pub letter_of : Letter Msg → Letter Bytes
letter_of l = record { to = l.to; by = l.by; at' = l.at'; word = encode_msg l.word }

module _ (mc : Machine) (z : Settings) where
  abbrev pub A : Code Msg
  A = over_messages mc z

  abbrev pub B : Code Bytes
  B = asking_bytes mc z

  -- the same world, with letters in bytes
  abbrev pub world_of : World (Mind mc) Msg → World (Mind mc) Bytes
  world_of w = record { now = w.now; who = w.who; letters = map letter_of w.letters; waits = w.waits; drawn = w.drawn; heard = w.heard }

-- WHAT A TURN DOES

posted_so : (i t : ℕ) (ds : List (Does Msg)) → posted i t (map saying ds) ≡ map letter_of (posted i t ds)
unfolding posted
posted_so i t [] = refl
posted_so i t (To j m ∷ ds) = ap (λ ls. record { to = j; by = i; at' = t; word = encode_msg m } ∷ ls) (posted_so i t ds)
posted_so i t (Tell k r ∷ ds) = posted_so i t ds
posted_so i t (Lapse j ∷ ds) = posted_so i t ds

tells_so : (i : ℕ) (ds : List (Does Msg)) → tells i (map saying ds) ≡ tells i ds
unfolding tells
tells_so i [] = refl
tells_so i (To j m ∷ ds) = tells_so i ds
tells_so i (Tell k r ∷ ds) = ap (λ es. told i k r ∷ es) (tells_so i ds)
tells_so i (Lapse j ∷ ds) = ap (λ es. cond (eqb i 0) (lapsed j ∷ es) es) (tells_so i ds)

settled_so : (i : ℕ) (ds : List (Does Msg)) (ws : List Waits) → settled i (map saying ds) ws ≡ settled i ds ws
unfolding settled
settled_so i [] ws = refl
settled_so i (To j m ∷ ds) ws = settled_so i ds ws
settled_so i (Tell k r ∷ ds) ws = settled_so i ds (without i k ws)
settled_so i (Lapse j ∷ ds) ws = settled_so i ds ws

-- what is told, and who is lapsed, is so over messages
pub tell_so : (k : ℕ) (r : Bytes) (ds : List (Does Msg)) → Memᴰ (Tell k r) (map saying ds) → Memᴰ (Tell k r) ds
tell_so k r [] m = absurd (Memᴰ.not-nil m)
tell_so k r (To j x ∷ ds) m = elim (Memᴰ.cases_cons m) [ inl e ↦ absurd (let o : ◌≡◌ {A = ℕ} 0 1 = cc in omega arith) | inr m' ↦ Memᴰ.tail (tell_so k r ds m') ]
tell_so k r (Tell k' r' ∷ ds) m = elim (Memᴰ.cases_cons m) [ inl e ↦ (let ek : k ≡ k' = cc in let er : r ≡ r' = cc in Memᴰ.head (λ y. Tell (ek y) (er y))) | inr m' ↦ Memᴰ.tail (tell_so k r ds m') ]
tell_so k r (Lapse j ∷ ds) m = elim (Memᴰ.cases_cons m) [ inl e ↦ absurd (let o : ◌≡◌ {A = ℕ} 0 1 = cc in omega arith) | inr m' ↦ Memᴰ.tail (tell_so k r ds m') ]

pub lapse_so : (i : ℕ) (ds : List (Does Msg)) → Memᴰ (Lapse i) (map saying ds) → Memᴰ (Lapse i) ds
lapse_so i [] m = absurd (Memᴰ.not-nil m)
lapse_so i (To j x ∷ ds) m = elim (Memᴰ.cases_cons m) [ inl e ↦ absurd (let o : ◌≡◌ {A = ℕ} 0 1 = cc in omega arith) | inr m' ↦ Memᴰ.tail (lapse_so i ds m') ]
lapse_so i (Tell k' r' ∷ ds) m = elim (Memᴰ.cases_cons m) [ inl e ↦ absurd (let o : ◌≡◌ {A = ℕ} 0 1 = cc in omega arith) | inr m' ↦ Memᴰ.tail (lapse_so i ds m') ]
lapse_so i (Lapse j ∷ ds) m = elim (Memᴰ.cases_cons m) [ inl e ↦ (let ei : i ≡ j = cc in Memᴰ.head (λ y. Lapse (ei y))) | inr m' ↦ Memᴰ.tail (lapse_so i ds m') ]

-- a letter in bytes is one of the messages'
record Found (l : Letter Bytes) (ls : List (Letter Msg)) : Type 0 where
  m : Letter Msg
  mem : Memᴰ m ls
  is : l ≡ letter_of m

found : (l : Letter Bytes) (ls : List (Letter Msg)) → Memᴰ l (map letter_of ls) → Found l ls
found l [] m = elim m [ ]
found l (x ∷ xs) m = elim (Memᴰ.cases_cons m) [
  | inl e ↦ record { m = x; mem = Memᴰ.head refl; is = e }
  | inr r ↦ (let f = found l xs r in record { m = f.m; mem = Memᴰ.tail f.mem; is = f.is })
]

written_in : (l : Letter Msg) (ls : List (Letter Msg)) → Memᴰ l ls → Memᴰ (letter_of l) (map letter_of ls)
written_in l [] m = absurd (Memᴰ.not-nil m)
written_in l (x ∷ xs) m = elim (Memᴰ.cases_cons m) [ inl e ↦ Memᴰ.head (ap letter_of e) | inr m' ↦ Memᴰ.tail (written_in l xs m') ]

pub is_none_lem : (o : Option Msg) → T (is_none o) → o ≡ None
unfolding is_none
is_none_lem None t = refl
is_none_lem (Some x) t = absurd t

module _ (mc : Machine) (z : Settings) where
  abbrev W : World (Mind mc) Msg → World (Mind mc) Bytes
  W = world_of mc z

  pub byte_from : (j : ℕ) (b : Bytes) (t : ℕ) (y : Mind mc) (x : Msg) → decode_msg b ≡ Some x → byte_turn z (From j b) t y ≡ written (mind_turn z (From j x) t y)
  unfolding byte_turn decoded_turn
  byte_from j b t y x e = ap (λ o. decoded_turn z j o t y) e

  pub byte_noise : (j : ℕ) (b : Bytes) (t : ℕ) (y : Mind mc) → T (is_none (decode_msg b)) → byte_turn z (From j b) t y ≡ record { does = []; mind = y }
  unfolding byte_turn decoded_turn
  byte_noise j b t y e = ap (λ o. decoded_turn z j o t y) (is_none_lem (decode_msg b) e)

  pub byte_ask : (k : ℕ) (c : Bytes) (t : ℕ) (y : Mind mc) → byte_turn z (Ask k c) t y ≡ written (mind_turn z (Ask k c) t y)
  unfolding byte_turn
  byte_ask k c t y = refl

  pub byte_beat : (t : ℕ) (y : Mind mc) → byte_turn z Beat t y ≡ written (mind_turn z Beat t y)
  unfolding byte_turn
  byte_beat t y = refl

  turned_so : (i : ℕ) (t : Turn mc) (v : World (Mind mc) Msg) → turned (B mc z) i (written t) (W v) ≡ W (turned (A mc z) i t v)
  turned_so i t v =
      let p : posted i v.now (map saying t.does) ++ map letter_of v.letters ≡ map letter_of (posted i v.now t.does ++ v.letters) =
      ap (λ ls. ls ++ map letter_of v.letters) (posted_so i v.now t.does) ∙ sym (map-append letter_of (posted i v.now t.does) v.letters) in
      let q = settled_so i t.does v.waits in
      λ y. record { now = v.now; who = at i (there t.mind) v.who; letters = p y; waits = q y; drawn = v.drawn; heard = v.heard }

  -- RUNS

  pub record Lifted (clock : ℕ → ℕ → ℕ) (all n : ℕ) (es : List Seen) (w : World (Mind mc) Bytes) : Type 0 where
    pub k : ℕ
    pub few : k ≤ n
    pub v : World (Mind mc) Msg
    pub goes : Goes (A mc z) clock all k es v
    pub same : w ≡ W v

  -- a turn of the messages', written
  turn_so : (clock : ℕ → ℕ → ℕ) (all n k i : ℕ) (es : List Seen) (t : Turn mc) (tb : ByteTurn mc) (v : World (Mind mc) Msg) → tb ≡ written t → k ≤ n → Goes (A mc z) clock all (suc k) (tells i t.does ++ es) (turned (A mc z) i t v) → Lifted clock all (suc n) (tells i tb.does ++ es) (turned (B mc z) i tb (W v))
  turn_so clock all n k i es t tb v e le g =
      subst (λ y. Lifted clock all (suc n) (tells i y.does ++ es) (turned (B mc z) i y (W v))) (sym e)
      (record { k = suc k; few = omega arith; v = turned (A mc z) i t v; goes = subst (λ ss. Goes (A mc z) clock all (suc k) (ss ++ es) (turned (A mc z) i t v)) (sym (tells_so i t.does)) g; same = turned_so i t v })

  -- noise leaves all as it was
  noise_so : (clock : ℕ → ℕ → ℕ) (all n i : ℕ) (es : List Seen) (y : Mind mc) (tb : ByteTurn mc) (w : World (Mind mc) Bytes) → tb ≡ record { does = []; mind = y } → w.who i ≡ there y → Lifted clock all n es w → Lifted clock all (suc n) (tells i tb.does ++ es) (turned (B mc z) i tb w)
  unfolding posted tells settled
  noise_so clock all n i es y tb w e who' u =
      subst (λ s. Lifted clock all (suc n) (tells i s.does ++ es) (turned (B mc z) i s w)) (sym e)
      (record { k = u.k; few = (let f = u.few in omega arith); v = u.v; goes = u.goes; same = (λ s. record { now = w.now; who = λ b. back b s; letters = w.letters; waits = w.waits; drawn = w.drawn; heard = w.heard }) ∙ u.same })
    where
      back : (b : ℕ) → at i (there y) w.who b ≡ w.who b
      back b = elim (cases_eq b i) [ inl o ↦ ap (at i (there y) w.who) o ∙ (at_same i (there y) w.who ∙ (sym who' ∙ ap w.who (sym o))) | inr o ↦ at_other i (there y) w.who b o ]

  module _ (law : Lawful mc) (back : ReadsBack) (clock : ℕ → ℕ → ℕ) (clocks : Clocks clock) (all : ℕ) where
    reads : {n : ℕ} {es : List Seen} {v : World (Mind mc) Msg} → Goes (A mc z) clock all n es v → (l : Letter Msg) → Memᴰ l v.letters → decode_msg (encode_msg l.word) ≡ Some l.word
    reads g l m = back l.word (all_sayable law z clock clocks g l m)

    abbrev Heard : (n i : ℕ) → List Seen → Mind mc → World (Mind mc) Bytes → Letter Bytes → Type 0
    Heard n i es m w l = Lifted clock all (suc n) (tells i (byte_turn z (From l.by l.word) (clock i w.now) m).does ++ es) (turned (B mc z) i (byte_turn z (From l.by l.word) (clock i w.now) m) (hearing i l.by (clock i w.now) w))

    pub lifting : (n : ℕ) (es : List Seen) (w : World (Mind mc) Bytes) → Goes (B mc z) clock all n es w → Lifted clock all n es w
    lifting n es w first = record { k = 0; few = omega arith; v = _; goes = first; same = refl }
    lifting n es w (time {n = k} {es = ss} {w = u} g) = let r = lifting k ss u g in record { k = suc r.k; few = (let f = r.few in omega arith); v = later r.v; goes = time r.goes; same = ap later r.same }
    lifting n es w (hears {n = k} {es = ss} {w = u} i m l lt g e mem to) =
        let r = lifting k ss u g in
        let f = found l r.v.letters (subst (λ x. Memᴰ l x.letters) r.same mem) in
        let who' : r.v.who i ≡ there m = ap (λ x. x.who i) (sym r.same) ∙ e in
        let to' : f.m.to ≡ i = ap (λ x. x.to) (sym f.is) ∙ to in
        let s : Heard k i ss m (W r.v) (letter_of f.m) = turn_so clock all k r.k i ss (mind_turn z (From f.m.by f.m.word) (clock i r.v.now) m) (byte_turn z (From f.m.by (encode_msg f.m.word)) (clock i r.v.now) m) (hearing i f.m.by (clock i r.v.now) r.v)
        (byte_from f.m.by (encode_msg f.m.word) (clock i r.v.now) m f.m.word (reads r.goes f.m f.mem)) r.few (hears i m f.m lt r.goes who' f.mem to') in
        subst (λ x. Heard k i ss m x l) (sym r.same) (subst (λ x. Heard k i ss m (W r.v) x) (sym f.is) s)
    lifting n es w (garbled {n = k} {es = ss} {w = u} i j m x lt t g e) =
        noise_so clock all k i ss m (byte_turn z (From j x) (clock i u.now) m) u (byte_noise j x (clock i u.now) m t) e (lifting k ss u g)
    lifting n es w (asked {n = k} {es = ss} {w = u} i j c m p lt fit bs g e used) =
        let r = lifting k ss u g in
        let who' : r.v.who i ≡ there m = ap (λ x. x.who i) (sym r.same) ∙ e in
        subst (λ x. Lifted clock all (suc k) (tells i (byte_turn z (Ask j c) (clock i x.now) m).does ++ called i j c ∷ ss) (turned (B mc z) i (byte_turn z (Ask j c) (clock i x.now) m) (asking i j x))) (sym r.same)
        (turn_so clock all k r.k i (called i j c ∷ ss) (mind_turn z (Ask j c) (clock i r.v.now) m) (byte_turn z (Ask j c) (clock i r.v.now) m) (asking i j r.v) (byte_ask j c (clock i r.v.now) m) r.few (asked i j c m p lt fit bs r.goes who' used))
    lifting n es w (beats {n = k} {es = ss} {w = u} i m lt g e) =
        let r = lifting k ss u g in
        let who' : r.v.who i ≡ there m = ap (λ x. x.who i) (sym r.same) ∙ e in
        subst (λ x. Lifted clock all (suc k) (tells i (byte_turn z Beat (clock i x.now) m).does ++ ss) (turned (B mc z) i (byte_turn z Beat (clock i x.now) m) x)) (sym r.same)
        (turn_so clock all k r.k i ss (mind_turn z Beat (clock i r.v.now) m) (byte_turn z Beat (clock i r.v.now) m) r.v (byte_beat (clock i r.v.now) m) r.few (beats i m lt r.goes who'))
    lifting n es w (falls {n = k} {es = ss} {w = u} i m lt g e) =
        let r = lifting k ss u g in
        let who' : r.v.who i ≡ there m = ap (λ x. x.who i) (sym r.same) ∙ e in
        record { k = suc r.k; few = (let f = r.few in omega arith); v = darkened i m r.v; goes = falls i m lt r.goes who'; same = ap (darkened i m) r.same }
    lifting n es w (comes {n = k} {es = ss} {w = u} i j p lt fit new g e) =
        let r = lifting k ss u g in
        let who' : r.v.who i ≡ gone = ap (λ x. x.who i) (sym r.same) ∙ e in
        let new' = subst (λ x. T (not (is_in j x.drawn))) r.same new in
        record { k = suc r.k; few = (let f = r.few in omega arith); v = begun (A mc z) clock all i j r.v; goes = comes i j p lt fit new' r.goes who'; same = ap (begun (B mc z) clock all i j) r.same }
    lifting n es w (lights {n = k} {es = ss} {w = u} m g e) =
        let r = lifting k ss u g in
        let who' : r.v.who 0 ≡ dark m = ap (λ x. x.who 0) (sym r.same) ∙ e in
        record { k = suc r.k; few = (let f = r.few in omega arith); v = lit (A mc z) clock m r.v; goes = lights m r.goes who'; same = ap (lit (B mc z) clock m) r.same }

    -- BETWEEN: what house and desk can do over messages they can do over bytes

    record Onward (v : World (Mind mc) Msg) : Type 0 where
      k : ℕ
      es : List Seen
      goes : Goes (A mc z) clock all k es v

    below : (me i : ℕ) → 2 ≤ all → me < all → (i ≡ 0) ⊎ (i ≡ me) → i < all
    below me i two lt (inl e) = omega arith
    below me i two lt (inr e) = omega arith

    onward : (me : ℕ) → 2 ≤ all → me < all → (w : World (Mind mc) Msg) → Onward w → (n : ℕ) (fs : List Seen) (v : World (Mind mc) Msg) → Between (A mc z) clock me w n fs v → Onward v
    onward me two lt w o n fs v stay = o
    onward me two lt w o n fs v (D.Between.time {n = n'} {es = es} {v = u} b) = let r = onward me two lt w o n' es u b in record { k = suc r.k; es = r.es; goes = time r.goes }
    onward me two lt w o n fs v (light {n = n'} {es = es} {v = u} m b e) = let r = onward me two lt w o n' es u b in record { k = suc r.k; es = r.es; goes = lights m r.goes e }
    onward me two lt w o n fs v (talk {n = n'} {es = es} {v = u} i m l new ci cl b e le mem to) =
        let r = onward me two lt w o n' es u b in
        record { k = suc r.k; es = tells i (mind_turn z (From l.by l.word) (clock i u.now) m).does ++ r.es; goes = hears i m l (below me i two lt ci) r.goes e (subst (λ ls. Memᴰ l ls) (sym le) (Memᴰ.append_left w.letters mem)) to }
    onward me two lt w o n fs v (beat {n = n'} {es = es} {v = u} i m ci b e) =
        let r = onward me two lt w o n' es u b in
        record { k = suc r.k; es = tells i (mind_turn z Beat (clock i u.now) m).does ++ r.es; goes = beats i m (below me i two lt ci) r.goes e }

    -- a turn between, written
    turn_between : (me n i : ℕ) (w : World (Mind mc) Msg) (es : List Seen) (t : Turn mc) (tb : ByteTurn mc) (u : World (Mind mc) Msg) → tb ≡ written t → Between (B mc z) clock me (W w) n (tells i tb.does ++ es) (turned (B mc z) i tb (W u)) → Between (B mc z) clock me (W w) n (tells i t.does ++ es) (W (turned (A mc z) i t u))
    turn_between me n i w es t tb u e b =
        subst (λ y. Between (B mc z) clock me (W w) n (tells i t.does ++ es) y) (turned_so i t u)
        (subst (λ ss. Between (B mc z) clock me (W w) n (ss ++ es) (turned (B mc z) i (written t) (W u))) (tells_so i t.does)
        (subst (λ y. Between (B mc z) clock me (W w) n (tells i y.does ++ es) (turned (B mc z) i y (W u))) e b))

    pub between_so : (me : ℕ) → 2 ≤ all → me < all → (k : ℕ) (es0 : List Seen) (w : World (Mind mc) Msg) → Goes (A mc z) clock all k es0 w → (n : ℕ) (fs : List Seen) (v : World (Mind mc) Msg) → Between (A mc z) clock me w n fs v → Between (B mc z) clock me (W w) n fs (W v)
    between_so me two lt k es0 w g n fs v stay = stay
    between_so me two lt k es0 w g n fs v (D.Between.time {n = n'} {es = es} {v = u} b) = D.Between.time (between_so me two lt k es0 w g n' es u b)
    between_so me two lt k es0 w g n fs v (light {n = n'} {es = es} {v = u} m b e) = light m (between_so me two lt k es0 w g n' es u b) e
    between_so me two lt k es0 w g n fs v (talk {n = n'} {es = es} {v = u} i m l new ci cl b e le mem to) =
        let r = onward me two lt w (record { k = k; es = es0; goes = g }) n' es u b in
        turn_between me (suc n') i w es (mind_turn z (From l.by l.word) (clock i u.now) m) (byte_turn z (From l.by (encode_msg l.word)) (clock i u.now) m) (hearing i l.by (clock i u.now) u)
        (byte_from l.by (encode_msg l.word) (clock i u.now) m l.word (reads r.goes l (subst (λ ls. Memᴰ l ls) (sym le) (Memᴰ.append_left w.letters mem))))
        (talk i m (letter_of l) (map letter_of new) ci cl (between_so me two lt k es0 w g n' es u b) e (ap (map letter_of) le ∙ map-append letter_of new w.letters) (written_in l new mem) to)
    between_so me two lt k es0 w g n fs v (beat {n = n'} {es = es} {v = u} i m ci b e) =
        turn_between me (suc n') i w es (mind_turn z Beat (clock i u.now) m) (byte_turn z Beat (clock i u.now) m) u (byte_beat (clock i u.now) m) (beat i m ci (between_so me two lt k es0 w g n' es u b) e)
