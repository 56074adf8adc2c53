-- A call longer than any is asked for as the empty call, which does the same: a table of what was asked for is one of what was called.
use Rattle.std.proofs.Common.{◌≡◌, ℕ, Bool, true, false, cond, ◌&&◌, ◌||◌, T, eqb, ltb, List, [], ◌∷◌, ◌++◌, length, sym, refl, ap, ◌∙◌, subst, arith}
use Rattle.std.proofs.lemmas.Bool.{ltb-true, cond_both}
use Rattle.promise.specs.Bytes.{Bytes, all_bytes}
use Rattle.promise.specs.Layout.{busy}
use Rattle.promise.specs.Machine.{Machine, Outcome}
use Rattle.promise.specs.Desks.{From, Ask, Beat, World, Goes, first, time, hears, garbled, asked, beats, falls, comes, lights, Does, To, Tell, Lapse, Seen, called, told, fell, lapsed, tells, is_used, Open, Ready, Table, laid, comes_in, is_done, goes_out, handed_back, has_fallen, has_lapsed, hands_empty, more}
use Rattle.codec.specs.Messages.{Msg}
use Rattle.asking.specs.Lawful.{Lawful, longest_call}
use Rattle.asking.specs.Desk.{shortened}
use Rattle.asking.specs.Code.{Settings, Mind, mind_turn, asking}

unfoldable pub short : List Seen → List Seen
short [] = []
short (called i k c ∷ es) = called i k (shortened c) ∷ short es
short (told i k r ∷ es) = told i k r ∷ short es
short (fell i ∷ es) = fell i ∷ short es
short (lapsed i ∷ es) = lapsed i ∷ short es

pub short_tells : (i : ℕ) (ds : List (Does Msg)) (es : List Seen) → short (tells i ds ++ es) ≡ tells i ds ++ short es
unfolding short tells
short_tells i [] es = refl
short_tells i (To j m ∷ ds) es = short_tells i ds es
short_tells i (Tell k r ∷ ds) es = ap (λ z. told i k r ∷ z) (short_tells i ds es)
short_tells i (Lapse j ∷ ds) es = go (short_tells i ds es) (eqb i 0)
  where
    go : short (tells i ds ++ es) ≡ tells i ds ++ short es → (b : Bool) → short (cond b (lapsed j ∷ tells i ds) (tells i ds) ++ es) ≡ cond b (lapsed j ∷ tells i ds) (tells i ds) ++ short es
    go e true = ap (λ z. lapsed j ∷ z) e
    go e false = e

pub short_used : (i k : ℕ) (es : List Seen) → is_used i k (short es) ≡ is_used i k es
unfolding short is_used
short_used i k [] = refl
short_used i k (called j l c ∷ es) = ap (λ b. (eqb i j && eqb k l) || b) (short_used i k es)
short_used i k (told j l r ∷ es) = short_used i k es
short_used i k (fell j ∷ es) = short_used i k es
short_used i k (lapsed j ∷ es) = short_used i k es

-- the empty call does what a longer one does
pub short_does : (mc : Machine) → Lawful mc → (i : ℕ) (c : Bytes) (s : mc.State) → T (all_bytes c) → mc.does i c s ≡ mc.does i (shortened c) s
short_does mc law i c s o = cond_both (ltb longest_call (length c)) [] c (λ y. mc.does i c s ≡ mc.does i y s) (λ e. law.long_as_empty i c s o (ltb-true longest_call (length c) e)) (λ _. refl)

-- OPEN CALLS

abbrev short_open : Open → Open
short_open o = record { desk = o.desk; number = o.number; life = o.life; call = shortened o.call }

unfoldable pub short_opens : List Open → List Open
short_opens [] = []
short_opens (o ∷ os) = short_open o ∷ short_opens os

-- every call is bytes
abbrev pub SeenBytes : List Seen → Type 0
SeenBytes [] = Unit {0}
SeenBytes (called i k c ∷ es) = T (all_bytes c) × SeenBytes es
SeenBytes (told i k r ∷ es) = SeenBytes es
SeenBytes (fell i ∷ es) = SeenBytes es
SeenBytes (lapsed i ∷ es) = SeenBytes es

abbrev OpenBytes : List Open → Type 0
OpenBytes [] = Unit {0}
OpenBytes (o ∷ os) = T (all_bytes o.call) × OpenBytes os

record Split (xs ys : List Open) (o : Open) (os : List Open) : Type 0 where
  xs' : List Open
  ys' : List Open
  o' : Open
  whole : os ≡ xs' ++ o' ∷ ys'
  is_o : short_open o' ≡ o
  rest : short_opens (xs' ++ ys') ≡ xs ++ ys
  bytes : T (all_bytes o'.call)
  others : OpenBytes (xs' ++ ys')

-- a list is split as its short one
split : (xs ys : List Open) (o : Open) (os : List Open) → OpenBytes os → short_opens os ≡ xs ++ o ∷ ys → Split xs ys o os
unfolding short_opens
split [] ys o [] ob e = absurd (let z : ◌≡◌ {A = ℕ} 0 1 = cc in omega arith)
split [] ys o (o1 ∷ os) ob e = let a : short_open o1 ≡ o = cc in let b : short_opens os ≡ ys = cc in record { xs' = []; ys' = os; o' = o1; whole = refl; is_o = a; rest = b; bytes = ob.0; others = ob.1 }
split (x ∷ xs) ys o [] ob e = absurd (let z : ◌≡◌ {A = ℕ} 0 1 = cc in omega arith)
split (x ∷ xs) ys o (o1 ∷ os) ob e =
    let a : short_open o1 ≡ x = cc in
    let b : short_opens os ≡ xs ++ o ∷ ys = cc in
    let u = split xs ys o os ob.1 b in
    record { xs' = o1 ∷ u.xs'; ys' = u.ys'; o' = u.o'; whole = ap (λ z. o1 ∷ z) u.whole; is_o = u.is_o; rest = λ z. a z ∷ u.rest z; bytes = u.bytes; others = (ob.0, u.others) }

-- THE TABLE

pub record Called (mc : Machine) (es : List Seen) (s : mc.State) (os : List Open) (rs : List Ready) (l e : ℕ → ℕ) : Type 0 where
  pub os' : List Open
  pub are : short_opens os' ≡ os
  pub tab : Table mc es s os' rs l e
  pub bytes : OpenBytes os'

none_nil : (x : Seen) (es : List Seen) → short [] ≡ x ∷ es → ⊥
unfolding short
none_nil x es e = let z : ◌≡◌ {A = ℕ} 0 1 = cc in omega arith

module _ (mc : Machine) (law : Lawful mc) where
  u_called : {s : mc.State} {os : List Open} {rs : List Ready} {l e : ℕ → ℕ} (i k : ℕ) (c : Bytes) (es es0 : List Seen) → short es0 ≡ called i k c ∷ es → SeenBytes es0 → ((es1 : List Seen) → SeenBytes es1 → short es1 ≡ es → Called mc es1 s os rs l e) → Called mc es0 s (record { desk = i; number = k; life = l i; call = c } ∷ os) rs l e
  unfolding short short_opens
  u_called {s} {os} {rs} {l} {e} i k c es [] p sb f = absurd (none_nil (called i k c) es p)
  u_called {s} {os} {rs} {l} {e} i k c es (called i' k' c' ∷ es1) p sb f =
      let ei : i' ≡ i = cc in
      let ek : k' ≡ k = cc in
      let ec : shortened c' ≡ c = cc in
      let es' : short es1 ≡ es = cc in
      let u = f es1 sb.1 es' in
      record { os' = record { desk = i'; number = k'; life = l i'; call = c' } ∷ u.os'; are = λ z. record { desk = ei z; number = ek z; life = l (ei z); call = ec z } ∷ u.are z; tab = comes_in i' k' c' u.tab; bytes = (sb.0, u.bytes) }
  u_called i k c es (told i' k' r ∷ es1) p sb f = absurd (let z : ◌≡◌ {A = ℕ} 0 1 = cc in omega arith)
  u_called i k c es (fell i' ∷ es1) p sb f = absurd (let z : ◌≡◌ {A = ℕ} 0 1 = cc in omega arith)
  u_called i k c es (lapsed i' ∷ es1) p sb f = absurd (let z : ◌≡◌ {A = ℕ} 0 1 = cc in omega arith)

  -- what is seen but for a call is the same
  u_told : (i k : ℕ) (r : Bytes) (es es0 : List Seen) → short es0 ≡ told i k r ∷ es → (es1 : List Seen) × (short es1 ≡ es) × (es0 ≡ told i k r ∷ es1)
  unfolding short
  u_told i k r es [] p = absurd (none_nil (told i k r) es p)
  u_told i k r es (told i' k' r' ∷ es1) p = let ei : i' ≡ i = cc in let ek : k' ≡ k = cc in let er : r' ≡ r = cc in (es1, cc, λ z. told (ei z) (ek z) (er z) ∷ es1)
  u_told i k r es (called i' k' c ∷ es1) p = absurd (let z : ◌≡◌ {A = ℕ} 0 1 = cc in omega arith)
  u_told i k r es (fell i' ∷ es1) p = absurd (let z : ◌≡◌ {A = ℕ} 0 1 = cc in omega arith)
  u_told i k r es (lapsed i' ∷ es1) p = absurd (let z : ◌≡◌ {A = ℕ} 0 1 = cc in omega arith)

  u_fell : (i : ℕ) (es es0 : List Seen) → short es0 ≡ fell i ∷ es → (es1 : List Seen) × (short es1 ≡ es) × (es0 ≡ fell i ∷ es1)
  unfolding short
  u_fell i es [] p = absurd (none_nil (fell i) es p)
  u_fell i es (fell i' ∷ es1) p = let ei : i' ≡ i = cc in (es1, cc, λ z. fell (ei z) ∷ es1)
  u_fell i es (told i' k' r' ∷ es1) p = absurd (let z : ◌≡◌ {A = ℕ} 0 1 = cc in omega arith)
  u_fell i es (called i' k' c ∷ es1) p = absurd (let z : ◌≡◌ {A = ℕ} 0 1 = cc in omega arith)
  u_fell i es (lapsed i' ∷ es1) p = absurd (let z : ◌≡◌ {A = ℕ} 0 1 = cc in omega arith)

  u_lapsed : (i : ℕ) (es es0 : List Seen) → short es0 ≡ lapsed i ∷ es → (es1 : List Seen) × (short es1 ≡ es) × (es0 ≡ lapsed i ∷ es1)
  unfolding short
  u_lapsed i es [] p = absurd (none_nil (lapsed i) es p)
  u_lapsed i es (lapsed i' ∷ es1) p = let ei : i' ≡ i = cc in (es1, cc, λ z. lapsed (ei z) ∷ es1)
  u_lapsed i es (told i' k' r' ∷ es1) p = absurd (let z : ◌≡◌ {A = ℕ} 0 1 = cc in omega arith)
  u_lapsed i es (called i' k' c ∷ es1) p = absurd (let z : ◌≡◌ {A = ℕ} 0 1 = cc in omega arith)
  u_lapsed i es (fell i' ∷ es1) p = absurd (let z : ◌≡◌ {A = ℕ} 0 1 = cc in omega arith)

  u_laid : (es0 : List Seen) → short es0 ≡ [] → es0 ≡ []
  unfolding short
  u_laid [] p = refl
  u_laid (called i' k' c ∷ es1) p = absurd (let z : ◌≡◌ {A = ℕ} 0 1 = cc in omega arith)
  u_laid (told i' k' r' ∷ es1) p = absurd (let z : ◌≡◌ {A = ℕ} 0 1 = cc in omega arith)
  u_laid (fell i' ∷ es1) p = absurd (let z : ◌≡◌ {A = ℕ} 0 1 = cc in omega arith)
  u_laid (lapsed i' ∷ es1) p = absurd (let z : ◌≡◌ {A = ℕ} 0 1 = cc in omega arith)

  -- a call's moment
  u_done : {es : List Seen} {s : mc.State} {rs : List Ready} {l e : ℕ → ℕ} (xs ys : List Open) (o : Open) → o.life ≡ e o.desk → (os' : List Open) → Table mc es s os' rs l e → Split xs ys o os' → Called mc es (mc.does o.desk o.call s).state (xs ++ ys) (record { desk = o.desk; number = o.number; life = o.life; answer = (mc.does o.desk o.call s).answer } ∷ rs) l e
  u_done {es} {s} {rs} {l} {e} xs ys o lf os' t u =
      record {
        os' = u.xs' ++ u.ys';
        are = u.rest;
        bytes = u.others;
        tab = subst (λ y. Table mc es (mc.does y.desk y.call s).state (u.xs' ++ u.ys') (record { desk = y.desk; number = y.number; life = y.life; answer = (mc.does y.desk y.call s).answer } ∷ rs) l e) u.is_o
            (subst (λ (y : Outcome mc.State). Table mc es y.state (u.xs' ++ u.ys') (record { desk = u.o'.desk; number = u.o'.number; life = u.o'.life; answer = y.answer } ∷ rs) l e) (short_does mc law u.o'.desk u.o'.call s u.bytes)
            (is_done u.xs' u.ys' u.o' (subst (λ z. Table mc es s z rs l e) u.whole t) (ap (λ (y : Open). y.life) u.is_o ∙ (lf ∙ ap (λ (y : Open). e y.desk) (sym u.is_o)))));
      }

  u_back : {es : List Seen} {s : mc.State} {rs : List Ready} {l e : ℕ → ℕ} (xs ys : List Open) (o : Open) → o.life ≡ l o.desk → (os' : List Open) → Table mc es s os' rs l e → Split xs ys o os' → Called mc (told o.desk o.number busy ∷ es) s (xs ++ ys) rs l e
  u_back {es} {s} {rs} {l} {e} xs ys o lf os' t u =
      record {
        os' = u.xs' ++ u.ys';
        are = u.rest;
        bytes = u.others;
        tab = subst (λ (y : Open). Table mc (told y.desk y.number busy ∷ es) s (u.xs' ++ u.ys') rs l e) u.is_o
            (handed_back u.xs' u.ys' u.o' (subst (λ z. Table mc es s z rs l e) u.whole t) (ap (λ (y : Open). y.life) u.is_o ∙ (lf ∙ ap (λ (y : Open). l y.desk) (sym u.is_o))));
      }

  pub as_called : {es : List Seen} {s : mc.State} {os : List Open} {rs : List Ready} {l e : ℕ → ℕ} → Table mc es s os rs l e → (es0 : List Seen) → SeenBytes es0 → short es0 ≡ es → Called mc es0 s os rs l e
  unfolding short_opens
  as_called laid es0 sb p = record { os' = []; are = refl; tab = subst (λ z. Table mc z mc.start [] [] (λ i. 0) (λ i. 0)) (sym (u_laid es0 p)) laid; bytes = tt }
  as_called (comes_in {es = es} i k c t) es0 sb p = u_called i k c es es0 p sb (λ es1 sb1 q. as_called t es1 sb1 q)
  as_called (is_done xs ys o t lf) es0 sb p = let u = as_called t es0 sb p in u_done xs ys o lf u.os' u.tab (split xs ys o u.os' u.bytes u.are)
  as_called (goes_out {es = es} {s = s} {os = os} {l = l} {e = e} xs ys r t lf) es0 sb p =
      let y = u_told r.desk r.number r.answer es es0 p in
      let u = as_called t y.0 (subst SeenBytes y.2 sb) y.1 in
      record { os' = u.os'; are = u.are; bytes = u.bytes; tab = subst (λ z. Table mc z s u.os' (xs ++ ys) l e) (sym y.2) (goes_out xs ys r u.tab lf) }
  as_called (handed_back {es = es} {s = s} {rs = rs} {l = l} {e = e} xs ys o t lf) es0 sb p =
      let y = u_told o.desk o.number busy es es0 p in
      let u = as_called t y.0 (subst SeenBytes y.2 sb) y.1 in
      subst (λ z. Called mc z s (xs ++ ys) rs l e) (sym y.2) (u_back xs ys o lf u.os' u.tab (split xs ys o u.os' u.bytes u.are))
  as_called (has_fallen {es = es} {s = s} {os = os} {rs = rs} {l = l} {e = e} i t) es0 sb p =
      let y = u_fell i es es0 p in
      let u = as_called t y.0 (subst SeenBytes y.2 sb) y.1 in
      record { os' = u.os'; are = u.are; bytes = u.bytes; tab = subst (λ z. Table mc z s u.os' rs (more i l) e) (sym y.2) (has_fallen i u.tab) }
  as_called (has_lapsed {es = es} {s = s} {os = os} {rs = rs} {l = l} {e = e} i t) es0 sb p =
      let y = u_lapsed i es es0 p in
      let u = as_called t y.0 (subst SeenBytes y.2 sb) y.1 in
      record { os' = u.os'; are = u.are; bytes = u.bytes; tab = subst (λ z. Table mc z (mc.leaves i s) u.os' rs l e) (sym y.2) (has_lapsed i u.tab) }
  as_called (hands_empty i t lt) es0 sb p = let u = as_called t es0 sb p in record { os' = u.os'; are = u.are; bytes = u.bytes; tab = hands_empty i u.tab lt }

-- what was called in a run is bytes
told_bytes : (i : ℕ) (ds : List (Does Msg)) (es : List Seen) → SeenBytes es → SeenBytes (tells i ds ++ es)
unfolding tells
told_bytes i [] es s = s
told_bytes i (To j m ∷ ds) es s = told_bytes i ds es s
told_bytes i (Tell k r ∷ ds) es s = told_bytes i ds es s
told_bytes i (Lapse j ∷ ds) es s = go (eqb i 0) (told_bytes i ds es s)
  where
    go : (b : Bool) → SeenBytes (tells i ds ++ es) → SeenBytes (cond b (lapsed j ∷ tells i ds) (tells i ds) ++ es)
    go true u = u
    go false u = u

module _ (mc : Machine) (z : Settings) (clock : ℕ → ℕ → ℕ) where
  pub seen_bytes : {all n : ℕ} {es : List Seen} {w : World (Mind mc) Msg} → Goes (asking mc z) clock all n es w → SeenBytes es
  seen_bytes first = tt
  seen_bytes (time g) = seen_bytes g
  seen_bytes (hears {es = es} {w = w} i m l a g e k to) = told_bytes i (mind_turn z (From l.by l.word) (clock i w.now) m).does es (seen_bytes g)
  seen_bytes (garbled i j m x a t g e) = absurd t
  seen_bytes (asked {es = es} {w = w} i k c m p a b t g e u) = told_bytes i (mind_turn z (Ask k c) (clock i w.now) m).does (called i k c ∷ es) (t, seen_bytes g)
  seen_bytes (beats {es = es} {w = w} i m a g e) = told_bytes i (mind_turn z Beat (clock i w.now) m).does es (seen_bytes g)
  seen_bytes (falls i m a g e) = seen_bytes g
  seen_bytes (comes i r p a b new g e) = seen_bytes g
  seen_bytes (lights m g e) = seen_bytes g
