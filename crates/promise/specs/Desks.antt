-- The house, which keeps what it knows when its power fails, and desks, which forget; their clocks; letters; and what is seen at all
-- desks together. A call is a number and bytes, an answer is bytes; what a letter says is any type M, and bytes in the end.
-- Assumes nothing.
use Rattle.std.specs.Prelude.{◌≡◌, ℕ, suc, ◌+◌, ◌*◌, ◌<◌, ◌≤◌, Bool, false, cond, not, ◌&&◌, ◌||◌, T, ◌⊎◌, List, [], ◌∷◌, ◌++◌, ◌==◌}
use mathlib.Core.List.{Memᴰ}
use Rattle.promise.specs.Bytes.{Bytes, all_bytes}
use Rattle.promise.specs.Layout.{busy}
use Rattle.promise.specs.Machine.{Machine, Sure}

-- THE CODE

-- what comes to the house or to a desk: a letter, a call (at a desk), or a beat of its clock
pub data Comes (M : Type 0) : Type 0 where
  From : (desk : ℕ) → M → Comes M
  Ask : (number : ℕ) → (call : Bytes) → Comes M
  Beat : Comes M

-- what it does then: says something, tells an answer; the house may also say that a desk's hold has ended, since it was silent
pub data Does (M : Type 0) : Type 0 where
  To : (desk : ℕ) → M → Does M
  Tell : (number : ℕ) → (answer : Bytes) → Does M
  Lapse : (desk : ℕ) → Does M

-- The code of the house (number 0) and of a desk: how it begins, by its number, how many there are, a number that nobody had before, and
-- its clock; how the house goes on after its power was away; what it does at each thing that comes; and which letters it takes for noise.
pub record Code (M : Type 0) : Type 1 where
  pub Mind : Type 0
  pub begins : (me all chance clock : ℕ) → Mind
  pub goes_on : (clock : ℕ) → Mind → Mind
  pub turns : Comes M → (clock : ℕ) → Mind → record { does : List (Does M); mind : Mind }
  pub noise : M → Bool

-- WHAT CAN HAPPEN

-- what is seen at the desks: calls made, answers told, falls; and the house's word that a hold has ended
pub data Seen : Type 0 where
  called : (desk number : ℕ) → (call : Bytes) → Seen
  told : (desk number : ℕ) → (answer : Bytes) → Seen
  fell : (desk : ℕ) → Seen
  lapsed : (desk : ℕ) → Seen

pub data Stand (Mind : Type 0) : Type 0 where
  gone : Stand Mind
  dark : Mind → Stand Mind
  there : Mind → Stand Mind

-- at: when it was said, in true time
pub record Letter (M : Type 0) : Type 0 where
  pub to : ℕ
  pub by : ℕ
  pub at' : ℕ
  pub word : M

-- a call that was made and not told
pub record Waits : Type 0 where
  pub desk : ℕ
  pub number : ℕ

-- now: the true time in ms, which nobody has; letters: all that were ever said; heard: what the house's clock showed when it last heard
-- a desk
pub record World (Mind M : Type 0) : Type 0 where
  pub now : ℕ
  pub who : ℕ → Stand Mind
  pub letters : List (Letter M)
  pub waits : List Waits
  -- numbers by chance that were drawn
  pub drawn : List ℕ
  pub heard : ℕ → ℕ

-- f, but x at i
abbrev pub at : {A : Type 0} → ℕ → A → (ℕ → A) → ℕ → A
at i x f j = cond (j == i) x (f j)

-- Clocks go on, dark or not, off by at most one in a hundred, and one; and fit 63 bits for as long as any run that is spoken of lasts.
pub record Clocks (clock : ℕ → ℕ → ℕ) : Type 0 where
  pub onward : (i t u : ℕ) → t ≤ u → clock i t ≤ clock i u
  pub quick : (i t u : ℕ) → t ≤ u → 99 * u + 100 * clock i t ≤ 99 * t + (100 * clock i u + 100)
  pub slow : (i t u : ℕ) → t ≤ u → 100 * clock i u + 101 * t ≤ 100 * clock i t + (101 * u + 100)
  pub fits : (i t : ℕ) → t < 72057594038976512 → clock i t < 9223372036854775808

unfoldable pub posted : {M : Type 0} → (by now : ℕ) → List (Does M) → List (Letter M)
posted i t [] = []
posted i t (To j m ∷ ds) = record { to = j; by = i; at' = t; word = m } ∷ posted i t ds
posted i t (Tell k r ∷ ds) = posted i t ds
posted i t (Lapse j ∷ ds) = posted i t ds

unfoldable pub tells : {M : Type 0} → ℕ → List (Does M) → List Seen
tells i [] = []
tells i (To j m ∷ ds) = tells i ds
tells i (Tell k r ∷ ds) = told i k r ∷ tells i ds
tells i (Lapse j ∷ ds) = cond (i == 0) (lapsed j ∷ tells i ds) (tells i ds)

-- has a desk used a number, in any of its lives
unfoldable pub is_used : (desk number : ℕ) → List Seen → Bool
is_used j k [] = false
is_used j k (called i n c ∷ es) = (j == i && k == n) || is_used j k es
is_used j k (told i n r ∷ es) = is_used j k es
is_used j k (fell i ∷ es) = is_used j k es
is_used j k (lapsed i ∷ es) = is_used j k es

unfoldable pub without : (desk number : ℕ) → List Waits → List Waits
without i k [] = []
without i k (a ∷ as') = cond (i == a.desk && k == a.number) (without i k as') (a ∷ without i k as')

unfoldable pub settled : {M : Type 0} → ℕ → List (Does M) → List Waits → List Waits
settled i [] ws = ws
settled i (To j m ∷ ds) ws = settled i ds ws
settled i (Tell k r ∷ ds) ws = settled i ds (without i k ws)
settled i (Lapse j ∷ ds) ws = settled i ds ws

unfoldable pub away_from : ℕ → List Waits → List Waits
away_from i [] = []
away_from i (a ∷ as') = cond (i == a.desk) (away_from i as') (a ∷ away_from i as')

unfoldable pub count_at : ℕ → List Waits → ℕ
count_at i [] = 0
count_at i (a ∷ as') = cond (i == a.desk) (1 + count_at i as') (count_at i as')

abbrev pub turned : {M : Type 0} → (h : Code M) → ℕ → record { does : List (Does M); mind : h.Mind } → World h.Mind M → World h.Mind M
turned {M} h i x w = record { now = w.now; who = at i (there x.mind) w.who; letters = posted i w.now x.does ++ w.letters; waits = settled i x.does w.waits; drawn = w.drawn; heard = w.heard }

abbrev pub asking : {Mind M : Type 0} → (desk number : ℕ) → World Mind M → World Mind M
asking i k w = record { now = w.now; who = w.who; letters = w.letters; waits = record { desk = i; number = k } ∷ w.waits; drawn = w.drawn; heard = w.heard }

abbrev pub hearing : {Mind M : Type 0} → (at by clock : ℕ) → World Mind M → World Mind M
hearing i j c w = record { now = w.now; who = w.who; letters = w.letters; waits = w.waits; drawn = w.drawn; heard = cond (i == 0) (at j c w.heard) w.heard }

abbrev pub later : {Mind M : Type 0} → World Mind M → World Mind M
later w = record { now = w.now + 1; who = w.who; letters = w.letters; waits = w.waits; drawn = w.drawn; heard = w.heard }

-- a desk that falls is gone with all it had; the house is dark
abbrev pub darkened : {Mind M : Type 0} → ℕ → Mind → World Mind M → World Mind M
darkened i m w = record { now = w.now; who = at i (cond (i == 0) (dark m) gone) w.who; letters = w.letters; waits = away_from i w.waits; drawn = w.drawn; heard = w.heard }

unfoldable pub is_in : ℕ → List ℕ → Bool
is_in i [] = false
is_in i (x ∷ xs) = i == x || is_in i xs

-- a desk comes with any number of 64 bits that wasn't drawn before
abbrev pub begun : {M : Type 0} → (h : Code M) → (clock : ℕ → ℕ → ℕ) → (all i chance : ℕ) → World h.Mind M → World h.Mind M
begun {M} h clock all i r w = record { now = w.now; who = at i (there (h.begins i all r (clock i w.now))) w.who; letters = w.letters; waits = w.waits; drawn = r ∷ w.drawn; heard = w.heard }

abbrev pub lit : {M : Type 0} → (h : Code M) → (clock : ℕ → ℕ → ℕ) → h.Mind → World h.Mind M → World h.Mind M
lit {M} h clock m w = record { now = w.now; who = at 0 (there (h.goes_on (clock 0 w.now) m)) w.who; letters = w.letters; waits = w.waits; drawn = w.drawn; heard = w.heard }

-- Whatever can happen, counted. Letters come late, again, in any order, or never, and noise comes from anywhere; calls are made at desks;
-- the house is there at first, desks come.
pub data Goes {M : Type 0} (h : Code M) (clock : ℕ → ℕ → ℕ) (all : ℕ) : ℕ → List Seen → World h.Mind M → Type 0 where
  first : Goes h clock all 0 [] (record { now = 0; who = λ i. cond (i == 0) (there (h.begins 0 all 0 (clock 0 0))) gone; letters = []; waits = []; drawn = 0 ∷ []; heard = λ i. 0 })
  time : {n : ℕ} {es : List Seen} {w : World h.Mind M} → Goes h clock all n es w → Goes h clock all (suc n) es (later w)
  hears : {n : ℕ} {es : List Seen} {w : World h.Mind M} (i : ℕ) (m : h.Mind) (l : Letter M) → i < all → Goes h clock all n es w → w.who i ≡ there m → Memᴰ l w.letters → l.to ≡ i →
      Goes h clock all (suc n) (tells i (h.turns (From l.by l.word) (clock i w.now) m).does ++ es) (turned h i (h.turns (From l.by l.word) (clock i w.now) m) (hearing i l.by (clock i w.now) w))
  garbled : {n : ℕ} {es : List Seen} {w : World h.Mind M} (i j : ℕ) (m : h.Mind) (x : M) → i < all → T (h.noise x) → Goes h clock all n es w → w.who i ≡ there m →
      Goes h clock all (suc n) (tells i (h.turns (From j x) (clock i w.now) m).does ++ es) (turned h i (h.turns (From j x) (clock i w.now) m) w)
  asked : {n : ℕ} {es : List Seen} {w : World h.Mind M} (i k : ℕ) (c : Bytes) (m : h.Mind) → 0 < i → i < all → k < 18446744073709551616 → T (all_bytes c) → Goes h clock all n es w → w.who i ≡ there m → T (not (is_used i k es)) →
      Goes h clock all (suc n) (tells i (h.turns (Ask k c) (clock i w.now) m).does ++ called i k c ∷ es) (turned h i (h.turns (Ask k c) (clock i w.now) m) (asking i k w))
  beats : {n : ℕ} {es : List Seen} {w : World h.Mind M} (i : ℕ) (m : h.Mind) → i < all → Goes h clock all n es w → w.who i ≡ there m →
      Goes h clock all (suc n) (tells i (h.turns Beat (clock i w.now) m).does ++ es) (turned h i (h.turns Beat (clock i w.now) m) w)
  falls : {n : ℕ} {es : List Seen} {w : World h.Mind M} (i : ℕ) (m : h.Mind) → i < all → Goes h clock all n es w → w.who i ≡ there m → Goes h clock all (suc n) (fell i ∷ es) (darkened i m w)
  comes : {n : ℕ} {es : List Seen} {w : World h.Mind M} (i r : ℕ) → 0 < i → i < all → r < 18446744073709551616 → T (not (is_in r w.drawn)) → Goes h clock all n es w → w.who i ≡ gone → Goes h clock all (suc n) es (begun h clock all i r w)
  lights : {n : ℕ} {es : List Seen} {w : World h.Mind M} (m : h.Mind) → Goes h clock all n es w → w.who 0 ≡ dark m → Goes h clock all (suc n) es (lit h clock m w)

-- ON ONE TABLE. All on one table, desks around it: each call is done at one moment; when a desk fell, what it held falls from its hands
-- at some moment, after all of that life and before anything of the next.

-- a call that was made and not done yet; life: how often its desk had fallen
pub record Open : Type 0 where
  pub desk : ℕ
  pub number : ℕ
  pub life : ℕ
  pub call : Bytes

-- a call that was done and not told yet
pub record Ready : Type 0 where
  pub desk : ℕ
  pub number : ℕ
  pub life : ℕ
  pub answer : Bytes

abbrev pub more : ℕ → (ℕ → ℕ) → ℕ → ℕ
more i f j = cond (j == i) (f j + 1) (f j)

-- what was seen; the state; lives: how often each desk fell; emptied: how often its hands were emptied for that
pub data Table (m : Machine) : List Seen → m.State → List Open → List Ready → (lives emptied : ℕ → ℕ) → Type 0 where
  laid : Table m [] m.start [] [] (λ i. 0) (λ i. 0)
  comes_in : {es : List Seen} {s : m.State} {os : List Open} {rs : List Ready} {l e : ℕ → ℕ} (i k : ℕ) (c : Bytes) → Table m es s os rs l e → Table m (called i k c ∷ es) s (record { desk = i; number = k; life = l i; call = c } ∷ os) rs l e
  -- THE MOMENT of a call: its desk's hands were emptied for all earlier lives, and not for its own
  is_done : {es : List Seen} {s : m.State} {rs : List Ready} {l e : ℕ → ℕ} (xs ys : List Open) (o : Open) → Table m es s (xs ++ o ∷ ys) rs l e → o.life ≡ e o.desk →
      Table m es (m.does o.desk o.call s).state (xs ++ ys) (record { desk = o.desk; number = o.number; life = o.life; answer = (m.does o.desk o.call s).answer } ∷ rs) l e
  -- it is told in the life in which it was asked
  goes_out : {es : List Seen} {s : m.State} {os : List Open} {l e : ℕ → ℕ} (xs ys : List Ready) (r : Ready) → Table m es s os (xs ++ r ∷ ys) l e → r.life ≡ l r.desk → Table m (told r.desk r.number r.answer ∷ es) s os (xs ++ ys) l e
  handed_back : {es : List Seen} {s : m.State} {rs : List Ready} {l e : ℕ → ℕ} (xs ys : List Open) (o : Open) → Table m es s (xs ++ o ∷ ys) rs l e → o.life ≡ l o.desk → Table m (told o.desk o.number busy ∷ es) s (xs ++ ys) rs l e
  has_fallen : {es : List Seen} {s : m.State} {os : List Open} {rs : List Ready} {l e : ℕ → ℕ} (i : ℕ) → Table m es s os rs l e → Table m (fell i ∷ es) s os rs (more i l) e
  -- the house has said that a desk's hold has ended: at that moment its hands are emptied
  has_lapsed : {es : List Seen} {s : m.State} {os : List Open} {rs : List Ready} {l e : ℕ → ℕ} (i : ℕ) → Table m es s os rs l e → Table m (lapsed i ∷ es) (m.leaves i s) os rs l e
  hands_empty : {es : List Seen} {s : m.State} {os : List Open} {rs : List Ready} {l e : ℕ → ℕ} (i : ℕ) → Table m es s os rs l e → e i < l i → Table m es (m.leaves i s) os rs l (more i e)

-- what was seen is what is seen around one table, whose state then meets P
abbrev pub SeenAtTable : (m : Machine) → List Seen → (m.State → Type 0) → Type 0
SeenAtTable m es P = (s : m.State) × (os : List Open) × (rs : List Ready) × (l : ℕ → ℕ) × (e : ℕ → ℕ) × Table m es s os rs l e × P s

-- STATEMENTS. Each is of every run of fewer than 2 to the 56 steps, with 1 to 63 desks, whatever clocks there are within their error.
abbrev pub InEveryRun : {M : Type 0} → (h : Code M) → ((clock : ℕ → ℕ → ℕ) → (all : ℕ) → List Seen → World h.Mind M → Type 0) → Type 0
InEveryRun {M} h P =
    (clock : ℕ → ℕ → ℕ) → Clocks clock → (all n : ℕ) → 2 ≤ all → all ≤ 64 → n < 72057594037927936 → (es : List Seen) (w : World h.Mind M) → Goes h clock all n es w → P clock all es w

-- what is seen at all desks together is what is seen around one table
abbrev pub OneTable : {M : Type 0} → Machine → Code M → Type 0
OneTable {M} m h = InEveryRun h (λ clock all es w. SeenAtTable m es (λ s. Unit {0}))

-- a call is handed back only at once, and only where eight wait
abbrev pub BusyAtNine : {M : Type 0} → Code M → Type 0
BusyAtNine {M} h = InEveryRun h (λ clock all es w. (i k : ℕ) (m : h.Mind) (x : Comes M) → w.who i ≡ there m →
    Memᴰ (Tell k busy) (h.turns x (clock i w.now) m).does → (c : Bytes) × (x ≡ Ask k c) × (8 ≤ count_at i w.waits))

-- What the house and one desk can do by what they say from then on, as time goes by, in so many turns; me ≡ 0: the house alone.
pub data Between {M : Type 0} (h : Code M) (clock : ℕ → ℕ → ℕ) (me : ℕ) (w : World h.Mind M) : (turns : ℕ) → List Seen → World h.Mind M → Type 0 where
  stay : Between h clock me w 0 [] w
  time : {n : ℕ} {es : List Seen} {v : World h.Mind M} → Between h clock me w n es v → Between h clock me w n es (later v)
  light : {n : ℕ} {es : List Seen} {v : World h.Mind M} (m : h.Mind) → Between h clock me w n es v → v.who 0 ≡ dark m → Between h clock me w (suc n) es (lit h clock m v)
  talk : {n : ℕ} {es : List Seen} {v : World h.Mind M} (i : ℕ) (m : h.Mind) (l : Letter M) (new : List (Letter M)) → (i ≡ 0) ⊎ (i ≡ me) → (l.by ≡ 0) ⊎ (l.by ≡ me) → Between h clock me w n es v → v.who i ≡ there m → v.letters ≡ new ++ w.letters → Memᴰ l new → l.to ≡ i →
      Between h clock me w (suc n) (tells i (h.turns (From l.by l.word) (clock i v.now) m).does ++ es) (turned h i (h.turns (From l.by l.word) (clock i v.now) m) (hearing i l.by (clock i v.now) v))
  beat : {n : ℕ} {es : List Seen} {v : World h.Mind M} (i : ℕ) (m : h.Mind) → (i ≡ 0) ⊎ (i ≡ me) → Between h clock me w n es v → v.who i ≡ there m →
      Between h clock me w (suc n) (tells i (h.turns Beat (clock i v.now) m).does ++ es) (turned h i (h.turns Beat (clock i v.now) m) v)

-- within 120,000 ms of true time and 100 turns they come to where P holds of what was seen and is
abbrev pub Within : {M : Type 0} → (h : Code M) → (clock : ℕ → ℕ → ℕ) → (me : ℕ) → World h.Mind M → (List Seen → World h.Mind M → Type 0) → Type 0
Within {M} h clock me w P = (n : ℕ) × (fs : List Seen) × (v : World h.Mind M) × Between h clock me w n fs v × (v.now ≤ w.now + 120000) × (n ≤ 100) × P fs v

-- all calls that wait at a desk can be told by the house and that desk alone, whatever the others have
abbrev pub TwoMinutes : {M : Type 0} → Code M → Type 0
TwoMinutes {M} h = InEveryRun h (λ clock all es w. (i : ℕ) → 0 < i → i < all →
    Within h clock i w (λ fs v. (k : ℕ) → Memᴰ (record { desk = i; number = k }) w.waits → (r : Bytes) × Memᴰ (told i k r) fs))

-- a hold ends by the house's word only where the house hasn't heard its desk for 60,000 ms of its clock
abbrev pub LapsesRightly : {M : Type 0} → Code M → Type 0
LapsesRightly {M} h = InEveryRun h (λ clock all es w. (i : ℕ) (m : h.Mind) (x : Comes M) → w.who 0 ≡ there m →
    Memᴰ (Lapse i) (h.turns x (clock 0 w.now) m).does → w.heard i + 60000 ≤ clock 0 w.now)

-- nobody holds a sheet until Monday: the house alone, hearing nobody, can come to where no desk's hands hold anything
abbrev pub NotUntilMonday : {M : Type 0} → Machine → Code M → Type 0
NotUntilMonday {M} m h = InEveryRun h (λ clock all es w.
    Within h clock 0 w (λ fs v. SeenAtTable m (fs ++ es) (λ s. (i : ℕ) → m.in_hand i s ≡ 0)))

-- the world in which a desk was just asked for something
abbrev pub asked_for : {M : Type 0} → (h : Code M) → (clock : ℕ → ℕ → ℕ) → (desk number : ℕ) → (call : Bytes) → h.Mind → World h.Mind M → World h.Mind M
asked_for {M} h clock i k c m w = turned h i (h.turns (Ask k c) (clock i w.now) m) (asking i k w)

-- And that is seen: the house alone can come to where any desk that is there, and at which fewer than eight calls wait, can be told, all
-- others being silent, whatever answer a call surely has while no other desk has anything in hand; such as yes for taking a name alone.
abbrev pub SeenByMonday : {M : Type 0} → Machine → Code M → Type 0
SeenByMonday {M} m h = InEveryRun h (λ clock all es w.
    Within h clock 0 w (λ fs v. (i k : ℕ) (c r : Bytes) (x : h.Mind) → 0 < i → i < all → k < 18446744073709551616 → T (all_bytes c) → v.who i ≡ there x →
    T (not (is_used i k (fs ++ es))) → count_at i v.waits < 8 → Sure m i c r →
    Within h clock i (asked_for h clock i k c x v) (λ gs u. Memᴰ (told i k r) (gs ++ tells i (h.turns (Ask k c) (clock i v.now) x).does))))

-- So that holds end only of a lost line, a fallen desk or a dark house: a desk that by what was seen may have something in hand, in this
-- life, says something to the house at a beat when it has said nothing for 20,000 ms of its clock.
abbrev pub SpeaksWhileHolding : {M : Type 0} → Machine → Code M → Type 0
SpeaksWhileHolding {M} m h = InEveryRun h (λ clock all es w. (i : ℕ) (x : h.Mind) → 0 < i → w.who i ≡ there x →
    (s : m.State) (os : List Open) (rs : List Ready) (l e : ℕ → ℕ) → Table m es s os rs l e → e i ≡ l i → 0 < m.in_hand i s →
    ((y : Letter M) → Memᴰ y w.letters → y.by ≡ i → y.to ≡ 0 → clock i y.at' + 20000 ≤ clock i w.now) →
    (word : M) × Memᴰ (To 0 word) (h.turns Beat (clock i w.now) x).does)

-- noise is passed over: from any state, not only from those that can be come to
abbrev pub PassesNoise : {M : Type 0} → Code M → Type 0
PassesNoise {M} h = (x : M) → T (h.noise x) → (j clock : ℕ) (m : h.Mind) → h.turns (From j x) clock m ≡ record { does = []; mind = m }
