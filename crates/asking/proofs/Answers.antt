-- What house and desk answer each other, once they talk.
use Rattle.std.proofs.Common.{◌≡◌, ℕ, zero, suc, ◌+◌, ◌-◌, ◌<◌, ◌≤◌, Bool, true, false, not, ◌&&◌, eqb, ltb, leb, ◌⊎◌, List, [], ◌∷◌, map, length, get_or, set, replicate, sym, refl, ap, ◌∙◌, subst, inl, inr, arith, length-set, get_or-set_same}
use mathlib.Core.List.{Memᴰ}
use Rattle.std.proofs.lemmas.Bool.{both_ways, eq-eqb, cases_lt, ne_eqb, eqb-true, eqb-false, and_parts, and_from, not-true, not_from_false, lt-ltb, ltb-false, or_parts}
use Rattle.promise.specs.Bytes.{Bytes}
use Rattle.promise.specs.Machine.{Machine}
use Rattle.promise.specs.Desks.{From, Does, To, Letter, Seen, posted}
use Rattle.codec.specs.Messages.{Msg, Hello, Welcome, Request, Response}
use Rattle.asking.specs.House.{Done, Peer, House, HouseTurn, unused, nobody, peer_of, slot_of, hearing, hello_by, offers, does_change, new_change_by, change_by, serve_by, promotes, takes_up_by, current_by, current, is_session, request_by, house_hears, house_from_by}
use Rattle.asking.specs.Desk.{Slot, Idle, Waiting, Desk, say_if, requests, unsent, unsent_now, not_sent, is_due, any_due, adopts_by, sends_unsent, welcome_by, tells_answer, seq_by, slot_by, response_by, desk_hears, desk_from_by}
use Rattle.asking.specs.Code.{Settings, house_turn, desk_turn}
use Rattle.asking.proofs.View.{waiting, abs_house, abs_slot, slots_of}
use Rattle.asking.proofs.Arrays.{replicate_ind, map_ind}
use Rattle.asking.proofs.Inv.{Ghost, Core, DeskOk, seq_of}

pub is_from : (s t : ℕ) → 0 < s → s ≡ t → is_session s t ≡ true
is_from s t p e = and_from (not (eqb s 0)) (eqb s t) (not_from_false (eqb s 0) (ne_eqb s 0 (λ z. omega arith))) (eq-eqb s t e)

-- THE HOUSE ANSWERS A REQUEST

pub record Answered {mc : Machine} (t : HouseTurn mc) (i s j q : ℕ) : Type 0 where
  pub r : Bytes
  pub h' : House mc
  pub is' : t ≡ record { does = To i (Response s j q 0 r) ∷ []; house = h' }
  pub on : s ≡ (peer_of h' i).session

module _ {mc : Machine} (i : ℕ) where
  change_answers : (s j q : ℕ) (x : Bytes) (h : House mc) → i < length h.peers → s ≡ (peer_of h i).session → (slot_of (peer_of h i) j).seq ≤ q → (b d : Bool) → ltb (slot_of (peer_of h i) j).seq q ≡ b → eqb (slot_of (peer_of h i) j).seq q ≡ d → Answered (change_by i s j q x b d h) i s j q
  unfolding change_by new_change_by
  change_answers s j q x h n e l true d eb ed = record { r = (mc.does i x h.table).answer; h' = does_change i j q x h; is' = refl; on = e ∙ ap (λ (p : Peer). p.session) (sym (get_or-set_same h.peers i (record { nonce = (peer_of h i).nonce; session = (peer_of h i).session; offered_nonce = (peer_of h i).offered_nonce; offered_session = (peer_of h i).offered_session; slots = set (peer_of h i).slots j (record { seq = q; answer = (mc.does i x h.table).answer }) }) nobody n)) }
  change_answers s j q x h n e l false true eb ed = record { r = (slot_of (peer_of h i) j).answer; h' = h; is' = refl; on = e }
  change_answers s j q x h n e l false false eb ed = absurd (let a = ltb-false (slot_of (peer_of h i) j).seq q eb in eqb-false (slot_of (peer_of h i) j).seq q ed (omega arith))

  serve_answers : (s j q : ℕ) (x : Bytes) (h : House mc) → i < length h.peers → s ≡ (peer_of h i).session → (slot_of (peer_of h i) j).seq ≤ q → (a : Bool) → Answered (serve_by i s j q x a h) i s j q
  unfolding serve_by
  serve_answers s j q x h n e l true = record { r = (mc.does i x h.table).answer; h' = h; is' = refl; on = e }
  serve_answers s j q x h n e l false = change_answers s j q x h n e l _ _ refl refl

  current_answers : (s j q : ℕ) (x : Bytes) (h : House mc) → i < length h.peers → 0 < s → s ≡ (peer_of h i).session → (slot_of (peer_of h i) j).seq ≤ q → Answered (current i s j q x h) i s j q
  unfolding current_by
  current_answers s j q x h n p e l = subst (λ b. Answered (current_by i s j q x b h) i s j q) (sym (is_from s (peer_of h i).session p e)) (serve_answers s j q x h n e l (mc.reads x))

  takes_answers : (g : Ghost) (h : House mc) (drawn : List ℕ) (letters : List (Letter Msg)) (es : List Seen) → Core mc g (abs_house h) drawn letters es → i < length h.peers → (d : Desk) → DeskOk mc g (abs_house h) i d → (j q k : ℕ) (x : Bytes) → 0 < d.session → slots_of d.slots j ≡ waiting q k x → (d.session ≡ (peer_of h i).session) ⊎ (d.session ≡ (peer_of h i).offered_session) → (b : Bool) → is_session d.session (peer_of h i).offered_session ≡ b → Answered (current i d.session j q x (takes_up_by i b h)) i d.session j q
  unfolding takes_up_by
  takes_answers g h drawn letters es v n d y j q k x p w o true e =
      let new : Peer = record { nonce = (peer_of h i).offered_nonce; session = (peer_of h i).offered_session; offered_nonce = 0; offered_session = 0; slots = replicate 8 unused } in
      let same = get_or-set_same h.peers i new nobody n in
      let e' : d.session ≡ (peer_of h i).offered_session = eqb-true d.session (peer_of h i).offered_session (and_parts (not (eqb d.session 0)) (eqb d.session (peer_of h i).offered_session) e).1 in
      current_answers d.session j q x (promotes i h) (subst (λ m. i < m) (sym (length-set h.peers i new)) n) p (e' ∙ ap (λ (z : Peer). z.session) (sym same)) (subst (λ (z : Peer). (slot_of z j).seq ≤ q) (sym same) (replicate_ind (λ (c : Done). c.seq ≤ q) 8 unused unused (omega arith) (omega arith) j))
  takes_answers g h drawn letters es v n d y j q k x p w o false e = current_answers d.session j q x h n p on below
    where
      pick : (d.session ≡ (peer_of h i).session) ⊎ (d.session ≡ (peer_of h i).offered_session) → d.session ≡ (peer_of h i).session
      pick (inl a) = a
      pick (inr a) = absurd (both_ways (is_session d.session (peer_of h i).offered_session) e (is_from d.session (peer_of h i).offered_session p a))

      on : d.session ≡ (peer_of h i).session
      on = pick o

      below : (slot_of (peer_of h i) j).seq ≤ q
      below =
          let l : 0 < (peer_of h i).session = (let z = on in omega arith) in
          let a = v.seqs.upto i j l in
          let c : (peer_of h i).nonce ≡ d.nonce = sym (v.peers_ok.cur i l).is' ∙ (ap g.given (sym on) ∙ (y.session' p).1) in
          let b : seq_of (g.last (peer_of h i).nonce j) ≡ q = ap (λ c. seq_of (g.last c j)) c ∙ ap seq_of (sym (y.slots' j) ∙ w) in
          omega arith

  -- what it does at a message of a desk
  from_desk : (x : Msg) (t : ℕ) (h : House mc) → 0 < i → i < 64 → house_turn (From i x) t h ≡ house_hears i x (hearing i t h)
  unfolding house_turn house_from_by
  from_desk x t h p l = ap (λ b. house_from_by i x t b h) (and_from (ltb 0 i) (ltb i 64) (lt-ltb 0 i p) (lt-ltb i 64 l))

  pub house_answers : (g : Ghost) (h : House mc) (drawn : List ℕ) (letters : List (Letter Msg)) (es : List Seen) → Core mc g (abs_house h) drawn letters es → length h.peers ≡ 64 → 0 < i → i < 64 → (d : Desk) → DeskOk mc g (abs_house h) i d → (t j q k : ℕ) (x : Bytes) → j < 8 → 0 < d.session → slots_of d.slots j ≡ waiting q k x → (d.session ≡ (peer_of h i).session) ⊎ (d.session ≡ (peer_of h i).offered_session) → Answered (house_turn (From i (Request d.session j q x)) t h) i d.session j q
  unfolding house_hears request_by
  house_answers g h drawn letters es v l64 ip is d y t j q k x jl p w o =
      subst (λ u. Answered u i d.session j q) (sym (from_desk (Request d.session j q x) t h ip is ∙ ap (λ b. request_by i d.session j q x b (hearing i t h)) (lt-ltb j 8 jl)))
      (takes_answers g (hearing i t h) drawn letters es v (omega arith) d y j q k x p w o _ refl)

-- THE HOUSE WELCOMES

pub record Welcomed {mc : Machine} (t : HouseTurn mc) (i c : ℕ) : Type 0 where
  pub s : ℕ
  pub h' : House mc
  pub is' : t ≡ record { does = To i (Welcome c s) ∷ []; house = h' }
  pub pos : 0 < s
  pub on : (s ≡ (peer_of h' i).session) ⊎ (s ≡ (peer_of h' i).offered_session)

positive : (a : ℕ) (b : Bool) → (not (eqb a 0) && b) ≡ true → 0 < a
positive a b e = go (cases_lt 0 a)
  where
    go : (0 < a) ⊎ (a ≤ 0) → 0 < a
    go (inl l) = l
    go (inr l) = absurd (eqb-false a 0 (not-true (eqb a 0) (and_parts (not (eqb a 0)) b e).0) (omega arith))

module _ {mc : Machine} where
  hello_answers : (i c : ℕ) (h : House mc) → i < length h.peers → 0 < h.next_session → (a b : Bool) → (not (eqb (peer_of h i).session 0) && eqb (peer_of h i).nonce c) ≡ a → (not (eqb (peer_of h i).offered_session 0) && eqb (peer_of h i).offered_nonce c) ≡ b → Welcomed (hello_by i c a b h) i c
  unfolding hello_by
  hello_answers i c h l n true b ea eb = record { s = (peer_of h i).session; h' = h; is' = refl; pos = positive (peer_of h i).session _ ea; on = inl refl }
  hello_answers i c h l n false true ea eb = record { s = (peer_of h i).offered_session; h' = h; is' = refl; pos = positive (peer_of h i).offered_session _ eb; on = inr refl }
  hello_answers i c h l n false false ea eb = record { s = h.next_session; h' = offers i c h; is' = refl; pos = n; on = inr (ap (λ (p : Peer). p.offered_session) (sym (get_or-set_same h.peers i (record { nonce = (peer_of h i).nonce; session = (peer_of h i).session; offered_nonce = c; offered_session = h.next_session; slots = (peer_of h i).slots }) nobody l))) }

  pub house_welcomes : (i c t : ℕ) (h : House mc) → length h.peers ≡ 64 → 0 < i → i < 64 → 0 < h.next_session → Welcomed (house_turn (From i (Hello c)) t h) i c
  unfolding house_hears
  house_welcomes i c t h l64 ip is n = subst (λ u. Welcomed u i c) (sym (from_desk i (Hello c) t h ip is)) (hello_answers i c (hearing i t h) (omega arith) n _ _ refl refl)

-- A DESK

pub desk_adopts : (z : Settings) (d : Desk) (t s : ℕ) → d.answered ≡ false → 0 < s → desk_turn z (From 0 (Welcome d.nonce s)) t d ≡ sends_unsent t (adopts_by s (eqb s d.session) d)
unfolding desk_turn desk_from_by desk_hears welcome_by
desk_adopts z d t s e p = ap (λ b. welcome_by t s b d) (and_from (eqb d.nonce d.nonce) (not (eqb s 0) && not d.answered) (eq-eqb d.nonce d.nonce refl) (and_from (not (eqb s 0)) (not d.answered) (not_from_false (eqb s 0) (ne_eqb s 0 (λ z. omega arith))) (not_from_false d.answered e)))

slot_tells : (d : Desk) (j q q' k k' : ℕ) (x r : Bytes) (b : Bool) (f l : ℕ) → q' ≡ q → k' ≡ k → slot_by j q r (Waiting q' k' x b f l) d ≡ tells_answer j q k r d
unfolding slot_by seq_by
slot_tells d j q q' k k' x r b f l eq ek = ap (λ c. seq_by j q k' r c d) (eq-eqb q' q eq) ∙ ap (λ c. tells_answer j q c r d) ek

pub desk_tells : (z : Settings) (d : Desk) (t s j q k : ℕ) (x r : Bytes) → 0 < s → s ≡ d.session → slots_of d.slots j ≡ waiting q k x → desk_turn z (From 0 (Response s j q 0 r)) t d ≡ tells_answer j q k r d
unfolding desk_turn desk_from_by desk_hears response_by
desk_tells z d t s j q k x r p e w = ap (λ b. response_by j q r b d) (is_from s d.session p e) ∙ go (get_or d.slots j (Idle 0)) w
  where
    go : (y : Slot) → abs_slot y ≡ waiting q k x → slot_by j q r y d ≡ tells_answer j q k r d
    go (Idle p') w' = absurd (let o : ◌≡◌ {A = ℕ} 0 1 = cc in omega arith)
    go (Waiting q' k' x' b f l) w' = let eq : q' ≡ q = cc in let ek : k' ≡ k = cc in slot_tells d j q q' k k' x' r b f l eq ek

-- WHAT A DESK SENDS

abbrev pub asking' : (i t s j q : ℕ) → Bytes → Letter Msg
asking' i t s j q x = record { to = 0; by = i; at' = t; word = Request s j q x }

say_here : (i t : ℕ) (b : Bool) (m : Msg) (ds : List (Does Msg)) → b ≡ true → Memᴰ (record { to = 0; by = i; at' = t; word = m }) (posted i t (say_if b (To 0 m) ds))
unfolding say_if posted
say_here i t true m ds e = Memᴰ.head refl
say_here i t false m ds e = absurd (both_ways false refl e)

say_there : (i t : ℕ) (b : Bool) (m : Msg) (ds : List (Does Msg)) (l : Letter Msg) → Memᴰ l (posted i t ds) → Memᴰ l (posted i t (say_if b (To 0 m) ds))
unfolding say_if posted
say_there i t true m ds l n = Memᴰ.tail n
say_there i t false m ds l n = n

-- each that waits and passes is asked for
pub requests_in : (i t : ℕ) (p : Bool → ℕ → Bool) (s j0 : ℕ) (xs : List Slot) (j q k : ℕ) (c : Bytes) (b : Bool) (f l : ℕ) → get_or xs j (Idle 0) ≡ Waiting q k c b f l → p b l ≡ true → Memᴰ (asking' i t s (j0 + j) q c) (posted i t (requests p s j0 xs))
unfolding requests
requests_in i t p s j0 [] j q k c b f l e u = absurd (let o : ◌≡◌ {A = ℕ} 0 1 = cc in omega arith)
requests_in i t p s j0 (Idle q' ∷ xs) zero q k c b f l e u = absurd (let o : ◌≡◌ {A = ℕ} 0 1 = cc in omega arith)
requests_in i t p s j0 (Idle q' ∷ xs) (suc j) q k c b f l e u = let a : (j0 + 1) + j ≡ j0 + suc j = omega arith in subst (λ n. Memᴰ (asking' i t s n q c) (posted i t (requests p s (j0 + 1) xs))) a (requests_in i t p s (j0 + 1) xs j q k c b f l e u)
requests_in i t p s j0 (Waiting q' k' c' b' f' l' ∷ xs) zero q k c b f l e u =
    let eq : q' ≡ q = cc in
    let ec : c' ≡ c = cc in
    let eb : b' ≡ b = cc in
    let el : l' ≡ l = cc in
    let a : j0 ≡ j0 + 0 = omega arith in
    subst (λ y. Memᴰ y (posted i t (say_if (p b' l') (To 0 (Request s j0 q' c')) (requests p s (j0 + 1) xs)))) (λ y. asking' i t s (a y) (eq y) (ec y)) (say_here i t (p b' l') (Request s j0 q' c') (requests p s (j0 + 1) xs) ((λ y. p (eb y) (el y)) ∙ u))
requests_in i t p s j0 (Waiting q' k' c' b' f' l' ∷ xs) (suc j) q k c b f l e u =
    let a : (j0 + 1) + j ≡ j0 + suc j = omega arith in
    say_there i t (p b' l') (Request s j0 q' c') (requests p s (j0 + 1) xs) (asking' i t s (j0 + suc j) q c) (subst (λ n. Memᴰ (asking' i t s n q c) (posted i t (requests p s (j0 + 1) xs))) a (requests_in i t p s (j0 + 1) xs j q k c b f l e u))

-- the same, where it is enough that all that waits passes
abbrev pub Passes : (Bool → ℕ → Bool) → Slot → Type 0
Passes p (Idle q) = Unit {0}
Passes p (Waiting q k c b f l) = p b l ≡ true

pub all_asked : (i t : ℕ) (p : Bool → ℕ → Bool) (s : ℕ) (xs : List Slot) → ((j : ℕ) → Passes p (get_or xs j (Idle 0))) → (j q k : ℕ) (c : Bytes) → slots_of xs j ≡ waiting q k c → Memᴰ (asking' i t s j q c) (posted i t (requests p s 0 xs))
all_asked i t p s xs f j q k c w = go (get_or xs j (Idle 0)) refl w (f j)
  where
    go : (y : Slot) → get_or xs j (Idle 0) ≡ y → abs_slot y ≡ waiting q k c → Passes p y → Memᴰ (asking' i t s j q c) (posted i t (requests p s 0 xs))
    go (Idle q') e w' u = absurd (let o : ◌≡◌ {A = ℕ} 0 1 = cc in omega arith)
    go (Waiting q' k' c' b f' l) e w' u =
        let eq : q' ≡ q = cc in
        let ec : c' ≡ c = cc in
        let a : 0 + j ≡ j = omega arith in
        subst (λ y. Memᴰ y (posted i t (requests p s 0 xs))) (λ y. asking' i t s (a y) (eq y) (ec y)) (requests_in i t p s 0 xs j q' k' c' b f' l e u)

-- what is not sent passes, after a Hello, and after another session was adopted
pub unsent_passes : (t : ℕ) (xs : List Slot) (j : ℕ) → Passes not_sent (get_or (map (unsent_now t) xs) j (Idle 0))
unfolding unsent_now
unsent_passes t xs = map_ind (λ _. Unit {0}) (Passes not_sent) (unsent_now t) xs (Idle 0) (Idle 0) (λ y _. one y) tt (λ _. tt)
  where
    one : (y : Slot) → Passes not_sent (unsent_now t y)
    one (Idle q) = tt
    one (Waiting q k c b f l) = refl

pub adopts_passes : (s : ℕ) (b : Bool) (d : Desk) → ((j : ℕ) → Passes not_sent (get_or d.slots j (Idle 0))) → (j : ℕ) → Passes not_sent (get_or (adopts_by s b d).slots j (Idle 0))
unfolding adopts_by unsent
adopts_passes s true d f = f
adopts_passes s false d f = map_ind (λ _. Unit {0}) (Passes not_sent) unsent d.slots (Idle 0) (Idle 0) (λ y _. one y) tt (λ _. tt)
  where
    one : (y : Slot) → Passes not_sent (unsent y)
    one (Idle q) = tt
    one (Waiting q k c b f l) = refl

-- where nothing is due nothing waits, if all that waits is due
pub none_due : (r t : ℕ) (xs : List Slot) → any_due r t xs ≡ false → ((j : ℕ) → Passes (is_due r t) (get_or xs j (Idle 0))) → (j q k : ℕ) (c : Bytes) → slots_of xs j ≡ waiting q k c → ⊥
unfolding any_due
none_due r t [] e f j q k c w = let o : ◌≡◌ {A = ℕ} 0 1 = cc in omega arith
none_due r t (Idle q' ∷ xs) e f zero q k c w = let o : ◌≡◌ {A = ℕ} 0 1 = cc in omega arith
none_due r t (Idle q' ∷ xs) e f (suc j) q k c w = none_due r t xs e (λ i. f (suc i)) j q k c w
none_due r t (Waiting q' k' c' b f' l ∷ xs) e f j q k c w = both_ways (leb r (t - l)) (or_parts (leb r (t - l)) (any_due r t xs) e).0 (f zero)
