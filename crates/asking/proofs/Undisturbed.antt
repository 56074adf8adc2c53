-- One message for each call and one more, while nothing is lost or late.
use Rattle.std.proofs.Common.{◌≡◌, ℕ, zero, suc, ◌+◌, ◌≤◌, max, Bool, true, false, not, ◌&&◌, eqb, List, [], ◌∷◌, map, get_or, set, replicate, sym, refl, ap, ◌∙◌, arith}
use Rattle.std.proofs.lemmas.Bool.{eqb-true, eqb-false, eq-eqb}
use Rattle.promise.specs.Bytes.{Bytes}
use Rattle.promise.specs.Desks.{Does, To}
use Rattle.codec.specs.Messages.{Msg, Hello, Welcome, Request, Response, Alive}
use Rattle.asking.specs.House.{next64, eight, is_session}
use Rattle.asking.specs.Desk.{Slot, Idle, Waiting, Desk, desk_begins, Free, full, free, first_idle, none_waits, say_if, requests, sent_if, sent_now, unsent, not_sent, is_due, first_said, call_by, takes_call, shortened, adopts_by, with_session, sends_unsent, welcome_by, seq_by, slot_by, response_by, desk_hears, desk_from_by, alive_by, tick_by}
use Rattle.asking.specs.Code.{Settings, desk_turn}
use Rattle.asking.specs.Sparing.{sent_in, OneSession, Undisturbed, begun, called, heard, ticked, OneForEachCall}

-- how many calls wait
waiting : List Slot → ℕ
waiting [] = 0
waiting (Idle q ∷ xs) = waiting xs
waiting (Waiting q k c b f l ∷ xs) = 1 + waiting xs

-- how many of them were not sent
of_bool : Bool → ℕ
of_bool true = 0
of_bool false = 1

pending : List Slot → ℕ
pending [] = 0
pending (Idle q ∷ xs) = pending xs
pending (Waiting q k c b f l ∷ xs) = of_bool b + pending xs

of_bool_lem : (b : Bool) → of_bool b ≤ 1
unfolding of_bool
of_bool_lem true = omega arith
of_bool_lem false = omega arith

none_waits_lem : (xs : List Slot) → none_waits xs ≡ true → waiting xs ≡ 0
unfolding waiting none_waits
none_waits_lem [] e = refl
none_waits_lem (Idle q ∷ xs) e = none_waits_lem xs e
none_waits_lem (Waiting q k c b f l ∷ xs) e = let z : ◌≡◌ {A = ℕ} 0 1 = cc in absurd (omega arith)

-- ONE SLOT CHANGED

one : (x : Slot) (xs : List Slot) → waiting (x ∷ xs) ≤ waiting xs + 1
unfolding waiting
one (Idle q) xs = omega arith
one (Waiting q k c b f l) xs = omega arith

one_more : (x : Slot) (xs ys : List Slot) → waiting xs ≤ waiting ys + 1 → waiting (x ∷ xs) ≤ waiting (x ∷ ys) + 1
unfolding waiting
one_more (Idle q) xs ys h = h
one_more (Waiting q k c b f l) xs ys h = omega arith

at_least : (x : Slot) (xs : List Slot) → waiting xs ≤ waiting (x ∷ xs)
unfolding waiting
at_least (Idle q) xs = omega arith
at_least (Waiting q k c b f l) xs = omega arith

waiting_set : (xs : List Slot) (i : ℕ) (x : Slot) → waiting (set xs i x) ≤ waiting xs + 1
waiting_set [] i x = omega arith
waiting_set (y ∷ ys) zero x = let a = one x ys in let b = at_least y ys in omega arith
waiting_set (y ∷ ys) (suc i) x = one_more y (set ys i x) ys (waiting_set ys i x)

-- a slot of which nothing is pending
pending_at_least : (x : Slot) (xs : List Slot) → pending xs ≤ pending (x ∷ xs)
unfolding pending
pending_at_least (Idle q) xs = omega arith
pending_at_least (Waiting q k c b f l) xs = omega arith

pending_more : (x : Slot) (xs ys : List Slot) → pending xs ≤ pending ys → pending (x ∷ xs) ≤ pending (x ∷ ys)
unfolding pending
pending_more (Idle q) xs ys h = h
pending_more (Waiting q k c b f l) xs ys h = omega arith

pending_set : (xs : List Slot) (i : ℕ) (x : Slot) → ((ys : List Slot) → pending (x ∷ ys) ≡ pending ys) → pending (set xs i x) ≤ pending xs
pending_set [] i x h = omega arith
pending_set (y ∷ ys) zero x h = let a = pending_at_least y ys in let b = h ys in omega arith
pending_set (y ∷ ys) (suc i) x h = pending_more y (set ys i x) ys (pending_set ys i x h)

pending_sent : (q k : ℕ) (c : Bytes) (f l : ℕ) (ys : List Slot) → pending (Waiting q k c true f l ∷ ys) ≡ pending ys
unfolding pending of_bool
pending_sent q k c f l ys = omega arith

pending_idle : (q : ℕ) (ys : List Slot) → pending (Idle q ∷ ys) ≡ pending ys
unfolding pending
pending_idle q ys = refl

-- ALL SLOTS

requests_sent : (s j q k : ℕ) (c : Bytes) (b : Bool) (f l : ℕ) (xs : List Slot) → sent_in (requests not_sent s (j + 1) xs) ≡ pending xs → sent_in (say_if (not b) (To 0 (Request s j q c)) (requests not_sent s (j + 1) xs)) ≡ pending (Waiting q k c b f l ∷ xs)
unfolding say_if sent_in pending of_bool
requests_sent s j q k c true f l xs e = e ∙ omega arith
requests_sent s j q k c false f l xs e = ap (λ n. 1 + n) e

-- as many requests as are pending
requests_count : (s j : ℕ) (xs : List Slot) → sent_in (requests not_sent s j xs) ≡ pending xs
unfolding requests sent_in pending
requests_count s j [] = refl
requests_count s j (Idle q ∷ xs) = requests_count s (j + 1) xs
requests_count s j (Waiting q k c b f l ∷ xs) = requests_sent s j q k c b f l xs (requests_count s (j + 1) xs)

sent_one : (t q k : ℕ) (c : Bytes) (b : Bool) (f l : ℕ) (ys : List Slot) → pending ys ≡ 0 → pending (sent_if (not b) t (Waiting q k c b f l) ∷ ys) ≡ 0
unfolding sent_if pending of_bool
sent_one t q k c true f l ys e = ap (λ n. 0 + n) e
sent_one t q k c false f l ys e = ap (λ n. 0 + n) e

-- after that none is
sent_all : (t : ℕ) (xs : List Slot) → pending (map (sent_now not_sent t) xs) ≡ 0
unfolding sent_now pending
sent_all t [] = refl
sent_all t (Idle q ∷ xs) = sent_all t xs
sent_all t (Waiting q k c b f l ∷ xs) = sent_one t q k c b f l (map (sent_now not_sent t) xs) (sent_all t xs)

unsent_all : (xs : List Slot) → pending (map unsent xs) ≡ waiting xs
unfolding unsent pending waiting of_bool
unsent_all [] = refl
unsent_all (Idle q ∷ xs) = unsent_all xs
unsent_all (Waiting q k c b f l ∷ xs) = ap (λ n. 1 + n) (unsent_all xs)

kept_one : (p : Bool) (t q k : ℕ) (c : Bytes) (b : Bool) (f l : ℕ) (ys zs : List Slot) → waiting ys ≡ waiting zs → pending ys ≤ pending zs → (waiting (sent_if p t (Waiting q k c b f l) ∷ ys) ≡ waiting (Waiting q k c b f l ∷ zs)) × (pending (sent_if p t (Waiting q k c b f l) ∷ ys) ≤ pending (Waiting q k c b f l ∷ zs))
unfolding sent_if waiting pending of_bool
kept_one true t q k c b f l ys zs e h = (ap (λ n. 1 + n) e, omega arith)
kept_one false t q k c b f l ys zs e h = (ap (λ n. 1 + n) e, omega arith)

-- whichever are sent, as many wait, and no more are pending
kept_all : (p : Bool → ℕ → Bool) (t : ℕ) (xs : List Slot) → (waiting (map (sent_now p t) xs) ≡ waiting xs) × (pending (map (sent_now p t) xs) ≤ pending xs)
unfolding sent_now waiting pending
kept_all p t [] = (refl, omega arith)
kept_all p t (Idle q ∷ xs) = kept_all p t xs
kept_all p t (Waiting q k c b f l ∷ xs) = let h = kept_all p t xs in kept_one (p b l) t q k c b f l (map (sent_now p t) xs) xs h.0 h.1

-- HOW FAR IT IS

-- without a session a message is to come for each call that waits, and one for those that may; with one, for each that is pending
data Far (s calls sent : ℕ) (d : Desk) : Type 0 where
  early : d.session ≡ 0 → sent + max 1 (waiting d.slots) ≤ calls + 1 → Far s calls sent d
  late : (d.session ≡ 0 → ⊥) → d.session ≡ s → sent + pending d.slots ≤ calls + 1 → Far s calls sent d

far_enough : (s calls sent : ℕ) (d : Desk) → Far s calls sent d → sent ≤ calls + 1
far_enough s calls sent d (early e h) = omega arith
far_enough s calls sent d (late n e h) = omega arith

-- nothing happened
far_same : (s calls sent : ℕ) (d : Desk) → Far s calls sent d → Far s calls (sent + 0) d
far_same s calls sent d (early e h) = early e (omega arith)
far_same s calls sent d (late n e h) = late n e (omega arith)

far_handed : (s calls sent : ℕ) (d : Desk) → Far s calls sent d → Far s (calls + 1) (sent + 0) d
far_handed s calls sent d (early e h) = early e (omega arith)
far_handed s calls sent d (late n e h) = late n e (omega arith)

-- A CALL

first_late : (d : Desk) (j q : ℕ) (c : Bytes) (a b : Bool) → a ≡ false → sent_in (first_said d j q c a b) ≡ 1
unfolding first_said sent_in
first_late d j q c false b e = refl
first_late d j q c true b e = let z : ◌≡◌ {A = ℕ} 0 1 = cc in absurd (omega arith)

first_early : (d : Desk) (j q : ℕ) (c : Bytes) (a b : Bool) → a ≡ true → none_waits d.slots ≡ b → sent_in (first_said d j q c a b) + max 1 (waiting d.slots + 1) ≤ max 1 (waiting d.slots) + 1
unfolding first_said sent_in
first_early d j q c false b e n = let z : ◌≡◌ {A = ℕ} 0 1 = cc in absurd (omega arith)
first_early d j q c true true e n = let w = none_waits_lem d.slots n in omega arith
first_early d j q c true false e n = omega arith

sent_flag : (n : ℕ) → (n ≡ 0 → ⊥) → not (eqb n 0) ≡ true
sent_flag n h = go (eqb n 0) refl
  where
    go : (b : Bool) → eqb n 0 ≡ b → not b ≡ true
    go true e = absurd (h (eqb-true n 0 e))
    go false e = refl

no_session : (n : ℕ) → (n ≡ 0 → ⊥) → eqb n 0 ≡ false
no_session n h = go (eqb n 0) refl
  where
    go : (b : Bool) → eqb n 0 ≡ b → b ≡ false
    go true e = absurd (h (eqb-true n 0 e))
    go false e = refl

far_called : (grabs : Bytes → Bool) (s calls sent t k j q : ℕ) (c : Bytes) (d : Desk) → Far s calls sent d → Far s (calls + 1) (sent + sent_in (takes_call grabs t k c j q d).does) (takes_call grabs t k c j q d).desk
far_called grabs s calls sent t k j q c d (early e h) =
    let a = first_early d j q c (eqb d.session 0) (none_waits d.slots) (eq-eqb d.session 0 e) refl in
    let b = waiting_set d.slots j (Waiting q k c (not (eqb d.session 0)) t t) in
    early e (omega arith)
far_called grabs s calls sent t k j q c d (late n e h) =
    let a = first_late d j q c (eqb d.session 0) (none_waits d.slots) (no_session d.session n) in
    let b : pending (set d.slots j (Waiting q k c (not (eqb d.session 0)) t t)) ≤ pending d.slots = pending_set d.slots j (Waiting q k c (not (eqb d.session 0)) t t) (λ ys. ap (λ z. pending (Waiting q k c z t t ∷ ys)) (sent_flag d.session n) ∙ pending_sent q k c t t ys) in
    late n e (omega arith)

far_call : (grabs : Bytes → Bool) (s calls sent t k : ℕ) (c : Bytes) (y : Free) (d : Desk) → Far s calls sent d → Far s (calls + 1) (sent + sent_in (call_by grabs t k c y d).does) (call_by grabs t k c y d).desk
unfolding call_by sent_in
far_call grabs s calls sent t k c full d h = far_handed s calls sent d h
far_call grabs s calls sent t k c (free j q) d h = far_called grabs s calls sent t k j (next64 q) (shortened c) d h

-- WELCOME

far_sends : (s calls sent t : ℕ) (d : Desk) → (d.session ≡ 0 → ⊥) → d.session ≡ s → sent + pending d.slots ≤ calls + 1 → Far s calls (sent + sent_in (sends_unsent t d).does) (sends_unsent t d).desk
far_sends s calls sent t d n e h =
    let a = requests_count d.session 0 d.slots in
    let b = sent_all t d.slots in
    late n e (omega arith)

far_adopts : (s k calls sent t : ℕ) (d : Desk) (b : Bool) → eqb k d.session ≡ b → (k ≡ 0 → ⊥) → k ≡ s → Far s calls sent d → Far s calls (sent + sent_in (sends_unsent t (adopts_by k b d)).does) (sends_unsent t (adopts_by k b d)).desk
unfolding adopts_by
far_adopts s k calls sent t d true q n e (early e0 h) = absurd (n (eqb-true k d.session q ∙ e0))
far_adopts s k calls sent t d true q n e (late n0 e0 h) = far_sends s calls sent t d n0 e0 h
far_adopts s k calls sent t d false q n e (early e0 h) = let a = unsent_all d.slots in far_sends s calls sent t (with_session k (map unsent d.slots) d) n e (omega arith)
far_adopts s k calls sent t d false q n e (late n0 e0 h) = absurd (eqb-false k d.session q (e ∙ sym e0))

parts : (a b c : Bool) → (a && (b && c)) ≡ true → (a ≡ true) × (b ≡ true)
parts true true c e = (refl, refl)
parts true false c e = let z : ◌≡◌ {A = ℕ} 0 1 = cc in absurd (omega arith)
parts false b c e = let z : ◌≡◌ {A = ℕ} 0 1 = cc in absurd (omega arith)

not_zero : (k : ℕ) → not (eqb k 0) ≡ true → k ≡ 0 → ⊥
not_zero k h e = let a = eq-eqb k 0 e in let z : ◌≡◌ {A = Bool} false true = ap not (sym a) ∙ h in let y : ◌≡◌ {A = ℕ} 0 1 = cc in omega arith

far_welcome : (s calls sent t c k : ℕ) (d : Desk) → (c ≡ d.nonce → k ≡ s) → Far s calls sent d → (b : Bool) → (eqb c d.nonce && (not (eqb k 0) && not d.answered)) ≡ b → Far s calls (sent + sent_in (welcome_by t k b d).does) (welcome_by t k b d).desk
unfolding welcome_by sent_in
far_welcome s calls sent t c k d o h true e =
    let p = parts (eqb c d.nonce) (not (eqb k 0)) (not d.answered) e in
    far_adopts s k calls sent t d (eqb k d.session) refl (not_zero k p.1) (o (eqb-true c d.nonce p.0)) h
far_welcome s calls sent t c k d o h false e = far_same s calls sent d h

-- RESPONSE

far_told : (s calls sent j q : ℕ) (d x : Desk) → x.session ≡ d.session → x.slots ≡ set d.slots j (Idle q) → (d.session ≡ 0 → ⊥) → Far s calls sent d → Far s calls (sent + 0) x
far_told s calls sent j q d x e1 e2 n (early e h) = absurd (n e)
far_told s calls sent j q d x e1 e2 n (late n0 e h) =
    let a = pending_set d.slots j (Idle q) (pending_idle q) in
    let b : pending x.slots ≡ pending (set d.slots j (Idle q)) = ap pending e2 in
    late (λ z. n (sym e1 ∙ z)) (e1 ∙ e) (omega arith)

far_seq : (s calls sent j q k : ℕ) (a : Bytes) (b : Bool) (d : Desk) → (d.session ≡ 0 → ⊥) → Far s calls sent d → Far s calls (sent + sent_in (seq_by j q k a b d).does) (seq_by j q k a b d).desk
unfolding seq_by sent_in
far_seq s calls sent j q k a true d n h = far_told s calls sent j q d _ refl refl n h
far_seq s calls sent j q k a false d n h = far_same s calls sent d h

far_slot : (s calls sent j q : ℕ) (a : Bytes) (y : Slot) (d : Desk) → (d.session ≡ 0 → ⊥) → Far s calls sent d → Far s calls (sent + sent_in (slot_by j q a y d).does) (slot_by j q a y d).desk
unfolding slot_by sent_in
far_slot s calls sent j q a (Idle p) d n h = far_same s calls sent d h
far_slot s calls sent j q a (Waiting p k c b f l) d n h = far_seq s calls sent j q k a (eqb p q) d n h

current : (s t : ℕ) → is_session s t ≡ true → t ≡ 0 → ⊥
current s t h e = go (eqb s 0) (eqb s t) refl refl h
  where
    go : (a b : Bool) → eqb s 0 ≡ a → eqb s t ≡ b → (not a && b) ≡ true → ⊥
    go true b ea eb h = let z : ◌≡◌ {A = ℕ} 0 1 = cc in omega arith
    go false true ea eb h = eqb-false s 0 ea (eqb-true s t eb ∙ e)
    go false false ea eb h = let z : ◌≡◌ {A = ℕ} 0 1 = cc in omega arith

far_response : (s calls sent r j q : ℕ) (a : Bytes) (d : Desk) (b : Bool) → is_session r d.session ≡ b → Far s calls sent d → Far s calls (sent + sent_in (response_by j q a b d).does) (response_by j q a b d).desk
unfolding response_by sent_in
far_response s calls sent r j q a d true e h = far_slot s calls sent j q a (get_or d.slots j (Idle 0)) d (current r d.session e) h
far_response s calls sent r j q a d false e h = far_same s calls sent d h

-- WHATEVER COMES

far_hears : (s calls sent t : ℕ) (x : Msg) (d : Desk) → OneSession d.nonce s x → Far s calls sent d → Far s calls (sent + sent_in (desk_hears t x d).does) (desk_hears t x d).desk
unfolding desk_hears sent_in
far_hears s calls sent t (Hello c) d o h = far_same s calls sent d h
far_hears s calls sent t (Welcome c k) d o h = far_welcome s calls sent t c k d o h _ refl
far_hears s calls sent t (Request k j q c) d o h = far_same s calls sent d h
far_hears s calls sent t (Response k j q g a) d o h = far_response s calls sent k j q a d _ refl h
far_hears s calls sent t (Alive k) d o h = far_same s calls sent d h

far_from : (s calls sent t : ℕ) (x : Msg) (b : Bool) (d : Desk) → OneSession d.nonce s x → Far s calls sent d → Far s calls (sent + sent_in (desk_from_by t x b d).does) (desk_from_by t x b d).desk
unfolding desk_from_by sent_in
far_from s calls sent t x true d o h = far_hears s calls sent t x d o h
far_from s calls sent t x false d o h = far_same s calls sent d h

-- A TICK THAT SENDS NOTHING

something : {A : Type 0} (x : Does Msg) (xs : List (Does Msg)) → x ∷ xs ≡ [] → A
something x xs e = let z : ◌≡◌ {A = ℕ} 0 1 = cc in absurd (omega arith)

far_alive : (s calls sent t : ℕ) (b : Bool) (d : Desk) → (alive_by t b d).does ≡ [] → Far s calls sent d → Far s calls sent (alive_by t b d).desk
unfolding alive_by
far_alive s calls sent t true d e h = something _ [] e
far_alive s calls sent t false d e h = h

far_due : (s calls sent : ℕ) (p : Bool → ℕ → Bool) (t : ℕ) (d x : Desk) → x.session ≡ d.session → x.slots ≡ map (sent_now p t) d.slots → Far s calls sent d → Far s calls sent x
far_due s calls sent p t d x e1 e2 (early e h) = let a = kept_all p t d.slots in let b = ap waiting e2 in early (e1 ∙ e) (omega arith)
far_due s calls sent p t d x e1 e2 (late n e h) = let a = kept_all p t d.slots in let b = ap pending e2 in late (λ z. n (sym e1 ∙ z)) (e1 ∙ e) (omega arith)

far_tick : (s calls sent r t : ℕ) (due answered : Bool) (d : Desk) → (tick_by r t due answered d).does ≡ [] → Far s calls sent d → Far s calls sent (tick_by r t due answered d).desk
unfolding tick_by
far_tick s calls sent r t false a d e h = far_alive s calls sent t _ d e h
far_tick s calls sent r t true true d e h = far_due s calls sent (is_due r t) t d _ refl refl h
far_tick s calls sent r t true false d e h = something _ [] e

-- FROM ITS BEGINNING ON

idle : (n : ℕ) → waiting (replicate n (Idle 0)) ≡ 0
unfolding waiting
idle zero = refl
idle (suc n) = idle n

far_begun : (s nonce t : ℕ) → Far s 0 0 (desk_begins nonce t)
unfolding desk_begins
far_begun s nonce t = let a = idle eight in early refl (omega arith)

far : (z : Settings) (session calls sent : ℕ) (d : Desk) → Undisturbed z session calls sent d → Far session calls sent d
unfolding desk_turn
far z s calls sent d (begun nonce t) = far_begun s nonce t
far z s calls sent d (called {calls = n} {sent = k} {d = e} t number c u) = far_call z.grabs s n k t number c (first_idle 0 e.slots) e (far z s n k e u)
far z s calls sent d (heard {sent = k} {d = e} i t x o u) = far_from s calls k t x _ e o (far z s calls k e u)
far z s calls sent d (ticked {d = e} t nothing u) = far_tick s calls sent z.retry t _ _ e nothing (far z s calls sent e u)

pub one_for_each_call : OneForEachCall
one_for_each_call z session calls sent d u = far_enough session calls sent d (far z session calls sent d u)
