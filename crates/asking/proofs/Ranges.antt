-- Everything that is ever said can be written in bytes: numbers of 64 bits, and calls and answers that are not too long.
use Rattle.std.proofs.Common.{◌≡◌, ℕ, zero, suc, ◌+◌, ◌<◌, ◌≤◌, Bool, true, false, cond, not, T, eqb, ltb, List, [], ◌∷◌, ◌++◌, map, length, get_or, set, replicate, sym, refl, ap, subst, inl, inr, arith}
use mathlib.Core.List.Memᴰ
use mathlib.Core.List.{Memᴰ}
use native.Mathlib.Nat.{min-le_right}
use Rattle.std.proofs.lemmas.Bool.{cond_both, ltb-true, ltb-false}
use Rattle.promise.specs.Bytes.{Bytes, all_bytes, every}
use Rattle.promise.specs.Layout.{is_busy}
use Rattle.promise.specs.Machine.{Machine}
use Rattle.promise.specs.Desks.{Comes, From, Ask, Beat, Does, To, Tell, Lapse, Letter, Seen, posted, at, Stand, gone, dark, there, World, Clocks, Goes, first, time, hears, garbled, asked, beats, falls, comes, lights}
use Rattle.codec.specs.Messages.{Msg, Hello, Welcome, Request, Response, Alive, Sayable}
use Rattle.asking.specs.Lawful.{Lawful, longest_call}
use Rattle.asking.specs.House.{next64, Peer, House, HouseTurn, unused, nobody, peer_of, slot_of, hearing, hello_by, new_change_by, change_by, serve_by, takes_up_by, takes_up, current_by, request_by, house_hears, house_from_by, lapse_by, lapses_from, house_begins, house_goes_on}
use Rattle.asking.specs.Desk.{Slot, Idle, Waiting, Desk, DeskTurn, Free, full, free, first_idle, say_if, requests, sent_if, sent_now, unsent, unsent_now, not_sent, is_due, first_said, call_by, shortened, adopts_by, welcome_by, seq_by, slot_by, response_by, desk_hears, desk_from_by, alive_by, tick_by, desk_begins}
use Rattle.asking.specs.Code.{Settings, Mind, house, desk, Turn, house_turn, desk_turn, mind_turn, mind_begins, mind_goes_on, asking}
use Rattle.asking.proofs.Base.{at_ind}
use Rattle.asking.proofs.Arrays.{set_ind, map_ind, replicate_ind, first_idle_0}
use Rattle.asking.proofs.Facts.{DeskFacts, Facts, all_facts}
use Rattle.asking.proofs.Minds.{OfStand}

abbrev pub Word64 : ℕ → Type 0
Word64 n = n < 18446744073709551616

next64_fits : (n : ℕ) → Word64 (next64 n)
next64_fits n = let a = min-le_right (n + 1) 18446744073709551615 in omega arith

pub record AnswerOk (a : Bytes) : Type 0 where
  pub short : length a < 2147483648
  pub bytes : T (all_bytes a)
  pub not_busy : T (not (is_busy a))

abbrev pub SaidOk : List (Does Msg) → Type 0
SaidOk [] = Unit {0}
SaidOk (To j m ∷ ds) = Sayable m × SaidOk ds
SaidOk (Tell k r ∷ ds) = SaidOk ds
SaidOk (Lapse j ∷ ds) = SaidOk ds

posted_ok : (i t : ℕ) (ds : List (Does Msg)) → SaidOk ds → (l : Letter Msg) → Memᴰ l (posted i t ds) → Sayable l.word
unfolding posted
posted_ok i t [] s l m = absurd (Memᴰ.not-nil m)
posted_ok i t (To j x ∷ ds) s l m = elim (Memᴰ.cases_cons m) [ inl e ↦ subst (λ y. Sayable y.word) (sym e) s.0 | inr m' ↦ posted_ok i t ds s.1 l m' ]
posted_ok i t (Tell k r ∷ ds) s l m = posted_ok i t ds s l m
posted_ok i t (Lapse j ∷ ds) s l m = posted_ok i t ds s l m

-- THE HOUSE

pub record PeerOk (p : Peer) : Type 0 where
  pub session' : Word64 p.session
  pub offered' : Word64 p.offered_session
  pub kept : (j : ℕ) → AnswerOk (slot_of p j).answer

pub record HouseOk {mc : Machine} (law : Lawful mc) (h : House mc) : Type 0 where
  pub table' : law.ok h.table
  pub next' : Word64 h.next_session
  pub peer : (i : ℕ) → PeerOk (peer_of h i)

pub record HouseOut {mc : Machine} (law : Lawful mc) (t : HouseTurn mc) : Type 0 where
  pub is' : HouseOk law t.house
  pub said : SaidOk t.does

no_answer : AnswerOk []
unfolding every
no_answer = record { short = omega arith; bytes = tt; not_busy = tt }

unused_ok : (j : ℕ) → AnswerOk (get_or (replicate 8 unused) j unused).answer
unused_ok j = replicate_ind (λ d. AnswerOk d.answer) 8 unused unused no_answer no_answer j

not_busy_lem : (a : Bytes) → is_busy a ≡ false → T (not (is_busy a))
not_busy_lem a e = subst (λ b. T (not b)) (sym e) tt

module _ {mc : Machine} (law : Lawful mc) where
  answer_ok : (i : ℕ) (c : Bytes) (s : mc.State) → law.ok s → AnswerOk (mc.does i c s).answer
  answer_ok i c s o = record { short = law.answers_fit i c s o; bytes = law.answers_bytes i c s o; not_busy = not_busy_lem (mc.does i c s).answer (law.never_busy i c s) }

  response_ok : (s j q : ℕ) (a : Bytes) → Word64 s → j < 8 → Word64 q → AnswerOk a → Sayable (Response s j q 0 a)
  response_ok s j q a ls lj lq o = (ls, omega arith, lq, omega arith, o.short, o.bytes, o.not_busy)

  other_peer : (h : House mc) (s : mc.State) (next i : ℕ) (p : Peer) → law.ok s → Word64 next → PeerOk p → HouseOk law h → HouseOk law (record { table = s; next_session = next; peers = set h.peers i p; heard = h.heard })
  other_peer h s next i p o l y v = record { table' = o; next' = l; peer = set_ind (λ _ q. PeerOk q) h.peers i p nobody y v.peer }

  r_hello : (i c : ℕ) (a b : Bool) (h : House mc) → Word64 c → HouseOk law h → HouseOut law (hello_by i c a b h)
  unfolding hello_by
  r_hello i c true b h lc v = record { is' = v; said = ((lc, (v.peer i).session'), tt) }
  r_hello i c false true h lc v = record { is' = v; said = ((lc, (v.peer i).offered'), tt) }
  r_hello i c false false h lc v = record { is' = other_peer h h.table (next64 h.next_session) i _ v.table' (next64_fits h.next_session) (record { session' = (v.peer i).session'; offered' = v.next'; kept = (v.peer i).kept }) v; said = ((lc, v.next'), tt) }

  module _ (i s j q : ℕ) (c : Bytes) (ls : Word64 s) (lj : j < 8) (lq : Word64 q) where
    r_change : (a b : Bool) (h : House mc) → HouseOk law h → HouseOut law (change_by i s j q c a b h)
    unfolding change_by new_change_by
    r_change true b h v =
        let o = answer_ok i c h.table v.table' in
        record {
          is' = other_peer h (mc.does i c h.table).state h.next_session i _ (law.ok_does i c h.table v.table') v.next' (record { session' = (v.peer i).session'; offered' = (v.peer i).offered'; kept = set_ind (λ _ d. AnswerOk d.answer) (peer_of h i).slots j (record { seq = q; answer = (mc.does i c h.table).answer }) unused o (v.peer i).kept }) v;
          said = (response_ok s j q (mc.does i c h.table).answer ls lj lq o, tt);
        }
    r_change false true h v = record { is' = v; said = (response_ok s j q (slot_of (peer_of h i) j).answer ls lj lq ((v.peer i).kept j), tt) }
    r_change false false h v = record { is' = v; said = tt }

    r_serve : (b : Bool) (h : House mc) → HouseOk law h → HouseOut law (serve_by i s j q c b h)
    unfolding serve_by
    r_serve true h v = record { is' = v; said = (response_ok s j q (mc.does i c h.table).answer ls lj lq (answer_ok i c h.table v.table'), tt) }
    r_serve false h v = r_change _ _ h v

    r_current : (b : Bool) (h : House mc) → HouseOk law h → HouseOut law (current_by i s j q c b h)
    unfolding current_by
    r_current true h v = r_serve (mc.reads c) h v
    r_current false h v = record { is' = v; said = tt }

  r_takes : (i : ℕ) (b : Bool) (h : House mc) → HouseOk law h → HouseOk law (takes_up_by i b h)
  unfolding takes_up_by
  r_takes i true h v = other_peer h (mc.leaves i h.table) h.next_session i _ (law.ok_leaves i h.table v.table') v.next' (record { session' = (v.peer i).offered'; offered' = omega arith; kept = unused_ok }) v
  r_takes i false h v = v

  r_request : (i s j q : ℕ) (c : Bytes) (b : Bool) (h : House mc) → ltb j 8 ≡ b → Word64 s → Word64 q → HouseOk law h → HouseOut law (request_by i s j q c b h)
  unfolding request_by
  r_request i s j q c true h e ls lq v = r_current i s j q c ls (ltb-true j 8 e) lq _ (takes_up i s h) (r_takes i _ h v)
  r_request i s j q c false h e ls lq v = record { is' = v; said = tt }

  r_hears : (i : ℕ) (x : Msg) (h : House mc) → Sayable x → HouseOk law h → HouseOut law (house_hears i x h)
  unfolding house_hears
  r_hears i (Hello c) h s v = r_hello i c _ _ h s v
  r_hears i (Welcome c s') h s v = record { is' = v; said = tt }
  r_hears i (Request s' j q c) h s v = r_request i s' j q c _ h refl s.0 s.2 v
  r_hears i (Response s' j q gr a) h s v = record { is' = v; said = tt }
  r_hears i (Alive s') h s v = record { is' = v; said = tt }

  r_from : (i t : ℕ) (x : Msg) (b : Bool) (h : House mc) → Sayable x → HouseOk law h → HouseOut law (house_from_by i x t b h)
  unfolding house_from_by
  r_from i t x true h s v = r_hears i x (hearing i t h) s (record { table' = v.table'; next' = v.next'; peer = v.peer })
  r_from i t x false h s v = record { is' = v; said = tt }

  r_lapse : (i : ℕ) (b : Bool) (x : HouseTurn mc) → HouseOut law x → HouseOut law (lapse_by i b x)
  unfolding lapse_by
  r_lapse i true x v = record { is' = record { table' = law.ok_leaves i x.house.table v.is'.table'; next' = v.is'.next'; peer = v.is'.peer }; said = v.said }
  r_lapse i false x v = v

  r_lapses : (t i k : ℕ) (h : House mc) → HouseOk law h → HouseOut law (lapses_from t i k h)
  unfolding lapses_from
  r_lapses t i zero h v = record { is' = v; said = tt }
  r_lapses t i (suc k) h v = r_lapse i _ (lapses_from t (i + 1) k h) (r_lapses t (i + 1) k h v)

-- what can come
abbrev pub ComesOk : Comes Msg → Type 0
ComesOk (From i x) = Sayable x
ComesOk (Ask k c) = T (all_bytes c)
ComesOk Beat = Unit {0}

r_house : {mc : Machine} (law : Lawful mc) (x : Comes Msg) (t : ℕ) (h : House mc) → ComesOk x → HouseOk law h → HouseOut law (house_turn x t h)
unfolding house_turn
r_house law (From i x) t h s v = r_from law i t x _ h s v
r_house law (Ask k c) t h s v = record { is' = v; said = tt }
r_house law Beat t h s v = r_lapses law t 1 63 h v

r_begins : {mc : Machine} (law : Lawful mc) (t : ℕ) → HouseOk law (house_begins mc t)
unfolding house_begins
r_begins law t =
    let p : PeerOk nobody = record { session' = omega arith; offered' = omega arith; kept = unused_ok } in
    record { table' = law.ok_start; next' = omega arith; peer = replicate_ind PeerOk 64 nobody nobody p p }

-- A DESK

abbrev pub CallOk : Bytes → Type 0
CallOk c = (length c ≤ 1048850) × T (all_bytes c)

abbrev SlotOk : Slot → Type 0
SlotOk (Idle q) = Word64 q
SlotOk (Waiting q k c b f l) = Word64 q × CallOk c

record DeskOk (d : Desk) : Type 0 where
  nonce' : Word64 d.nonce
  session' : Word64 d.session
  slot : (j : ℕ) → SlotOk (get_or d.slots j (Idle 0))

record DeskOut (t : DeskTurn) : Type 0 where
  is' : DeskOk t.desk
  said : SaidOk t.does

shortened_ok : (c : Bytes) → T (all_bytes c) → CallOk (shortened c)
unfolding every
shortened_ok c o = cond_both (ltb longest_call (length c)) [] c CallOk (λ _. (omega arith, tt)) (λ e. (ltb-false longest_call (length c) e, o))

request_said : (s j q : ℕ) (c : Bytes) → Word64 s → j < 256 → Word64 q → CallOk c → Sayable (Request s j q c)
request_said s j q c ls lj lq o = let l = o.0 in (ls, lj, lq, omega arith, o.1)

say_ok : (b : Bool) (m : Msg) (ds : List (Does Msg)) → Sayable m → SaidOk ds → SaidOk (say_if b (To 0 m) ds)
unfolding say_if
say_ok true m ds s v = (s, v)
say_ok false m ds s v = v

requests_ok : (p : Bool → ℕ → Bool) (s j0 : ℕ) (xs : List Slot) → Word64 s → j0 + length xs ≤ 256 → ((j : ℕ) → SlotOk (get_or xs j (Idle 0))) → SaidOk (requests p s j0 xs)
unfolding requests
requests_ok p s j0 [] ls l f = tt
requests_ok p s j0 (Idle q ∷ xs) ls l f = requests_ok p s (j0 + 1) xs ls (omega arith) (λ j. f (suc j))
requests_ok p s j0 (Waiting q k c b f' u ∷ xs) ls l f = say_ok (p b u) (Request s j0 q c) (requests p s (j0 + 1) xs) (request_said s j0 q c ls (omega arith) (f zero).0 (f zero).1) (requests_ok p s (j0 + 1) xs ls (omega arith) (λ j. f (suc j)))

slots_mapped : (f : Slot → Slot) (xs : List Slot) → ((y : Slot) → SlotOk y → SlotOk (f y)) → ((j : ℕ) → SlotOk (get_or xs j (Idle 0))) → (j : ℕ) → SlotOk (get_or (map f xs) j (Idle 0))
slots_mapped f xs g v = map_ind SlotOk SlotOk f xs (Idle 0) (Idle 0) g (omega arith) v

o_sent_if : (b : Bool) (t : ℕ) (y : Slot) → SlotOk y → SlotOk (sent_if b t y)
unfolding sent_if
o_sent_if true t (Idle q) v = v
o_sent_if true t (Waiting q k c b f l) v = v
o_sent_if false t (Idle q) v = v
o_sent_if false t (Waiting q k c b f l) v = v

o_sent : (p : Bool → ℕ → Bool) (t : ℕ) (y : Slot) → SlotOk y → SlotOk (sent_now p t y)
unfolding sent_now
o_sent p t (Idle q) v = v
o_sent p t (Waiting q k c b f l) v = o_sent_if (p b l) t (Waiting q k c b f l) v

o_unsent : (y : Slot) → SlotOk y → SlotOk (unsent y)
unfolding unsent
o_unsent (Idle q) v = v
o_unsent (Waiting q k c b f l) v = v

o_unsent_now : (t : ℕ) (y : Slot) → SlotOk y → SlotOk (unsent_now t y)
unfolding unsent_now
o_unsent_now t (Idle q) v = v
o_unsent_now t (Waiting q k c b f l) v = v

r_adopts : (s : ℕ) (b : Bool) (d : Desk) → Word64 s → DeskOk d → DeskOk (adopts_by s b d)
unfolding adopts_by
r_adopts s true d l v = v
r_adopts s false d l v = record { nonce' = v.nonce'; session' = l; slot = slots_mapped unsent d.slots o_unsent v.slot }

adopts_length : (s : ℕ) (b : Bool) (d : Desk) → length (adopts_by s b d).slots ≡ length d.slots
unfolding adopts_by
adopts_length s true d = refl
adopts_length s false d = length_mapped unsent d.slots
  where
    length_mapped : (f : Slot → Slot) (xs : List Slot) → length (map f xs) ≡ length xs
    length_mapped f [] = refl
    length_mapped f (x ∷ xs) = ap suc (length_mapped f xs)

module _ (d : Desk) (l8 : length d.slots ≡ 8) (v : DeskOk d) where
  r_still : DeskOut (record { does = []; desk = d })
  r_still = record { is' = v; said = tt }

  r_welcome : (t s : ℕ) (b : Bool) → Word64 s → DeskOut (welcome_by t s b d)
  unfolding welcome_by
  r_welcome t s true l =
      let d1 : Desk = adopts_by s (eqb s d.session) d in
      let v1 : DeskOk d1 = r_adopts s (eqb s d.session) d l v in
      let l1 = adopts_length s (eqb s d.session) d in
      record {
        is' = record { nonce' = v1.nonce'; session' = v1.session'; slot = slots_mapped (sent_now not_sent t) d1.slots (o_sent not_sent t) v1.slot };
        said = requests_ok not_sent d1.session 0 d1.slots v1.session' (omega arith) v1.slot;
      }
  r_welcome t s false l = r_still

  r_seq : (j q k : ℕ) (a : Bytes) (b : Bool) → (b ≡ true → Word64 q) → DeskOut (seq_by j q k a b d)
  unfolding seq_by
  r_seq j q k a true l = record { is' = record { nonce' = v.nonce'; session' = v.session'; slot = set_ind (λ _ y. SlotOk y) d.slots j (Idle q) (Idle 0) (l refl) v.slot }; said = tt }
  r_seq j q k a false l = r_still

  r_slot : (j q : ℕ) (a : Bytes) (y : Slot) → Word64 q → DeskOut (slot_by j q a y d)
  unfolding slot_by
  r_slot j q a (Idle p) l = r_still
  r_slot j q a (Waiting p k c b f u) l = r_seq j q k a (eqb p q) (λ _. l)

  r_response : (j q : ℕ) (a : Bytes) (b : Bool) → Word64 q → DeskOut (response_by j q a b d)
  unfolding response_by
  r_response j q a true l = r_slot j q a (get_or d.slots j (Idle 0)) l
  r_response j q a false l = r_still

  r_desk_hears : (t : ℕ) (x : Msg) → Sayable x → DeskOut (desk_hears t x d)
  unfolding desk_hears
  r_desk_hears t (Hello c) s = r_still
  r_desk_hears t (Welcome c s') s = r_welcome t s' _ s.1
  r_desk_hears t (Request s' j q c) s = r_still
  r_desk_hears t (Response s' j q gr a) s = r_response j q a _ s.2
  r_desk_hears t (Alive s') s = r_still

  r_desk_from : (t : ℕ) (x : Msg) (b : Bool) → Sayable x → DeskOut (desk_from_by t x b d)
  unfolding desk_from_by
  r_desk_from t x true s = r_desk_hears t x s
  r_desk_from t x false s = r_still

  r_alive : (t : ℕ) (b : Bool) → DeskOut (alive_by t b d)
  unfolding alive_by
  r_alive t true = record { is' = record { nonce' = v.nonce'; session' = v.session'; slot = v.slot }; said = (v.session', tt) }
  r_alive t false = r_still

  r_tick : (r t : ℕ) (a b : Bool) → DeskOut (tick_by r t a b d)
  unfolding tick_by
  r_tick r t false b = r_alive t _
  r_tick r t true true = record { is' = record { nonce' = v.nonce'; session' = v.session'; slot = slots_mapped (sent_now (is_due r t) t) d.slots (o_sent (is_due r t) t) v.slot }; said = requests_ok (is_due r t) d.session 0 d.slots v.session' (omega arith) v.slot }
  r_tick r t true false = record { is' = record { nonce' = v.nonce'; session' = v.session'; slot = slots_mapped (unsent_now t) d.slots (o_unsent_now t) v.slot }; said = (v.nonce', tt) }

  first_ok : (j q : ℕ) (c : Bytes) (a b : Bool) → j < 256 → Word64 q → CallOk c → SaidOk (first_said d j q c a b)
  unfolding first_said
  first_ok j q c false b lj lq o = (request_said d.session j q c v.session' lj lq o, tt)
  first_ok j q c true true lj lq o = (v.nonce', tt)
  first_ok j q c true false lj lq o = tt

  r_call : (grabs : Bytes → Bool) (t k : ℕ) (c : Bytes) (y : Free) → first_idle 0 d.slots ≡ y → T (all_bytes c) → DeskOut (call_by grabs t k c y d)
  unfolding call_by
  r_call grabs t k c full e o = record { is' = v; said = tt }
  r_call grabs t k c (free j q) e o =
      let c' = shortened_ok c o in
      let lj = (first_idle_0 d.slots j q e).inside in
      record {
        is' = record { nonce' = v.nonce'; session' = v.session'; slot = set_ind (λ _ y. SlotOk y) d.slots j _ (Idle 0) (next64_fits q, c') v.slot };
        said = first_ok j (next64 q) (shortened c) _ _ (omega arith) (next64_fits q) c';
      }

  r_desk : (z : Settings) (x : Comes Msg) (t : ℕ) → ComesOk x → DeskOut (desk_turn z x t d)
  unfolding desk_turn
  r_desk z (From i x) t s = r_desk_from t x _ s
  r_desk z (Ask k c) t s = r_call z.grabs t k c (first_idle 0 d.slots) refl s
  r_desk z Beat t s = r_tick z.retry t _ _

r_desk_begins : (r t : ℕ) → Word64 r → DeskOk (desk_begins r t)
unfolding desk_begins
r_desk_begins r t l = record { nonce' = l; session' = omega arith; slot = replicate_ind SlotOk 8 (Idle 0) (Idle 0) (omega arith) (omega arith) }

-- ALL THAT IS SAID

abbrev MindOk : {mc : Machine} → Lawful mc → Mind mc → Type 0
MindOk law (house h) = HouseOk law h
MindOk law (desk d) = DeskOk d

record AllOk {mc : Machine} (law : Lawful mc) (who : ℕ → Stand (Mind mc)) (letters : List (Letter Msg)) : Type 0 where
  minds : (i : ℕ) → OfStand (MindOk law) (who i)
  said : (l : Letter Msg) → Memᴰ l letters → Sayable l.word

module _ {mc : Machine} (law : Lawful mc) (z : Settings) where
  -- the shape of a desk
  abbrev Shape : Mind mc → Type 0
  Shape (house h) = Unit {0}
  Shape (desk d) = length d.slots ≡ 8

  shape_of : (n t : ℕ) (s : Stand (Mind mc)) (y : Mind mc) → s ≡ there y → Facts n t s → Shape y
  shape_of n t s (house h) e f = tt
  shape_of n t s (desk d) e f = let f' : DeskFacts n t d = subst (λ s'. Facts n t s') e f in f'.eight_slots

  record MindOut (t : Turn mc) : Type 0 where
    is' : MindOk law t.mind
    said : SaidOk t.does

  r_mind : (x : Comes Msg) (t : ℕ) (y : Mind mc) → Shape y → ComesOk x → MindOk law y → MindOut (mind_turn z x t y)
  unfolding mind_turn
  r_mind x t (house h) sh s v = let u = r_house law x t h s v in record { is' = u.is'; said = u.said }
  r_mind x t (desk d) sh s v = let u = r_desk d sh v z x t s in record { is' = u.is'; said = u.said }

  turned_ok : (who : ℕ → Stand (Mind mc)) (letters : List (Letter Msg)) (now n t i : ℕ) (y : Mind mc) (x : Comes Msg) → who i ≡ there y → Facts n t (who i) → ComesOk x → AllOk law who letters → AllOk law (at i (there (mind_turn z x t y).mind) who) (posted i now (mind_turn z x t y).does ++ letters)
  turned_ok who letters now n t i y x e f s v =
      let u = r_mind x t y (shape_of n t (who i) y e f) s (subst (λ s'. OfStand (MindOk law) s') e (v.minds i)) in
      record {
        minds = at_ind (λ _ s'. OfStand (MindOk law) s') i (there (mind_turn z x t y).mind) who u.is' (λ b _. v.minds b);
        said = λ l m. elim (Memᴰ.append_cases (posted i now (mind_turn z x t y).does) m) [ inl a ↦ posted_ok i now (mind_turn z x t y).does u.said l a | inr b ↦ v.said l b ];
      }

  m_begins : (i r t : ℕ) → Word64 r → MindOk law (mind_begins mc i r t)
  unfolding mind_begins
  m_begins i r t l = cond_both (eqb i 0) (house (house_begins mc t)) (desk (desk_begins r t)) (MindOk law) (λ _. r_begins law t) (λ _. r_desk_begins r t l)

  m_goes_on : (t : ℕ) (y : Mind mc) → MindOk law y → MindOk law (mind_goes_on t y)
  unfolding mind_goes_on house_goes_on
  m_goes_on t (house h) v = record { table' = v.table'; next' = v.next'; peer = v.peer }
  m_goes_on t (desk d) v = v

  module _ (clock : ℕ → ℕ → ℕ) (clocks : Clocks clock) where
    all_ok : {all n : ℕ} {es : List Seen} {w : World (Mind mc) Msg} → Goes (asking mc z) clock all n es w → AllOk law w.who w.letters
    all_ok first = record { minds = λ i. cond_both (eqb i 0) (there (mind_begins mc 0 0 (clock 0 0))) gone (OfStand (MindOk law)) (λ _. m_begins 0 0 (clock 0 0) (omega arith)) (λ _. tt); said = λ l m. absurd (Memᴰ.not-nil m) }
    all_ok (time g) = all_ok g
    all_ok (hears {n = n} {w = w} i y l a g e m to) = turned_ok w.who w.letters w.now n (clock i w.now) i y (From l.by l.word) e (all_facts mc law z clock clocks g i) ((all_ok g).said l m) (all_ok g)
    all_ok (garbled i j y x a t g e) = absurd t
    all_ok (asked {n = n} {w = w} i k c y p a b t g e u) = turned_ok w.who w.letters w.now n (clock i w.now) i y (Ask k c) e (all_facts mc law z clock clocks g i) t (all_ok g)
    all_ok (beats {n = n} {w = w} i y a g e) = turned_ok w.who w.letters w.now n (clock i w.now) i y Beat e (all_facts mc law z clock clocks g i) tt (all_ok g)
    all_ok (falls {w = w} i y a g e) = record { minds = at_ind (λ _ s'. OfStand (MindOk law) s') i (cond (eqb i 0) (dark y) gone) w.who (cond_both (eqb i 0) (dark y) gone (OfStand (MindOk law)) (λ _. subst (λ s'. OfStand (MindOk law) s') e ((all_ok g).minds i)) (λ _. tt)) (λ b _. (all_ok g).minds b); said = (all_ok g).said }
    all_ok (comes {w = w} i r p a b new g e) = record { minds = at_ind (λ _ s'. OfStand (MindOk law) s') i (there (mind_begins mc i r (clock i w.now))) w.who (m_begins i r (clock i w.now) b) (λ b' _. (all_ok g).minds b'); said = (all_ok g).said }
    all_ok (lights {w = w} y g e) = record { minds = at_ind (λ _ s'. OfStand (MindOk law) s') 0 (there (mind_goes_on (clock 0 w.now) y)) w.who (m_goes_on (clock 0 w.now) y (subst (λ s'. OfStand (MindOk law) s') e ((all_ok g).minds 0))) (λ b _. (all_ok g).minds b); said = (all_ok g).said }

    pub all_sayable : {all n : ℕ} {es : List Seen} {w : World (Mind mc) Msg} → Goes (asking mc z) clock all n es w → (l : Letter Msg) → Memᴰ l w.letters → Sayable l.word
    all_sayable g = (all_ok g).said
