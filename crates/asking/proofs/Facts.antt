-- The shape of what house and desks know, and bounds on it: how long lists are, how far counters went, that no stamp is in the future,
-- and that no kept answer says that eight wait.
use Rattle.std.proofs.Common.{◌≡◌, ℕ, zero, suc, ◌+◌, ◌<◌, ◌≤◌, Bool, true, false, eqb, ltb, List, map, length, get_or, set, replicate, sym, refl, ap, ◌∙◌, subst, arith, length-set}
use native.Mathlib.Nat.{min-le_left, min-eq_left}
use lib.ListN.{length-replicate, length-map}
use Rattle.std.proofs.lemmas.Bool.{cond_both, eqb-true, and_parts, ltb-true}
use Rattle.promise.specs.Bytes.{Bytes}
use Rattle.promise.specs.Layout.{is_busy}
use Rattle.promise.specs.Machine.{Machine}
use Rattle.promise.specs.Desks.{Comes, From, Ask, Beat, Clocks, Seen, Stand, World, Goes}
use Rattle.codec.specs.Messages.{Msg, Hello, Welcome, Request, Response, Alive}
use Rattle.asking.specs.Lawful.{Lawful}
use Rattle.asking.specs.House.{next64, Peer, House, HouseTurn, unused, nobody, peer_of, slot_of, with_table, hearing, hello_by, new_change_by, change_by, serve_by, takes_up_by, takes_up, current_by, request_by, house_hears, house_from_by, lapse_by, lapses_from, house_begins, house_goes_on}
use Rattle.asking.specs.Desk.{Slot, Idle, Waiting, Desk, Free, full, free, first_idle, sent_if, sent_now, unsent, unsent_now, not_sent, is_due, call_by, adopts_by, welcome_by, seq_by, slot_by, response_by, desk_hears, desk_from_by, alive_by, tick_by, desk_begins}
use Rattle.asking.specs.Code.{Settings, Mind, house, desk, house_turn, desk_turn, mind_turn, mind_begins, mind_goes_on, asking}
use Rattle.asking.proofs.Arrays.{set_ind, map_ind, replicate_ind, first_idle_0}
use Rattle.asking.proofs.Minds.{OfStand, all_have}

pub next64_most : (n : ℕ) → next64 n ≤ n + 1
next64_most n = min-le_left (n + 1) 18446744073709551615

pub next64_is : (n : ℕ) → n < 18446744073709551615 → next64 n ≡ n + 1
next64_is n l = min-eq_left (omega arith)

-- THE HOUSE

pub record PeerFacts (p : Peer) : Type 0 where
  pub eight_slots : length p.slots ≡ 8
  pub not_busy : (j : ℕ) → is_busy (slot_of p j).answer ≡ false

pub record HouseFacts {mc : Machine} (n t : ℕ) (h : House mc) : Type 0 where
  pub peers64 : length h.peers ≡ 64
  pub heard64 : length h.heard ≡ 64
  pub peer : (i : ℕ) → PeerFacts (peer_of h i)
  pub no_self : (peer_of h 0).session ≡ 0
  pub next' : h.next_session ≤ n + 1
  pub heard' : (i : ℕ) → get_or h.heard i 0 ≤ t

unused_facts : (p : Peer) → p.slots ≡ replicate 8 unused → PeerFacts p
unused_facts p e = record { eight_slots = ap length e ∙ length-replicate 8 unused; not_busy = λ j. subst (λ xs. is_busy (get_or xs j unused).answer ≡ false) (sym e) (replicate_ind (λ d. is_busy d.answer ≡ false) 8 unused unused refl refl j) }

more_steps : {mc : Machine} (n t t' : ℕ) (h : House mc) → t ≤ t' → HouseFacts n t h → HouseFacts (suc n) t' h
more_steps n t t' h l v = record { peers64 = v.peers64; heard64 = v.heard64; peer = v.peer; no_self = v.no_self; next' = (let a = v.next' in omega arith); heard' = λ i. let a = v.heard' i in omega arith }

other_table : {mc : Machine} (n t : ℕ) (h : House mc) (s : mc.State) → HouseFacts n t h → HouseFacts n t (with_table h s)
other_table n t h s v = record { peers64 = v.peers64; heard64 = v.heard64; peer = v.peer; no_self = v.no_self; next' = v.next'; heard' = v.heard' }

module _ {mc : Machine} (law : Lawful mc) (n t : ℕ) where
  -- another table, another next session, and what is known of one desk
  other_peer : (h : House mc) (s : mc.State) (next : ℕ) (i : ℕ) (p : Peer) (n' : ℕ) → 0 < i → PeerFacts p → next ≤ n' + 1 → HouseFacts n t h → HouseFacts {mc = mc} n' t (record { table = s; next_session = next; peers = set h.peers i p; heard = h.heard })
  other_peer h s next i p n' pos y l v =
      record {
        peers64 = length-set h.peers i p ∙ v.peers64;
        heard64 = v.heard64;
        peer = set_ind (λ _ q. PeerFacts q) h.peers i p nobody y v.peer;
        no_self = set_ind (λ b q. b ≡ 0 → q.session ≡ 0) h.peers i p nobody (λ e. absurd (omega arith)) (λ b e. ap (λ c. (get_or h.peers c nobody).session) e ∙ v.no_self) 0 refl;
        next' = l;
        heard' = v.heard';
      }

  f_hello : (i c : ℕ) (a b : Bool) (h : House mc) → 0 < i → HouseFacts n t h → HouseFacts (suc n) t (hello_by i c a b h).house
  unfolding hello_by
  f_hello i c true b h p v = more_steps n t t h (omega arith) v
  f_hello i c false true h p v = more_steps n t t h (omega arith) v
  f_hello i c false false h p v = other_peer h h.table (next64 h.next_session) i _ (suc n) p (record { eight_slots = (v.peer i).eight_slots; not_busy = (v.peer i).not_busy }) (let a = next64_most h.next_session in let b = v.next' in omega arith) v

  f_new : (i s j q : ℕ) (c : Bytes) (b : Bool) (h : House mc) → 0 < i → HouseFacts n t h → HouseFacts n t (new_change_by i s j q c b h).house
  unfolding new_change_by
  f_new i s j q c true h p v = v
  f_new i s j q c false h p v =
      other_peer h (mc.does i c h.table).state h.next_session i _ n p
      (record {
        eight_slots = length-set (peer_of h i).slots j (record { seq = q; answer = (mc.does i c h.table).answer }) ∙ (v.peer i).eight_slots;
        not_busy = set_ind (λ _ d. is_busy d.answer ≡ false) (peer_of h i).slots j (record { seq = q; answer = (mc.does i c h.table).answer }) unused (law.never_busy i c h.table) (v.peer i).not_busy;
      }) v.next' v

  f_change : (i s j q : ℕ) (c : Bytes) (a b : Bool) (h : House mc) → 0 < i → HouseFacts n t h → HouseFacts n t (change_by i s j q c a b h).house
  unfolding change_by
  f_change i s j q c true b h p v = f_new i s j q c false h p v
  f_change i s j q c false true h p v = v
  f_change i s j q c false false h p v = v

  f_serve : (i s j q : ℕ) (c : Bytes) (b : Bool) (h : House mc) → 0 < i → HouseFacts n t h → HouseFacts n t (serve_by i s j q c b h).house
  unfolding serve_by
  f_serve i s j q c true h p v = v
  f_serve i s j q c false h p v = f_change i s j q c _ _ h p v

  f_current : (i s j q : ℕ) (c : Bytes) (b : Bool) (h : House mc) → 0 < i → HouseFacts n t h → HouseFacts n t (current_by i s j q c b h).house
  unfolding current_by
  f_current i s j q c true h p v = f_serve i s j q c _ h p v
  f_current i s j q c false h p v = v

  pub f_takes : (i : ℕ) (b : Bool) (h : House mc) → 0 < i → HouseFacts n t h → HouseFacts n t (takes_up_by i b h)
  unfolding takes_up_by
  f_takes i true h p v = other_peer h (mc.leaves i h.table) h.next_session i _ n p (unused_facts _ refl) v.next' v
  f_takes i false h p v = v

  f_request : (i s j q : ℕ) (c : Bytes) (b : Bool) (h : House mc) → 0 < i → HouseFacts n t h → HouseFacts n t (request_by i s j q c b h).house
  unfolding request_by
  f_request i s j q c true h p v = f_current i s j q c _ (takes_up i s h) p (f_takes i _ h p v)
  f_request i s j q c false h p v = v

  f_hears : (i : ℕ) (x : Msg) (h : House mc) → 0 < i → HouseFacts n t h → HouseFacts (suc n) t (house_hears i x h).house
  unfolding house_hears
  f_hears i (Hello c) h p v = f_hello i c _ _ h p v
  f_hears i (Welcome c s) h p v = more_steps n t t h (omega arith) v
  f_hears i (Request s j q c) h p v = more_steps n t t _ (omega arith) (f_request i s j q c _ h p v)
  f_hears i (Response s j q g a) h p v = more_steps n t t h (omega arith) v
  f_hears i (Alive s) h p v = more_steps n t t h (omega arith) v

  -- it is heard now
  pub f_hearing : (i : ℕ) (h : House mc) → HouseFacts n t h → HouseFacts n t (hearing i t h)
  f_hearing i h v = record { peers64 = v.peers64; heard64 = length-set h.heard i t ∙ v.heard64; peer = v.peer; no_self = v.no_self; next' = v.next'; heard' = set_ind (λ _ u. u ≤ t) h.heard i t 0 (omega arith) v.heard' }

  f_from : (i : ℕ) (x : Msg) (b : Bool) (h : House mc) → (b ≡ true → 0 < i) → HouseFacts n t h → HouseFacts (suc n) t (house_from_by i x t b h).house
  unfolding house_from_by
  f_from i x true h p v = f_hears i x (hearing i t h) (p refl) (f_hearing i h v)
  f_from i x false h p v = more_steps n t t h (omega arith) v

  f_lapse : (i : ℕ) (b : Bool) (x : HouseTurn mc) → HouseFacts n t x.house → HouseFacts n t (lapse_by i b x).house
  unfolding lapse_by
  f_lapse i true x v = other_table n t x.house (mc.leaves i x.house.table) v
  f_lapse i false x v = v

  f_lapses : (i k : ℕ) (h : House mc) → HouseFacts n t h → HouseFacts n t (lapses_from t i k h).house
  unfolding lapses_from
  f_lapses i zero h v = v
  f_lapses i (suc k) h v = f_lapse i _ (lapses_from t (i + 1) k h) (f_lapses (i + 1) k h v)

  f_house : (x : Comes Msg) (h : House mc) → HouseFacts n t h → HouseFacts (suc n) t (house_turn x t h).house
  unfolding house_turn
  f_house (From i x) h v = f_from i x _ h (λ e. ltb-true 0 i (and_parts (ltb 0 i) (ltb i 64) e).0) v
  f_house (Ask k c) h v = more_steps n t t h (omega arith) v
  f_house Beat h v = more_steps n t t _ (omega arith) (f_lapses 1 63 h v)

house_begins_lem : (mc : Machine) (n t : ℕ) → HouseFacts n t (house_begins mc t)
unfolding house_begins
house_begins_lem mc n t =
    record {
      peers64 = length-replicate 64 nobody;
      heard64 = length-replicate 64 t;
      peer = replicate_ind PeerFacts 64 nobody nobody (unused_facts nobody refl) (unused_facts nobody refl);
      no_self = replicate_ind (λ p. p.session ≡ 0) 64 nobody nobody refl refl 0;
      next' = omega arith;
      heard' = replicate_ind (λ u. u ≤ t) 64 t 0 (omega arith) (omega arith);
    }

-- A DESK

abbrev pub SlotFacts : (n t : ℕ) → Slot → Type 0
SlotFacts n t (Idle q) = q ≤ n
SlotFacts n t (Waiting q k c b f l) = (q ≤ n) × (l ≤ t)

pub record DeskFacts (n t : ℕ) (d : Desk) : Type 0 where
  pub eight_slots : length d.slots ≡ 8
  pub slot : (j : ℕ) → SlotFacts n t (get_or d.slots j (Idle 0))

slot_later : (n t t' : ℕ) (x : Slot) → t ≤ t' → SlotFacts n t x → SlotFacts (suc n) t' x
slot_later n t t' (Idle q) l v = let a = v in omega arith
slot_later n t t' (Waiting q k c b f u) l v = let a = v.0 in let e = v.1 in (omega arith, omega arith)

desk_later : (n t t' : ℕ) (d : Desk) → t ≤ t' → DeskFacts n t d → DeskFacts (suc n) t' d
desk_later n t t' d l v = record { eight_slots = v.eight_slots; slot = λ j. slot_later n t t' _ l (v.slot j) }

slots_mapped : (n t : ℕ) (f : Slot → Slot) (xs : List Slot) → ((x : Slot) → SlotFacts n t x → SlotFacts n t (f x)) → ((j : ℕ) → SlotFacts n t (get_or xs j (Idle 0))) → (j : ℕ) → SlotFacts n t (get_or (map f xs) j (Idle 0))
slots_mapped n t f xs g v = map_ind (SlotFacts n t) (SlotFacts n t) f xs (Idle 0) (Idle 0) g (omega arith) v

s_sent_if : (n t : ℕ) (b : Bool) (x : Slot) → SlotFacts n t x → SlotFacts n t (sent_if b t x)
unfolding sent_if
s_sent_if n t true (Idle q) v = v
s_sent_if n t true (Waiting q k c b f l) v = (v.0, omega arith)
s_sent_if n t false (Idle q) v = v
s_sent_if n t false (Waiting q k c b f l) v = v

s_sent : (n t : ℕ) (p : Bool → ℕ → Bool) (x : Slot) → SlotFacts n t x → SlotFacts n t (sent_now p t x)
unfolding sent_now
s_sent n t p (Idle q) v = v
s_sent n t p (Waiting q k c b f l) v = s_sent_if n t (p b l) (Waiting q k c b f l) v

s_unsent : (n t : ℕ) (x : Slot) → SlotFacts n t x → SlotFacts n t (unsent x)
unfolding unsent
s_unsent n t (Idle q) v = v
s_unsent n t (Waiting q k c b f l) v = v

s_unsent_now : (n t : ℕ) (x : Slot) → SlotFacts n t x → SlotFacts n t (unsent_now t x)
unfolding unsent_now
s_unsent_now n t (Idle q) v = v
s_unsent_now n t (Waiting q k c b f l) v = (v.0, omega arith)

module _ (n t : ℕ) where
  other_slots : (xs : List Slot) (f : Slot → Slot) (d : Desk) (d' : Desk) → d'.slots ≡ map f d.slots → ((x : Slot) → SlotFacts n t x → SlotFacts n t (f x)) → DeskFacts n t d → DeskFacts n t d'
  other_slots xs f d d' e g v = record { eight_slots = ap length e ∙ (length-map d.slots f ∙ v.eight_slots); slot = λ j. subst (λ ys. SlotFacts n t (get_or ys j (Idle 0))) (sym e) (slots_mapped n t f d.slots g v.slot j) }

  f_adopts : (s : ℕ) (b : Bool) (d : Desk) → DeskFacts n t d → DeskFacts n t (adopts_by s b d)
  unfolding adopts_by
  f_adopts s true d v = v
  f_adopts s false d v = other_slots d.slots unsent d _ refl (s_unsent n t) v

  f_welcome : (s : ℕ) (b : Bool) (d : Desk) → DeskFacts n t d → DeskFacts n t (welcome_by t s b d).desk
  unfolding welcome_by
  f_welcome s true d v = other_slots d.slots (sent_now not_sent t) (adopts_by s (eqb s d.session) d) _ refl (s_sent n t not_sent) (f_adopts s _ d v)
  f_welcome s false d v = v

  f_seq : (j q k : ℕ) (a : Bytes) (b : Bool) (d : Desk) → (b ≡ true → q ≤ n) → DeskFacts n t d → DeskFacts n t (seq_by j q k a b d).desk
  unfolding seq_by
  f_seq j q k a true d p v = record { eight_slots = length-set d.slots j (Idle q) ∙ v.eight_slots; slot = set_ind (λ _ x. SlotFacts n t x) d.slots j (Idle q) (Idle 0) (p refl) v.slot }
  f_seq j q k a false d p v = v

  f_slot : (j q : ℕ) (a : Bytes) (x : Slot) (d : Desk) → SlotFacts n t x → DeskFacts n t d → DeskFacts n t (slot_by j q a x d).desk
  unfolding slot_by
  f_slot j q a (Idle p) d y v = v
  f_slot j q a (Waiting p k c b f l) d y v = f_seq j q k a (eqb p q) d (λ e. let e' = eqb-true p q e in let y0 = y.0 in omega arith) v

  f_response : (j q : ℕ) (a : Bytes) (b : Bool) (d : Desk) → DeskFacts n t d → DeskFacts n t (response_by j q a b d).desk
  unfolding response_by
  f_response j q a true d v = f_slot j q a (get_or d.slots j (Idle 0)) d (v.slot j) v
  f_response j q a false d v = v

  f_desk_hears : (x : Msg) (d : Desk) → DeskFacts n t d → DeskFacts n t (desk_hears t x d).desk
  unfolding desk_hears
  f_desk_hears (Hello c) d v = v
  f_desk_hears (Welcome c s) d v = f_welcome s _ d v
  f_desk_hears (Request s j q c) d v = v
  f_desk_hears (Response s j q g a) d v = f_response j q a _ d v
  f_desk_hears (Alive s) d v = v

  f_desk_from : (x : Msg) (b : Bool) (d : Desk) → DeskFacts n t d → DeskFacts n t (desk_from_by t x b d).desk
  unfolding desk_from_by
  f_desk_from x true d v = f_desk_hears x d v
  f_desk_from x false d v = v

  f_alive : (b : Bool) (d : Desk) → DeskFacts n t d → DeskFacts n t (alive_by t b d).desk
  unfolding alive_by
  f_alive true d v = record { eight_slots = v.eight_slots; slot = v.slot }
  f_alive false d v = v

  f_tick : (r : ℕ) (a b : Bool) (d : Desk) → DeskFacts n t d → DeskFacts n t (tick_by r t a b d).desk
  unfolding tick_by
  f_tick r false b d v = f_alive _ d v
  f_tick r true true d v = other_slots d.slots (sent_now (is_due r t) t) d _ refl (s_sent n t (is_due r t)) v
  f_tick r true false d v = other_slots d.slots (unsent_now t) d _ refl (s_unsent_now n t) v

  f_call : (grabs : Bytes → Bool) (k : ℕ) (c : Bytes) (y : Free) (d : Desk) → first_idle 0 d.slots ≡ y → DeskFacts n t d → DeskFacts (suc n) t (call_by grabs t k c y d).desk
  unfolding call_by
  f_call grabs k c full d e v = desk_later n t t d (omega arith) v
  f_call grabs k c (free j q) d e v =
      let y = first_idle_0 d.slots j q e in
      let l : q ≤ n = subst (λ x. SlotFacts n t x) y.idle' (v.slot j) in
      record {
        eight_slots = length-set d.slots j _ ∙ v.eight_slots;
        slot = set_ind (λ _ x. SlotFacts (suc n) t x) d.slots j _ (Idle 0) (let a = next64_most q in omega arith, omega arith) (λ i. slot_later n t t _ (omega arith) (v.slot i));
      }

  f_desk : (z : Settings) (x : Comes Msg) (d : Desk) → DeskFacts n t d → DeskFacts (suc n) t (desk_turn z x t d).desk
  unfolding desk_turn
  f_desk z (From i x) d v = desk_later n t t _ (omega arith) (f_desk_from x _ d v)
  f_desk z (Ask k c) d v = f_call z.grabs k c (first_idle 0 d.slots) d refl v
  f_desk z Beat d v = desk_later n t t _ (omega arith) (f_tick z.retry _ _ d v)

desk_begins_lem : (n t r : ℕ) → DeskFacts n t (desk_begins r t)
unfolding desk_begins
desk_begins_lem n t r = record { eight_slots = length-replicate 8 (Idle 0); slot = replicate_ind (SlotFacts n t) 8 (Idle 0) (Idle 0) (omega arith) (omega arith) }

-- ALL

abbrev pub MindFacts : {mc : Machine} → (n i t : ℕ) → Mind mc → Type 0
MindFacts n i t (house h) = HouseFacts n t h
MindFacts n i t (desk d) = DeskFacts n t d

abbrev pub Facts : {mc : Machine} → (n t : ℕ) → Stand (Mind mc) → Type 0
Facts n t x = OfStand (MindFacts n 0 t) x

module _ (mc : Machine) (law : Lawful mc) (z : Settings) where
  m_begins : (n i r t : ℕ) → r < 18446744073709551616 → MindFacts {mc = mc} n 0 t (mind_begins mc i r t)
  unfolding mind_begins
  m_begins n i r t _ = cond_both (eqb i 0) (house (house_begins mc t)) (desk (desk_begins r t)) (MindFacts n 0 t) (λ _. house_begins_lem mc n t) (λ _. desk_begins_lem n t r)

  m_turns : (n i t : ℕ) (x : Comes Msg) (y : Mind mc) → MindFacts n 0 t y → MindFacts (suc n) 0 t (mind_turn z x t y).mind
  unfolding mind_turn
  m_turns n i t x (house h) v = f_house law n t x h v
  m_turns n i t x (desk d) v = f_desk n t z x d v

  m_goes_on : (n i t : ℕ) (y : Mind mc) → MindFacts n 0 t y → MindFacts (suc n) 0 t (mind_goes_on t y)
  unfolding mind_goes_on house_goes_on
  m_goes_on n i t (house h) v = record { peers64 = v.peers64; heard64 = length-replicate 64 t; peer = v.peer; no_self = v.no_self; next' = (let a = v.next' in omega arith); heard' = replicate_ind (λ u. u ≤ t) 64 t 0 (omega arith) (omega arith) }
  m_goes_on n i t (desk d) v = desk_later n t t d (omega arith) v

  m_later : (n i t t' : ℕ) (y : Mind mc) → t ≤ t' → MindFacts n 0 t y → MindFacts (suc n) 0 t' y
  m_later n i t t' (house h) l v = more_steps n t t' h l v
  m_later n i t t' (desk d) l v = desk_later n t t' d l v

  pub all_facts : (clock : ℕ → ℕ → ℕ) → Clocks clock → {all n : ℕ} {es : List Seen} {w : World (Mind mc) Msg} → Goes (asking mc z) clock all n es w → (i : ℕ) → Facts n (clock i w.now) (w.who i)
  all_facts clock clocks {all} g i = all_have mc z clock clocks all (λ n i' t y. MindFacts n 0 t y) m_begins m_turns m_goes_on m_later g i
