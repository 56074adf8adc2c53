-- The model's clauses at a hello and at a request, as what is known, the table and what is said.
use Rattle.std.proofs.Common.{◌≡◌, ℕ, Bool, true, false, cond, eqb, ltb, List, [], ◌∷◌, map, sym, refl, ap, subst, ◌∙◌}
use Rattle.promise.specs.Bytes.{Bytes}
use Rattle.promise.specs.Sheets.{State}
use Rattle.promise.specs.Desks.{Does, To}
use Rattle.codec.specs.Messages.{Msg, Welcome, Response, encode_msg}
use Rattle.asking.specs.House.{House, HouseTurn, hello, hello_by, takes_up, takes_up_by, current, current_by, serve_by, change_by, new_change_by, request_by, slot_of, eight}
use Rattle.asking.specs.Code.{saying}
use Rattle.sessions.specs.Peers.{Admission, query, change, again, ignore}
use Rattle.sessions.specs.Known.{Known, welcomed, greeted, is_taken_up, taking_up, offering_to, peer_in, admitted, keeping, setting_peer}
use Rattle.sessions.specs.Peers.{promoted}
use Rattle.sessions.specs.declared.peer.Admit.{Admit}
use Rattle.sessions.specs.View.{admit_view}
use Rattle.house_side.specs.Tables.{machine, reads, answer_to, after, leaves}
use Rattle.house_side.specs.Houses.{house_of, turn_of, Spoken, spoken}

-- the table after a session was taken up, if it was offered
abbrev taken_up : (i session : ℕ) → Known → State → State
taken_up i s k t = cond (is_taken_up i s k) (leaves i t) t

-- what an admitted request says
abbrev admitted_does : Admission → (room i session slot seq : ℕ) → Bytes → State → List (Does Msg)
admitted_does query room i s j q c t = To i (Response s j q 0 (answer_to room i c t)) ∷ []
admitted_does change room i s j q c t = To i (Response s j q 0 (answer_to room i c t)) ∷ []
admitted_does (again a) room i s j q c t = To i (Response s j q 0 a) ∷ []
admitted_does ignore room i s j q c t = []

abbrev admitted_known : Admission → (room i slot seq : ℕ) → Bytes → State → Known → Known
admitted_known query room i j q c t k = k
admitted_known change room i j q c t k = keeping i j q (answer_to room i c t) k
admitted_known (again a) room i j q c t k = k
admitted_known ignore room i j q c t k = k

abbrev admitted_table : Admission → (room i : ℕ) → Bytes → State → State
admitted_table query room i c t = t
admitted_table change room i c t = after room i c t
admitted_table (again a) room i c t = t
admitted_table ignore room i c t = t

-- what the house says, in messages, and what it knows then
abbrev saying_of : (room : ℕ) → State → Known → List (Does Msg) → HouseTurn (machine room)
saying_of room s k o = record { does = o; house = house_of room s k }

hello_by_lem : (room : ℕ) (s : State) (k : Known) (i c : ℕ) (a b : Bool) →
    hello_by i c a b (house_of room s k) ≡
    saying_of room s (cond a k (cond b k (offering_to i c k))) (To i (Welcome c (cond a (peer_in i k).session (cond b (peer_in i k).offered_session k.next))) ∷ [])
unfolding hello_by
hello_by_lem room s k i c true b = refl
hello_by_lem room s k i c false true = refl
hello_by_lem room s k i c false false = refl

pub hello_is : (room : ℕ) (s : State) (k : Known) (i c : ℕ) →
    hello i c (house_of room s k) ≡ saying_of room s (greeted i c k) (To i (Welcome c (welcomed i c k)) ∷ [])
hello_is room s k i c = hello_by_lem room s k i c _ _

takes_up_by_lem : (room : ℕ) (s : State) (k : Known) (i : ℕ) (a : Bool) →
    takes_up_by i a (house_of room s k) ≡ house_of room (cond a (leaves i s) s) (cond a (setting_peer i (promoted (peer_in i k)) k) k)
unfolding takes_up_by
takes_up_by_lem room s k i true = refl
takes_up_by_lem room s k i false = refl

pub takes_up_is : (room : ℕ) (s : State) (k : Known) (i x : ℕ) → takes_up i x (house_of room s k) ≡ house_of room (taken_up i x k s) (taking_up i x k)
takes_up_is room s k i x = takes_up_by_lem room s k i _

-- what an admitted request leaves and says
abbrev admitted_turn : Admission → (room i session slot seq : ℕ) → Bytes → State → Known → HouseTurn (machine room)
admitted_turn a room i x j q c s k = saying_of room (admitted_table a room i c s) (admitted_known a room i j q c s k) (admitted_does a room i x j q c s)

abbrev again_of : (i slot : ℕ) → Known → Admission
again_of i j k = again (slot_of (peer_in i k) j).answer

change_by_lem : (room : ℕ) (s : State) (k : Known) (i x j q : ℕ) (c : Bytes) (newer same : Bool) →
    change_by i x j q c newer same (house_of room s k) ≡ admitted_turn (cond newer change (cond same (again_of i j k) ignore)) room i x j q c s k
unfolding change_by new_change_by
change_by_lem room s k i x j q c true same = refl
change_by_lem room s k i x j q c false true = refl
change_by_lem room s k i x j q c false false = refl

abbrev change_of_lem : (i slot seq : ℕ) → Known → Admission
change_of_lem i j q k = cond (ltb (slot_of (peer_in i k) j).seq q) change (cond (eqb (slot_of (peer_in i k) j).seq q) (again_of i j k) ignore)

serve_by_lem : (room : ℕ) (s : State) (k : Known) (i x j q : ℕ) (c : Bytes) (rd : Bool) →
    serve_by i x j q c rd (house_of room s k) ≡ admitted_turn (cond rd query (change_of_lem i j q k)) room i x j q c s k
unfolding serve_by
serve_by_lem room s k i x j q c true = refl
serve_by_lem room s k i x j q c false = change_by_lem room s k i x j q c _ _

current_by_lem : (room : ℕ) (s : State) (k : Known) (i x j q : ℕ) (c : Bytes) (cur : Bool) →
    current_by i x j q c cur (house_of room s k) ≡ admitted_turn (cond cur (cond (reads c) query (change_of_lem i j q k)) ignore) room i x j q c s k
unfolding current_by
current_by_lem room s k i x j q c true = serve_by_lem room s k i x j q c (reads c)
current_by_lem room s k i x j q c false = refl

pub current_is : (room : ℕ) (s : State) (k : Known) (i x j q : ℕ) (c : Bytes) →
    current i x j q c (house_of room s k) ≡ admitted_turn (admitted i x j q (reads c) k) room i x j q c s k
current_is room s k i x j q c = current_by_lem room s k i x j q c _

-- a session is taken up, if it is the one that is offered
pub taken_up_is : (room : ℕ) (s s₁ : State) (k k₁ : Known) (i x : ℕ) (b : Bool) → b ≡ is_taken_up i x k → s₁ ≡ cond b (leaves i s) s → k₁ ≡ taking_up i x k →
    house_of room s₁ k₁ ≡ takes_up i x (house_of room s k)
taken_up_is room s s₁ k k₁ i x b e es ek = (λ z. house_of room ((es ∙ ap (λ (v : Bool). cond v (leaves i s) s) e) z) (ek z)) ∙ sym (takes_up_is room s k i x)

-- a new change
pub changed : (room : ℕ) (s s₁ : State) (k k₁ : Known) (d i x j q : ℕ) (c a : Bytes) (o : List (Does Bytes)) → d ≡ i → a ≡ answer_to room d c s → s₁ ≡ after room d c s →
    k₁ ≡ keeping i j q a k → o ≡ To d (encode_msg (Response x j q 0 a)) ∷ [] → turn_of room s₁ k₁ o ≡ spoken (new_change_by i x j q c false (house_of room s k))
unfolding new_change_by
changed room s s₁ k k₁ d i x j q c a o at ea es ek eo =
    let answer : a ≡ answer_to room i c s = ea ∙ ap (λ (n : ℕ). answer_to room n c s) at in
    λ z. turn_of room ((es ∙ ap (λ (n : ℕ). after room n c s) at) z) ((ek ∙ ap (λ (b : Bytes). keeping i j q b k) answer) z)
    ((eo ∙ (λ y. To (at y) (encode_msg (Response x j q 0 (answer y))) ∷ [])) z)

-- a request that was admitted so
module _ (room : ℕ) (s : State) (k : Known) (i x j q : ℕ) (c : Bytes) (r : Admit) (rd : Bool) (only_reads : rd ≡ reads c) (admits : admit_view r ≡ admitted i x j q rd k) where
  served_by : (a : Admission) → admit_view r ≡ a → spoken (admitted_turn a room i x j q c s k) ≡ spoken (current i x j q c (house_of room s k))
  served_by a e =
      let is : a ≡ admitted i x j q (reads c) k = sym e ∙ (admits ∙ ap (λ (v : Bool). admitted i x j q v k) only_reads) in
      ap (λ (b : Admission). spoken (admitted_turn b room i x j q c s k)) is ∙ ap (λ (y : HouseTurn (machine room)). spoken y) (sym (current_is room s k i x j q c))

  pub served : (a : Admission) (o : List (Does Bytes)) → admit_view r ≡ a → o ≡ map saying (admitted_does a room i x j q c s) →
      turn_of room (admitted_table a room i c s) (admitted_known a room i j q c s k) o ≡ spoken (current i x j q c (house_of room s k))
  served a o e f = ap (λ (l : List (Does Bytes)). turn_of room (admitted_table a room i c s) (admitted_known a room i j q c s k) l) f ∙ served_by a e

  pub served_change : (y : Spoken (machine room)) → admit_view r ≡ change → y ≡ spoken (new_change_by i x j q c false (house_of room s k)) → y ≡ spoken (current i x j q c (house_of room s k))
  unfolding new_change_by
  served_change y e f = f ∙ served_by change e

-- a request in a slot: first its session is taken up, then it is served
pub request_in_slot : (room room₁ : ℕ) (s s₁ s₂ : State) (k k₁ k₂ : Known) (i x j q : ℕ) (c : Bytes) (o : List (Does Bytes)) → ltb j eight ≡ true → room₁ ≡ room →
    house_of room s₁ k₁ ≡ takes_up i x (house_of room s k) → turn_of room₁ s₂ k₂ o ≡ spoken (current i x j q c (house_of room₁ s₁ k₁)) →
    turn_of room s₂ k₂ o ≡ spoken (request_by i x j q c (ltb j eight) (house_of room s k))
unfolding request_by
request_in_slot room room₁ s s₁ s₂ k k₁ k₂ i x j q c o b er em et =
    let served : turn_of room s₂ k₂ o ≡ spoken (current i x j q c (house_of room s₁ k₁)) = subst (λ (r : ℕ). turn_of r s₂ k₂ o ≡ spoken (current i x j q c (house_of r s₁ k₁))) er et in
    served ∙ (ap (λ (h : House (machine room)). spoken (current i x j q c h)) em ∙ ap (λ (v : Bool). spoken (request_by i x j q c v (house_of room s k))) (sym b))

-- a request in no slot does nothing
pub request_in_none : (room : ℕ) (s : State) (k : Known) (i x j q : ℕ) (c : Bytes) (o : List (Does Bytes)) → o ≡ [] → ltb j eight ≡ false →
    turn_of room s k o ≡ spoken (request_by i x j q c (ltb j eight) (house_of room s k))
unfolding request_by
request_in_none room s k i x j q c o e b =
    ap (λ (l : List (Does Bytes)). turn_of room s k l) e ∙ ap (λ (v : Bool). spoken (request_by i x j q c v (house_of room s k))) (sym b)

-- a hello: the sessions' part and the welcome
pub hello_spoken : (room : ℕ) (s : State) (k k₁ : Known) (i c w : ℕ) (o : List (Does Bytes)) → k₁ ≡ greeted i c k → w ≡ welcomed i c k → o ≡ To i (encode_msg (Welcome c w)) ∷ [] →
    turn_of room s k₁ o ≡ spoken (hello i c (house_of room s k))
hello_spoken room s k k₁ i c w o e f g =
    let said : o ≡ To i (encode_msg (Welcome c (welcomed i c k))) ∷ [] = g ∙ ap (λ (v : ℕ). To i (encode_msg (Welcome c v)) ∷ []) f in
    (λ z. turn_of room s (e z) (said z)) ∙ ap (λ (x : HouseTurn (machine room)). spoken x) (sym (hello_is room s k i c))
