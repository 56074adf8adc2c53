-- The code's slots beside their parts, and the model's slots that hold their calls.
use Rattle.std.proofs.Common.{◌≡◌, ℕ, zero, suc, ◌+◌, ◌-◌, ◌<◌, Bool, true, false, cond, ◌&&◌, ◌||◌, nat_le, List, [], ◌∷◌, map, length, get_or, set, Some, None, Option, is_none, sym, refl, ap, ◌∙◌, ap₂, arith}
use Rattle.std.specs.List.{list_any, list_all, position_from}
use Rattle.std.specs.Option.{option_map}
use Rattle.promise.specs.Bytes.{Bytes, be}
use Rattle.codec.specs.Messages as c
use Rattle.ids.specs.declared.Seq.{Seq}
use Rattle.ids.specs.declared.Clock.{Clock}
use Rattle.asking.specs.Desk as m
use Rattle.desk_side.specs.declared.slot.Slot.{Slot}
use Rattle.desk_side.specs.declared.slot.Waiting.{Waiting}
use Rattle.desk_side.specs.declared.slot.Which.{Which}
use Rattle.desk_side.specs.declared.slot.Which.TheVariants.{Due}
use Rattle.desk_side.specs.Steps.{asked}
use Rattle.desk_side.specs.Slots.{passes, is_idle, is_passing, passes_if, blank, call_in, slot_with, slot_of, slots_of, first, rest}

-- ONE SLOT

sent_if : (w : Which) (t : Clock) (q : Seq) (p : Bytes) (x : Waiting) (v : Bool) → slot_with q p (Some (cond v (record x { sent = true; last = t }) x)) ≡ m.sent_if v t.0 (slot_with q p (Some x))
unfolding m.sent_if
sent_if w t q p x true = refl
sent_if w t q p x false = refl

pub sent_with : (w : Which) (t : Clock) (q : Seq) (p : Bytes) (o : Option Waiting) →
    slot_with q p (option_map (λ (x : Waiting). cond (passes w x.sent x.last.0) (record x { sent = true; last = t }) x) o) ≡ m.sent_now (passes w) t.0 (slot_with q p o)
unfolding m.sent_now
sent_with w t q p None = refl
sent_with w t q p (Some x) = sent_if w t q p x (passes w x.sent x.last.0)

pub unsent_with : (q : Seq) (p : Bytes) (o : Option Waiting) → slot_with q p (option_map (λ (x : Waiting). record x { sent = false }) o) ≡ m.unsent (slot_with q p o)
unfolding m.unsent
unsent_with q p None = refl
unsent_with q p (Some x) = refl

pub unsent_now_with : (t : Clock) (q : Seq) (p : Bytes) (o : Option Waiting) → slot_with q p (option_map (λ (x : Waiting). record x { sent = false; last = t }) o) ≡ m.unsent_now t.0 (slot_with q p o)
unfolding m.unsent_now
unsent_now_with t q p None = refl
unsent_now_with t q p (Some x) = refl

-- ALL SLOTS

first_some_by : (q : Seq) (o : Option Waiting) (p : Bytes) (xs : List Slot) (ss : List m.Slot) (j i : ℕ) → cond (is_none o) (Some j) (position_from is_idle (j + 1) xs) ≡ Some i →
    (position_from is_idle (j + 1) xs ≡ Some i → (k : ℕ) × (i ≡ j + 1 + k) × (m.first_idle (j + 1) ss ≡ m.free i (get_or xs k blank).seq.0)) →
    (k : ℕ) × (i ≡ j + k) × (m.first_idle j (slot_with q p o ∷ ss) ≡ m.free i (get_or (record { seq = q; waiting = o } ∷ xs) k blank).seq.0)
unfolding m.first_idle
first_some_by q None p xs ss j i e h = let ji : j ≡ i = cc in (0, omega arith, ap (λ n. m.free n q.0) ji)
first_some_by q (Some x) p xs ss j i e h = let r = h e in (suc r.0, omega arith, r.2)

-- which slot is idle first
pub first_some : (xs : List Slot) (ps : List Bytes) (j i : ℕ) → position_from is_idle j xs ≡ Some i → (k : ℕ) × (i ≡ j + k) × (m.first_idle j (slots_of xs ps) ≡ m.free i (get_or xs k blank).seq.0)
unfolding slots_of
first_some [] ps j i e = absurd cc
first_some (x ∷ xs) ps j i e = first_some_by x.seq x.waiting (first ps) xs (slots_of xs (rest ps)) j i e (first_some xs (rest ps) (j + 1) i)

first_none_by : (q : Seq) (o : Option Waiting) (p : Bytes) (n : Option ℕ) (ss : List m.Slot) (j : ℕ) → cond (is_none o) (Some j) n ≡ None → (n ≡ None → m.first_idle (j + 1) ss ≡ m.full) → m.first_idle j (slot_with q p o ∷ ss) ≡ m.full
unfolding m.first_idle
first_none_by q None p n ss j e h = absurd cc
first_none_by q (Some x) p n ss j e h = h e

pub first_none : (xs : List Slot) (ps : List Bytes) (j : ℕ) → position_from is_idle j xs ≡ None → m.first_idle j (slots_of xs ps) ≡ m.full
unfolding m.first_idle slots_of
first_none [] ps j e = refl
first_none (x ∷ xs) ps j e = first_none_by x.seq x.waiting (first ps) (position_from is_idle (j + 1) xs) (slots_of xs (rest ps)) j e (first_none xs (rest ps) (j + 1))

none_waits_by : (q : Seq) (o : Option Waiting) (p : Bytes) (ss : List m.Slot) (v : Bool) → m.none_waits ss ≡ v → m.none_waits (slot_with q p o ∷ ss) ≡ is_none o && v
unfolding m.none_waits
none_waits_by q None p ss v e = e
none_waits_by q (Some x) p ss v e = refl

pub none_waits_lem : (xs : List Slot) (ps : List Bytes) → m.none_waits (slots_of xs ps) ≡ list_all is_idle xs
unfolding m.none_waits slots_of
none_waits_lem [] ps = refl
none_waits_lem (x ∷ xs) ps = none_waits_by x.seq x.waiting (first ps) (slots_of xs (rest ps)) (list_all is_idle xs) (none_waits_lem xs (rest ps))

any_due_by : (r : ℕ) (t : Clock) (q : Seq) (o : Option Waiting) (p : Bytes) (ss : List m.Slot) (v : Bool) → m.any_due r t.0 ss ≡ v → m.any_due r t.0 (slot_with q p o ∷ ss) ≡ passes_if (Due r t) o || v
unfolding m.any_due
any_due_by r t q None p ss v e = e
any_due_by r t q (Some x) p ss v e = ap (λ u. nat_le r (t.0 - x.last.0) || u) e

pub any_due_lem : (r : ℕ) (t : Clock) (xs : List Slot) (ps : List Bytes) → m.any_due r t.0 (slots_of xs ps) ≡ list_any (is_passing (Due r t)) xs
unfolding m.any_due slots_of
any_due_lem r t [] ps = refl
any_due_lem r t (x ∷ xs) ps = any_due_by r t x.seq x.waiting (first ps) (slots_of xs (rest ps)) (list_any (is_passing (Due r t)) xs) (any_due_lem r t xs (rest ps))

-- each slot is changed alike
pub map_slots : (f : m.Slot → m.Slot) (xs ys : List Slot) (ps : List Bytes) → length ys ≡ length xs →
    ((k : ℕ) → k < length xs → (p : Bytes) → slot_of (get_or ys k blank) p ≡ f (slot_of (get_or xs k blank) p)) → slots_of ys ps ≡ map f (slots_of xs ps)
unfolding slots_of
map_slots f [] [] ps n h = refl
map_slots f [] (y ∷ ys) ps n h = absurd (omega (arith, n))
map_slots f (x ∷ xs) [] ps n h = absurd (omega (arith, n))
map_slots f (x ∷ xs) (y ∷ ys) ps n h =
    ap₂ (λ (z : m.Slot) (zs : List m.Slot). z ∷ zs) (h 0 (omega arith) (first ps)) (map_slots f xs ys (rest ps) (omega (arith, n)) (λ k lt p. h (suc k) (omega arith) p))

pub get_or_rest : (ps : List Bytes) (j : ℕ) → get_or (rest ps) j [] ≡ get_or ps (suc j) []
get_or_rest [] j = refl
get_or_rest (p ∷ ps) j = refl

pub get_or_first : (ps : List Bytes) → get_or ps 0 [] ≡ first ps
get_or_first [] = refl
get_or_first (p ∷ ps) = refl

pub slot_at : (xs : List Slot) (ps : List Bytes) (j : ℕ) → get_or (slots_of xs ps) j (m.Idle 0) ≡ slot_of (get_or xs j blank) (get_or ps j [])
unfolding slots_of
slot_at [] ps j = refl
slot_at (x ∷ xs) ps zero = ap (slot_of x) (sym (get_or_first ps))
slot_at (x ∷ xs) ps (suc j) = slot_at xs (rest ps) j ∙ ap (slot_of (get_or xs j blank)) (get_or_rest ps j)

pub set_idle : (xs : List Slot) (ps : List Bytes) (j : ℕ) (q : Seq) → slots_of (set xs j (record { seq = q; waiting = None })) ps ≡ set (slots_of xs ps) j (m.Idle q.0)
unfolding slots_of
set_idle [] ps j q = refl
set_idle (x ∷ xs) ps zero q = refl
set_idle (x ∷ xs) ps (suc j) q = ap (λ (ys : List m.Slot). slot_of x (first ps) ∷ ys) (set_idle xs (rest ps) j q)

pub set_slot : (xs : List Slot) (ps : List Bytes) (j : ℕ) (x : Slot) (p : Bytes) → j < length ps → slots_of (set xs j x) (set ps j p) ≡ set (slots_of xs ps) j (slot_of x p)
unfolding slots_of
set_slot [] ps j x p h = refl
set_slot (y ∷ xs) [] j x p h = absurd (omega arith)
set_slot (y ∷ xs) (b ∷ ps) zero x p h = refl
set_slot (y ∷ xs) (b ∷ ps) (suc j) x p h = ap (λ (ys : List m.Slot). slot_of y b ∷ ys) (set_slot xs ps j x p (omega arith))

same_slot : (q : Seq) (o : Option Waiting) (p b : Bytes) → call_in p ≡ call_in b → slot_with q p o ≡ slot_with q b o
same_slot q None p b e = refl
same_slot q (Some x) p b e = ap (λ (y : Bytes). m.Waiting q.0 x.number.0 y x.sent x.first.0 x.last.0) e

-- slots with the same calls behind them
pub slots_same : (xs : List Slot) (ps bs : List Bytes) → ((k : ℕ) → k < length xs → call_in (get_or ps k []) ≡ call_in (get_or bs k [])) → slots_of xs ps ≡ slots_of xs bs
unfolding slots_of
slots_same [] ps bs e = refl
slots_same (x ∷ xs) ps bs e =
    let here : call_in (first ps) ≡ call_in (first bs) = ap call_in (sym (get_or_first ps)) ∙ e 0 (omega arith) ∙ ap call_in (get_or_first bs) in
    ap₂ (λ (y : m.Slot) (ys : List m.Slot). y ∷ ys) (same_slot x.seq x.waiting (first ps) (first bs) here)
    (slots_same xs (rest ps) (rest bs) (λ k h. ap call_in (get_or_rest ps k) ∙ e (suc k) (omega arith) ∙ ap call_in (sym (get_or_rest bs k))))

-- the call of a Request stands behind its head
pub call_behind : (s j q : ℕ) (b : Bytes) → call_in (c.encode_msg (c.Request s j q b)) ≡ b
unfolding c.encode_msg be
call_behind s j q b = refl

-- when it last spoke, and its slots, after all that passes was sent
pub counted : (p : Bool → ℕ → Bool) (any : Bool) (t : ℕ) (d : m.Desk) (s : ℕ) (ss : List m.Slot) → s ≡ cond any t d.spoke → ss ≡ map (m.sent_now p t) d.slots → record d { spoke = s; slots = ss } ≡ asked p any t d
counted p any t d s ss es ess = ap₂ (λ (x : ℕ) (xs : List m.Slot). record d { spoke = x; slots = xs }) es ess
