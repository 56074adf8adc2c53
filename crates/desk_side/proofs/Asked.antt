-- What is asked for, and what the memory then holds, as the model says it.
use Rattle.std.proofs.Common.{◌≡◌, ℕ, suc, ◌+◌, ◌<◌, ◌≤◌, Bool, true, false, cond, ◌||◌, List, [], ◌∷◌, ◌++◌, map, length, get_or, drop, set, Some, None, Option, sym, refl, ap, ◌∙◌, ap₂, arith, below_more}
use Rattle.std.specs.Bool.{then_some}
use Rattle.std.specs.List.{list_any}
use Rattle.std.proofs.lemmas.List.{append-nil, append_assoc, at_drop_more, at_drop_all, get_or-set_same, get_or-set_other}
use Rattle.promise.specs.Bytes.{Bytes}
use Rattle.promise.specs.Desks as p
use Rattle.codec.specs.Messages as c
use Rattle.ids.specs.declared.Seq.{Seq}
use Rattle.asking.specs.Code.{saying}
use Rattle.asking.specs.Desk as m
use Rattle.desk_side.specs.declared.slot.Slot.{Slot}
use Rattle.desk_side.specs.declared.slot.Waiting.{Waiting}
use Rattle.desk_side.specs.declared.slot.Which.{Which}
use Rattle.desk_side.specs.declared.output.Output.{Output}
use Rattle.desk_side.specs.Slots.{passes, passes_if, passing, is_passing, blank, call_in, slot_with, slots_of, first, rest}
use Rattle.desk_side.specs.Outputs.{outs_of, asks_by, asks_of, sealed_by, sealed, Holds}
use Rattle.desk_side.proofs.Agree.{get_or_first, get_or_rest, call_behind, slots_same}

spoke_say : (t old : ℕ) (v r : Bool) (x : p.Does c.Msg) (ds : List (p.Does c.Msg)) → m.spoke_by t old ds ≡ cond r t old → m.spoke_by t old (m.say_if v x ds) ≡ cond (v || r) t old
unfolding m.spoke_by m.say_if
spoke_say t old true r x ds e = refl
spoke_say t old false r x ds e = e

spoke_one : (w : Which) (s j t old : ℕ) (q : Seq) (o : Option Waiting) (d : Bytes) (ss : List m.Slot) (r : Bool) → m.spoke_by t old (m.requests (passes w) s (j + 1) ss) ≡ cond r t old →
    m.spoke_by t old (m.requests (passes w) s j (slot_with q d o ∷ ss)) ≡ cond (passes_if w o || r) t old
unfolding m.requests
spoke_one w s j t old q None d ss r e = e
spoke_one w s j t old q (Some x) d ss r e = spoke_say t old (passes w x.sent x.last.0) r _ (m.requests (passes w) s (j + 1) ss) e

-- it spoke if anything was asked for
pub spoke_asking : (w : Which) (s j t old : ℕ) (xs : List Slot) (ps : List Bytes) → m.spoke_by t old (m.requests (passes w) s j (slots_of xs ps)) ≡ cond (list_any (is_passing w) xs) t old
unfolding m.spoke_by m.requests slots_of
spoke_asking w s j t old [] ps = refl
spoke_asking w s j t old (x ∷ xs) ps =
    spoke_one w s j t old x.seq x.waiting (first ps) (slots_of xs (rest ps)) (list_any (is_passing w) xs) (spoke_asking w s (j + 1) t old xs (rest ps))

holds_rest : (all : List Bytes) (w : Which) (s j : ℕ) (x : Slot) (xs : List Slot) (ps : List Bytes) → Holds all w s j (x ∷ xs) ps → Holds all w s (j + 1) xs (rest ps)
holds_rest all w s j x xs ps h k lt =
    let e : j + suc k ≡ j + 1 + k = omega arith in
    let a = h (suc k) (omega arith) in
    let b = rw e at a in
    b ∙ ap (sealed w s (j + 1 + k) (get_or xs k blank)) (sym (get_or_rest ps k))

holds_first : (all : List Bytes) (w : Which) (s j : ℕ) (x : Slot) (xs : List Slot) (ps : List Bytes) → Holds all w s j (x ∷ xs) ps → get_or all j [] ≡ sealed w s j x (first ps)
holds_first all w s j x xs ps h =
    let e : j + 0 ≡ j = omega arith in
    let a = h 0 (omega arith) in
    let b = rw e at a in
    b ∙ ap (sealed w s j x) (get_or_first ps)

say_one : (all : List Bytes) (g b : Bytes) (s j : ℕ) (q : Seq) (d : Bytes) (v : Bool) (os : List Output) (ds : List (p.Does c.Msg)) →
    get_or all j [] ≡ sealed_by (then_some v q) s j d → outs_of all g b os ≡ map saying ds →
    outs_of all g b (asks_by (then_some v q) j os) ≡ map saying (m.say_if v (p.To 0 (c.Request s j q.0 (call_in d))) ds)
unfolding m.say_if
say_one all g b s j q d true os ds e h = ap₂ (λ (y : Bytes) (ys : List (p.Does Bytes)). p.To 0 y ∷ ys) e h
say_one all g b s j q d false os ds e h = h

say_slot : (all : List Bytes) (g b : Bytes) (w : Which) (s j : ℕ) (q : Seq) (o : Option Waiting) (d : Bytes) (os : List Output) (ss : List m.Slot) →
    get_or all j [] ≡ sealed_by (then_some (passes_if w o) q) s j d → outs_of all g b os ≡ map saying (m.requests (passes w) s (j + 1) ss) →
    outs_of all g b (asks_by (then_some (passes_if w o) q) j os) ≡ map saying (m.requests (passes w) s j (slot_with q d o ∷ ss))
unfolding m.requests
say_slot all g b w s j q None d os ss e h = h
say_slot all g b w s j q (Some x) d os ss e h = say_one all g b s j q d (passes w x.sent x.last.0) os (m.requests (passes w) s (j + 1) ss) e h

-- what the outputs stand for
pub asks_say : (all : List Bytes) (g b : Bytes) (w : Which) (s j : ℕ) (xs : List Slot) (ps : List Bytes) → Holds all w s j xs ps →
    outs_of all g b (asks_of w j xs) ≡ map saying (m.requests (passes w) s j (slots_of xs ps))
unfolding m.requests slots_of asks_of
asks_say all g b w s j [] ps h = refl
asks_say all g b w s j (x ∷ xs) ps h =
    say_slot all g b w s j x.seq x.waiting (first ps) (asks_of w (j + 1) xs) (slots_of xs (rest ps))
    (holds_first all w s j x xs ps h)
    (asks_say all g b w s (j + 1) xs (rest ps) (holds_rest all w s j x xs ps h))

sealed_call : (o : Option Seq) (s j : ℕ) (p : Bytes) → call_in (sealed_by o s j p) ≡ call_in p
sealed_call None s j p = refl
sealed_call (Some q) s j p = call_behind s j q.0 (call_in p)

-- sealing leaves the calls
pub holds_same : (all : List Bytes) (w : Which) (s : ℕ) (xs : List Slot) (ps : List Bytes) → Holds all w s 0 xs ps → slots_of xs all ≡ slots_of xs ps
holds_same all w s xs ps h = slots_same xs all ps (λ k lt.
    let e : 0 + k ≡ k = omega arith in
    let a = h k lt in
    let b = rw e at a in
    ap call_in b ∙ sealed_call (passing w (get_or xs k blank)) s k (get_or ps k []))

-- THE LOOP

asks_front : (o : Option Seq) (j : ℕ) (os : List Output) → asks_by o j os ≡ asks_by o j [] ++ os
asks_front None j os = refl
asks_front (Some q) j os = refl

-- one slot more was asked for
pub asks_more : (w : Which) (j : ℕ) (xs : List Slot) (before mid after : List Output) → j < length xs →
    mid ++ asks_of w j (drop j xs) ≡ before ++ asks_of w 0 xs → after ≡ mid ++ asks_by (passing w (get_or xs j blank)) j [] →
    after ++ asks_of w (j + 1) (drop (j + 1) xs) ≡ before ++ asks_of w 0 xs
unfolding asks_of
asks_more w j xs before mid after h em ea =
    let o : Option Seq = passing w (get_or xs j blank) in
    let left : List Output = asks_of w (j + 1) (drop (j + 1) xs) in
    let here : asks_of w j (drop j xs) ≡ asks_by o j [] ++ left = at_drop_more (asks_of w j) xs j blank h ∙ asks_front o j left in
    rw (ea, append_assoc mid (asks_by o j []) left, ← here) em

pub asks_all_lem : (w : Which) (j : ℕ) (xs : List Slot) (before all : List Output) → length xs ≤ j → all ++ asks_of w j (drop j xs) ≡ before ++ asks_of w 0 xs → all ≡ before ++ asks_of w 0 xs
unfolding asks_of
asks_all_lem w j xs before all h e = let n : asks_of w j (drop j xs) ≡ [] = at_drop_all (asks_of w j) xs j h in sym (append-nil all) ∙ rw n at e

-- the parts below j hold what is asked for, and the others what they held
pub record Sealing (all ps : List Bytes) (w : Which) (s j : ℕ) (xs : List Slot) : Type 0 where
  pub below : (k : ℕ) → k < j → get_or all k [] ≡ sealed w s k (get_or xs k blank) (get_or ps k [])
  pub others : (k : ℕ) → j ≤ k → get_or all k [] ≡ get_or ps k []

pub sealing_none : (ps : List Bytes) (w : Which) (s : ℕ) (xs : List Slot) → Sealing ps ps w s 0 xs
sealing_none ps w s xs = record { below = λ k h. absurd (omega arith); others = λ k h. refl }

pub sealing_more : (all new ps : List Bytes) (w : Which) (s j : ℕ) (xs : List Slot) → j < length all → Sealing all ps w s j xs →
    new ≡ set all j (sealed w s j (get_or xs j blank) (get_or all j [])) → Sealing new ps w s (j + 1) xs
sealing_more all new ps w s j xs h old e =
    let x : Bytes = sealed w s j (get_or xs j blank) (get_or all j []) in
    record {
      below = below_more _ j
          (λ k lt. let ne : k ≡ j → ⊥ = λ q. omega (arith, q) in rw e (get_or-set_other all j k x [] ne ∙ old.below k lt))
          (rw e (get_or-set_same all j x [] h ∙ ap (sealed w s j (get_or xs j blank)) (old.others j (omega arith))));
      others = λ k lt. let ne : k ≡ j → ⊥ = λ q. omega (arith, q) in rw e (get_or-set_other all j k x [] ne ∙ old.others k (omega arith));
    }

pub sealing_all : (all ps : List Bytes) (w : Which) (s j : ℕ) (xs : List Slot) → length xs ≤ j → Sealing all ps w s j xs → Holds all w s 0 xs ps
sealing_all all ps w s j xs h old k lt =
    let e : k ≡ 0 + k = omega arith in
    let a = old.below k (omega arith) in
    rw (← e) a
