-- What a desk has said and what it knows then.
use Rattle.std.proofs.Common.{◌≡◌, ℕ, ◌<◌, List, [], map, length, get_or, set, sym, ap, ◌∙◌, ap₂, ⊎_elim}
use Rattle.std.specs.List.{list_any}
use Rattle.std.proofs.lemmas.List.{get_or-set_same, get_or-set_other}
use Rattle.std.proofs.lemmas.Bool.{cases_eq}
use Rattle.promise.specs.Bytes.{Bytes}
use Rattle.codec.specs.Messages as c
use Rattle.asking.specs.Code.{saying}
use Rattle.asking.specs.Desk as m
use Rattle.desk_side.specs.declared.slot.Slot.{Slot}
use Rattle.desk_side.specs.declared.slot.Which.{Which}
use Rattle.desk_side.specs.declared.say.Say.{Say}
use Rattle.desk_side.specs.declared.state.Asking.{Asking}
use Rattle.desk_side.specs.declared.memory.Memory.{Memory}
use Rattle.desk_side.specs.Slots.{passes, is_passing, call_in, slots_of}
use Rattle.desk_side.specs.Steps.{asked}
use Rattle.desk_side.specs.Outputs.{outs_of, asks_of, Holds}
use Rattle.desk_side.specs.Said.{said, asks_all}
use Rattle.desk_side.specs.Desks.{Did}
use Rattle.desk_side.proofs.Agree.{call_behind}
use Rattle.desk_side.proofs.Asked.{spoke_asking, asks_say, holds_same}

-- the model's turn, said otherwise
pub did_as : (y : Memory) (b : Bytes) (x z : m.DeskTurn) → x ≡ z → Did y b x → Did y b z
did_as y b x z e h = record { knows = h.knows ∙ ap (λ (u : m.DeskTurn). u.desk) e; does = h.does ∙ ap (λ (u : m.DeskTurn). map saying u.does) e }

-- what was decided, by its name
pub did_say : (y : Memory) (t : ℕ) (b : Bytes) (ps : List Bytes) (a : Asking) (v w : Say) → v ≡ w → Did y b (said w t b ps a) → Did y b (said v t b ps a)
did_say y t b ps a v w e h = did_as y b (said w t b ps a) (said v t b ps a) (ap (λ (u : Say). said u t b ps a) (sym e)) h

-- after a seal
pub seal_says : (ps all : List Bytes) (j : ℕ) (x : Bytes) → j < length ps → all ≡ set ps j x → get_or all j [] ≡ x
seal_says ps all j x h e = ap (λ (z : List Bytes). get_or z j []) e ∙ get_or-set_same ps j x [] h

pub seal_calls : (ps all : List Bytes) (s j q : ℕ) → j < length ps → all ≡ set ps j (c.encode_msg (c.Request s j q (call_in (get_or ps j [])))) →
    (k : ℕ) → call_in (get_or all k []) ≡ call_in (get_or ps k [])
seal_calls ps all s j q h e k =
    let x : Bytes = c.encode_msg (c.Request s j q (call_in (get_or ps j []))) in
    ap (λ (z : List Bytes). call_in (get_or z k [])) e ∙ ⊎_elim
    (λ (i : k ≡ j). rw (i, get_or-set_same ps j x [] h) (call_behind s j q (call_in (get_or ps j []))))
    (λ ne. ap call_in (get_or-set_other ps j k x [] ne))
    (cases_eq k j)

-- after asking for all that passes
pub ask_knows : (w : Which) (t s : ℕ) (xs : List Slot) (ps all : List Bytes) (d e : m.Desk) → Holds all w s 0 xs ps → d.session ≡ s → d.slots ≡ slots_of xs ps →
    e ≡ asked (passes w) (list_any (is_passing w) xs) t (record d { slots = slots_of xs all }) → e ≡ (asks_all w t d).desk
ask_knows w t s xs ps all d e h es ess ee =
    ee ∙ ap₂ (λ (u : ℕ) (zs : List m.Slot). record d { spoke = u; slots = map (m.sent_now (passes w) t) zs })
    (sym (ap₂ (λ (u : ℕ) (ys : List m.Slot). m.spoke_by t d.spoke (m.requests (passes w) u 0 ys)) es ess ∙ spoke_asking w s 0 t d.spoke xs ps))
    (holds_same all w s xs ps h ∙ sym ess)

pub ask_does : (w : Which) (t s : ℕ) (xs : List Slot) (ps all : List Bytes) (g b : Bytes) (d : m.Desk) → Holds all w s 0 xs ps → d.session ≡ s → d.slots ≡ slots_of xs ps →
    outs_of all g b (asks_of w 0 xs) ≡ map saying (asks_all w t d).does
ask_does w t s xs ps all g b d h es ess = asks_say all g b w s 0 xs ps h ∙ sym (ap₂ (λ (u : ℕ) (ys : List m.Slot). map saying (m.requests (passes w) u 0 ys)) es ess)
