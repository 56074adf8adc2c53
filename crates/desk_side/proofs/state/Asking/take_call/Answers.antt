use Rattle.std.proofs.Common.{◌≡◌, ℕ, ◌<◌, Bool, not, ◌||◌, ◌==◌, List, [], Some, length, get_or, set, sym, ap, ap₂, ◌∙◌, arith, rules}
use Rattle.std.proofs.lemmas.List.{get_or-set_same}
use Rattle.promise.specs.Bytes.{Bytes}
use Rattle.parts.specs.Places.{bodied}
use Rattle.asking.specs.Desk as m
use Rattle.desk_side.specs.declared.slot.Slot.{Slot}
use Rattle.desk_side.specs.Calls.{grabs}
use Rattle.desk_side.specs.Slots.{call_in, slots_of}
use Rattle.desk_side.specs.Sessions.{session_of}
use Rattle.desk_side.specs.View.{desk_of, requests_in}
use Rattle.desk_side.proofs.Agree.{set_slot, none_waits_lem}
use Rattle.desk_side.proofs.Called.{taken_said}
use Rattle.desk_side.proofs.state.Asking.take_call.Goals as goal

pub returns : goal.returns
returns c = λ b.
    let ps : List Bytes = requests_in c.args.requests.now in
    let ss : List m.Slot = slots_of c.args.self.now.slots ps in
    let x : Bytes = m.shortened c.args.call.now in
    let lt : c.args.place.slot.0 < length ps = omega (arith, c.args.requests.now.ready.0, c.args.place.there) in
    let body : Bytes = bodied 30 (get_or ps c.args.place.slot.0 []) x in
    let at : get_or (requests_in c.put.new.self) c.args.place.slot.0 [] ≡ body = ap (λ (z : List Bytes). get_or z c.args.place.slot.0 []) c.put.ensures.parts ∙ get_or-set_same ps c.args.place.slot.0 body [] lt in
    let behind : call_in body ≡ x = sym (ap call_in at) ∙ c.put.ensures.call in
    let sent : c.is_some.result ≡ not (session_of c.args.self.now.session == 0) = search rules in
    let w : Slot = record { seq = c.args.place.seq; waiting = Some (record { number = c.args.number; sent = c.is_some.result; first = c.args.clock; last = c.args.clock }) } in
    let slots' : slots_of (set c.args.self.now.slots c.from.result w) (requests_in c.put.new.self) ≡ set ss c.args.place.slot.0 (m.Waiting c.args.place.seq.0 c.args.number.0 x (not (session_of c.args.self.now.session == 0)) c.args.clock.0 c.args.clock.0) =
    ap₂ (λ (i : ℕ) (xs : List Bytes). slots_of (set c.args.self.now.slots i w) xs) c.from.ensures c.put.ensures.parts
    ∙ set_slot c.args.self.now.slots ps c.args.place.slot.0 w body lt
    ∙ ap₂ (λ (y : Bytes) (v : Bool). set ss c.args.place.slot.0 (m.Waiting c.args.place.seq.0 c.args.number.0 y v c.args.clock.0 c.args.clock.0)) behind sent in
    let alone : c.none_waits-alone.result ≡ m.none_waits ss = c.none_waits-alone.ensures ∙ sym (none_waits_lem c.args.self.now.slots ps) in
    let holds : c.if-self.self ≡ c.args.self.now.may_hold || grabs x = search rules in
    c.first_said.ensures (requests_in c.put.new.self) c.args.clock.0 b
    ∙ taken_said c.args.clock.0 c.args.number.0 x (call_in (get_or (requests_in c.put.new.self) c.args.place.slot.0 [])) c.args.place.slot.0 c.args.place.seq.0 c.if-self.self c.none_waits-alone.result (desk_of ps c.args.self.now) _ c.put.ensures.call alone holds slots'
