use Rattle.std.proofs.Common.{◌≡◌, ℕ, ◌<◌, true, false, List, length, get_or, sym, ap₂, ◌∙◌, ◌==◌, rules}
use Rattle.std.specs.Option.{option_eq}
use Rattle.promise.specs.Bytes.{Bytes}
use Rattle.ids.specs.declared.Session.{Session}
use Rattle.asking.specs.Desk as m
use Rattle.desk_side.specs.Slots.{blank, slot_of}
use Rattle.desk_side.specs.Sessions.{session_of}
use Rattle.desk_side.specs.View.{desk_of}
use Rattle.desk_side.proofs.Agree.{map_slots}
use Rattle.desk_side.proofs.Heard.{same_number, adopts_same, adopts_other}
use Rattle.desk_side.proofs.state.Asking.adopt.Goals as goal

pub returns : goal.returns
returns c = λ ps.
    let other : (c.args.session.0 == session_of c.args.self.session) ≡ false =
    let test : option_eq (λ (a b : Session). a.0 == b.0) c.args.self.session c.given-session.result ≡ false = search rules in
    sym (same_number c.args.self.session c.given-session.result c.args.self.given c.given-session.ensures.given c.args.session.0 c.given-session.ensures.number) ∙ test in
    let n : length c.change_each.new.slots ≡ length c.args.self.slots = search rules in
    let each : (k : ℕ) → k < length c.args.self.slots → (p : Bytes) → slot_of (get_or c.change_each.new.slots k blank) p ≡ m.unsent (slot_of (get_or c.args.self.slots k blank) p) =
    λ k h p. let called = c.change_each.ensures k h in search rules in
    ap₂ (λ (k : ℕ) (ss : List m.Slot). m.with_session k ss (desk_of ps c.args.self)) c.given-session.ensures.number (map_slots m.unsent c.args.self.slots c.change_each.new.slots ps n each)
    ∙ sym (adopts_other c.args.session.0 (c.args.session.0 == session_of c.args.self.session) (desk_of ps c.args.self) other)

pub returns-then-eq : goal.returns-then-eq
returns-then-eq c = λ ps.
    let same : (c.args.session.0 == session_of c.args.self.session) ≡ true =
    let test : option_eq (λ (a b : Session). a.0 == b.0) c.args.self.session c.given-session.result ≡ true = search rules in
    sym (same_number c.args.self.session c.given-session.result c.args.self.given c.given-session.ensures.given c.args.session.0 c.given-session.ensures.number) ∙ test in
    sym (adopts_same c.args.session.0 (c.args.session.0 == session_of c.args.self.session) (desk_of ps c.args.self) same)
