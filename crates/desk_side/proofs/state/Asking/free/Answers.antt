use Rattle.std.proofs.Common.{◌≡◌, ℕ, Some, None, ap, ◌∙◌, arith, rules, get_or}
use Rattle.std.specs.List.{position_from}
use Rattle.asking.specs.Desk as m
use Rattle.desk_side.specs.Slots.{is_idle, blank}
use Rattle.desk_side.proofs.Agree.{first_some, first_none}
use Rattle.desk_side.proofs.state.Asking.free.Goals as goal

pub returns-in_err-j : goal.returns-in_err-j
returns-in_err-j c = λ ps.
    let none : position_from is_idle 0 c.args.self.now.slots ≡ None = search rules in
    let e : c.from_residual.result ≡ None = search rules in
    rw e (first_none c.args.self.now.slots ps 0 none)

pub returns : goal.returns
returns c = λ ps.
    let some : position_from is_idle 0 c.args.self.now.slots ≡ Some c.in_ok-j.j = search rules in
    let r = first_some c.args.self.now.slots ps 0 c.in_ok-j.j some in
    let k : r.0 ≡ c.in_ok-j.j = omega (arith, r.1) in
    r.2 ∙ ap (λ (n : ℕ). m.free c.in_ok-j.j (get_or c.args.self.now.slots n blank).seq.0) k
