use Rattle.std.proofs.Common.{ℕ, ◌≤◌, sym, refl, ap, ◌∙◌, subst, arith}
use Rattle.promise.specs.Sheets.{as_expected, edition_of, weight}
use Rattle.codec.specs.Calls.{expect_of}
use Rattle.table.specs.Tables.{state_of, new_sheet}
use Rattle.table.proofs.Seeks.{finds_at, puts_at}
use Rattle.table.proofs.Verdicts.{not_expected, used_up_lem, no_room_lem, admitted}
use Rattle.table.proofs.tables.Table.admit.Goals as goal

pub returns-then-not-as_expected : goal.returns-then-not-as_expected
returns-then-not-as_expected c = λ d bs l. not_expected c.args.self.now.room d c.args.name.now (expect_of c.args.expect) bs (state_of c.args.self.now).sheets c.args.self.now.changes
    (ap (as_expected (expect_of c.args.expect)) (ap edition_of (finds_at (state_of c.args.self.now).sheets c.args.name.now c.args.place c.requires.spotted) ∙ sym c.edition_at.ensures) ∙ sym c.if-not-as_expected.ensures)

pub returns-then-self-ge4611686018427387904 : goal.returns-then-self-ge4611686018427387904
returns-then-self-ge4611686018427387904 c = λ d bs l. used_up_lem c.args.self.now.room d c.args.name.now (expect_of c.args.expect) bs (state_of c.args.self.now).sheets c.args.self.now.changes
    (ap (as_expected (expect_of c.args.expect)) (ap edition_of (finds_at (state_of c.args.self.now).sheets c.args.name.now c.args.place c.requires.spotted) ∙ sym c.edition_at.ensures) ∙ sym c.if-not-as_expected.ensures) c.if-self-ge4611686018427387904.true

pub returns-then-weigh-self : goal.returns-then-weigh-self
returns-then-weigh-self c = λ d bs l. no_room_lem c.args.self.now.room d c.args.name.now (expect_of c.args.expect) bs (state_of c.args.self.now).sheets c.args.self.now.changes c.weigh.result
    (ap (as_expected (expect_of c.args.expect)) (ap edition_of (finds_at (state_of c.args.self.now).sheets c.args.name.now c.args.place c.requires.spotted) ∙ sym c.edition_at.ensures) ∙ sym c.if-not-as_expected.ensures) c.if-self-ge4611686018427387904.false
    (omega (arith, c.args.self.now.weighed, c.args.self.now.light))
    (c.weigh.ensures (new_sheet c.args.name.now bs (state_of c.args.self.now)) l ∙ ap weight (sym (puts_at (state_of c.args.self.now).sheets c.args.name.now c.args.place c.requires.spotted (new_sheet c.args.name.now bs (state_of c.args.self.now)) refl)))
    c.if-weigh-self.true

pub returns : goal.returns
returns c = λ bs l. (
  record { light = subst (λ (w : ℕ). w ≤ c.args.self.now.room) (c.weigh.ensures (new_sheet c.args.name.now bs (state_of c.args.self.now)) l ∙ ap weight (sym (puts_at (state_of c.args.self.now).sheets c.args.name.now c.args.place c.requires.spotted (new_sheet c.args.name.now bs (state_of c.args.self.now)) refl))) c.if-weigh-self.false; counted = c.if-self-ge4611686018427387904.false },
  λ d. admitted c.args.self.now.room d c.args.name.now (expect_of c.args.expect) bs (state_of c.args.self.now).sheets c.args.self.now.changes c.weigh.result
      (ap (as_expected (expect_of c.args.expect)) (ap edition_of (finds_at (state_of c.args.self.now).sheets c.args.name.now c.args.place c.requires.spotted) ∙ sym c.edition_at.ensures) ∙ sym c.if-not-as_expected.ensures) c.if-self-ge4611686018427387904.false
      (c.weigh.ensures (new_sheet c.args.name.now bs (state_of c.args.self.now)) l ∙ ap weight (sym (puts_at (state_of c.args.self.now).sheets c.args.name.now c.args.place c.requires.spotted (new_sheet c.args.name.now bs (state_of c.args.self.now)) refl)))
      c.if-weigh-self.false,
)
