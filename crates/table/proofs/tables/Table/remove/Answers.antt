use Rattle.std.proofs.Common.{refl, sym, ap, ◌∙◌}
use Rattle.promise.specs.Sheets.{as_expected}
use Rattle.codec.specs.Calls.{expect_of}
use Rattle.table.specs.Tables.{state_of}
use Rattle.table.proofs.Changing.{remove_out, remove_none, remove_not, remove_yes}
use Rattle.table.proofs.Verdicts.{missed}
use Rattle.table.proofs.tables.Table.remove.Goals as goal

pub returns-then-not-is_name : goal.returns-then-not-is_name
returns-then-not-is_name c = record { does = λ d. remove_out c.args.self.now.room d c.args.name.now (expect_of c.args.expect) (state_of c.args.self.now) (sym c.if-not-is_name.ensures); room = refl }

pub returns-in_err-i : goal.returns-in_err-i
returns-in_err-i c = record { does = λ d. missed c.from_residual.result c.in_err-i.field-0.0 (state_of c.args.self.now) c.from_residual.ensures.1 c.in_err-i.ensures.missing ∙ remove_none c.args.self.now.room d c.args.name.now (expect_of c.args.expect) (state_of c.args.self.now) (sym c.if-not-is_name.ensures) c.in_err-i.ensures.none; room = refl }

pub returns-then-not-as_expected : goal.returns-then-not-as_expected
returns-then-not-as_expected c =
    record {
      does = λ d. remove_not c.args.self.now.room d c.args.name.now (expect_of c.args.expect) (state_of c.args.self.now).sheets c.args.self.now.changes _ (sym c.if-not-is_name.ensures) c.in_ok-i.ensures.there.finds
          (ap (as_expected (expect_of c.args.expect)) (sym c.head.ensures.edition) ∙ sym c.if-not-as_expected.ensures);
      room = refl;
    }

pub returns : goal.returns
returns c =
    record {
      does = λ d. remove_yes c.args.self.now.room d c.args.name.now (expect_of c.args.expect) (state_of c.args.self.now).sheets c.args.self.now.changes c.in_ok-i.i _ _ (sym c.if-not-is_name.ensures) c.in_ok-i.ensures.there.finds
          (ap (as_expected (expect_of c.args.expect)) (sym c.head.ensures.edition) ∙ sym c.if-not-as_expected.ensures) c.in_ok-i.ensures.there.drops c.forget.ensures.state;
      room = c.forget.ensures.room;
    }
