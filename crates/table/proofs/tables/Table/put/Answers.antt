use Rattle.std.proofs.Common.{sym, refl, ap, ◌∙◌}
use Rattle.promise.specs.Sheets.{State, Edition}
use Rattle.codec.specs.Calls.{expect_of}
use Rattle.table.specs.Tables.{state_of}
use Rattle.table.proofs.Changing.{put_out, put_in}
use Rattle.table.proofs.Verdicts.{turned_away}
use Rattle.table.proofs.tables.Table.put.Goals as goal

pub returns-then-not-may_put : goal.returns-then-not-may_put
returns-then-not-may_put c = record { does = λ d. put_out c.args.self.now.room d c.args.name.now c.args.bytes.now (expect_of c.args.expect) (state_of c.args.self.now) (sym c.if-not-may_put.ensures); room = refl }

pub returns-in_err-admit : goal.returns-in_err-admit
returns-in_err-admit c = record { does = λ d. turned_away c.from_residual.result c.in_err-admit.field-0.0 (state_of c.args.self.now) c.from_residual.ensures.1 ∙ sym (c.in_err-admit.ensures d c.args.bytes.now refl) ∙ put_in c.args.self.now.room d c.args.name.now c.args.bytes.now (expect_of c.args.expect) (state_of c.args.self.now) (sym c.if-not-may_put.ensures); room = refl }

pub returns : goal.returns
returns c =
    record { does = λ d. ap (λ (s : State). record { reply = Edition s.changes'; state = s }) c.store.ensures.state ∙ sym ((c.in_ok-admit.ensures c.args.bytes.now refl).1 d) ∙ put_in c.args.self.now.room d c.args.name.now c.args.bytes.now (expect_of c.args.expect) (state_of c.args.self.now) (sym c.if-not-may_put.ensures); room = c.store.ensures.room }
