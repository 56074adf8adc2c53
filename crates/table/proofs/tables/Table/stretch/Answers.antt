use Rattle.std.proofs.Common.{◌≡◌, Result, Ok, Err, IsErrAnd, sym, ap, ◌∙◌}
use Rattle.promise.specs.Sheets.{No}
use Rattle.codec.specs.Answers.{refusal_number}
use Rattle.codec.specs.declared.answer.Refusal.{Refusal}
use Rattle.table.specs.declared.tables.queries.Reading.{Reading}
use Rattle.table.specs.Tables.{state_of, reply_of}
use Rattle.table.proofs.Readings.{read_out, read_none, read_some}
use Rattle.table.proofs.tables.Table.stretch.Goals as goal

pub returns-then-not-may_read : goal.returns-then-not-may_read
returns-then-not-may_read c = λ d. read_out c.args.self.now.room d c.args.start c.args.most c.args.name.now (state_of c.args.self.now) (sym c.if-not-may_read.ensures)

-- a reading that is turned away is answered by the reason
unread : (r : Result Reading Refusal) (k : Refusal) → IsErrAnd r (λ e. e ≡ k) → reply_of r ≡ No (refusal_number k)
unread (Ok r) k h = absurd h
unread (Err e) k h = ap (λ (q : Refusal). No (refusal_number q)) h

pub returns-in_err-i : goal.returns-in_err-i
returns-in_err-i c = λ d. unread c.from_residual.result c.in_err-i.field-0.0 c.from_residual.ensures.1 ∙ ap (λ (q : Refusal). No (refusal_number q)) c.in_err-i.ensures.missing ∙ read_none c.args.self.now.room d c.args.start c.args.most c.args.name.now (state_of c.args.self.now).sheets c.args.self.now.changes (sym c.if-not-may_read.ensures) c.in_err-i.ensures.none

pub returns : goal.returns
returns c = λ d. read_some c.args.self.now.room d c.args.start c.args.most c.args.name.now (state_of c.args.self.now).sheets c.args.self.now.changes _ (sym c.if-not-may_read.ensures) c.in_ok-i.ensures.there.finds
    _ _ c.bytes-bytes.result.now _ c.head-head.ensures.edition c.head-head.ensures.len c.bytes-bytes.ensures c.part.ensures
