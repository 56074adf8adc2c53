use Rattle.codec.proofs.RepliesForm.{replies_form}
use Rattle.codec.proofs.answer_reader.read_answer.Goals as goal

pub returns-in_default-clause-form : goal.returns-in_default-clause-form
returns-in_default-clause-form c = replies_form

pub returns-in_err-ok-clause-form : goal.returns-in_err-ok-clause-form
returns-in_err-ok-clause-form c = replies_form

pub returns-clause-form : goal.returns-clause-form
returns-clause-form c = replies_form
