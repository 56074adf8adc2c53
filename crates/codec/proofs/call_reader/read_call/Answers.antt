use Rattle.codec.proofs.CallsForm.{calls_form}
use Rattle.codec.proofs.call_reader.read_call.Goals as goal

pub returns-in_default-clause-form : goal.returns-in_default-clause-form
returns-in_default-clause-form c = calls_form

pub returns-in_err-ok-clause-form : goal.returns-in_err-ok-clause-form
returns-in_err-ok-clause-form c = calls_form

pub returns-clause-form : goal.returns-clause-form
returns-clause-form c = calls_form
