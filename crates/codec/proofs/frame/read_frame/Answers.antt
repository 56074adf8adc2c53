use Rattle.codec.proofs.FramesBack.{frames_form}
use Rattle.codec.proofs.frame.read_frame.Goals as goal

pub returns-in_err-whole-clause-form : goal.returns-in_err-whole-clause-form
returns-in_err-whole-clause-form c = frames_form

pub returns-in_err-number-clause-form : goal.returns-in_err-number-clause-form
returns-in_err-number-clause-form c = frames_form

pub returns-clause-form : goal.returns-clause-form
returns-clause-form c = frames_form
