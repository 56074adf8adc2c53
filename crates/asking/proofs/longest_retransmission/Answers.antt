use Rattle.asking.proofs.longest_retransmission.Goals as goal
use Rattle.asking.proofs.SheetsLawful.{sheets_lawful}
use Rattle.asking.proofs.Whole.{whole}
use Rattle.messages.proofs.Back.{reads_back}
use Rattle.promise.specs.Machine.{sheets}

pub returns : goal.returns
returns c = λ can room puts patches z r50. whole reads_back (sheets can room) (sheets_lawful can room puts patches) z r50
