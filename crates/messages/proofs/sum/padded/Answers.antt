use Rattle.messages.proofs.Words.{padded_is}
use Rattle.messages.proofs.sum.padded.Goals as goal

pub returns : goal.returns
returns c = padded_is c.args.b.now _ c.copy_from_slice.ensures.after
