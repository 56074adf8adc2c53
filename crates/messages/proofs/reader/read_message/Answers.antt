use Rattle.std.proofs.Common.{rules}
use Rattle.messages.proofs.Back.{reads_back}
use Rattle.messages.proofs.Form.{messages_form}
use Rattle.messages.proofs.Cut.{cut, lengthened}
use Rattle.messages.proofs.Changed.{changed}
use Rattle.messages.proofs.reader.read_message.Goals as goal

pub returns : goal.returns
returns c = record { value = search rules; back = reads_back; form = messages_form; cut = cut; lengthened = lengthened; changed = changed }
