use Rattle.std.proofs.Common.{ap}
use Rattle.promise.specs.Bytes.{be}
use Rattle.promise.specs.Layout.{busy, encode_reply}
use Rattle.desk_side.specs.declared.output.Output.{Output}
use Rattle.desk_side.specs.Outputs.{out_of}
use Rattle.desk_side.proofs.tells.told.Goals as goal

pub returns-in-Busy : goal.returns-in-Busy
unfolding busy encode_reply be
returns-in-Busy c = λ ps g. ap (λ (x : Output). out_of ps g c.args.came.now x) c.in-Busy.is
