use Rattle.std.proofs.Common.{◌≡◌, suc, ◌+◌, ◌-◌, length, ap, arith}
use Rattle.printing.specs.Answers.{listed}
use Rattle.printing.proofs.Listing.{listed_more}
use Rattle.printing.proofs.told.count_names.Goals as goal

pub loop-there-preserved : goal.loop-there-preserved
loop-there-preserved c =
    let more : length (listed (c.args.count - c.loop-there.there) c.loop-there.rest.now) ≡ suc (length (listed (c.args.count - (c.loop-there.there + 1)) c.in-Some.tail.now)) =
    ap length (listed_more c.args.count c.loop-there.there c.loop-there.rest.now (c.in-Some.field-0-0.now, c.in-Some.tail.now) c.loop-there-test.true c.in-Some.ensures) in
    omega (arith, c.loop-there.invariant)
