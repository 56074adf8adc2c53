use Rattle.std.proofs.Common.{◌<◌, ◌≤◌, [], length, arith, rules}
use Rattle.desk_side.specs.View.{outputs_in, requests_in}
use Rattle.desk_side.proofs.Asked.{asks_more, asks_all_lem, sealing_more}
use Rattle.desk_side.proofs.requests.Requests.ask_all.Goals as goal

pub loop-j-preserved : goal.loop-j-preserved
loop-j-preserved c =
    let lt : c.loop-j.j < length c.args.slots.now = search rules in
    let lp : c.loop-j.j < length (requests_in c.loop-j.self) = omega (arith, c.loop-j.self.ready.0) in
    record {
      outs = asks_more c.args.which c.loop-j.j c.args.slots.now [] (outputs_in c.loop-j.outputs) (outputs_in c.ask_one.new.outputs) lt c.loop-j.invariant.outs c.ask_one.ensures.outs;
      len = search rules;
      sealing = sealing_more (requests_in c.loop-j.self) (requests_in c.ask_one.new.self) (requests_in c.args.self.now) c.args.which c.args.session.0 c.loop-j.j c.args.slots.now lp c.loop-j.invariant.sealing c.ask_one.ensures.parts;
    }

pub returns-clause-outs : goal.returns-clause-outs
returns-clause-outs c =
    let le : length c.args.slots.now ≤ c.loop-j.j = search rules in
    asks_all_lem c.args.which c.loop-j.j c.args.slots.now [] (outputs_in c.loop-j.outputs) le c.loop-j.invariant.outs
