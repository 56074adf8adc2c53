use Rattle.std.proofs.Common.{◌≡◌, ◌≤◌, ◌++◌, length, drop}
use Rattle.desk_side.specs.Outputs.{asks_of}
use Rattle.desk_side.specs.View.{outputs_in, requests_in}
use Rattle.desk_side.proofs.Asked.{Sealing}
use Rattle.desk_side.proofs.requests.Requests.ask_all.Given as goal

abbrev pub invariant-loop-j : goal.invariant-loop-j
invariant-loop-j l = record {
  outs : outputs_in l.outputs ++ asks_of l.which l.j (drop l.j l.slots) ≡ asks_of l.which 0 l.slots;
  len : length (outputs_in l.outputs) ≤ l.j;
  sealing : Sealing (requests_in l.self) (requests_in l.initial.self) l.which l.session.0 l.j l.slots;
}
