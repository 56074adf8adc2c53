-- What a desk knows, as asking's model has it.
-- Assumes nothing.
use Rattle.std.specs.Prelude.{List, Some, None, vec_items, Option}
use Rattle.promise.specs.Bytes.{Bytes}
use Rattle.parts.specs.View.{parts_in}
use Rattle.asking.specs.Desk as m
use Rattle.desk_side.specs.declared.slot.Place.{Place}
use Rattle.desk_side.specs.declared.output.Output.{Output}
use Rattle.desk_side.specs.declared.outputs.Outputs.{Outputs}
use Rattle.desk_side.specs.declared.greeting.Greeting.{Greeting}
use Rattle.desk_side.specs.declared.requests.Requests.{Requests}
use Rattle.desk_side.specs.declared.state.Asking.{Asking}
use Rattle.desk_side.specs.Sessions.{session_of}
use Rattle.desk_side.specs.Slots.{slots_of}

abbrev pub requests_in : Requests → List Bytes
requests_in r = parts_in r.parts

abbrev pub outputs_in : Outputs → List Output
outputs_in o = vec_items o.list

abbrev pub greeting_in : Greeting → Bytes
greeting_in g = vec_items g.bytes

-- requests: the strings that the calls stand in
abbrev pub desk_of : (requests : List Bytes) → Asking → m.Desk
desk_of ps a = record {
  nonce = a.nonce.0;
  session = session_of a.session;
  answered = a.answered;
  spoke = a.spoke.0;
  may_hold = a.may_hold;
  slots = slots_of a.slots ps;
}

abbrev pub free_place : Option Place → m.Free
free_place None = m.full
free_place (Some x) = m.free x.slot.0 x.seq.0
