-- Calls as they are written.
use Rattle.std.proofs.Common.{◌≡◌, ◌∷◌, ◌++◌, sym, refl, ap}
use Rattle.std.proofs.lemmas.List.{append-nil}
use Rattle.promise.specs.Layout.{name_out, encode_call}
use Rattle.codec.specs.declared.call.Call.{Call}
use Rattle.codec.specs.declared.call.Call.TheVariants as c
use Rattle.codec.specs.Calls.{call_of, kind_number, kind_of}
use Rattle.codec.specs.CallParts.{name_of, rest_out}

-- a call is a kind, a name, and the rest
pub call_parts : (x : Call) → encode_call (call_of x) ≡ kind_number (kind_of x) ∷ (name_out (name_of (call_of x)) ++ rest_out (call_of x))
unfolding encode_call
call_parts (c.Read n f m) = refl
call_parts (c.Put n x b) = refl
call_parts (c.Patch n a x b) = refl
call_parts (c.Remove n x) = refl
call_parts (c.Rename n k) = refl
call_parts (c.Names a m) = refl
call_parts (c.Take n a) = refl
call_parts (c.LetGo n) = ap (λ b. 8 ∷ b) (sym (append-nil (name_out n.now)))
