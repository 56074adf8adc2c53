use Rattle.std.proofs.Common.{◌≡◌, ℕ, ◌+◌, true, List, length, set, sym, refl, ap, ◌∙◌, subst}
use Rattle.promise.specs.Sheets.{Sheet, State}
use Rattle.table.specs.View.{rising, laid, StandsAt, Finding}
use Rattle.table.specs.Tables.{state_of, new_sheet, filled, edited, after_put}
use Rattle.table.proofs.Weights.{rising_put}
use Rattle.table.proofs.Changing.{put_filled}
use Rattle.table.proofs.Seeks.{puts_at}
use Rattle.table.proofs.Verdicts.{admits_as}
use Rattle.table.proofs.tables.Table.store.Goals as goal
use Rattle.table.proofs.tables.Table.store.Goals.{in_default-via-in-Ok+else-bytes-head, in_default-via-in_default}

-- bytes written over a sheet are all that it has then
stored : (s : State) (n : List ℕ) (bs : List ℕ) (i : ℕ) → StandsAt s.sheets n i → filled i 0 bs (length bs) s ≡ (after_put n bs s).sheets
stored s n bs i f = ap (set s.sheets i) (put_filled s.sheets n i bs (s.changes' + 1) f.named) ∙ sym (f.puts (new_sheet n bs s) refl)

pub fill-requires-clause-admitted : goal.fill-requires-clause-admitted
fill-requires-clause-admitted c =
    let t = c.args.self.now in
    let n = c.args.name.now in
    let bs = c.args.bytes.now in
    let f : StandsAt (state_of t).sheets n c.in-Ok.i = subst (Finding (state_of t).sheets n) c.in-Ok.is c.requires.spotted in
    let x : Sheet = new_sheet n bs (state_of t) in
    let z = stored (state_of t) n bs c.in-Ok.i f in
    admits_as t.room t.room (state_of t) (state_of t) _ _ refl refl z c.requires.admitted

pub returns-in-Ok : goal.returns-in-Ok
returns-in-Ok c =
    let t = c.args.self.now in
    let f : StandsAt (state_of t).sheets c.args.name.now c.in-Ok.i = subst (Finding (state_of t).sheets c.args.name.now) c.in-Ok.is c.requires.spotted in
    record {
      state = c.fill.ensures.state ∙ ap (λ (l : List Sheet). edited l (state_of t)) (stored (state_of t) c.args.name.now c.args.bytes.now c.in-Ok.i f);
      room = c.fill.ensures.room;
    }

pub append-requires-clause-sorted : goal.append-requires-clause-sorted
append-requires-clause-sorted c =
    let t = c.args.self.now in
    let u = c.make_way.new.self in
    let e = c.make_way.ensures.same.state in
    let n = c.args.name.now in
    let bs = c.args.bytes.now in
    let x : Sheet = new_sheet n bs (state_of t) in
    let p : c.in_default.place ≡ c.args.place = elim c.in_default.branch [ in_default-via-in-Ok+else-bytes-head w ↦ w.place-is ∙ sym w.in-Ok.is | in_default-via-in_default w ↦ w.place-is ] in
    let f = subst (Finding (state_of t).sheets n) (sym p) c.requires.spotted in
    let z : laid (state_of u).sheets c.in_default.place (new_sheet n bs (state_of u)) ≡ (after_put n bs (state_of t)).sheets = ap (λ (q : State). laid q.sheets c.in_default.place (new_sheet n bs q)) e ∙ sym (puts_at (state_of t).sheets n c.in_default.place f x refl) in
    subst (λ (l : List Sheet). rising l ≡ true) (sym z) (rising_put x (state_of t).sheets t.sorted)
