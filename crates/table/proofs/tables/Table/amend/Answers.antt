use Rattle.std.proofs.Common.{◌≡◌, ℕ, ◌+◌, List, set, sym, refl, ap, ◌∙◌}
use Rattle.promise.specs.Sheets.{Sheet, State, patched}
use Rattle.table.specs.Tables.{state_of, new_sheet, sheet_in, filled, edited}
use Rattle.table.proofs.Changing.{patch_filled}
use Rattle.table.proofs.Verdicts.{admits_as}
use Rattle.table.proofs.tables.Table.amend.Goals as goal

pub fill-requires-clause-admitted : goal.fill-requires-clause-admitted
fill-requires-clause-admitted c =
    let t = c.args.self.now in
    let e = c.make_fit.ensures.same.state in
    let i = c.args.i in
    let s = c.requires.spotted in
    let bs = c.args.bytes.now in
    let old : List ℕ = (sheet_in (state_of t) i).bytes in
    let x : Sheet = new_sheet c.args.name.now (patched c.args.at bs old) (state_of t) in
    let pf = patch_filled (state_of t).sheets c.args.name.now i c.args.at c.args.len bs (t.changes + 1) s.named c.requires.begun c.requires.whole in
    let z : filled i c.args.at bs c.args.len (state_of c.make_fit.new.self) ≡ set (state_of t).sheets i x = ap (filled i c.args.at bs c.args.len) e ∙ ap (set (state_of t).sheets i) pf in
    admits_as t.room c.make_fit.new.self.room (state_of t) (state_of c.make_fit.new.self) _ _ c.make_fit.ensures.same.room e (z ∙ sym (s.puts x refl)) c.requires.admitted

pub returns : goal.returns
returns c =
    let t = c.args.self.now in
    let e = c.make_fit.ensures.same in
    let i = c.args.i in
    let s = c.requires.spotted in
    let bs = c.args.bytes.now in
    let x : Sheet = new_sheet c.args.name.now (patched c.args.at bs (sheet_in (state_of t) i).bytes) (state_of t) in
    let pf = patch_filled (state_of t).sheets c.args.name.now i c.args.at c.args.len bs (t.changes + 1) s.named c.requires.begun c.requires.whole in
    record {
      state = c.fill.ensures.state ∙ ap (λ (q : State). edited (filled i c.args.at bs c.args.len q) q) e.state
          ∙ ap (λ (l : List Sheet). edited l (state_of t)) (ap (set (state_of t).sheets i) pf ∙ sym (s.puts x refl));
      room = c.fill.ensures.room ∙ e.room;
    }
