use Rattle.std.proofs.Common.{refl, vec_len, ◌≡◌, ℕ, ◌+◌, ◌≤◌, max, true, ◌||◌, ltb, List, length, sym, ap, ◌∙◌, subst, arith}
use Rattle.promise.specs.Sheets.{State, Edition, patched}
use Rattle.codec.specs.Calls.{expect_of}
use Rattle.table.specs.Tables.{state_of, sheet_in}
use Rattle.table.proofs.Changing.{patch_out, patch_none, patch_past, patch_on, patched_length, beyond}
use Rattle.table.proofs.Fits.{lies}
use Rattle.table.proofs.Verdicts.{turned_away, missed}
use Rattle.table.proofs.tables.Table.patch.Goals as goal

pub returns-then-not-may_put : goal.returns-then-not-may_put
returns-then-not-may_put c = record { does = λ d. patch_out c.args.self.now.room d c.args.at c.args.name.now c.args.bytes.now (expect_of c.args.expect) (state_of c.args.self.now) (sym c.if-not-may_put.ensures); room = refl }

pub returns-in_err-i : goal.returns-in_err-i
returns-in_err-i c = record { does = λ d. missed c.from_residual.result c.in_err-i.field-0.0 (state_of c.args.self.now) c.from_residual.ensures.1 c.in_err-i.ensures.missing ∙ patch_none c.args.self.now.room d c.args.at c.args.name.now c.args.bytes.now (expect_of c.args.expect) (state_of c.args.self.now) (sym c.if-not-may_put.ensures) c.in_err-i.ensures.none; room = refl }

pub returns-then-at-old : goal.returns-then-at-old
returns-then-at-old c =
    record {
      does = λ d. patch_past c.args.self.now.room d c.args.at c.args.name.now c.args.bytes.now (expect_of c.args.expect) (state_of c.args.self.now) _ (sym c.if-not-may_put.ensures) c.in_ok-i.ensures.there.finds
          (subst (λ (k : ℕ). (ltb k c.args.at || ltb 1048576 (c.args.at + length c.args.bytes.now)) ≡ true) c.head-old.ensures.len (beyond c.head-old.result.len c.args.at (length c.args.bytes.now) c.then-at-old.either));
      room = refl;
    }

pub returns-in_err-admit : goal.returns-in_err-admit
returns-in_err-admit c =
    let t = c.args.self.now in
    let el = c.head-old.ensures.len in
    let old : List ℕ = (sheet_in (state_of t) c.in_ok-i.i).bytes in
    let bl : c.args.at ≤ length old = omega (arith, c.if-at-old.false) in
    let ll : length (patched c.args.at c.args.bytes.now old) ≡ c.max-len.result = patched_length c.args.at c.args.bytes.now old bl ∙ ap (λ (k : ℕ). max k (c.args.at + length c.args.bytes.now)) (sym el) ∙ sym c.max-len.ensures in
    record { does = λ d. turned_away c.from_residual-in_err-admit.result c.in_err-admit.field-0.0 (state_of c.args.self.now) c.from_residual-in_err-admit.ensures.1 ∙ sym (c.in_err-admit.ensures d (patched c.args.at c.args.bytes.now old) ll) ∙ patch_on c.args.self.now.room d c.args.at c.args.name.now c.args.bytes.now (expect_of c.args.expect) (state_of c.args.self.now) _ (sym c.if-not-may_put.ensures) c.in_ok-i.ensures.there.finds bl (omega (arith, c.if-end-gt1048576.false)); room = refl }

pub amend-requires-clause-admitted : goal.amend-requires-clause-admitted
amend-requires-clause-admitted c =
    let t = c.args.self.now in
    let el = c.head-old.ensures.len in
    let old : List ℕ = (sheet_in (state_of t) c.in_ok-i.i).bytes in
    let l = lies (vec_len t.log) c.head-old.result c.head-old.ensures.lies in
    let bl : c.args.at ≤ length old = omega (arith, c.if-at-old.false) in
    let ml : c.max-len.result ≡ max (length old) (c.args.at + length c.args.bytes.now) = c.max-len.ensures ∙ ap (λ (k : ℕ). max k (c.args.at + length c.args.bytes.now)) el in
    (c.in_ok-admit.ensures (patched c.args.at c.args.bytes.now old) (patched_length c.args.at c.args.bytes.now old bl ∙ sym ml)).0

pub returns : goal.returns
returns c =
    let t = c.args.self.now in
    let el = c.head-old.ensures.len in
    let old : List ℕ = (sheet_in (state_of t) c.in_ok-i.i).bytes in
    let bl : c.args.at ≤ length old = omega (arith, c.if-at-old.false) in
    let ll : length (patched c.args.at c.args.bytes.now old) ≡ c.max-len.result = patched_length c.args.at c.args.bytes.now old bl ∙ ap (λ (k : ℕ). max k (c.args.at + length c.args.bytes.now)) (sym el) ∙ sym c.max-len.ensures in
    record {
      does = λ d. ap (λ (s : State). record { reply = Edition s.changes'; state = s }) c.amend.ensures.state ∙ sym ((c.in_ok-admit.ensures (patched c.args.at c.args.bytes.now old) ll).1 d)
          ∙ patch_on c.args.self.now.room d c.args.at c.args.name.now c.args.bytes.now (expect_of c.args.expect) (state_of c.args.self.now) _ (sym c.if-not-may_put.ensures) c.in_ok-i.ensures.there.finds bl (omega (arith, c.if-end-gt1048576.false));
      room = c.amend.ensures.room;
    }
