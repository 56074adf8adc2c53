use Rattle.std.proofs.Common.{◌≡◌, ℕ, ◌<◌, true, List, length, get_or, sym, ap, ◌∙◌, subst}
use Rattle.table.specs.declared.heads.Head.{Head}
use Rattle.table.specs.View.{below, blank_head}
use Rattle.table.proofs.Parts.{moved2}
use Rattle.table.proofs.Holds.{indexed, in_log}
use Rattle.table.proofs.tables.Table.name.Goals as goal

pub name-requires : goal.name-requires
name-requires c =
    let t = c.args.self.now in
    let g = c.in_ok-head.ensures.lookup.3 in
    let h = indexed t c.args.i (subst (λ (hs : List Head). c.args.i < length hs) c.deref.ensures.value g.0) in
    let e = g.1 blank_head ∙ ap (λ (hs : List Head). get_or hs c.args.i blank_head) c.deref.ensures.value in
    moved2 (λ (m : List ℕ) (x : Head). below (length m) x ≡ true) (sym c.as_slice.ensures.value) (sym e) (in_log t c.args.i h)
