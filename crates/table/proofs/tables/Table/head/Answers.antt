use Rattle.std.proofs.Common.{vec_len, ◌≡◌, true, length, vec_items, sym, ap, ◌∙◌, subst, arith}
use Rattle.std.proofs.lemmas.List.{get_or_read}
use Rattle.promise.specs.Sheets.{Sheet}
use Rattle.table.specs.declared.heads.Head.{Head}
use Rattle.table.specs.View.{below, blank_head}
use Rattle.table.proofs.Ranks.{every_at}
use Rattle.table.proofs.Fits.{sheet_at_lem}
use Rattle.table.proofs.Parts.{cut_length}
use Rattle.table.proofs.Holds.{within, lies_in}
use Rattle.table.proofs.tables.Table.head.Goals as goal

pub returns-clause-len : goal.returns-clause-len
returns-clause-len c =
    let t = c.args.self.now in
    let w = within t c.args.i c.requires in
    let e = get_or_read (vec_items t.heads) c.args.i c.index.result.now w c.index.ensures blank_head in
    let s = sheet_at_lem (vec_items t.log) (vec_items t.heads) c.args.i w in
    let l = lies_in t c.args.i c.requires in
    ap (λ (h : Head). h.len) e ∙ sym (cut_length (vec_items t.log) _ _ (omega (arith, l.piece, l.filled, t.log.ok.0))) ∙ sym (ap (λ (x : Sheet). length x.bytes) s)

pub returns-clause-width : goal.returns-clause-width
returns-clause-width c =
    let t = c.args.self.now in
    let w = within t c.args.i c.requires in
    let e = get_or_read (vec_items t.heads) c.args.i c.index.result.now w c.index.ensures blank_head in
    let s = sheet_at_lem (vec_items t.log) (vec_items t.heads) c.args.i w in
    let l = lies_in t c.args.i c.requires in
    ap (λ (h : Head). h.width) e ∙ sym (cut_length (vec_items t.log) _ _ (omega (arith, l.piece, t.log.ok.0))) ∙ sym (ap (λ (x : Sheet). length x.name) s)

pub returns-clause-lies : goal.returns-clause-lies
returns-clause-lies c =
    let t = c.args.self.now in
    let w = within t c.args.i c.requires in
    let e = get_or_read (vec_items t.heads) c.args.i c.index.result.now w c.index.ensures blank_head in
    subst (λ (h : Head). below (vec_len t.log) h ≡ true) (sym e) (every_at (below (vec_len t.log)) (vec_items t.heads) c.args.i blank_head t.inside w)
