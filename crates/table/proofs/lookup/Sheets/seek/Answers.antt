use Rattle.std.proofs.Common.{◌≡◌, ℕ, ◌<◌, true, List, length, get_or, sym, ap, ◌∙◌, subst, arith}
use Rattle.std.specs.Cmp.Lexicographic.{same_text, other_text}
use Rattle.table.specs.declared.heads.Head.{Head}
use Rattle.promise.specs.Sheets.{Sheet}
use Rattle.table.specs.View.{below, sheet_of, sheets_of, blank_head, blank_sheet}
use Rattle.table.proofs.Ranks.{every_at}
use Rattle.table.proofs.Fits.{count, sheet_at_lem}
use Rattle.table.proofs.Seeks.{hits, misses, ends}
use Rattle.table.proofs.lookup.Sheets.seek.Goals as goal

pub name-requires : goal.name-requires
name-requires c =
    let s = c.args.self.now in
    let g = c.in-Some.ensures.lookup.3 in
    subst (λ h. below (length s.mem.now) h ≡ true) (sym (g.1 blank_head)) (every_at (below (length s.mem.now)) s.heads.now c.rank_of-index.result blank_head s.sound.inside g.0)

-- the name of the head at an index is that of the sheet there
named : (m : List ℕ) (hs : List Head) (i : ℕ) (h : Head) (n : List ℕ) → i < length hs → h ≡ get_or hs i blank_head → n ≡ (sheet_of m h).name → (get_or (sheets_of m hs) i blank_sheet).name ≡ n
named m hs i h n l e f = ap (λ (x : Sheet). x.name) (sheet_at_lem m hs i l) ∙ sym (f ∙ ap (λ (g : Head). (sheet_of m g).name) e)

pub returns-in-Some : goal.returns-in-Some
returns-in-Some c =
    let s = c.args.self.now in
    let g = c.in-Some.ensures.lookup.3 in
    hits (sheets_of s.mem.now s.heads.now) c.args.name.now c.rank_of-index.result c.rank_of-index.ensures s.sound.sorted (omega (arith, g.0, count s.mem.now s.heads.now)) (named s.mem.now s.heads.now c.rank_of-index.result c.in-Some.head.now c.name.result.now g.0 (g.1 blank_head) c.name.ensures ∙ same_text c.name.result.now c.args.name.now c.if-eq.ensures)

pub returns-in_default : goal.returns-in_default
returns-in_default c =
    let s = c.args.self.now in
    let g = c.in-Some.ensures.lookup.3 in
    misses (sheets_of s.mem.now s.heads.now) c.args.name.now c.rank_of-index.result c.rank_of-index.ensures s.sound.sorted (omega (arith, g.0, count s.mem.now s.heads.now)) (λ e. other_text c.name.result.now c.args.name.now c.if-eq.ensures (sym (named s.mem.now s.heads.now c.rank_of-index.result c.in-Some.head.now c.name.result.now g.0 (g.1 blank_head) c.name.ensures) ∙ e))

pub returns-in_default-2 : goal.returns-in_default-2
returns-in_default-2 c =
    let s = c.args.self.now in
    ends (sheets_of s.mem.now s.heads.now) c.args.name.now c.rank_of-index.result c.rank_of-index.ensures s.sound.sorted (let g = c.in_default.in-None-own.ensures.3 in omega (arith, g, count s.mem.now s.heads.now))
