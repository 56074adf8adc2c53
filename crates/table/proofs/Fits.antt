-- Heads that lie within the log, and the sheets at their indices.
use Rattle.std.proofs.Common.{◌≡◌, ℕ, ◌+◌, ◌<◌, ◌≤◌, true, false, List, [], ◌∷◌, length, get_or, refl, arith}
use Rattle.std.proofs.lemmas.Bool.Decides.{nat_tests}
use Rattle.std.proofs.lemmas.Bool.{and_parts, and_from}
use Rattle.std.proofs.lemmas.List.{get_or-map, length-map}
use Rattle.promise.specs.Bytes.{every}
use Rattle.promise.specs.Sheets.{Name, less}
use Rattle.table.specs.declared.heads.Head.{Head}
use Rattle.table.specs.View.{below, rising, rank, sheet_of, sheets_of, sheet_at, blank_head, blank_sheet}
use Rattle.table.proofs.Ranks.{every_at, rank_le, rank_below, rank_above}

-- what `below` says
pub record Lies (n : ℕ) (h : Head) : Type 0 where
  pub piece : h.at + h.width + h.size ≤ n
  pub filled : h.len ≤ h.size
  pub named : 1 ≤ h.width
  pub narrow : h.width ≤ 255
  pub short : h.size ≤ 1048576

pub lies : (n : ℕ) (h : Head) → below n h ≡ true → Lies n h
lies n h b = record { piece = grind (arith, nat_tests); filled = grind (arith, nat_tests); named = grind (arith, nat_tests); narrow = grind (arith, nat_tests); short = grind (arith, nat_tests) }

pub below_from : (n : ℕ) (h : Head) → Lies n h → below n h ≡ true
below_from n h l =
    let p = l.piece in
    let f = l.filled in
    let a = l.named in
    let w = l.narrow in
    let s = l.short in
    grind (arith, nat_tests)

pub lies_at : (n : ℕ) (hs : List Head) (k : ℕ) → every (below n) hs ≡ true → k < length hs → Lies n (get_or hs k blank_head)
lies_at n hs k e h = lies n (get_or hs k blank_head) (every_at (below n) hs k blank_head e h)

pub below_more : (u v : ℕ) (hs : List Head) → u ≤ v → every (below u) hs ≡ true → every (below v) hs ≡ true
unfolding every
below_more u v [] l e = refl
below_more u v (h ∷ hs) l e =
    let p = and_parts (below u h) (every (below u) hs) e in
    let q = lies u h p.0 in
    and_from (below v h) (every (below v) hs) (below_from v h (record { piece = omega arith; filled = q.filled; named = q.named; narrow = q.narrow; short = q.short })) (below_more u v hs l p.1)

pub sheet_at_lem : (m : List ℕ) (hs : List Head) (k : ℕ) → k < length hs → sheet_at m hs k ≡ sheet_of m (get_or hs k blank_head)
sheet_at_lem m hs k h = get_or-map (sheet_of m) hs k blank_head blank_sheet h

pub count : (m : List ℕ) (hs : List Head) → length (sheets_of m hs) ≡ length hs
count m hs = length-map hs (sheet_of m)

pub place_le : (m : List ℕ) (hs : List Head) (n : Name) → rank n (sheets_of m hs) ≤ length hs
place_le m hs n = rw length-map at (rank_le n (sheets_of m hs))

pub place_below : (m : List ℕ) (hs : List Head) (n : Name) (k : ℕ) → k < length hs → less (sheet_at m hs k).name n ≡ false → rank n (sheets_of m hs) ≤ k
place_below m hs n k h e = rank_below n (sheets_of m hs) k blank_sheet (rw length-map h) e

pub place_above : (m : List ℕ) (hs : List Head) (n : Name) (k : ℕ) → rising (sheets_of m hs) ≡ true → k < length hs → less (sheet_at m hs k).name n ≡ true → k < rank n (sheets_of m hs)
place_above m hs n k r h e = rank_above n (sheets_of m hs) k blank_sheet r (rw length-map h) e
