-- Parts of a memory that was written over.
use Rattle.std.proofs.Common.{◌≡◌, ℕ, ◌+◌, ◌-◌, ◌≤◌, List, ◌++◌, length, replicate, take, drop, ap, ◌∙◌, arith, rules}
use Rattle.std.specs.List.{copy_within, slice_range}
use lib.Seq.{paste}
use Rattle.std.proofs.lemmas.List.{places, same_lists}
use Rattle.table.specs.declared.heads.Head.{Head}
use Rattle.table.specs.View.{cut, sheet_of}

-- n bytes moved from one place to another
pub moved_within : (m m' : List ℕ) (from to n : ℕ) → m' ≡ copy_within m from (from + n) to → m' ≡ paste m to (drop from m) n
moved_within m m' from to n e = e ∙ ap (paste m to (drop from m)) (omega arith)

-- zeros behind a memory, and n of its bytes copied into them
pub zeros_behind : (m : List ℕ) (u v len : ℕ) → u ≡ v → v ≡ length m → take (u + len) m ++ replicate (u + len - v) 0 ≡ m ++ replicate len 0
zeros_behind m u v len e f = same_lists _ _ (search (rules, places)) (λ i d x. grind (arith, places))

pub copied_behind : (m r s : List ℕ) (u v from n len : ℕ) → u ≡ v → v ≡ length m → from + n ≤ v → n ≤ len → r ≡ take (u + len) m ++ replicate (u + len - v) 0 → s ≡ copy_within r from (from + n) u → s ≡ m ++ (slice_range m from (from + n) ++ replicate (len - n) 0)
copied_behind m r s u v from n len e f l h p q =
    let w = moved_within r s from u n q in
    let z = ap (λ (x : List ℕ). paste x u (drop from x) n) (p ∙ zeros_behind m u v len e f) in
    w ∙ z ∙ same_lists _ _ (search (rules, places)) (λ i d x. grind (arith, places))

-- a part before what was written is as it was
pub paste_below : (m s : List ℕ) (at k a n : ℕ) → at + k ≤ length m → k ≤ length s → a + n ≤ at → cut a n (paste m at s k) ≡ cut a n m
paste_below m s at k a n l g h = same_lists _ _ (search (rules, places)) (λ i d x. grind (arith, places))

-- and one behind it
pub paste_above : (m s : List ℕ) (at k a n : ℕ) → at + k ≤ length m → k ≤ length s → at + k ≤ a → cut a n (paste m at s k) ≡ cut a n m
paste_above m s at k a n l g h = same_lists _ _ (search (rules, places)) (λ i d x. grind (arith, places))

-- a part of what was written
pub paste_in : (m s : List ℕ) (at k a n : ℕ) → at + k ≤ length m → k ≤ length s → a + n ≤ k → cut (at + a) n (paste m at s k) ≡ cut a n s
paste_in m s at k a n l g h = same_lists _ _ (search (rules, places)) (λ i d x. grind (arith, places))

-- sheets that lie before or behind what was written
pub sheet_below : (m s : List ℕ) (at k : ℕ) (h : Head) → at + k ≤ length m → k ≤ length s → h.len ≤ h.size → h.at + h.width + h.size ≤ at → sheet_of (paste m at s k) h ≡ sheet_of m h
sheet_below m s at k h l g f b =
    let x = paste_below m s at k h.at h.width l g (omega arith) in
    let y = paste_below m s at k (h.at + h.width) h.len l g (omega arith) in
    rw (x, y)

pub sheet_above : (m s : List ℕ) (at k : ℕ) (h : Head) → at + k ≤ length m → k ≤ length s → at + k ≤ h.at → sheet_of (paste m at s k) h ≡ sheet_of m h
sheet_above m s at k h l g b =
    let x = paste_above m s at k h.at h.width l g b in
    let y = paste_above m s at k (h.at + h.width) h.len l g (omega arith) in
    rw (x, y)

-- parts of what is cut off, and of what bytes were written behind
pub cut_first : (m : List ℕ) (u a n : ℕ) → u ≤ length m → a + n ≤ u → cut a n (take u m) ≡ cut a n m
cut_first m u a n l h = same_lists _ _ (search (rules, places)) (λ i d x. grind (arith, places))

pub cut_front : (m s : List ℕ) (a n : ℕ) → a + n ≤ length m → cut a n (m ++ s) ≡ cut a n m
cut_front m s a n h = same_lists _ _ (search (rules, places)) (λ i d x. grind (arith, places))

pub cut_behind : (m s : List ℕ) (a n : ℕ) → cut (length m + a) n (m ++ s) ≡ cut a n s
cut_behind m s a n = same_lists _ _ (search (rules, places)) (λ i d x. grind (arith, places))

pub sheet_front : (m s : List ℕ) (h : Head) → h.at + h.width + h.len ≤ length m → sheet_of (m ++ s) h ≡ sheet_of m h
sheet_front m s h l =
    let x = cut_front m s h.at h.width (omega arith) in
    let y = cut_front m s (h.at + h.width) h.len l in
    rw (x, y)

pub cut_copied : (m z : List ℕ) (a k b n : ℕ) → a + k ≤ length m → b + n ≤ k → cut b n (slice_range m a (a + k) ++ z) ≡ cut (a + b) n m
cut_copied m z a k b n l h = same_lists _ _ (search (rules, places)) (λ i d x. grind (arith, places))
