-- Heads and log changed together: the sheets that they stand for then, and what stays true.
use Rattle.std.proofs.Common.{◌≡◌, ℕ, zero, suc, ◌+◌, ◌<◌, ◌≤◌, max, Bool, true, ◌&&◌, List, [], ◌∷◌, ◌++◌, Result, Ok, Err, map, length, get_or, take, drop, set, sym, refl, ap, ◌∙◌, subst, ⊎_elim, add-zero, arith, rules}
use Rattle.std.specs.List.{remove, slice_range}
use lib.Seq.{paste}
use Rattle.std.proofs.lemmas.List.{places, same_lists, map-set, map-append, take-map, drop-map, length-map, length-set, get_or-map, get_or-set_same, get_or-set_other}
use Rattle.std.proofs.lemmas.Bool.{and_parts, cases_eq}
use Rattle.promise.specs.Bytes.{every}
use Rattle.promise.specs.Sheets.{Sheet, Name, less, patched}
use Rattle.table.specs.declared.heads.Head.{Head}
use Rattle.table.specs.View.{cut, sheet_of, sheets_of, below, apart, clear, rising, blank_head, blank_sheet, laid, filled_sheet}
use Rattle.table.proofs.Ranks.{every_at}
use Rattle.table.proofs.Fits.{Lies, lies, lies_at, below_from, below_more, sheet_at_lem}
use Rattle.table.proofs.Parts.{first_take, drop_drops}
use Rattle.table.proofs.Pastes.{cut_behind, cut_copied, sheet_front, paste_below, sheet_below, sheet_above}
use Rattle.table.proofs.Apart.{every_set, every_inserted, clear_cases, apart_at, apart_set, apart_inserted, clear_behind}

-- sheets are as they were where bytes are written behind them
pub kept_front : (m s : List ℕ) (hs : List Head) → every (below (length m)) hs ≡ true → sheets_of (m ++ s) hs ≡ sheets_of m hs
unfolding every
kept_front m s [] b = refl
kept_front m s (h ∷ hs) b =
    let p = and_parts (below (length m) h) (every (below (length m)) hs) b in
    let l = lies (length m) h p.0 in
    let x = sheet_front m s h (omega (arith, l.piece, l.filled)) in
    let y = kept_front m s hs p.1 in
    cc

abbrev pub new_head : ℕ → Name → List ℕ → ℕ → Head
new_head u n bs e = record { at = u; width = length n; len = length bs; size = length bs; edition = record { 0 = e } }

-- a piece that was written stands for its sheet
pub new_sheet_lem : (m n bs : List ℕ) (e : ℕ) → sheet_of (m ++ (n ++ bs)) (new_head (length m) n bs e) ≡ record { name = n; bytes = bs; edition = e }
new_sheet_lem m n bs e =
    let a : cut 0 (length n) (n ++ bs) ≡ n = same_lists _ _ (search (rules, places)) (λ k d h. grind (arith, places)) in
    let b : cut (length n) (length bs) (n ++ bs) ≡ bs = same_lists _ _ (search (rules, places)) (λ k d h. grind (arith, places)) in
    let x : cut (length m) (length n) (m ++ (n ++ bs)) ≡ n = ap (λ (q : ℕ). cut q (length n) (m ++ (n ++ bs))) (sym (add-zero (length m))) ∙ cut_behind m (n ++ bs) 0 (length n) ∙ a in
    let y : cut (length m + length n) (length bs) (m ++ (n ++ bs)) ≡ bs = cut_behind m (n ++ bs) (length n) (length bs) ∙ b in
    rw (x, y)

laid_sheets : (m : List ℕ) (hs : List Head) (p : Result ℕ ℕ) (h : Head) → sheets_of m (laid hs p h) ≡ laid (sheets_of m hs) p (sheet_of m h)
laid_sheets m hs (Ok i) h = map-set (sheet_of m) hs i h
laid_sheets m hs (Err i) h = rw (map-append, ← (take-map (sheet_of m) i hs), ← (drop-map (sheet_of m) i hs))

pub appended : (m m' n bs : List ℕ) (hs hs' : List Head) (u e : ℕ) (p : Result ℕ ℕ) → u ≡ length m → every (below u) hs ≡ true → m' ≡ m ++ (n ++ bs) → hs' ≡ laid hs p (new_head u n bs e) → sheets_of m' hs' ≡ laid (sheets_of m hs) p (record { name = n; bytes = bs; edition = e })
appended m m' n bs hs hs' u e p l f em eh =
    let k = kept_front m (n ++ bs) hs (subst (λ (q : ℕ). every (below q) hs ≡ true) l f) in
    let s : sheet_of (m ++ (n ++ bs)) (new_head u n bs e) ≡ record { name = n; bytes = bs; edition = e } = ap (λ (q : ℕ). sheet_of (m ++ (n ++ bs)) (new_head q n bs e)) l ∙ new_sheet_lem m n bs e in
    ap (λ (q : List ℕ). sheets_of q hs') em ∙ ap (sheets_of (m ++ (n ++ bs))) eh ∙ laid_sheets (m ++ (n ++ bs)) hs p (new_head u n bs e)
    ∙ ap (λ (q : List Sheet). laid q p (sheet_of (m ++ (n ++ bs)) (new_head u n bs e))) k ∙ ap (λ (q : Sheet). laid (sheets_of m hs) p q) s

pub laid_inside : (hs : List Head) (u v : ℕ) (p : Result ℕ ℕ) (h : Head) → u ≤ v → every (below u) hs ≡ true → below v h ≡ true → every (below v) (laid hs p h) ≡ true
laid_inside hs u v (Ok i) h l f g = every_set (below v) hs i h (below_more u v hs l f) g
laid_inside hs u v (Err i) h l f g = every_inserted (below v) hs i h (below_more u v hs l f) g

pub laid_apart : (hs : List Head) (u : ℕ) (p : Result ℕ ℕ) (h : Head) → u ≤ h.at → every (below u) hs ≡ true → apart hs ≡ true → apart (laid hs p h) ≡ true
laid_apart hs u (Ok i) h l f a = apart_set hs i h a (λ j jl ne. every_at (clear h) hs j blank_head (clear_behind u hs h f l) jl)
laid_apart hs u (Err i) h l f a = apart_inserted hs i h a (clear_behind u hs h f l)

pub new_below : (u : ℕ) (n bs : List ℕ) (e : ℕ) → 1 ≤ length n → length n ≤ 255 → length bs ≤ 1048576 → below (u + length n + length bs) (new_head u n bs e) ≡ true
new_below u n bs e a b c = below_from (u + length n + length bs) (new_head u n bs e) (record { piece = omega arith; filled = omega arith; named = a; narrow = b; short = c })

-- a piece copied behind all others stands for the same sheet
copied : (m z : List ℕ) (size : ℕ) (h : Head) → h.at + (h.width + h.len) ≤ length m → sheet_of (m ++ (slice_range m h.at (h.at + (h.width + h.len)) ++ z)) (record { at = length m; width = h.width; len = h.len; size = size; edition = h.edition }) ≡ sheet_of m h
copied m z size h l =
    let s : List ℕ = slice_range m h.at (h.at + (h.width + h.len)) ++ z in
    let x : cut (length m) h.width (m ++ s) ≡ cut h.at h.width m = ap (λ (q : ℕ). cut q h.width (m ++ s)) (sym (add-zero (length m))) ∙ cut_behind m s 0 h.width ∙ cut_copied m z h.at (h.width + h.len) 0 h.width l (omega arith) ∙ ap (λ (q : ℕ). cut q h.width m) (add-zero h.at) in
    let y : cut (length m + h.width) h.len (m ++ s) ≡ cut (h.at + h.width) h.len m = cut_behind m s h.width h.len ∙ cut_copied m z h.at (h.width + h.len) h.width h.len l (omega arith) in
    rw (x, y)

pub moved_sheets : (m m' z : List ℕ) (hs : List Head) (u i size : ℕ) (h : Head) → i < length hs → h ≡ get_or hs i blank_head → u ≡ length m → Lies u h → every (below u) hs ≡ true → m' ≡ m ++ (slice_range m h.at (h.at + (h.width + h.len)) ++ z) →
    sheets_of m' (set hs i (record { at = u; width = h.width; len = h.len; size = size; edition = h.edition })) ≡ sheets_of m hs
moved_sheets m m' z hs u i size h il eh ul l b em =
    let new : List ℕ = m ++ (slice_range m h.at (h.at + (h.width + h.len)) ++ z) in
    let h' : Head = record { at = u; width = h.width; len = h.len; size = size; edition = h.edition } in
    let k : sheets_of new hs ≡ sheets_of m hs = kept_front m (slice_range m h.at (h.at + (h.width + h.len)) ++ z) hs (subst (λ (q : ℕ). every (below q) hs ≡ true) ul b) in
    let s : sheet_of new h' ≡ get_or (sheets_of m hs) i blank_sheet = ap (λ (q : ℕ). sheet_of new (record { at = q; width = h.width; len = h.len; size = size; edition = h.edition })) ul ∙ copied m z size h (omega (arith, l.piece, l.filled)) ∙ ap (sheet_of m) eh ∙ sym (sheet_at_lem m hs i il) in
    let e : set (sheets_of m hs) i (get_or (sheets_of m hs) i blank_sheet) ≡ sheets_of m hs = same_set (sheets_of m hs) i in
    ap (λ (q : List ℕ). sheets_of q (set hs i h')) em ∙ map-set (sheet_of new) hs i h'
    ∙ ap (λ (q : List Sheet). set q i (sheet_of new h')) k ∙ ap (λ (q : Sheet). set (sheets_of m hs) i q) s ∙ e where
      same_set : (xs : List Sheet) (i : ℕ) → set xs i (get_or xs i blank_sheet) ≡ xs
      same_set [] i = refl
      same_set (x ∷ xs) zero = refl
      same_set (x ∷ xs) (suc i) = ap (λ (q : List Sheet). x ∷ q) (same_set xs i)

-- written over in place

written : (m bs : List ℕ) (a old o len : ℕ) → a + old ≤ length m → a + (o + length bs) ≤ length m → a + len ≤ length m → o ≤ old → o + length bs ≤ len → len ≤ max old (o + length bs) → cut a len (paste m (a + o) bs (length bs)) ≡ take len (patched o bs (cut a old m))
written m bs a old o len p q r s t u =
    let x : patched o bs (cut a old m) ≡ take o (cut a old m) ++ (bs ++ drop (o + length bs) (cut a old m)) = rw (first_take o (cut a old m), drop_drops (o + length bs) (cut a old m)) in
    same_lists (cut a len (paste m (a + o) bs (length bs))) (take len (take o (cut a old m) ++ (bs ++ drop (o + length bs) (cut a old m)))) (search (rules, places)) (λ k d h. grind (arith, places)) ∙ ap (take len) (sym x)

agree : (f g : Head → Sheet) (hs : List Head) (i : ℕ) (s : Sheet) → ((k : ℕ) → k < length hs → (k ≡ i → ⊥) → f (get_or hs k blank_head) ≡ g (get_or hs k blank_head)) → set (map f hs) i s ≡ set (map g hs) i s
agree f g hs i s same = same_lists _ _ (simp (length-set, length-map)) (λ k d h. at k d (simp (length-set, length-map) at h)) where
  at : (k : ℕ) (d : Sheet) → k < length hs → get_or (set (map f hs) i s) k d ≡ get_or (set (map g hs) i s) k d
  at k d h = ⊎_elim
      (λ (e : k ≡ i).
      let lf : i < length (map f hs) = simp length-map (omega arith) in
      let lg : i < length (map g hs) = simp length-map (omega arith) in
      rw e (get_or-set_same (map f hs) i s d lf ∙ sym (get_or-set_same (map g hs) i s d lg)))
      (λ ne.
      get_or-set_other (map f hs) i k s d ne ∙ get_or-map f hs k blank_head d h ∙ same k h ne ∙ sym (get_or-map g hs k blank_head d h)
      ∙ sym (get_or-set_other (map g hs) i k s d ne))
      (cases_eq k i)

pub filled_sheets : (m m' : List ℕ) (hs : List Head) (i o len e : ℕ) (bs : List ℕ) (h : Head) → i < length hs → h ≡ get_or hs i blank_head → every (below (length m)) hs ≡ true → apart hs ≡ true → o ≤ h.len → o + length bs ≤ len → len ≤ h.size → len ≤ max h.len (o + length bs) → m' ≡ paste m (h.at + h.width + o) bs (length bs) →
    sheets_of m' (set hs i (record { at = h.at; width = h.width; len = len; size = h.size; edition = record { 0 = e } })) ≡ set (sheets_of m hs) i (filled_sheet (sheets_of m hs) i o bs len e)
filled_sheets m m' hs i o len e bs h il eh b a ol tl ls lm em =
    let l : Lies (length m) h = subst (Lies (length m)) (sym eh) (lies_at (length m) hs i b il) in
    let new : List ℕ = paste m (h.at + h.width + o) bs (length bs) in
    let h' : Head = record { at = h.at; width = h.width; len = len; size = h.size; edition = record { 0 = e } } in
    let f : h.at + h.width + o + length bs ≤ length m = omega (arith, l.piece) in
    let s = sheet_at_lem m hs i il in
    let nm : cut h.at h.width new ≡ (get_or (sheets_of m hs) i blank_sheet).name = paste_below m bs (h.at + h.width + o) (length bs) h.at h.width f (omega arith) (omega arith) ∙ ap (λ (g : Head). cut g.at g.width m) eh ∙ sym (ap (λ (x : Sheet). x.name) s) in
    let old : cut (h.at + h.width) h.len m ≡ (get_or (sheets_of m hs) i blank_sheet).bytes = ap (λ (g : Head). cut (g.at + g.width) g.len m) eh ∙ sym (ap (λ (x : Sheet). x.bytes) s) in
    let bt : cut (h.at + h.width) len new ≡ take len (patched o bs (get_or (sheets_of m hs) i blank_sheet).bytes) =
    written m bs (h.at + h.width) h.len o len (omega (arith, l.piece, l.filled)) (omega (arith, l.piece)) (omega (arith, l.piece)) ol tl lm ∙ ap (λ (q : List ℕ). take len (patched o bs q)) old in
    let x : sheet_of new h' ≡ filled_sheet (sheets_of m hs) i o bs len e = rw (nm, bt) in
    ap (λ (q : List ℕ). sheets_of q (set hs i h')) em ∙ map-set (sheet_of new) hs i h' ∙ agree (sheet_of new) (sheet_of m) hs i (sheet_of new h') (λ k kl ne.
    (let lk = lies_at (length m) hs k b kl in
    ⊎_elim (λ (c : h.at + h.width + h.size ≤ (get_or hs k blank_head).at). sheet_above m bs (h.at + h.width + o) (length bs) (get_or hs k blank_head) f (omega arith) (omega arith))
    (λ (c : (get_or hs k blank_head).at + (get_or hs k blank_head).width + (get_or hs k blank_head).size ≤ h.at). sheet_below m bs (h.at + h.width + o) (length bs) (get_or hs k blank_head) f (omega arith) lk.filled (omega arith))
    (clear_cases h (get_or hs k blank_head) (subst (λ (g : Head). clear g (get_or hs k blank_head) ≡ true) (sym eh) (apart_at hs i k a il kl (λ q. ne (sym q)))))))
    ∙ ap (λ (q : Sheet). set (sheets_of m hs) i q) x

-- a head with the same piece is as far from the others
pub same_piece : (hs : List Head) (i : ℕ) (h h' : Head) → i < length hs → h ≡ get_or hs i blank_head → h'.at ≡ h.at → h'.width ≡ h.width → h'.size ≡ h.size → apart hs ≡ true → apart (set hs i h') ≡ true
same_piece hs i h h' il eh p q r a = apart_set hs i h' a (λ j jl ne.
    (let c : clear h (get_or hs j blank_head) ≡ true = subst (λ (g : Head). clear g (get_or hs j blank_head) ≡ true) (sym eh) (apart_at hs i j a il jl (λ e. ne (sym e))) in
    rw (p, q, r) c))

every_named : (f : Sheet → Bool) (xs : List Sheet) (i : ℕ) (x : Sheet) → f x ≡ f (get_or xs i blank_sheet) → every f (set xs i x) ≡ every f xs
unfolding every
every_named f [] i x e = refl
every_named f (y ∷ ys) zero x e = ap (λ (b : Bool). b && every f ys) e
every_named f (y ∷ ys) (suc i) x e = ap (λ (b : Bool). f y && b) (every_named f ys i x e)

-- another sheet of the same name keeps the order
pub rising_named : (xs : List Sheet) (i : ℕ) (x : Sheet) → x.name ≡ (get_or xs i blank_sheet).name → rising (set xs i x) ≡ rising xs
unfolding rising
rising_named [] i x e = refl
rising_named (y ∷ ys) zero x e = ap (λ (n : Name). every (λ (z : Sheet). less n z.name) ys && rising ys) e
rising_named (y ∷ ys) (suc i) x e =
    let p = every_named (λ (z : Sheet). less y.name z.name) ys i x (ap (less y.name) e) in
    let q = rising_named ys i x e in
    rw (p, q)

pub sheets_removed : (m : List ℕ) (hs : List Head) (i : ℕ) → sheets_of m (remove hs i) ≡ remove (sheets_of m hs) i
sheets_removed m hs i = rw (map-append, ← (take-map (sheet_of m) i hs), ← (drop-map (sheet_of m) (suc i) hs))
