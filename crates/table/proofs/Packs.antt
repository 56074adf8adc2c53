-- The loop that compacts the log: what was moved lies below `to`, what waits lies from `edge` on.
use Rattle.std.proofs.Common.{◌≡◌, ℕ, zero, suc, ◌+◌, ◌*◌, ◌<◌, ◌≤◌, true, cond, leb, ◌⊎◌, List, [], ◌∷◌, length, get_or, take, drop, set, sym, refl, ap, ◌∙◌, subst, inl, inr, ⊎_elim, zero-le, arith}
use lib.Seq.{paste}
use Rattle.std.proofs.lemmas.Bool.Decides.{nat_tests}
use Rattle.std.proofs.lemmas.List.{same_lists, length-set, length-map, length-drop, length-take-le, drop-drop, get_or-map}
use Rattle.std.proofs.lemmas.List.Edits.{length-paste}
use Rattle.std.proofs.lemmas.Bool.{and_parts, cases_eq}
use Rattle.promise.specs.Bytes.{every}
use Rattle.promise.specs.Sheets.{Sheet, weight}
use Rattle.table.specs.declared.heads.Head.{Head}
use Rattle.table.specs.View.{cut, sheet_of, sheets_of, below, apart, clear, blank_head}
use Rattle.table.specs.Packing.{Ordered, Packed, Compacted}
use Rattle.table.proofs.Fits.{Lies, lies, lies_at, below_from}
use Rattle.table.proofs.Parts.{cut_length}
use Rattle.table.proofs.Pastes.{cut_first, paste_in, sheet_below, sheet_above}
use Rattle.table.proofs.Apart.{every_set, every_from, set_each, clear_sym, clear_cases, clear_before, apart_at, apart_set}

-- what a piece that waits will take
own : ℕ → Head → ℕ
own e h = cond (leb e h.at) (h.width + h.len) 0

pub owed : ℕ → List Head → ℕ
owed e [] = 0
owed e (h ∷ hs) = own e h + owed e hs

own_later : (e e' : ℕ) (h : Head) → e ≤ e' → own e' h ≤ own e h
unfolding own
own_later e e' h l = grind (arith, nat_tests)

own_spent : (e : ℕ) (h : Head) → h.at < e → own e h ≡ 0
unfolding own
own_spent e h l = grind (arith, nat_tests)

own_whole : (e : ℕ) (h : Head) → e ≤ h.at → own e h ≡ h.width + h.len
unfolding own
own_whole e h l = grind (arith, nat_tests)

own_most : (e : ℕ) (h : Head) → own e h ≤ h.width + h.len
unfolding own
own_most e h = grind (arith, nat_tests)

owed_later : (e e' : ℕ) (hs : List Head) → e ≤ e' → owed e' hs ≤ owed e hs
unfolding owed
owed_later e e' [] l = omega arith
owed_later e e' (h ∷ hs) l = let a = own_later e e' h l in let b = owed_later e e' hs l in omega arith

owed_spent : (e e' : ℕ) (hs : List Head) (i : ℕ) (h : Head) → i < length hs → e ≤ (get_or hs i blank_head).at → (get_or hs i blank_head).at < e' → h.at < e' → owed e' (set hs i h) + ((get_or hs i blank_head).width + (get_or hs i blank_head).len) ≤ owed e hs
unfolding owed
owed_spent e e' [] i h l a b c = absurd (omega arith)
owed_spent e e' (x ∷ xs) zero h l a b c =
    let p = own_spent e' h c in
    let q = own_whole e x a in
    let r = owed_later e e' xs (omega arith) in
    omega arith
owed_spent e e' (x ∷ xs) (suc i) h l a b c =
    let p = own_later e e' x (omega arith) in
    let r = owed_spent e e' xs i h (omega arith) a b c in
    omega arith

owed_weight : (e : ℕ) (m : List ℕ) (hs : List Head) → every (below (length m)) hs ≡ true → owed e hs + 257 * length hs ≤ weight (sheets_of m hs)
unfolding owed every weight
owed_weight e m [] b = omega arith
owed_weight e m (h ∷ hs) b =
    let p = and_parts (below (length m) h) (every (below (length m)) hs) b in
    let l = lies (length m) h p.0 in
    let c = cut_length m (h.at + h.width) h.len (omega (arith, l.piece, l.filled)) in
    let o = own_most e h in
    let r = owed_weight e m hs p.1 in
    omega (arith, l.narrow)

-- a piece that is to be moved
pub record Waits (hs : List Head) (ps : List (ℕ × ℕ)) (k edge : ℕ) (h : Head) (j : ℕ) : Type 0 where
  pub from : edge ≤ h.at
  pub still : h.at ≡ (get_or hs j blank_head).at
  pub turn : ℕ
  pub later : k ≤ turn
  pub within : turn < length ps
  pub its : (get_or ps turn (0, 0)).1 ≡ j

abbrev pub Stands : List Head → List (ℕ × ℕ) → (k to edge : ℕ) → Head → ℕ → Type 0
Stands hs ps k to edge h j = (h.at + h.width + h.size ≤ to) ⊎ Waits hs ps k edge h j

pub record Sliding (m : List ℕ) (hs : List Head) (ps : List (ℕ × ℕ)) (m' : List ℕ) (hs' : List Head) (k to edge : ℕ) : Type 0 where
  pub long : length hs' ≡ length hs
  pub wide : length m' ≡ length m
  pub same : (j : ℕ) → j < length hs → sheet_of m' (get_or hs' j blank_head) ≡ sheet_of m (get_or hs j blank_head)
  pub inside : every (below (length m)) hs' ≡ true
  pub pieces : apart hs' ≡ true
  pub order : to ≤ edge
  pub fits : to ≤ length m
  pub stands : (j : ℕ) → j < length hs → Stands hs ps k to edge (get_or hs' j blank_head) j
  pub owes : to + owed edge hs' ≤ owed 0 hs

pub start : (m : List ℕ) (hs : List Head) (ps : List (ℕ × ℕ)) → every (below (length m)) hs ≡ true → apart hs ≡ true → Ordered hs ps → Sliding m hs ps m hs 0 0 0
start m hs ps b a o = record {
  long = refl;
  wide = refl;
  same = λ j l. refl;
  inside = b;
  pieces = a;
  order = omega arith;
  fits = zero-le;
  stands = λ j l. inr (let q = o.whole j l in record { from = zero-le; still = refl; turn = q.0; later = zero-le; within = q.1; its = q.2 });
  owes = omega arith;
}

abbrev pub moved_to : ℕ → Head → Head
moved_to to h = record { at = to; width = h.width; len = h.len; size = h.len; edition = h.edition }

-- what else is true where the next piece waits
pub record Next (m : List ℕ) (hs : List Head) (ps : List (ℕ × ℕ)) (hs' : List Head) (k to edge i : ℕ) (h : Head) : Type 0 where
  pub lies' : Lies (length m) h
  pub within : i < length hs
  pub down : to ≤ h.at
  pub others : (j : ℕ) → j < length hs → (j ≡ i → ⊥) → Stands hs ps (k + 1) to (h.at + h.width + h.size) (get_or hs' j blank_head) j

next_still : (m : List ℕ) (hs : List Head) (ps : List (ℕ × ℕ)) (k to edge i : ℕ) (h : Head) → Lies (length m) h → to ≤ edge → edge ≤ h.at → Stands hs ps k to edge h i → h.at ≡ (get_or hs i blank_head).at
next_still m hs ps k to edge i h l o e (inl d) = absurd (omega (arith, l.named))
next_still m hs ps k to edge i h l o e (inr w) = w.still

next_other : (hs : List Head) (ps : List (ℕ × ℕ)) (n k to edge i j : ℕ) (h g : Head) → Ordered hs ps → (get_or ps k (0, 0)).1 ≡ i → k < length ps → h.at ≡ (get_or hs i blank_head).at → Lies n g → (j ≡ i → ⊥) → clear h g ≡ true → Stands hs ps k to edge g j → Stands hs ps (k + 1) to (h.at + h.width + h.size) g j
next_other hs ps n k to edge i j h g o ei kl es lg ne c (inl d) = inl d
next_other hs ps n k to edge i j h g o ei kl es lg ne c (inr w) =
    let later : k + 1 ≤ w.turn = ⊎_elim
    (λ (e : w.turn ≡ k). absurd (ne (sym w.its ∙ ap (λ (q : ℕ). (get_or ps q (0, 0)).1) e ∙ ei)))
    (λ (n : w.turn ≡ k → ⊥). omega (arith, w.later))
    (cases_eq w.turn k) in
    let a : (get_or ps k (0, 0)).0 ≡ h.at = (o.right k kl).1 ∙ ap (λ (q : ℕ). (get_or hs q blank_head).at) ei ∙ sym es in
    let b : (get_or ps w.turn (0, 0)).0 ≡ g.at = (o.right w.turn w.within).1 ∙ ap (λ (q : ℕ). (get_or hs q blank_head).at) w.its ∙ sym w.still in
    let r = o.rises k w.turn w.later w.within in
    let f : h.at + h.width + h.size ≤ g.at = ⊎_elim (λ x. x) (λ (x : g.at + g.width + g.size ≤ h.at). absurd (omega (arith, lg.named))) (clear_cases h g c) in
    inr (record { from = f; still = w.still; turn = w.turn; later = later; within = w.within; its = w.its })

pub next : (m : List ℕ) (hs : List Head) (ps : List (ℕ × ℕ)) (m' : List ℕ) (hs' : List Head) (k to edge i : ℕ) (h : Head) → Ordered hs ps → k < length ps → (get_or ps k (0, 0)).1 ≡ i → h ≡ get_or hs' i blank_head → edge ≤ h.at → Sliding m hs ps m' hs' k to edge → Next m hs ps hs' k to edge i h
next m hs ps m' hs' k to edge i h o kl ei eh e s =
    let il : i < length hs = subst (λ (q : ℕ). q < length hs) ei (o.right k kl).0 in
    let il' : i < length hs' = omega (arith, s.long) in
    let l : Lies (length m) h = subst (Lies (length m)) (sym eh) (lies_at (length m) hs' i s.inside il') in
    let st : Stands hs ps k to edge h i = subst (λ (g : Head). Stands hs ps k to edge g i) (sym eh) (s.stands i il) in
    let es = next_still m hs ps k to edge i h l s.order e st in
    record {
      lies' = l;
      within = il;
      down = omega (arith, s.order);
      others = λ j jl ne. next_other hs ps (length m) k to edge i j h (get_or hs' j blank_head) o ei kl es
          (lies_at (length m) hs' j s.inside (omega (arith, s.long))) ne
          (subst (λ (g : Head). clear g (get_or hs' j blank_head) ≡ true) (sym eh) (apart_at hs' i j s.pieces il' (omega (arith, s.long)) (λ q. ne (sym q)))) (s.stands j jl);
    }

-- the head that the spot at k notes
abbrev pub spotted : List Head → List (ℕ × ℕ) → ℕ → Head
spotted hs ps k = get_or hs (get_or ps k (0, 0)).1 blank_head

-- the piece that the spot at k notes waits, if it lies behind the edge
pub waiting : {m : List ℕ} {hs : List Head} {ps : List (ℕ × ℕ)} {m' : List ℕ} {hs' : List Head} {k to edge : ℕ} → Ordered hs ps → k < length ps → edge ≤ (spotted hs' ps k).at → Sliding m hs ps m' hs' k to edge → Next m hs ps hs' k to edge (get_or ps k (0, 0)).1 (spotted hs' ps k)
waiting {m} {hs} {ps} {m'} {hs'} {k} {to} {edge} o kl e s = next m hs ps m' hs' k to edge (get_or ps k (0, 0)).1 (spotted hs' ps k) o kl refl refl e s

-- a piece stands for the same sheet where its name and bytes were copied to
pub moved_same : (m : List ℕ) (to : ℕ) (h : Head) → h.at + (h.width + h.len) ≤ length m → to + (h.width + h.len) ≤ length m → sheet_of (paste m to (drop h.at m) (h.width + h.len)) (moved_to to h) ≡ sheet_of m h
moved_same m to h l f =
    let n = length-drop h.at m in
    let g : h.width + h.len ≤ length (drop h.at m) = omega arith in
    let z : to + 0 ≡ to = omega arith in
    let x : cut to h.width (paste m to (drop h.at m) (h.width + h.len)) ≡ cut h.at h.width m =
    ap (λ (q : ℕ). cut q h.width (paste m to (drop h.at m) (h.width + h.len))) (sym z) ∙ paste_in m (drop h.at m) to (h.width + h.len) 0 h.width f g (omega arith) in
    let y : cut (to + h.width) h.len (paste m to (drop h.at m) (h.width + h.len)) ≡ cut (h.at + h.width) h.len m =
    paste_in m (drop h.at m) to (h.width + h.len) h.width h.len f g (omega arith) ∙ ap (λ (q : List ℕ). take h.len q) (drop-drop h.width h.at m) in
    rw (x, y)

pub move : (m : List ℕ) (hs : List Head) (ps : List (ℕ × ℕ)) (m' : List ℕ) (hs' : List Head) (k to edge i : ℕ) (h : Head) (m'' : List ℕ) → h ≡ get_or hs' i blank_head → edge ≤ h.at → Sliding m hs ps m' hs' k to edge → Next m hs ps hs' k to edge i h →
    m'' ≡ paste m' to (drop h.at m') (h.width + h.len) → Sliding m hs ps m'' (set hs' i (moved_to to h)) (k + 1) (to + (h.width + h.len)) (h.at + h.width + h.size)
move m hs ps m' hs' k to edge i h m'' eh e s n em =
    let l = n.lies' in
    let il' : i < length hs' = omega (arith, s.long, n.within) in
    let dl = length-drop h.at m' in
    let f : to + (h.width + h.len) ≤ length m' = omega (arith, l.piece, l.filled, s.wide, n.down) in
    let g : h.width + h.len ≤ length (drop h.at m') = omega (arith, l.piece, l.filled, s.wide) in
    let new : List ℕ = paste m' to (drop h.at m') (h.width + h.len) in
    let kept : (j : ℕ) → j < length hs → (j ≡ i → ⊥) → sheet_of new (get_or hs' j blank_head) ≡ sheet_of m' (get_or hs' j blank_head) = λ j jl ne.
    (let lj = lies_at (length m) hs' j s.inside (omega (arith, s.long)) in
    ⊎_elim (λ (d : (get_or hs' j blank_head).at + (get_or hs' j blank_head).width + (get_or hs' j blank_head).size ≤ to). sheet_below m' (drop h.at m') to (h.width + h.len) (get_or hs' j blank_head) f g lj.filled d)
    (λ (w : Waits hs ps (k + 1) (h.at + h.width + h.size) (get_or hs' j blank_head) j). sheet_above m' (drop h.at m') to (h.width + h.len) (get_or hs' j blank_head) f g (omega (arith, w.from, l.filled, n.down)))
    (n.others j jl ne)) in
    record {
      long = length-set hs' i (moved_to to h) ∙ s.long;
      wide = ap length em ∙ length-paste m' to (drop h.at m') (h.width + h.len) f g ∙ s.wide;
      same = set_each (λ j x. j < length hs → sheet_of m'' x ≡ sheet_of m (get_or hs j blank_head)) hs' i (moved_to to h) il'
          (λ jl. ap (λ (q : List ℕ). sheet_of q (moved_to to h)) em ∙ moved_same m' to h (omega (arith, l.piece, l.filled, s.wide)) f ∙ ap (sheet_of m') eh ∙ s.same i jl)
          (λ j ne jl. ap (λ (q : List ℕ). sheet_of q (get_or hs' j blank_head)) em ∙ kept j jl ne ∙ s.same j jl);
      inside = every_set (below (length m)) hs' i (moved_to to h) s.inside (below_from (length m) (moved_to to h) (record { piece = omega (arith, f, s.wide); filled = omega arith; named = l.named; narrow = l.narrow; short = omega (arith, l.filled, l.short) }));
      pieces = apart_set hs' i (moved_to to h) s.pieces (λ j jl ne.
          ⊎_elim (λ (d : (get_or hs' j blank_head).at + (get_or hs' j blank_head).width + (get_or hs' j blank_head).size ≤ to). clear_sym (get_or hs' j blank_head) (moved_to to h) (clear_before (get_or hs' j blank_head) (moved_to to h) d))
          (λ (w : Waits hs ps (k + 1) (h.at + h.width + h.size) (get_or hs' j blank_head) j). clear_before (moved_to to h) (get_or hs' j blank_head) (omega (arith, w.from, l.filled, n.down)))
          (n.others j (omega (arith, s.long)) ne));
      order = omega (arith, l.filled, n.down);
      fits = omega (arith, f, s.wide);
      stands = set_each (λ j x. j < length hs → Stands hs ps (k + 1) (to + (h.width + h.len)) (h.at + h.width + h.size) x j) hs' i (moved_to to h) il'
          (λ jl. inl (omega arith))
          (λ j ne jl. ⊎_elim (λ (d : (get_or hs' j blank_head).at + (get_or hs' j blank_head).width + (get_or hs' j blank_head).size ≤ to). inl (omega arith)) (λ (w : Waits hs ps (k + 1) (h.at + h.width + h.size) (get_or hs' j blank_head) j). inr w) (n.others j jl ne));
      owes = (let o = owed_spent edge (h.at + h.width + h.size) hs' i (moved_to to h) il'
          (subst (λ (q : Head). edge ≤ q.at) eh e) (subst (λ (q : Head). q.at < h.at + h.width + h.size) eh (omega (arith, l.named))) (omega (arith, l.named, n.down)) in
          let a : (get_or hs' i blank_head).width ≡ h.width = ap (λ (q : Head). q.width) (sym eh) in
          let b : (get_or hs' i blank_head).len ≡ h.len = ap (λ (q : Head). q.len) (sym eh) in
          omega (arith, s.owes));
    }

pub finish : (m : List ℕ) (hs : List Head) (ps : List (ℕ × ℕ)) (m' : List ℕ) (hs' : List Head) (k to edge : ℕ) → every (below (length m)) hs ≡ true → length ps ≤ k → Sliding m hs ps m' hs' k to edge → Packed m hs m' hs' to
finish m hs ps m' hs' k to edge b e s = record {
  long = s.wide;
  within = s.fits;
  same = same_lists (sheets_of m' hs') (sheets_of m hs) (length-map hs' (sheet_of m') ∙ s.long ∙ sym (length-map hs (sheet_of m))) (λ j d l. at j d (subst (λ (q : ℕ). j < q) (length-map hs' (sheet_of m')) l));
  inside = every_from (below to) hs' blank_head (λ j l. below_at j l (lies_at (length m) hs' j s.inside l) (s.stands j (omega (arith, s.long))));
  pieces = s.pieces;
  small = omega (arith, s.owes, owed_weight 0 m hs b);
} where
  at : (j : ℕ) (d : Sheet) → j < length hs' → get_or (sheets_of m' hs') j d ≡ get_or (sheets_of m hs) j d
  at j d l = let l' : j < length hs = omega (arith, s.long) in get_or-map (sheet_of m') hs' j blank_head d l ∙ s.same j l' ∙ sym (get_or-map (sheet_of m) hs j blank_head d l')

  below_at : (j : ℕ) → j < length hs' → Lies (length m) (get_or hs' j blank_head) → Stands hs ps k to edge (get_or hs' j blank_head) j → below to (get_or hs' j blank_head) ≡ true
  below_at j l q (inl d) = below_from to (get_or hs' j blank_head) (record { piece = d; filled = q.filled; named = q.named; narrow = q.narrow; short = q.short })
  below_at j l q (inr w) = absurd (omega (arith, w.later, w.within))

-- the log cut off behind the pieces stands for the same sheets
kept_first : (m : List ℕ) (u : ℕ) (hs : List Head) → u ≤ length m → every (below u) hs ≡ true → sheets_of (take u m) hs ≡ sheets_of m hs
unfolding every
kept_first m u [] l b = refl
kept_first m u (h ∷ hs) l b =
    let p = and_parts (below u h) (every (below u) hs) b in
    let q = lies u h p.0 in
    let x : cut h.at h.width (take u m) ≡ cut h.at h.width m = cut_first m u h.at h.width l (omega (arith, q.piece)) in
    let y : cut (h.at + h.width) h.len (take u m) ≡ cut (h.at + h.width) h.len m = cut_first m u (h.at + h.width) h.len l (omega (arith, q.piece, q.filled)) in
    let z = kept_first m u hs l p.1 in
    cc

pub cut_off : (m : List ℕ) (hs : List Head) (m' : List ℕ) (hs' : List Head) (u : ℕ) → Packed m hs m' hs' u → Compacted m hs (take u m') hs'
cut_off m hs m' hs' u p =
    let l : u ≤ length m' = omega (arith, p.within, p.long) in
    let e : length (take u m') ≡ u = length-take-le u m' l in
    record {
      same = kept_first m' u hs' l p.inside ∙ p.same;
      inside = subst (λ (n : ℕ). every (below n) hs' ≡ true) (sym e) p.inside;
      pieces = p.pieces;
      small = omega (arith, e, p.small);
    }
