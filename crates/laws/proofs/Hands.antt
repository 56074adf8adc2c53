-- Hands: what is emptied, and that holds agree.
use Rattle.std.proofs.Common.{◌≡◌, ℕ, Bool, true, false, cond, not, ◌&&◌, ◌||◌, eqb, List, [], ◌∷◌, sym, refl, ◌∙◌}
use mathlib.Core.List.{Memᴰ}
use Rattle.std.proofs.lemmas.Bool.{and_parts, and_from, false≢true, ne_eqb, not_from_false}
use Rattle.promise.specs.Bytes.{every}
use Rattle.promise.specs.Sheets.{Name, Hold, State, keep, none, same, others, barred, not_its}
use Rattle.promise.specs.Promise.{agree, OnlyHands}
use Rattle.laws.proofs.Kept.{keep_in, every_keep, some_in, none_not_in}

keep_gone : (i : ℕ) (hs : List Hold) → keep (λ (h : Hold). eqb i h.desk) (keep (λ (h : Hold). not (eqb i h.desk)) hs) ≡ []
unfolding keep
keep_gone i [] = refl
keep_gone i (x ∷ xs) = go (keep_gone i xs) (eqb i x.desk) refl
  where
    go : keep (λ (h : Hold). eqb i h.desk) (keep (λ (h : Hold). not (eqb i h.desk)) xs) ≡ [] → (b : Bool) → eqb i x.desk ≡ b →
        keep (λ (h : Hold). eqb i h.desk) (cond (not b) (x ∷ keep (λ (h : Hold). not (eqb i h.desk)) xs) (keep (λ (h : Hold). not (eqb i h.desk)) xs)) ≡ []
    go ih true e = ih
    go ih false e = rw e ih

pub only_hands : OnlyHands
only_hands s i = (refl, keep_gone i s.holds, λ h m n. keep_in (λ (x : Hold). not (eqb i x.desk)) s.holds h (not_from_false (eqb i h.desk) (ne_eqb i h.desk (λ e. n (sym e)))) m)

-- HOLDS AGREE

-- two holds agree: of different names, or of different desks and neither alone
abbrev pub fits : Hold → Hold → Bool
fits h k = not (same h.name k.name) || (not (eqb h.desk k.desk) && not h.alone && not k.alone)

pub agree_keep : (f : Hold → Bool) (hs : List Hold) → agree hs ≡ true → agree (keep f hs) ≡ true
unfolding agree keep
agree_keep f [] a = refl
agree_keep f (h ∷ hs) a = go (agree_keep f hs) (f h)
  where
    parts : (every (fits h) hs ≡ true) × (agree hs ≡ true)
    parts = and_parts (every (fits h) hs) (agree hs) a

    go : (agree hs ≡ true → agree (keep f hs) ≡ true) → (b : Bool) → agree (cond b (h ∷ keep f hs) (keep f hs)) ≡ true
    go ih true = and_from (every (fits h) (keep f hs)) (agree (keep f hs)) (every_keep (fits h) f hs parts.0) (ih parts.1)
    go ih false = ih parts.1

-- a hold that was let be taken agrees with all that stay
every_taken : (i : ℕ) (n : Name) (a : Bool) (s : State) (hs : List Hold) → ((k : Hold) → Memᴰ k hs → Memᴰ k s.holds) → barred i n s ≡ false → (a ≡ true → none (others i n s) ≡ true) →
    every (fits (record { desk = i; name = n; alone = a })) (not_its i n hs) ≡ true
unfolding every keep
every_taken i n a s [] sub b o = refl
every_taken i n a s (k ∷ ks) sub b o = go (every_taken i n a s ks (λ x m. sub x (Memᴰ.tail m)) b o) (eqb i k.desk) (same n k.name) k.alone a refl refl refl refl
  where
    h : Hold
    h = record { desk = i; name = n; alone = a }

    here : Memᴰ k s.holds
    here = sub k (Memᴰ.head refl)

    -- it is another's
    other : eqb i k.desk ≡ false → same n k.name ≡ true → Memᴰ k (others i n s)
    other ed en = keep_in (λ (x : Hold). not (eqb i x.desk) && same n x.name) s.holds k (and_from (not (eqb i k.desk)) (same n k.name) (not_from_false (eqb i k.desk) ed) en) here

    go : every (fits h) (not_its i n ks) ≡ true → (d m l x : Bool) → eqb i k.desk ≡ d → same n k.name ≡ m → k.alone ≡ l → a ≡ x →
        every (fits h) (cond (not (d && m)) (k ∷ not_its i n ks) (not_its i n ks)) ≡ true
    go ih true true l x ed em el ex = ih
    go ih true false l x ed em el ex = rw em ih
    go ih false false l x ed em el ex = rw em ih
    go ih false true true x ed em el ex = absurd (false≢true (sym b ∙ some_in (λ (y : Hold). y.alone) (others i n s) k (other ed em) el))
    go ih false true false true ed em el ex = absurd (none_not_in (others i n s) k (o ex) (other ed em))
    go ih false true false false ed em el ex = rw (em, ed, ex, el) ih

pub agree_taken : (i : ℕ) (n : Name) (a : Bool) (s : State) → agree s.holds ≡ true → barred i n s ≡ false → (a ≡ true → none (others i n s) ≡ true) →
    agree (record { desk = i; name = n; alone = a } ∷ not_its i n s.holds) ≡ true
unfolding agree
agree_taken i n a s g b o =
    and_from (every (fits (record { desk = i; name = n; alone = a })) (not_its i n s.holds)) (agree (not_its i n s.holds))
    (every_taken i n a s s.holds (λ k m. m) b o) (agree_keep (λ (h : Hold). not (eqb i h.desk && same n h.name)) s.holds g)
