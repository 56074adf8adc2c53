-- What it says that a reader made of others has read something.
use Rattle.std.proofs.Common.{◌≡◌, ℕ, Bool, true, false, cond, eqb, [], ◌++◌, length, Some, None, Ok, Err, Option, Result, sym, refl, ap, ◌∙◌, arith, eqb-true}
use Rattle.std.specs.Option.{ok_or}
use Rattle.std.proofs.lemmas.List.{append-nil, nil_from_length}
use Rattle.promise.specs.Bytes.{Bytes, bind, ended}
use Rattle.text.specs.Words.{word_as, word_in, spaced}
use Rattle.text.proofs.WordLaws.{word_line}
use Rattle.lines.specs.Events.{and_then, last_word}
use Rattle.lines.specs.declared.error.LineError.{LineError}
use Rattle.lines.specs.declared.error.LineError.TheVariants.{ExtraWord}

pub some_bind : {A B : Type 0} (o : Option A) (f : A → Option B) (y : B) → bind o f ≡ Some y → (x : A) × (o ≡ Some x) × (f x ≡ Some y)
some_bind None f y e = let z : ◌≡◌ {A = ℕ} 0 1 = cc in absurd (omega arith)
some_bind (Some x) f y e = (x, refl, e)

pub ok_then : {A B : Type 0} (o : Result A LineError) (f : A → Result B LineError) (y : B) → and_then o f ≡ Ok y → (x : A) × (o ≡ Ok x) × (f x ≡ Ok y)
ok_then (Err d) f y e = let z : ◌≡◌ {A = ℕ} 0 1 = cc in absurd (omega arith)
ok_then (Ok x) f y e = (x, refl, e)

pub ok_or_lem : {A : Type 0} (o : Option A) (d : LineError) (x : A) → ok_or o d ≡ Ok x → o ≡ Some x
ok_or_lem None d x e = let z : ◌≡◌ {A = ℕ} 0 1 = cc in absurd (omega arith)
ok_or_lem (Some y) d x e = cc

pub ended_is : {A : Type 0} (x y : A) (b : Bytes) → ended x b ≡ Some y → (x ≡ y) × (b ≡ [])
ended_is {A} x y b e = go (eqb (length b) 0) refl e
  where
    go : (t : Bool) → eqb (length b) 0 ≡ t → cond t (Some x) None ≡ Some y → (x ≡ y) × (b ≡ [])
    go true q f = (cc, nil_from_length b (eqb-true (length b) 0 q))
    go false q f = let z : ◌≡◌ {A = ℕ} 0 1 = cc in absurd (omega arith)

pub last_is : {A : Type 0} (x y : A) (b : Bytes) → last_word x b ≡ Ok y → (x ≡ y) × (b ≡ [])
last_is {A} x y b e = go (eqb (length b) 0) refl e
  where
    go : (t : Bool) → eqb (length b) 0 ≡ t → cond t (Ok x) (Err ExtraWord) ≡ Ok y → (x ≡ y) × (b ≡ [])
    go true q f = (cc, nil_from_length b (eqb-true (length b) 0 q))
    go false q f = let z : ◌≡◌ {A = ℕ} 0 1 = cc in absurd (omega arith)

-- a word that was read by a reader is what it is written as
module _ {A : Type 0} (read : Bytes → Option A) (text : A → Bytes) (law : (w : Bytes) (x : A) → read w ≡ Some x → text x ≡ w) where
  pub as_line : (b : Bytes) (p : A × Bytes) → word_as read b ≡ Some p → spaced (text p.0) ++ p.1 ≡ b
  as_line b p e =
      let s = some_bind (word_in b) (λ w. bind (read w.0) (λ x. Some (x, w.1))) p e in
      let u = some_bind (read s.0.0) (λ x. Some (x, s.0.1)) p s.2 in
      go u.0 s.0 u.1 u.2 s.1
    where
      go : (x : A) → (s : Bytes × Bytes) → read s.0 ≡ Some x → ◌≡◌ {A = Option (A × Bytes)} (Some (x, s.1)) (Some p) → word_in b ≡ Some s → spaced (text p.0) ++ p.1 ≡ b
      go x s q f g =
          let pq : ◌≡◌ {A = A × Bytes} (x, s.1) p = cc in
          sym (ap (λ (y : A × Bytes). spaced (text y.0) ++ y.1) pq) ∙ (ap (λ (y : Bytes). spaced y ++ s.1) (law s.0 x q) ∙ word_line b s.0 s.1 g)

  pub as_last : (b : Bytes) (p : A × Bytes) → word_as read b ≡ Some p → p.1 ≡ [] → spaced (text p.0) ≡ b
  as_last b p e z = sym (append-nil (spaced (text p.0))) ∙ (sym (ap (λ (x : Bytes). spaced (text p.0) ++ x) z) ∙ as_line b p e)
