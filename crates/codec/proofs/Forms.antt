-- What is written is read as it was, and what is read was written so: numbers and parts, of any width.
use Rattle.std.proofs.Common.{◌≡◌, ℕ, zero, suc, ◌+◌, ◌*◌, ◌/◌, ◌%◌, ◌^◌, ◌<◌, ◌≤◌, Bool, true, false, cond, ◌&&◌, T, eqb, ltb, ◌⊎◌, List, [], ◌∷◌, ◌++◌, length, get_or, take, drop, Some, None, Option, sym, refl, ap, ◌∙◌, subst, inl, inr, ⊎_elim, mul_comm, add-one, arith, lit<, ltb→lt}
use native.Mathlib.Nat.{pow-succ'}
use Rattle.std.proofs.lemmas.Nat.{div_below}
use Rattle.std.proofs.lemmas.Int.Digits.{number_push}
use Rattle.std.proofs.lemmas.Bool.{ltb-false, le-ltb, eqb-true, eqb-false, cases_lt}
use Rattle.std.proofs.lemmas.List.{length-append, length-take, length-take-le, take_at, drop_at, take_more, take-append-drop, get_or-drop, get_or-take, get_or_past, nil_from_length, append_assoc, append-nil}
use Rattle.promise.specs.Bytes.{Bytes, every, all_bytes, number_from, number, be, bind, part_in, number_in, lengthed_in, ended}
use Rattle.promise.specs.Sheets.{Name}
use Rattle.promise.specs.Layout.{name_out, names_out, names_in}
use Rattle.codec.specs.Statements.{ShortNames, none, more}
use Rattle.codec.specs.Answers.{listed, whole, are_names, names_of}
use Rattle.codec.proofs.Numbers.{number_from_is, number_take_more, length_be, be_1}

-- each is a byte
abbrev pub Small : Bytes → Type 0
Small b = (i : ℕ) → get_or b i 0 < 256

pub small_drop : (n : ℕ) (b : Bytes) → Small b → Small (drop n b)
small_drop n b s i = rw (get_or-drop n b i 0) (s (n + i))

-- NUMBERS

pub number_be : (w n : ℕ) → n < 256 ^ w → number (be w n) ≡ n
unfolding be number_from
number_be zero n h = omega arith
number_be (suc w) n h =
    let le : n < 256 ^ w * 256 = rw (pow-succ' 256 w, mul_comm 256 (256 ^ w)) at h in
    let ih : number (be w (n / 256)) ≡ n / 256 = number_be w (n / 256) (div_below n 256 (256 ^ w) (lit< tt) le) in
    let p : number (be w (n / 256) ++ (n % 256 ∷ [])) ≡ number (be w (n / 256)) * 256 + n % 256
    = number_from_is 0 (be w (n / 256) ++ (n % 256 ∷ [])) ∙ number_push 256 (be w (n / 256)) (n % 256)
    ∙ ap (λ k. k * 256 + n % 256) (sym (number_from_is 0 (be w (n / 256)))) in
    omega arith

pub be_number : (w : ℕ) (b : Bytes) → w ≤ length b → Small b → be w (number (take w b)) ≡ take w b
unfolding be
be_number zero b h s = refl
be_number (suc w) b h s =
    let x : get_or b w 0 < 256 = s w in
    let lt : w < length b = omega arith in
    let e : number (take (suc w) b) ≡ number (take w b) * 256 + get_or b w 0 = ap (λ k. number (take k b)) (sym (add-one w)) ∙ number_take_more b w lt in
    let q : number (take (suc w) b) / 256 ≡ number (take w b) = omega arith in
    let r : number (take (suc w) b) % 256 ≡ get_or b w 0 = omega arith in
    let ih : be w (number (take w b)) ≡ take w b = be_number w b (omega arith) s in
    let m : take (suc w) b ≡ take w b ++ get_or b w 0 ∷ [] = ap (λ k. take k b) (sym (add-one w)) ∙ take_more b w 0 lt in
    cc

-- so many bytes say a number below this
pub number_fits : (w : ℕ) (b : Bytes) → w ≤ length b → Small b → number (take w b) < 256 ^ w
unfolding number_from
number_fits zero b h s = lit< tt
number_fits (suc w) b h s =
    let x : get_or b w 0 < 256 = s w in
    let lt : w < length b = omega arith in
    let e : number (take (suc w) b) ≡ number (take w b) * 256 + get_or b w 0 = ap (λ k. number (take k b)) (sym (add-one w)) ∙ number_take_more b w lt in
    let ih : number (take w b) < 256 ^ w = number_fits w b (omega arith) s in
    let p : 256 ^ suc w ≡ 256 * 256 ^ w = pow-succ' 256 w in
    omega arith

-- WRITTEN, THEN READ

pub number_back : (w n : ℕ) (rest : Bytes) → n < 256 ^ w → number_in w (be w n ++ rest) ≡ Some (n, rest)
number_back w n rest h =
    let len : length (be w n ++ rest) ≡ w + length rest = length-append (be w n) rest ∙ ap (λ k. k + length rest) (length_be w n) in
    let le : ltb (length (be w n ++ rest)) w ≡ false = le-ltb (length (be w n ++ rest)) w (omega arith) in
    let t : take w (be w n ++ rest) ≡ be w n = take_at (be w n) rest w (length_be w n) in
    let d : drop w (be w n ++ rest) ≡ rest = drop_at (be w n) rest w (length_be w n) in
    let v : number (be w n) ≡ n = number_be w n h in
    rw (le, t, d, v) refl

pub part_back : (n : ℕ) (p rest : Bytes) → length p ≡ n → part_in n (p ++ rest) ≡ Some (p, rest)
part_back n p rest e =
    let len : length (p ++ rest) ≡ length p + length rest = length-append p rest in
    let le : ltb (length (p ++ rest)) n ≡ false = le-ltb (length (p ++ rest)) n (omega arith) in
    let t : take n (p ++ rest) ≡ p = take_at p rest n e in
    let d : drop n (p ++ rest) ≡ rest = drop_at p rest n e in
    rw (le, t, d) refl

pub lengthed_back : (w : ℕ) (p rest : Bytes) → length p < 256 ^ w → lengthed_in w ((be w (length p) ++ p) ++ rest) ≡ Some (p, rest)
lengthed_back w p rest h =
    ap (lengthed_in w) (append_assoc (be w (length p)) p rest)
    ∙ ap (λ o. bind o (λ x. part_in x.0 x.1)) (number_back w (length p) (p ++ rest) h)
    ∙ part_back (length p) p rest refl

-- READ, SO WRITTEN

pub bind_some : {A B : Type 0} (o : Option A) (f : A → Option B) (y : B) → bind o f ≡ Some y → (x : A) × (o ≡ Some x) × (f x ≡ Some y)
bind_some None f y e = cc
bind_some (Some x) f y e = (x, refl, e)

pub small_take : (n : ℕ) (b : Bytes) → Small b → Small (take n b)
small_take n b s i =
    ⊎_elim
    (λ (h : i < n). rw (get_or-take n b i 0 h) (s i))
    (λ (h : n ≤ i). rw (get_or_past (take n b) i 0 (omega (arith, length-take n b))) (lit< tt))
    (cases_lt i n)

pub number_form : (w : ℕ) (b : Bytes) (n : ℕ) (rest : Bytes) → Small b → number_in w b ≡ Some (n, rest) → (b ≡ be w n ++ rest) × (n < 256 ^ w) × Small rest
number_form w b n rest s e = go (ltb (length b) w) refl e where
  go : (t : Bool) → ltb (length b) w ≡ t → cond {A = Option (ℕ × Bytes)} t None (Some (number (take w b), drop w b)) ≡ Some (n, rest) → (b ≡ be w n ++ rest) × (n < 256 ^ w) × Small rest
  go true h e = cc
  go false h e =
      let le : w ≤ length b = ltb-false (length b) w h in
      let both : ◌≡◌ {A = ℕ × Bytes} (number (take w b), drop w b) (n, rest) = cc in
      let en : number (take w b) ≡ n = ap (λ x. x.0) both in
      let er : drop w b ≡ rest = ap (λ x. x.1) both in
      let f : be w (number (take w b)) ≡ take w b = be_number w b le s in
      let g : take w b ++ drop w b ≡ b = take-append-drop w b in
      (cc, subst (λ k. k < 256 ^ w) en (number_fits w b le s), subst Small er (small_drop w b s))

pub part_form : (n : ℕ) (b p rest : Bytes) → Small b → part_in n b ≡ Some (p, rest) → (b ≡ p ++ rest) × (length p ≡ n) × Small p × Small rest
part_form n b p rest s e = go (ltb (length b) n) refl e where
  go : (t : Bool) → ltb (length b) n ≡ t → cond {A = Option (Bytes × Bytes)} t None (Some (take n b, drop n b)) ≡ Some (p, rest) → (b ≡ p ++ rest) × (length p ≡ n) × Small p × Small rest
  go true h e = cc
  go false h e =
      let le : n ≤ length b = ltb-false (length b) n h in
      let both : ◌≡◌ {A = Bytes × Bytes} (take n b, drop n b) (p, rest) = cc in
      let ep : take n b ≡ p = ap (λ x. x.0) both in
      let er : drop n b ≡ rest = ap (λ x. x.1) both in
      let g : take n b ++ drop n b ≡ b = take-append-drop n b in
      let l : length (take n b) ≡ n = length-take-le n b le in
      (cc, cc, subst Small ep (small_take n b s), subst Small er (small_drop n b s))

pub lengthed_form : (w : ℕ) (b p rest : Bytes) → Small b → lengthed_in w b ≡ Some (p, rest) →
    (b ≡ (be w (length p) ++ p) ++ rest) × (length p < 256 ^ w) × Small p × Small rest
lengthed_form w b p rest s e =
    let x = bind_some (number_in w b) (λ x. part_in x.0 x.1) (p, rest) e in
    let f = number_form w b x.0.0 x.0.1 s x.1 in
    let g = part_form x.0.0 x.0.1 p rest f.2 x.2 in
    let a = append_assoc (be w (length p)) p rest in
    let f0 = f.0 in
    let g0 = g.0 in
    let g1 = g.1 in
    (cc, subst (λ k. k < 256 ^ w) (sym g.1) f.1, g.2, g.3)

pub ended_form : {A : Type 0} (x : A) (b : Bytes) (y : A) → ended x b ≡ Some y → (x ≡ y) × (b ≡ [])
ended_form x b y e = go (eqb (length b) 0) refl e where
  go : (t : Bool) → eqb (length b) 0 ≡ t → cond t (Some x) None ≡ Some y → (x ≡ y) × (b ≡ [])
  go true h e = (cc, nil_from_length b (eqb-true (length b) 0 h))
  go false h e = cc

-- NAMES, one behind the other

names_join : (b n mid : Bytes) (ns : List Name) (rest : Bytes) → b ≡ name_out n ++ mid → mid ≡ names_out ns ++ rest → b ≡ names_out (n ∷ ns) ++ rest
unfolding names_out
names_join b n mid ns rest e f = e ∙ ap (λ m. name_out n ++ m) f ∙ sym (append_assoc (name_out n) (names_out ns) rest)

pub names_form : (k : ℕ) (b : Bytes) (ns : List Name) (rest : Bytes) → Small b → names_in k b ≡ Some (ns, rest) →
    (length ns ≡ k) × (b ≡ names_out ns ++ rest) × (length b ≤ 256 * k + length rest) × Small rest × ShortNames ns
unfolding names_in names_out
names_form zero b ns rest s e =
    let both : ◌≡◌ {A = List Name × Bytes} ([], b) (ns, rest) = cc in
    let en : [] ≡ ns = ap (λ x. x.0) both in
    let er : b ≡ rest = ap (λ x. x.1) both in
    (ap length (sym en), er ∙ ap (λ n. names_out n ++ rest) en, omega (arith, ap length er), subst Small er s, subst ShortNames en none)
names_form (suc k) b ns rest s e =
    let x = bind_some (lengthed_in 1 b) (λ n. bind (names_in k n.1) (λ ns. Some (n.0 ∷ ns.0, ns.1))) (ns, rest) e in
    let y = bind_some (names_in k x.0.1) (λ ns. Some (x.0.0 ∷ ns.0, ns.1)) (ns, rest) x.2 in
    let f = lengthed_form 1 b x.0.0 x.0.1 s x.1 in
    let g = names_form k x.0.1 y.0.0 y.0.1 f.3 y.1 in
    let y2 = y.2 in
    let both : ◌≡◌ {A = List Name × Bytes} (x.0.0 ∷ y.0.0, y.0.1) (ns, rest) = cc in
    let en : x.0.0 ∷ y.0.0 ≡ ns = ap (λ z. z.0) both in
    let er : y.0.1 ≡ rest = ap (λ z. z.1) both in
    let ln : length ns ≡ suc (length y.0.0) = ap length (sym en) in
    let lb : length b ≡ 1 + length x.0.0 + length x.0.1
    = ap length f.0 ∙ length-append (be 1 (length x.0.0) ++ x.0.0) x.0.1
    ∙ ap (λ n. n + length x.0.1) (length-append (be 1 (length x.0.0)) x.0.0 ∙ ap (λ n. n + length x.0.0) (length_be 1 (length x.0.0))) in
    let whole' : b ≡ names_out (x.0.0 ∷ y.0.0) ++ y.0.1 = names_join b x.0.0 x.0.1 y.0.0 y.0.1 f.0 g.1 in
    (ln ∙ ap suc g.0, whole' ∙ ap (λ z. names_out z.0 ++ z.1) both, omega (arith, ap length er, f.1, g.2), subst Small er g.3, subst ShortNames en (more f.1 g.4))

-- bytes that are just so many names are their names, written
pub names_whole : (k : ℕ) (b : Bytes) → Small b → are_names k b ≡ true → (names_out (names_of k b) ≡ b) × (length (names_of k b) ≡ k) × (length b ≤ 256 * k)
names_whole k b s e = go (names_in k b) refl e where
  go : (o : Option (List Name × Bytes)) → names_in k b ≡ o → whole o ≡ true → (names_out (names_of k b) ≡ b) × (length (names_of k b) ≡ k) × (length b ≤ 256 * k)
  go None h e = cc
  go (Some x) h e =
      let f = names_form k b x.0 x.1 s h in
      let ns : names_of k b ≡ x.0 = ap listed h in
      let nil : x.1 ≡ [] = nil_from_length x.1 (eqb-true (length x.1) 0 e) in
      (ap names_out ns ∙ sym (f.1 ∙ ap (λ r. names_out x.0 ++ r) nil ∙ append-nil (names_out x.0)), ap length ns ∙ f.0, omega (arith, f.2, ap length nil))

-- KINDS AND TAGS, one byte each

pub kind_back : (k : ℕ) (rest : Bytes) → k < 256 → number_in 1 (k ∷ rest) ≡ Some (k, rest)
kind_back k rest h = ap (λ z. number_in 1 (z ++ rest)) (sym (be_1 k h)) ∙ number_back 1 k rest h

pub kind_form : (b : Bytes) (k : ℕ) (rest : Bytes) → Small b → number_in 1 b ≡ Some (k, rest) → (b ≡ k ∷ rest) × Small rest
kind_form b k rest s e =
    let f = number_form 1 b k rest s e in
    (f.0 ∙ ap (λ z. z ++ rest) (be_1 k f.1), f.2)

-- one of two ways of a test on such a byte
pub cond_some : {A : Type 0} (k i : ℕ) (x y : Option A) (z : A) → cond (eqb k i) x y ≡ Some z → ((k ≡ i) × (x ≡ Some z)) ⊎ ((k ≡ i → ⊥) × (y ≡ Some z))
cond_some k i x y z e = go (eqb k i) refl e where
  go : (t : Bool) → eqb k i ≡ t → cond t x y ≡ Some z → ((k ≡ i) × (x ≡ Some z)) ⊎ ((k ≡ i → ⊥) × (y ≡ Some z))
  go true h e = inl (eqb-true k i h, e)
  go false h e = inr (eqb-false k i h, e)

and_T : (x y : Bool) → T (x && y) → T x × T y
and_T true y t = (tt, t)
and_T false y t = absurd t

pub small_all : (b : Bytes) → T (all_bytes b) → Small b
unfolding every
small_all [] t i = lit< tt
small_all (x ∷ b) t zero = ltb→lt x 256 (and_T (ltb x 256) (all_bytes b) t).0
small_all (x ∷ b) t (suc i) = small_all b (and_T (ltb x 256) (all_bytes b) t).1 i
