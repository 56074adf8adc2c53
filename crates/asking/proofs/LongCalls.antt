-- Bytes that are longer than the longest call are no call, or put or patch too many bytes.
use Rattle.std.proofs.Common.{◌≡◌, ℕ, zero, suc, ◌+◌, ◌*◌, ◌<◌, ◌≤◌, min, Bool, true, false, cond, ◌&&◌, T, eqb, ltb, [], ◌∷◌, length, take, drop, Some, None, Option, refl, arith, length-drop, length-take}
use native.Mathlib.Nat.{min-eq_left}
use Rattle.std.proofs.lemmas.Bool.{ltb-true, ltb-false, eqb-true}
use Rattle.promise.specs.Bytes.{Bytes, every, all_bytes, number_from, number, bind, part_in, number_in, lengthed_in, ended}
use Rattle.promise.specs.Sheets.{Name, Expect, Any, Just', Call, Read, Put, Patch, Remove, Rename, Names, Take, LetGo}
use Rattle.promise.specs.Layout.{expect_in, alone_in, read_in, put_in, patch_in, remove_in, rename_in, names_call_in, take_in, let_go_in, call_in, decode_call}

-- READERS: a reader leaves bytes, and has taken at most so many
abbrev Takes : {A : Type 0} → (most : A → ℕ) → Bytes → Option (A × Bytes) → Type 0
Takes most b None = Unit {0}
Takes most b (Some x) = (length b ≤ length x.1 + most x.0) × T (all_bytes x.1)

drop_bytes : (n : ℕ) (b : Bytes) → T (all_bytes b) → T (all_bytes (drop n b))
unfolding every
drop_bytes zero b o = o
drop_bytes (suc n) [] o = tt
drop_bytes (suc n) (x ∷ xs) o = go (ltb x 256) (λ u. drop_bytes n xs u) o
  where
    go : (c : Bool) → (T (all_bytes xs) → T (all_bytes (drop n xs))) → T (c && all_bytes xs) → T (all_bytes (drop n xs))
    go true h u = h u
    go false h u = absurd u

-- so many bytes, or none
cut : (n : ℕ) (b : Bytes) → T (all_bytes b) → (c : Bool) → ltb (length b) n ≡ c → {A : Type 0} → (x : A) → Takes (λ _. n) b (cond c None (Some (x, drop n b)))
cut n b o true e {A} x = tt
cut n b o false e {A} x = (let a = length-drop n b in let l = ltb-false (length b) n e in omega arith, drop_bytes n b o)

t_number : (w : ℕ) (b : Bytes) → T (all_bytes b) → Takes (λ _. w) b (number_in w b)
t_number w b o = cut w b o (ltb (length b) w) refl (number (take w b))

-- a length of one byte is below 256
one_byte : (b : Bytes) → T (all_bytes b) → number (take 1 b) ≤ 255
unfolding every number_from
one_byte [] o = omega arith
one_byte (x ∷ xs) o = go (ltb x 256) refl o
  where
    go : (c : Bool) → ltb x 256 ≡ c → T (c && all_bytes xs) → 0 * 256 + x ≤ 255
    go true e u = let a = ltb-true x 256 e in omega arith
    go false e u = absurd u

-- bytes behind their length
t_part : (n : ℕ) (b : Bytes) → T (all_bytes b) → Takes {A = Bytes} length b (part_in n b)
t_part n b o = go (ltb (length b) n) refl
  where
    go : (c : Bool) → ltb (length b) n ≡ c → Takes {A = Bytes} length b (cond c None (Some (take n b, drop n b)))
    go true e = tt
    go false e = (let a = length-drop n b in let l = ltb-false (length b) n e in let t = length-take n b in let m : min n (length b) ≡ n = min-eq_left l in omega arith, drop_bytes n b o)

t_lengthed : (w : ℕ) (b : Bytes) → T (all_bytes b) → Takes {A = Bytes} (λ d. w + length d) b (lengthed_in w b)
t_lengthed w b o = go (number_in w b) (t_number w b o)
  where
    go2 : (n : ℕ) (r : Bytes) → length b ≤ length r + w → (p : Option (Bytes × Bytes)) → Takes {A = Bytes} length r p → Takes {A = Bytes} (λ d. w + length d) b p
    go2 n r l None u = tt
    go2 n r l (Some y) u = (let a = u.0 in omega arith, u.1)

    go : (p : Option (ℕ × Bytes)) → Takes (λ _. w) b p → Takes {A = Bytes} (λ d. w + length d) b (bind p (λ x. part_in x.0 x.1))
    go None u = tt
    go (Some x) u = go2 x.0 x.1 u.0 (part_in x.0 x.1) (t_part x.0 x.1 u.1)

-- a name takes at most 256
t_name : (b : Bytes) → T (all_bytes b) → Takes {A = Bytes} (λ _. 256) b (lengthed_in 1 b)
t_name b o = go (ltb (length b) 1) refl
  where
    part : (n : ℕ) → n ≤ 255 → (c : Bool) → ltb (length (drop 1 b)) n ≡ c → length b ≤ length (drop 1 b) + 1 → Takes {A = Bytes} (λ _. 256) b (cond c None (Some (take n (drop 1 b), drop n (drop 1 b))))
    part n l true e k = tt
    part n l false e k = (let a = length-drop n (drop 1 b) in omega arith, drop_bytes n (drop 1 b) (drop_bytes 1 b o))

    go : (c : Bool) → ltb (length b) 1 ≡ c → Takes {A = Bytes} (λ _. 256) b (bind {A = ℕ × Bytes} {B = Bytes × Bytes} (cond c None (Some (number (take 1 b), drop 1 b))) (λ x. part_in x.0 x.1))
    go true e = tt
    go false e = part (number (take 1 b)) (one_byte b o) (ltb (length (drop 1 b)) (number (take 1 b))) refl (let a = length-drop 1 b in omega arith)

-- what is expected takes at most 9
t_expect : (b : Bytes) → T (all_bytes b) → Takes {A = Expect} (λ _. 9) b (expect_in b)
t_expect b o = go (number_in 1 b) (t_number 1 b o)
  where
    edition : (r : Bytes) → length b ≤ length r + 1 → (p : Option (ℕ × Bytes)) → Takes (λ _. 8) r p → Takes {A = Expect} (λ _. 9) b (bind p (λ e. Some (Just' e.0, e.1)))
    edition r l None u = tt
    edition r l (Some x) u = (let a = u.0 in omega arith, u.1)

    tag : (x : ℕ × Bytes) → length b ≤ length x.1 + 1 → T (all_bytes x.1) → (c d : Bool) → Takes {A = Expect} (λ _. 9) b (cond c (Some (Any, x.1)) (cond d (bind (number_in 8 x.1) (λ e. Some (Just' e.0, e.1))) None))
    tag x l u true d = (omega arith, u)
    tag x l u false true = edition x.1 l (number_in 8 x.1) (t_number 8 x.1 u)
    tag x l u false false = tt

    go : (p : Option (ℕ × Bytes)) → Takes (λ _. 1) b p → Takes {A = Expect} (λ _. 9) b (bind p (λ t. cond (eqb t.0 0) (Some (Any, t.1)) (cond (eqb t.0 1) (bind (number_in 8 t.1) (λ e. Some (Just' e.0, e.1))) None)))
    go None u = tt
    go (Some x) u = tag x u.0 u.1 (eqb x.0 0) (eqb x.0 1)

t_alone : (b : Bytes) → T (all_bytes b) → Takes {A = Bool} (λ _. 1) b (alone_in b)
t_alone b o = go (number_in 1 b) (t_number 1 b o)
  where
    tag : (r : Bytes) → length b ≤ length r + 1 → T (all_bytes r) → (c d : Bool) → Takes {A = Bool} (λ _. 1) b (cond c (Some (false, r)) (cond d (Some (true, r)) None))
    tag r l u true d = (l, u)
    tag r l u false true = (l, u)
    tag r l u false false = tt

    go : (p : Option (ℕ × Bytes)) → Takes (λ _. 1) b p → Takes {A = Bool} (λ _. 1) b (bind p (λ t. cond (eqb t.0 0) (Some (false, t.1)) (cond (eqb t.0 1) (Some (true, t.1)) None)))
    go None u = tt
    go (Some x) u = tag x.1 u.0 u.1 (eqb x.0 0) (eqb x.0 1)

-- CALLS OF MORE THAN 1,048,849 BYTES BEHIND THEIR KIND

-- no call, or one that puts or patches too many bytes
abbrev pub TooLong : Option Call → Type 0
TooLong None = Unit {0}
TooLong (Some (Read n f m)) = ⊥
TooLong (Some (Put n bs e)) = 1048576 < length bs
TooLong (Some (Patch n at bs e)) = 1048576 < length bs
TooLong (Some (Remove n e)) = ⊥
TooLong (Some (Rename n k)) = ⊥
TooLong (Some (Names a m)) = ⊥
TooLong (Some (Take n a)) = ⊥
TooLong (Some (LetGo n)) = ⊥

-- what ends is as long as what was taken
l_ended : (c : Call) (b : Bytes) → (length b ≡ 0 → TooLong (Some c)) → TooLong (ended c b)
l_ended c b f = go (eqb (length b) 0) refl
  where
    go : (t : Bool) → eqb (length b) 0 ≡ t → TooLong (cond t (Some c) None)
    go true e = f (eqb-true (length b) 0 e)
    go false e = tt

module _ (b : Bytes) (o : T (all_bytes b)) (long : 1048850 ≤ length b) where
  l_read : TooLong (read_in b)
  l_read = go (lengthed_in 1 b) (t_name b o)
    where
      third : (n : Name) (f : ℕ) (r : Bytes) → 1048580 ≤ length r → (p : Option (ℕ × Bytes)) → Takes (λ _. 4) r p → TooLong (bind p (λ m. ended (Read n f m.0) m.1))
      third n f r l None u = tt
      third n f r l (Some m) u = l_ended (Read n f m.0) m.1 (λ e. let a = u.0 in omega arith)

      second : (n : Name) (r : Bytes) → 1048590 ≤ length r → (p : Option (ℕ × Bytes)) → Takes (λ _. 4) r p → TooLong (bind p (λ f. bind (number_in 4 f.1) (λ m. ended (Read n f.0 m.0) m.1)))
      second n r l None u = tt
      second n r l (Some f) u = third n f.0 f.1 (let a = u.0 in omega arith) (number_in 4 f.1) (t_number 4 f.1 u.1)

      go : (p : Option (Bytes × Bytes)) → Takes {A = Bytes} (λ _. 256) b p → TooLong (bind p (λ n. bind (number_in 4 n.1) (λ f. bind (number_in 4 f.1) (λ m. ended (Read n.0 f.0 m.0) m.1))))
      go None u = tt
      go (Some n) u = second n.0 n.1 (let a = u.0 in omega arith) (number_in 4 n.1) (t_number 4 n.1 u.1)

  l_put : TooLong (put_in b)
  l_put = go (lengthed_in 1 b) (t_name b o)
    where
      third : (n : Name) (e : Expect) (r : Bytes) → 1048585 ≤ length r → (p : Option (Bytes × Bytes)) → Takes {A = Bytes} (λ d. 4 + length d) r p → TooLong (bind p (λ d. ended (Put n d.0 e) d.1))
      third n e r l None u = tt
      third n e r l (Some d) u = l_ended (Put n d.0 e) d.1 (λ z. let a = u.0 in omega arith)

      second : (n : Name) (r : Bytes) → 1048594 ≤ length r → (p : Option (Expect × Bytes)) → Takes {A = Expect} (λ _. 9) r p → TooLong (bind p (λ e. bind (lengthed_in 4 e.1) (λ d. ended (Put n d.0 e.0) d.1)))
      second n r l None u = tt
      second n r l (Some e) u = third n e.0 e.1 (let a = u.0 in omega arith) (lengthed_in 4 e.1) (t_lengthed 4 e.1 u.1)

      go : (p : Option (Bytes × Bytes)) → Takes {A = Bytes} (λ _. 256) b p → TooLong (bind p (λ n. bind (expect_in n.1) (λ e. bind (lengthed_in 4 e.1) (λ d. ended (Put n.0 d.0 e.0) d.1))))
      go None u = tt
      go (Some n) u = second n.0 n.1 (let a = u.0 in omega arith) (expect_in n.1) (t_expect n.1 u.1)

  l_patch : TooLong (patch_in b)
  l_patch = go (lengthed_in 1 b) (t_name b o)
    where
      fourth : (n : Name) (at : ℕ) (e : Expect) (r : Bytes) → 1048581 ≤ length r → (p : Option (Bytes × Bytes)) → Takes {A = Bytes} (λ d. 4 + length d) r p → TooLong (bind p (λ d. ended (Patch n at d.0 e) d.1))
      fourth n at e r l None u = tt
      fourth n at e r l (Some d) u = l_ended (Patch n at d.0 e) d.1 (λ z. let a = u.0 in omega arith)

      third : (n : Name) (at : ℕ) (r : Bytes) → 1048590 ≤ length r → (p : Option (Expect × Bytes)) → Takes {A = Expect} (λ _. 9) r p → TooLong (bind p (λ e. bind (lengthed_in 4 e.1) (λ d. ended (Patch n at d.0 e.0) d.1)))
      third n at r l None u = tt
      third n at r l (Some e) u = fourth n at e.0 e.1 (let a = u.0 in omega arith) (lengthed_in 4 e.1) (t_lengthed 4 e.1 u.1)

      second : (n : Name) (r : Bytes) → 1048594 ≤ length r → (p : Option (ℕ × Bytes)) → Takes (λ _. 4) r p → TooLong (bind p (λ a. bind (expect_in a.1) (λ e. bind (lengthed_in 4 e.1) (λ d. ended (Patch n a.0 d.0 e.0) d.1))))
      second n r l None u = tt
      second n r l (Some a) u = third n a.0 a.1 (let c = u.0 in omega arith) (expect_in a.1) (t_expect a.1 u.1)

      go : (p : Option (Bytes × Bytes)) → Takes {A = Bytes} (λ _. 256) b p → TooLong (bind p (λ n. bind (number_in 4 n.1) (λ a. bind (expect_in a.1) (λ e. bind (lengthed_in 4 e.1) (λ d. ended (Patch n.0 a.0 d.0 e.0) d.1)))))
      go None u = tt
      go (Some n) u = second n.0 n.1 (let a = u.0 in omega arith) (number_in 4 n.1) (t_number 4 n.1 u.1)

  l_remove : TooLong (remove_in b)
  l_remove = go (lengthed_in 1 b) (t_name b o)
    where
      second : (n : Name) (r : Bytes) → 1048590 ≤ length r → (p : Option (Expect × Bytes)) → Takes {A = Expect} (λ _. 9) r p → TooLong (bind p (λ e. ended (Remove n e.0) e.1))
      second n r l None u = tt
      second n r l (Some e) u = l_ended (Remove n e.0) e.1 (λ z. let a = u.0 in omega arith)

      go : (p : Option (Bytes × Bytes)) → Takes {A = Bytes} (λ _. 256) b p → TooLong (bind p (λ n. bind (expect_in n.1) (λ e. ended (Remove n.0 e.0) e.1)))
      go None u = tt
      go (Some n) u = second n.0 n.1 (let a = u.0 in omega arith) (expect_in n.1) (t_expect n.1 u.1)

  l_rename : TooLong (rename_in b)
  l_rename = go (lengthed_in 1 b) (t_name b o)
    where
      second : (n : Name) (r : Bytes) → 1048590 ≤ length r → (p : Option (Bytes × Bytes)) → Takes {A = Bytes} (λ _. 256) r p → TooLong (bind p (λ k. ended (Rename n k.0) k.1))
      second n r l None u = tt
      second n r l (Some k) u = l_ended (Rename n k.0) k.1 (λ z. let a = u.0 in omega arith)

      go : (p : Option (Bytes × Bytes)) → Takes {A = Bytes} (λ _. 256) b p → TooLong (bind p (λ n. bind (lengthed_in 1 n.1) (λ k. ended (Rename n.0 k.0) k.1)))
      go None u = tt
      go (Some n) u = second n.0 n.1 (let a = u.0 in omega arith) (lengthed_in 1 n.1) (t_name n.1 u.1)

  l_names : TooLong (names_call_in b)
  l_names = go (lengthed_in 1 b) (t_name b o)
    where
      second : (a : Name) (r : Bytes) → 1048590 ≤ length r → (p : Option (ℕ × Bytes)) → Takes (λ _. 2) r p → TooLong (bind p (λ m. ended (Names a m.0) m.1))
      second a r l None u = tt
      second a r l (Some m) u = l_ended (Names a m.0) m.1 (λ z. let c = u.0 in omega arith)

      go : (p : Option (Bytes × Bytes)) → Takes {A = Bytes} (λ _. 256) b p → TooLong (bind p (λ a. bind (number_in 2 a.1) (λ m. ended (Names a.0 m.0) m.1)))
      go None u = tt
      go (Some a) u = second a.0 a.1 (let c = u.0 in omega arith) (number_in 2 a.1) (t_number 2 a.1 u.1)

  l_take : TooLong (take_in b)
  l_take = go (lengthed_in 1 b) (t_name b o)
    where
      second : (n : Name) (r : Bytes) → 1048590 ≤ length r → (p : Option (Bool × Bytes)) → Takes {A = Bool} (λ _. 1) r p → TooLong (bind p (λ a. ended (Take n a.0) a.1))
      second n r l None u = tt
      second n r l (Some a) u = l_ended (Take n a.0) a.1 (λ z. let c = u.0 in omega arith)

      go : (p : Option (Bytes × Bytes)) → Takes {A = Bytes} (λ _. 256) b p → TooLong (bind p (λ n. bind (alone_in n.1) (λ a. ended (Take n.0 a.0) a.1)))
      go None u = tt
      go (Some n) u = second n.0 n.1 (let a = u.0 in omega arith) (alone_in n.1) (t_alone n.1 u.1)

  l_let_go : TooLong (let_go_in b)
  l_let_go = go (lengthed_in 1 b) (t_name b o)
    where
      go : (p : Option (Bytes × Bytes)) → Takes {A = Bytes} (λ _. 256) b p → TooLong (bind p (λ n. ended (LetGo n.0) n.1))
      go None u = tt
      go (Some n) u = l_ended (LetGo n.0) n.1 (λ z. let a = u.0 in omega arith)

  l_cond : (t : Bool) (x y : Option Call) → TooLong x → TooLong y → TooLong (cond t x y)
  l_cond true x y p q = p
  l_cond false x y p q = q

  l_call : (k : ℕ) → TooLong (call_in k b)
  l_call k = l_cond (eqb k 1) (read_in b) _ l_read (l_cond (eqb k 2) (put_in b) _ l_put (l_cond (eqb k 3) (patch_in b) _ l_patch (l_cond (eqb k 4) (remove_in b) _ l_remove
      (l_cond (eqb k 5) (rename_in b) _ l_rename (l_cond (eqb k 6) (names_call_in b) _ l_names (l_cond (eqb k 7) (take_in b) _ l_take (l_cond (eqb k 8) (let_go_in b) None l_let_go tt)))))))

pub long_call : (b : Bytes) → T (all_bytes b) → 1048850 < length b → TooLong (decode_call b)
unfolding decode_call
long_call b o l = go (number_in 1 b) (t_number 1 b o)
  where
    go : (p : Option (ℕ × Bytes)) → Takes (λ _. 1) b p → TooLong (bind p (λ k. call_in k.0 k.1))
    go None u = tt
    go (Some k) u = l_call k.1 u.1 (let a = u.0 in omega arith) k.0
