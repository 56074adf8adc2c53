-- Calls that wait, as the world has them: taking one away, and counting.
use Rattle.std.proofs.Common.{◌≡◌, ℕ, zero, suc, ◌+◌, ◌<◌, ◌≤◌, Bool, true, false, cond, ◌&&◌, eqb, ◌⊎◌, List, [], ◌∷◌, sym, refl, ap, ◌∙◌, subst, inl, inr, arith}
use mathlib.Core.List.Memᴰ
use mathlib.Core.List.{Memᴰ}
use Rattle.std.proofs.lemmas.Bool.{eqb-true, eqb-false}
use Rattle.promise.specs.Desks.{Does, To, Tell, Lapse, Waits, settled, away_from, without, count_at}
use Rattle.codec.specs.Messages.{Msg}

abbrev pub W : (desk number : ℕ) → Waits
W i k = record { desk = i; number = k }

-- ONE TAKEN AWAY
pub in_without : (i k : ℕ) (ws : List Waits) (a : Waits) → Memᴰ a (without i k ws) → Memᴰ a ws × (a.desk ≡ i → a.number ≡ k → ⊥)
unfolding without
in_without i k [] a m = absurd (Memᴰ.not-nil m)
in_without i k (b ∷ ws) a m = go (λ m'. in_without i k ws a m') (eqb i b.desk) (eqb k b.number) refl refl m
  where
    go : (Memᴰ a (without i k ws) → Memᴰ a ws × (a.desk ≡ i → a.number ≡ k → ⊥)) → (x y : Bool) → eqb i b.desk ≡ x → eqb k b.number ≡ y → Memᴰ a (cond (x && y) (without i k ws) (b ∷ without i k ws)) → Memᴰ a (b ∷ ws) × (a.desk ≡ i → a.number ≡ k → ⊥)
    go ih true true ex ey m = let z = ih m in (Memᴰ.tail z.0, z.1)
    go ih true false ex ey m = elim (Memᴰ.cases_cons m) [ inl e ↦ (Memᴰ.head e, λ _ e2. eqb-false k b.number ey (sym e2 ∙ ap (λ (z : Waits). z.number) e)) | inr m' ↦ (let z = ih m' in (Memᴰ.tail z.0, z.1)) ]
    go ih false y ex ey m = elim (Memᴰ.cases_cons m) [ inl e ↦ (Memᴰ.head e, λ e1 _. eqb-false i b.desk ex (sym e1 ∙ ap (λ (z : Waits). z.desk) e)) | inr m' ↦ (let z = ih m' in (Memᴰ.tail z.0, z.1)) ]

pub without_in : (i k : ℕ) (ws : List Waits) (a : Waits) → Memᴰ a ws → (a.desk ≡ i → a.number ≡ k → ⊥) → Memᴰ a (without i k ws)
unfolding without
without_in i k [] a m n = absurd (Memᴰ.not-nil m)
without_in i k (b ∷ ws) a m n = here (λ m'. without_in i k ws a m' n) (eqb i b.desk) (eqb k b.number) refl refl (Memᴰ.cases_cons m)
  where
    here : (Memᴰ a ws → Memᴰ a (without i k ws)) → (x y : Bool) → eqb i b.desk ≡ x → eqb k b.number ≡ y → (a ≡ b) ⊎ Memᴰ a ws → Memᴰ a (cond (x && y) (without i k ws) (b ∷ without i k ws))
    here ih true true ex ey (inl e) = absurd (n (ap (λ (z : Waits). z.desk) e ∙ sym (eqb-true i b.desk ex)) (ap (λ (z : Waits). z.number) e ∙ sym (eqb-true k b.number ey)))
    here ih true true ex ey (inr m') = ih m'
    here ih true false ex ey (inl e) = Memᴰ.head e
    here ih true false ex ey (inr m') = Memᴰ.tail (ih m')
    here ih false y ex ey (inl e) = Memᴰ.head e
    here ih false y ex ey (inr m') = Memᴰ.tail (ih m')

pub in_away : (i : ℕ) (ws : List Waits) (a : Waits) → Memᴰ a (away_from i ws) → Memᴰ a ws × (a.desk ≡ i → ⊥)
unfolding away_from
in_away i [] a m = absurd (Memᴰ.not-nil m)
in_away i (b ∷ ws) a m = go (λ m'. in_away i ws a m') (eqb i b.desk) refl m
  where
    go : (Memᴰ a (away_from i ws) → Memᴰ a ws × (a.desk ≡ i → ⊥)) → (x : Bool) → eqb i b.desk ≡ x → Memᴰ a (cond x (away_from i ws) (b ∷ away_from i ws)) → Memᴰ a (b ∷ ws) × (a.desk ≡ i → ⊥)
    go ih true ex m = let z = ih m in (Memᴰ.tail z.0, z.1)
    go ih false ex m = elim (Memᴰ.cases_cons m) [ inl e ↦ (Memᴰ.head e, λ e1. eqb-false i b.desk ex (sym e1 ∙ ap (λ (z : Waits). z.desk) e)) | inr m' ↦ (let z = ih m' in (Memᴰ.tail z.0, z.1)) ]

pub away_in : (i : ℕ) (ws : List Waits) (a : Waits) → Memᴰ a ws → (a.desk ≡ i → ⊥) → Memᴰ a (away_from i ws)
unfolding away_from
away_in i [] a m n = absurd (Memᴰ.not-nil m)
away_in i (b ∷ ws) a m n = go (λ m'. away_in i ws a m' n) (eqb i b.desk) refl (Memᴰ.cases_cons m)
  where
    go : (Memᴰ a ws → Memᴰ a (away_from i ws)) → (x : Bool) → eqb i b.desk ≡ x → (a ≡ b) ⊎ Memᴰ a ws → Memᴰ a (cond x (away_from i ws) (b ∷ away_from i ws))
    go ih true ex (inl e) = absurd (n (ap (λ (z : Waits). z.desk) e ∙ sym (eqb-true i b.desk ex)))
    go ih true ex (inr m') = ih m'
    go ih false ex (inl e) = Memᴰ.head e
    go ih false ex (inr m') = Memᴰ.tail (ih m')

-- what a desk tells is no matter of the others
pub in_settled : (i : ℕ) (ds : List (Does Msg)) (ws : List Waits) (a : Waits) → Memᴰ a (settled i ds ws) → Memᴰ a ws
unfolding settled
in_settled i [] ws a m = m
in_settled i (To j x ∷ ds) ws a m = in_settled i ds ws a m
in_settled i (Tell k r ∷ ds) ws a m = (in_without i k ws a (in_settled i ds (without i k ws) a m)).0
in_settled i (Lapse j ∷ ds) ws a m = in_settled i ds ws a m

pub settled_in : (i : ℕ) (ds : List (Does Msg)) (ws : List Waits) (a : Waits) → (a.desk ≡ i → ⊥) → Memᴰ a ws → Memᴰ a (settled i ds ws)
unfolding settled
settled_in i [] ws a n m = m
settled_in i (To j x ∷ ds) ws a n m = settled_in i ds ws a n m
settled_in i (Tell k r ∷ ds) ws a n m = settled_in i ds (without i k ws) a n (without_in i k ws a m (λ e _. n e))
settled_in i (Lapse j ∷ ds) ws a n m = settled_in i ds ws a n m

-- COUNTING
count_without : (i k : ℕ) (ws : List Waits) → count_at i (without i k ws) ≤ count_at i ws
unfolding count_at without
count_without i k [] = omega arith
count_without i k (b ∷ ws) = go (count_without i k ws) (eqb i b.desk) (eqb k b.number) refl
  where
    go : count_at i (without i k ws) ≤ count_at i ws → (x y : Bool) → eqb i b.desk ≡ x → count_at i (cond (x && y) (without i k ws) (b ∷ without i k ws)) ≤ cond x (1 + count_at i ws) (count_at i ws)
    go z true true e = omega arith
    go z true false e = subst (λ t. cond t (1 + count_at i (without i k ws)) (count_at i (without i k ws)) ≤ 1 + count_at i ws) (sym e) (omega arith)
    go z false y e = subst (λ t. cond t (1 + count_at i (without i k ws)) (count_at i (without i k ws)) ≤ count_at i ws) (sym e) (omega arith)

count_less : (i k : ℕ) (ws : List Waits) → Memᴰ (W i k) ws → count_at i (without i k ws) + 1 ≤ count_at i ws
unfolding count_at without
count_less i k [] m = absurd (Memᴰ.not-nil m)
count_less i k (b ∷ ws) m = go (λ m'. count_less i k ws m') (eqb i b.desk) (eqb k b.number) refl refl (Memᴰ.cases_cons m)
  where
    go : (Memᴰ (W i k) ws → count_at i (without i k ws) + 1 ≤ count_at i ws) → (x y : Bool) → eqb i b.desk ≡ x → eqb k b.number ≡ y → (W i k ≡ b) ⊎ Memᴰ (W i k) ws → count_at i (cond (x && y) (without i k ws) (b ∷ without i k ws)) + 1 ≤ cond x (1 + count_at i ws) (count_at i ws)
    go ih true true e f p = let z = count_without i k ws in omega arith
    go ih true false e f (inl p) = absurd (eqb-false k b.number f (ap (λ (z : Waits). z.number) p))
    go ih true false e f (inr p) = let z = ih p in subst (λ t. cond t (1 + count_at i (without i k ws)) (count_at i (without i k ws)) + 1 ≤ 1 + count_at i ws) (sym e) (omega arith)
    go ih false y e f (inl p) = absurd (eqb-false i b.desk e (ap (λ (z : Waits). z.desk) p))
    go ih false y e f (inr p) = let z = ih p in subst (λ t. cond t (1 + count_at i (without i k ws)) (count_at i (without i k ws)) + 1 ≤ count_at i ws) (sym e) (omega arith)

pub count_most : (i : ℕ) (ks : ℕ → ℕ) (n : ℕ) (ws : List Waits) → ((j : ℕ) → j < n → Memᴰ (W i (ks j)) ws) → ((j j' : ℕ) → j < n → j' < n → ks j ≡ ks j' → j ≡ j') → n ≤ count_at i ws
count_most i ks zero ws a b = omega arith
count_most i ks (suc n) ws a b =
    let z = count_less i (ks n) ws (a n (omega arith)) in
    let y = count_most i ks n (without i (ks n) ws) (λ j l. without_in i (ks n) ws (W i (ks j)) (a j (omega arith)) (λ _ e. let e' : j ≡ n = b j n (omega arith) (omega arith) e in omega arith)) (λ j j' l l' e. b j j' (omega arith) (omega arith) e) in
    omega arith
