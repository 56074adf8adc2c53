-- Hands on the table of sheets: whose grow by a call, and whose are empty once a desk is gone.
use Rattle.std.proofs.Common.{◌≡◌, ℕ, suc, ◌+◌, ◌≤◌, Bool, true, false, cond, not, ◌&&◌, eqb, List, [], ◌∷◌, length, sym, refl, ap, subst, arith}
use Rattle.std.proofs.lemmas.Bool.{eq-eqb, ne_eqb, cond-true, cond-false}
use Rattle.promise.specs.Sheets.{Name, Hold, State, keep, its, not_its, same, Call, Out, does}
use Rattle.asking.proofs.SheetCases.{every_call}

abbrev pub hands : ℕ → List Hold → ℕ
hands i hs = length (its i hs)

-- of what is kept there is no more than there was
pub keep_less : (i : ℕ) (g : Hold → Bool) (hs : List Hold) → hands i (keep g hs) ≤ hands i hs
unfolding keep
keep_less i g [] = omega arith
keep_less i g (h ∷ hs) = go (keep_less i g hs) (g h) (eqb i h.desk) refl
  where
    go : hands i (keep g hs) ≤ hands i hs → (a b : Bool) → eqb i h.desk ≡ b → length (its i (cond a (h ∷ keep g hs) (keep g hs))) ≤ length (cond b (h ∷ its i hs) (its i hs))
    go ih true true e = subst (λ c. length (cond c (h ∷ its i (keep g hs)) (its i (keep g hs))) ≤ suc (length (its i hs))) (sym e) (omega arith)
    go ih true false e = subst (λ c. length (cond c (h ∷ its i (keep g hs)) (its i (keep g hs))) ≤ length (its i hs)) (sym e) ih
    go ih false true e = omega arith
    go ih false false e = ih

-- who is gone has nothing
pub gone_empty : (i : ℕ) (hs : List Hold) → hands i (keep (λ (h : Hold). not (eqb i h.desk)) hs) ≡ 0
unfolding keep
gone_empty i [] = refl
gone_empty i (h ∷ hs) = go (gone_empty i hs) (eqb i h.desk) refl
  where
    go : hands i (keep (λ (h : Hold). not (eqb i h.desk)) hs) ≡ 0 → (b : Bool) → eqb i h.desk ≡ b → length (its i (cond (not b) (h ∷ keep (λ (h : Hold). not (eqb i h.desk)) hs) (keep (λ (h : Hold). not (eqb i h.desk)) hs))) ≡ 0
    go ih true e = ih
    go ih false e = subst (λ c. length (cond c (h ∷ its i (keep (λ (h : Hold). not (eqb i h.desk)) hs)) (its i (keep (λ (h : Hold). not (eqb i h.desk)) hs))) ≡ 0) (sym e) ih

-- who has nothing leaves nothing
pub empty_stays : (i : ℕ) (hs : List Hold) → hands i hs ≡ 0 → keep (λ (h : Hold). not (eqb i h.desk)) hs ≡ hs
unfolding keep
empty_stays i [] e = refl
empty_stays i (h ∷ hs) e = go (λ u. empty_stays i hs u) (eqb i h.desk) refl e
  where
    go : (hands i hs ≡ 0 → keep (λ (h : Hold). not (eqb i h.desk)) hs ≡ hs) → (b : Bool) → eqb i h.desk ≡ b → length (cond b (h ∷ its i hs) (its i hs)) ≡ 0 → cond (not b) (h ∷ keep (λ (h : Hold). not (eqb i h.desk)) hs) (keep (λ (h : Hold). not (eqb i h.desk)) hs) ≡ h ∷ hs
    go ih true p u = absurd (omega arith)
    go ih false p u = ap (λ z. h ∷ z) (ih u)

-- a hold more
more_own : (i : ℕ) (n : Name) (a : Bool) (hs : List Hold) → hands i (record { desk = i; name = n; alone = a } ∷ hs) ≡ suc (hands i hs)
unfolding keep
more_own i n a hs = ap length (cond-true (eqb i i) (record { desk = i; name = n; alone = a } ∷ its i hs) (its i hs) (eq-eqb i i refl))

more_other : (i j : ℕ) (n : Name) (a : Bool) (hs : List Hold) → (j ≡ i → ⊥) → hands j (record { desk = i; name = n; alone = a } ∷ hs) ≡ hands j hs
unfolding keep
more_other i j n a hs d = ap length (cond-false (eqb j i) (record { desk = i; name = n; alone = a } ∷ its j hs) (its j hs) (ne_eqb j i d))

-- BY A CALL

pub record HandsOk (i : ℕ) (old new : List Hold) : Type 0 where
  pub own : hands i new ≤ hands i old + 1
  pub others' : (j : ℕ) → (j ≡ i → ⊥) → hands j new ≤ hands j old

kept_hands : (i : ℕ) (g : Hold → Bool) (hs : List Hold) → HandsOk i hs (keep g hs)
kept_hands i g hs = record { own = (let a = keep_less i g hs in omega arith); others' = λ j _. keep_less j g hs }

same_hands : (i : ℕ) (hs : List Hold) → HandsOk i hs hs
same_hands i hs = record { own = omega arith; others' = λ j _. omega arith }

took_hands : (i : ℕ) (n : Name) (a : Bool) (hs : List Hold) → HandsOk i hs (record { desk = i; name = n; alone = a } ∷ not_its i n hs)
took_hands i n a hs =
    record {
      own = (let e = more_own i n a (not_its i n hs) in let l = keep_less i (λ (h : Hold). not (eqb i h.desk && same n h.name)) hs in omega arith);
      others' = λ j d. let e = more_other i j n a (not_its i n hs) d in let l = keep_less j (λ (h : Hold). not (eqb i h.desk && same n h.name)) hs in omega arith;
    }

pub call_hands : (room i : ℕ) (c : Call) (s : State) → HandsOk i s.holds (does room i c s).state.holds
call_hands room i c s = every_call (λ (o : Out). HandsOk i s.holds o.state.holds) room i s (record {
  refused = λ k e. same_hands i s.holds;
  set' = λ n bs o t. same_hands i s.holds;
  got = λ e w f m bs l t. same_hands i s.holds;
  removed = λ n. kept_hands i (λ (h : Hold). not (same n h.name)) s.holds;
  renamed = λ n k bs e o t. kept_hands i (λ (h : Hold). not (same n h.name)) s.holds;
  found = λ a m l. same_hands i s.holds;
  took = λ n a. took_hands i n a s.holds;
  let_go = λ n. kept_hands i (λ (h : Hold). not (eqb i h.desk && same n h.name)) s.holds;
}) c
