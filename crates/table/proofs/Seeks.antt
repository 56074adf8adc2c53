-- What a look-up answers, from the rank of the name and the test there.
use Rattle.std.proofs.Common.{◌≡◌, ℕ, ◌<◌, ◌≤◌, Bool, true, false, List, Result, Ok, Err, length, get_or, set, sym, refl, ap, ◌∙◌, subst, add-one, arith}
use Rattle.std.specs.List.{insert}
use Rattle.std.proofs.lemmas.List.{drop_all, drop_more}
use Rattle.promise.specs.Sheets.{Sheet, Name, less, find, is_sheet, put}
use Rattle.table.specs.View.{rising, rank, blank_sheet, laid, standing, StandsAt, WouldStandAt, Finding}
use Rattle.table.proofs.Order.{less_same, less_self}
use Rattle.table.proofs.Ranks.{rank_le, rank_here}
use Rattle.table.proofs.Finds.{find_here, find_past, find_end, put_here, put_past, put_end, without_here, after_rank}

-- a put of a sheet of a name is a put at that name's rank
puts_by : (xs : List Sheet) (n : Name) (Q : ℕ → Sheet → List Sheet) (H : Name → Type 0) → H n → ((x : Sheet) → H x.name → put x xs ≡ Q (rank x.name xs) x) → (x : Sheet) → x.name ≡ n → put x xs ≡ Q (rank n xs) x
puts_by xs n Q H h f x e = subst (λ (k : Name). put x xs ≡ Q (rank k xs) x) e (f x (subst H (sym e) h))

here : (xs : List Sheet) (n : Name) → rising xs ≡ true → rank n xs < length xs → less n (get_or xs (rank n xs) blank_sheet).name ≡ false → StandsAt xs n (rank n xs)
here xs n r h e = record {
  within = h;
  named = less_same (get_or xs (rank n xs) blank_sheet).name n (rank_here n xs blank_sheet h) e;
  finds = find_here n xs blank_sheet r h e;
  drops = without_here n xs blank_sheet r h e;
  after = rw (after_rank n xs r, drop_more xs (rank n xs) blank_sheet h, e, add-one);
  puts = puts_by xs n (λ i x. set xs i x) (λ k. (rank k xs < length xs) × (less k (get_or xs (rank k xs) blank_sheet).name ≡ false)) (h, e) (λ x p. put_here x xs blank_sheet p.0 p.1);
}

past : (xs : List Sheet) (n : Name) → rising xs ≡ true → rank n xs < length xs → less n (get_or xs (rank n xs) blank_sheet).name ≡ true → WouldStandAt xs n (rank n xs)
past xs n r h e = record {
  within = omega arith;
  finds = find_past n xs blank_sheet r h e;
  after = rw (after_rank n xs r, drop_more xs (rank n xs) blank_sheet h, e);
  puts = puts_by xs n (λ i x. insert xs i x) (λ k. (rank k xs < length xs) × (less k (get_or xs (rank k xs) blank_sheet).name ≡ true)) (h, e) (λ x p. put_past x xs blank_sheet p.0 p.1);
}

end : (xs : List Sheet) (n : Name) → rising xs ≡ true → length xs ≤ rank n xs → WouldStandAt xs n (rank n xs)
end xs n r h = record {
  within = rank_le n xs;
  finds = find_end n xs r h;
  after = rw (after_rank n xs r, drop_all (rank n xs) xs h);
  puts = puts_by xs n (λ i x. insert xs i x) (λ k. length xs ≤ rank k xs) h (λ x p. put_end x xs p);
}

pub finds_at : (xs : List Sheet) (n : Name) (p : Result ℕ ℕ) → Finding xs n p → find (is_sheet n) xs ≡ standing xs p
finds_at xs n (Ok i) f = f.finds
finds_at xs n (Err i) f = f.finds

pub puts_at : (xs : List Sheet) (n : Name) (p : Result ℕ ℕ) → Finding xs n p → (x : Sheet) → x.name ≡ n → put x xs ≡ laid xs p x
puts_at xs n (Ok i) f = f.puts
puts_at xs n (Err i) f = f.puts

-- a look-up that finds the name at its rank
pub hits : (xs : List Sheet) (n : Name) (i : ℕ) → i ≡ rank n xs → rising xs ≡ true → i < length xs → (get_or xs i blank_sheet).name ≡ n → StandsAt xs n i
hits xs n i e r l q = subst (λ (k : ℕ). k < length xs → (get_or xs k blank_sheet).name ≡ n → StandsAt xs n k) (sym e) (λ h p. here xs n r h (ap (less n) p ∙ less_self n)) l q

-- one that finds another name there
pub misses : (xs : List Sheet) (n : Name) (i : ℕ) → i ≡ rank n xs → rising xs ≡ true → i < length xs → ((get_or xs i blank_sheet).name ≡ n → ⊥) → WouldStandAt xs n i
misses xs n i e r l q = subst (λ (k : ℕ). k < length xs → ((get_or xs k blank_sheet).name ≡ n → ⊥) → WouldStandAt xs n k) (sym e) (λ h p. past xs n r h (other h p (less n (get_or xs (rank n xs) blank_sheet).name) refl)) l q where
  other : rank n xs < length xs → ((get_or xs (rank n xs) blank_sheet).name ≡ n → ⊥) → (b : Bool) → less n (get_or xs (rank n xs) blank_sheet).name ≡ b → less n (get_or xs (rank n xs) blank_sheet).name ≡ true
  other h p true b = b
  other h p false b = absurd (p (less_same (get_or xs (rank n xs) blank_sheet).name n (rank_here n xs blank_sheet h) b))

-- one that finds nothing there
pub ends : (xs : List Sheet) (n : Name) (i : ℕ) → i ≡ rank n xs → rising xs ≡ true → length xs ≤ i → WouldStandAt xs n i
ends xs n i e r = subst (λ (k : ℕ). length xs ≤ k → WouldStandAt xs n k) (sym e) (end xs n r)
