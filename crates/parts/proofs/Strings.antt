-- What one string changed says of the list of all.
use Rattle.std.proofs.Common.{◌≡◌, ℕ, ◌+◌, ◌<◌, List, [], ◌∷◌, ◌++◌, length, get_or, set, replicate, map, vec_items, Vec, sym, ap, ◌∙◌}
use Rattle.std.proofs.lemmas.List.{map-set, get_or-map, get_or-set_same, length-set, map-append, replicate_more}

pub string_set : {Z : Type 0} (vs : List (Vec ℕ Z)) (j : ℕ) (old new : Vec ℕ Z) (f : List ℕ → List ℕ) → j < length vs → old ≡ get_or vs j old → vec_items new ≡ f (vec_items old) →
    map vec_items (set vs j new) ≡ set (map vec_items vs) j (f (get_or (map vec_items vs) j []))
string_set vs j old new f h eo en =
    map-set vec_items vs j new ∙ ap (set (map vec_items vs) j) (en ∙ ap f (ap vec_items eo ∙ sym (get_or-map vec_items vs j old [] h)))

pub string_there : {Z : Type 0} (vs : List (Vec ℕ Z)) (j : ℕ) (new : Vec ℕ Z) → j < length vs → get_or (map vec_items (set vs j new)) j [] ≡ vec_items new
string_there vs j new h =
    let at : j < length (set vs j new) = rw (length-set vs j new) h in
    get_or-map vec_items (set vs j new) j new [] at ∙ ap vec_items (get_or-set_same vs j new new h)

pub string_more : {Z : Type 0} (vs : List (Vec ℕ Z)) (v : Vec ℕ Z) (b : List ℕ) (n : ℕ) → map vec_items vs ≡ replicate n b → vec_items v ≡ b → map vec_items (vs ++ v ∷ []) ≡ replicate (n + 1) b
string_more vs v b n e ev =
    map-append vec_items vs (v ∷ []) ∙ ap (λ x. x ++ vec_items v ∷ []) e ∙ ap (λ x. replicate n b ++ x ∷ []) ev ∙ replicate_more n b
