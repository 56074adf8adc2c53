-- Desks that have lapsed: one more, and the model's tick as the list of them.
use Rattle.std.proofs.Common.{◌≡◌, ℕ, zero, suc, ◌+◌, ◌-◌, ◌<◌, ◌≤◌, Bool, true, false, cond, ◌&&◌, List, [], ◌∷◌, ◌++◌, map, sym, refl, ap, ◌∙◌, arith, lt-ltb, append-nil}
use Rattle.std.proofs.lemmas.List.{map-append}
use Rattle.promise.specs.Machine.{Machine}
use Rattle.promise.specs.Sheets.{State}
use Rattle.promise.specs.Desks.{Does, Lapse}
use Rattle.promise.specs.Bytes.{Bytes}
use Rattle.asking.specs.Code.{saying}
use Rattle.ids.specs.declared.DeskId.{DeskId}
use Rattle.asking.specs.House.{House, HouseTurn, is_silent, lapse_by, lapses_from, with_table, house_tick}
use Rattle.sessions.specs.Desks.{is_desk}
use Rattle.house_side.specs.Tables.{machine, leaves}
use Rattle.house_side.specs.Lapses.{number, silent_from, emptied}
use Rattle.house_side.specs.Outs.{lapse_of}
use Rattle.house_side.specs.Houses.{house_of, turn_of, spoken}
use Rattle.sessions.specs.Known.{Known}

abbrev one : Bool → ℕ → List ℕ
one b i = cond b (i ∷ []) []

one_at : {m : Machine} (t : ℕ) (h : House m) (i j : ℕ) → i ≡ j → one (is_silent t h i) i ≡ one (is_silent t h j) j
one_at t h i j e = ap (λ (k : ℕ). one (is_silent t h k) k) e

before : (b : Bool) (i : ℕ) (xs ys l : List ℕ) → ys ≡ xs ++ l → cond b (i ∷ ys) ys ≡ cond b (i ∷ xs) xs ++ l
before true i xs ys l e = ap (λ (zs : List ℕ). i ∷ zs) e
before false i xs ys l e = e

-- one desk more
pub silent_more : {m : Machine} (t : ℕ) (h : House m) (i n : ℕ) → silent_from t h i (suc n) ≡ silent_from t h i n ++ one (is_silent t h (i + n)) (i + n)
unfolding silent_from
silent_more t h i zero = one_at t h i (i + 0) (omega arith)
silent_more t h i (suc n) =
    let e : silent_from t h (i + 1) (suc n) ≡ silent_from t h (i + 1) n ++ one (is_silent t h (i + suc n)) (i + suc n) =
    silent_more t h (i + 1) n ∙ ap (λ (l : List ℕ). silent_from t h (i + 1) n ++ l) (one_at t h (i + 1 + n) (i + suc n) (omega arith)) in
    before (is_silent t h i) i (silent_from t h (i + 1) n) (silent_from t h (i + 1) (suc n)) _ e

-- the model's tick
abbrev lapsed_turn : (room : ℕ) → List ℕ → House (machine room) → HouseTurn (machine room)
lapsed_turn room is h = record { does = map (λ (i : ℕ). Lapse i) is; house = with_table h (emptied is h.table) }

lapse_by_lem : (room : ℕ) (i : ℕ) (b : Bool) (is : List ℕ) (h : House (machine room)) → lapse_by i b (lapsed_turn room is h) ≡ lapsed_turn room (cond b (i ∷ is) is) h
unfolding lapse_by emptied
lapse_by_lem room i true is h = refl
lapse_by_lem room i false is h = refl

pub lapses_is : (room t i n : ℕ) (h : House (machine room)) → lapses_from t i n h ≡ lapsed_turn room (silent_from t h i n) h
unfolding lapses_from silent_from emptied
lapses_is room t i zero h = refl
lapses_is room t i (suc n) h =
    ap (λ (x : HouseTurn (machine room)). lapse_by i (is_silent t h i) x) (lapses_is room t (i + 1) n h) ∙ lapse_by_lem room i (is_silent t h i) (silent_from t h (i + 1) n) h

pub lapses_of : (ds : List DeskId) → map lapse_of ds ≡ map saying (map (λ (i : ℕ). Lapse i) (map number ds))
lapses_of [] = refl
lapses_of (d ∷ ds) = ap (λ (l : List (Does Bytes)). Lapse d.0 ∷ l) (lapses_of ds)

-- the hands of the last one are emptied first
pub emptied_last : (ds : List DeskId) (d : DeskId) (s : State) → emptied (map number (ds ++ d ∷ [])) s ≡ emptied (map number ds) (leaves d.0 s)
unfolding emptied
emptied_last [] d s = refl
emptied_last (x ∷ ds) d s = ap (λ (v : State). leaves x.0 v) (emptied_last ds d s)

-- a desk more that has lapsed, or not
pub silent_next : {m : Machine} (t : ℕ) (h : House m) (n : ℕ) (b : Bool) (xs : List DeskId) (d : DeskId) → 1 ≤ n → n < 64 → d.0 ≡ n → map number xs ≡ silent_from t h 1 (n - 1) →
    b ≡ (is_desk n && is_silent t h n) → map number (cond b (xs ++ d ∷ []) xs) ≡ silent_from t h 1 (n + 1 - 1)
silent_next t h n b xs d above below ed e eb =
    let more : silent_from t h 1 (suc (n - 1)) ≡ silent_from t h 1 (n - 1) ++ one (is_silent t h (1 + (n - 1))) (1 + (n - 1)) = silent_more t h 1 (n - 1) in
    let at : 1 + (n - 1) ≡ n = omega arith in
    let count : suc (n - 1) ≡ n + 1 - 1 = omega arith in
    let silent : b ≡ is_silent t h n = eb ∙ ap (λ (v : Bool). v && is_silent t h n) desk in
    joined b ∙ ((λ z. e z ++ one (silent z) n) ∙ (ap (λ (l : List ℕ). silent_from t h 1 (n - 1) ++ l) (sym (one_at t h _ _ at)) ∙ (sym more ∙ ap (λ (k : ℕ). silent_from t h 1 k) count)))
  where
    desk : is_desk n ≡ true
    desk = λ z. lt-ltb 0 n (omega arith) z && lt-ltb n 64 (omega arith) z

    joined : (v : Bool) → map number (cond v (xs ++ d ∷ []) xs) ≡ map number xs ++ one v n
    joined true = map-append number xs (d ∷ []) ∙ ap (λ (k : ℕ). map number xs ++ k ∷ []) ed
    joined false = sym (append-nil (map number xs))

-- the tick of the house
pub tick_is : (room t : ℕ) (s s₁ : State) (k : Known) (o : List (Does Bytes)) (ds es : List DeskId) → o ≡ map lapse_of ds → map number ds ≡ silent_from t (house_of room s k) 1 63 → es ≡ ds →
    s₁ ≡ emptied (map number es) s → turn_of room s₁ k o ≡ spoken (house_tick t (house_of room s k))
tick_is room t s s₁ k o ds es says silent same left =
    let said : o ≡ map saying (map (λ (i : ℕ). Lapse i) (silent_from t (house_of room s k) 1 63)) =
    says ∙ (lapses_of ds ∙ ap (λ (is : List ℕ). map saying (map (λ (i : ℕ). Lapse i) is)) silent) in
    let kept : s₁ ≡ emptied (silent_from t (house_of room s k) 1 63) s = left ∙ ((λ z. emptied (map number (same z)) s) ∙ ap (λ (is : List ℕ). emptied is s) silent) in
    (λ z. turn_of room (kept z) k (said z)) ∙ ap (λ (x : HouseTurn (machine room)). spoken x) (sym (lapses_is room t 1 63 (house_of room s k)))
