-- Replies of the table of sheets as bytes: each can be written into a message, and none says that eight wait.
use Rattle.std.proofs.Common.{◌≡◌, ℕ, zero, suc, ◌+◌, ◌*◌, ◌/◌, ◌%◌, ◌^◌, ◌<◌, ◌≤◌, Bool, true, false, cond, not, ◌&&◌, T, eqb, ltb, leb, List, [], ◌∷◌, ◌++◌, map, length, sym, refl, ◌∙◌, subst, mod-lt, arith, length-append}
use Rattle.std.proofs.lemmas.Bool.{lt-ltb, leb-true, and_right, both_ways}
use Rattle.promise.specs.Bytes.{Bytes, every, all_bytes, be}
use Rattle.promise.specs.Layout.{encode_reply, names_out, is_busy}
use Rattle.promise.specs.Sheets.{Name, Sheet, State, put, less, without, keep, is_sheet, first_of, drop_of, Call, Reply, No, Yes, Edition, Got, Found, Out, does, name_ok}
use Rattle.asking.proofs.SheetCases.{SheetOk, TableOk, every_call, every_first, every_drop, every_keep, every_append}

-- WHAT A REPLY MAY BE

abbrev NameShort : Name → Bool
NameShort n = leb (length n) 255 && all_bytes n

abbrev pub ReplyOk : Reply → Type 0
ReplyOk (No k) = Unit {0}
ReplyOk Yes = Unit {0}
ReplyOk (Edition e) = Unit {0}
ReplyOk (Got e w bs) = (length bs ≤ 1048576) × T (all_bytes bs)
ReplyOk (Found ns) = (length ns ≤ 1024) × T (every NameShort ns)

byte_test : (b : ℕ) → b < 256 → T (ltb b 256)
byte_test b l = subst T (sym (lt-ltb b 256 l)) tt

be_bytes : (w n : ℕ) → T (all_bytes (be w n))
unfolding be every
be_bytes zero n = tt
be_bytes (suc w) n = every_append (λ (b : ℕ). ltb b 256) (be w (n / 256)) (n % 256 ∷ []) (be_bytes w (n / 256)) (one (n % 256) (mod-lt n {m = 256} (omega arith)))
  where
    one : (b : ℕ) → b < 256 → T (ltb b 256 && true)
    one b l = subst (λ c. T (c && true)) (sym (lt-ltb b 256 l)) tt

be_length : (w n : ℕ) → length (be w n) ≡ w
unfolding be
be_length zero n = refl
be_length (suc w) n = length-append (be w (n / 256)) (n % 256 ∷ []) ∙ (let a = be_length w (n / 256) in omega arith)

cons_bytes : (b : ℕ) (xs : Bytes) → b < 256 → T (all_bytes xs) → T (all_bytes (b ∷ xs))
unfolding every
cons_bytes b xs l o = subst (λ c. T (c && all_bytes xs)) (sym (lt-ltb b 256 l)) o

join : (xs ys : Bytes) → T (all_bytes xs) → T (all_bytes ys) → T (all_bytes (xs ++ ys))
join xs ys p q = every_append (λ (b : ℕ). ltb b 256) xs ys p q

names_bytes : (ns : List Name) → T (every NameShort ns) → T (all_bytes (names_out ns))
unfolding every names_out
names_bytes [] p = tt
names_bytes (n ∷ ns) p = go (leb (length n) 255) (all_bytes n) refl (λ u. names_bytes ns u) p
  where
    go : (a b : Bool) → all_bytes n ≡ b → (T (every NameShort ns) → T (all_bytes (names_out ns))) → T ((a && b) && every NameShort ns) → T (all_bytes ((be 1 (length n) ++ n) ++ names_out ns))
    go true true e h u = join (be 1 (length n) ++ n) (names_out ns) (join (be 1 (length n)) n (be_bytes 1 (length n)) (subst T (sym e) tt)) (h u)
    go true false e h u = absurd u
    go false b e h u = absurd u

names_length : (ns : List Name) → T (every NameShort ns) → length (names_out ns) ≤ length ns * 256
unfolding every names_out
names_length [] p = omega arith
names_length (n ∷ ns) p = go (leb (length n) 255) refl (λ u. names_length ns u) p
  where
    go : (a : Bool) → leb (length n) 255 ≡ a → (T (every NameShort ns) → length (names_out ns) ≤ length ns * 256) → T ((a && all_bytes n) && every NameShort ns) → length ((be 1 (length n) ++ n) ++ names_out ns) ≤ suc (length ns) * 256
    go true e h u =
        let a = leb-true (length n) 255 e in
        let b = length-append (be 1 (length n) ++ n) (names_out ns) in
        let c = length-append (be 1 (length n)) n in
        let d = be_length 1 (length n) in
        let f = h (right (all_bytes n) u) in
        omega arith
      where
        right : (b : Bool) → T (b && every NameShort ns) → T (every NameShort ns)
        right true u = u
        right false u = absurd u
    go false e h u = absurd u

no_bytes : T (all_bytes [])
unfolding every
no_bytes = tt

pub reply_bytes : (r : Reply) → ReplyOk r → T (all_bytes (encode_reply r))
unfolding encode_reply
reply_bytes (No k) o = cons_bytes 0 (be 1 k) (omega arith) (be_bytes 1 k)
reply_bytes Yes o = cons_bytes 1 [] (omega arith) no_bytes
reply_bytes (Edition e) o = cons_bytes 2 (be 8 e) (omega arith) (be_bytes 8 e)
reply_bytes (Got e w bs) o = cons_bytes 3 (be 8 e ++ (be 4 w ++ (be 4 (length bs) ++ bs))) (omega arith) (join (be 8 e) (be 4 w ++ (be 4 (length bs) ++ bs)) (be_bytes 8 e) (join (be 4 w) (be 4 (length bs) ++ bs) (be_bytes 4 w) (join (be 4 (length bs)) bs (be_bytes 4 (length bs)) o.1)))
reply_bytes (Found ns) o = cons_bytes 4 (be 2 (length ns) ++ names_out ns) (omega arith) (join (be 2 (length ns)) (names_out ns) (be_bytes 2 (length ns)) (names_bytes ns o.1))

pub reply_length : (r : Reply) → ReplyOk r → length (encode_reply r) < 2 ^ 31
unfolding encode_reply
reply_length (No k) o = let a = be_length 1 k in omega arith
reply_length Yes o = omega arith
reply_length (Edition e) o = let a = be_length 8 e in omega arith
reply_length (Got e w bs) o =
    let a = length-append (be 8 e) (be 4 w ++ (be 4 (length bs) ++ bs)) in
    let b = length-append (be 4 w) (be 4 (length bs) ++ bs) in
    let c = length-append (be 4 (length bs)) bs in
    let d = be_length 8 e in let f = be_length 4 w in let g = be_length 4 (length bs) in let l = o.0 in
    omega arith
reply_length (Found ns) o =
    let a = length-append (be 2 (length ns)) (names_out ns) in
    let b = be_length 2 (length ns) in
    let c = names_length ns o.1 in
    let l = o.0 in
    omega arith

-- NONE SAYS THAT EIGHT WAIT

abbrev pub NotBusy : Reply → Type 0
NotBusy (No k) = eqb (k % 256) 11 ≡ false
NotBusy Yes = Unit {0}
NotBusy (Edition e) = Unit {0}
NotBusy (Got e w bs) = Unit {0}
NotBusy (Found ns) = Unit {0}

pub not_busy_bytes : (r : Reply) → NotBusy r → is_busy (encode_reply r) ≡ false
unfolding encode_reply be
not_busy_bytes (No k) o = o
not_busy_bytes Yes o = refl
not_busy_bytes (Edition e) o = and_right (eqb (length (2 ∷ be 8 e)) 2) false refl
not_busy_bytes (Got e w bs) o = and_right (eqb (length (3 ∷ (be 8 e ++ (be 4 w ++ (be 4 (length bs) ++ bs))))) 2) false refl
not_busy_bytes (Found ns) o = and_right (eqb (length (4 ∷ (be 2 (length ns) ++ names_out ns))) 2) false refl

pub call_not_busy : (room i : ℕ) (c : Call) (s : State) → NotBusy (does room i c s).reply
call_not_busy room i c s = every_call (λ (o : Out). NotBusy o.reply) room i s (record
    { refused = λ k e. e; set' = λ n bs o t. tt; got = λ e w f m bs l t. tt; removed = λ n. tt; renamed = λ n k bs e o t. tt; found = λ a m l. tt; took = λ n a. tt; let_go = λ n. tt }) c

-- THE TABLE STAYS AS IT SHOULD BE

put_ok : (x : Sheet) (xs : List Sheet) → SheetOk x ≡ true → T (every SheetOk xs) → T (every SheetOk (put x xs))
unfolding every put
put_ok x [] o p = subst (λ b. T (b && true)) (sym o) tt
put_ok x (y ∷ ys) o p = go (less x.name y.name) (less y.name x.name) (SheetOk y) refl (λ u. put_ok x ys o u) p
  where
    go : (a b d : Bool) → SheetOk y ≡ d → (T (every SheetOk ys) → T (every SheetOk (put x ys))) → T (d && every SheetOk ys) → T (every SheetOk (cond a (x ∷ y ∷ ys) (cond b (y ∷ put x ys) (x ∷ ys))))
    go true b true e h u = subst (λ c. T (c && (SheetOk y && every SheetOk ys))) (sym o) (subst (λ c. T (c && every SheetOk ys)) (sym e) u)
    go false true true e h u = subst (λ c. T (c && every SheetOk (put x ys))) (sym e) (h u)
    go false false true e h u = subst (λ c. T (c && every SheetOk ys)) (sym o) u
    go a b false e h u = absurd u

sheet_ok : (n : Name) (bs : Bytes) (e : ℕ) → name_ok n ≡ true → T (all_bytes bs) → SheetOk (record { name = n; bytes = bs; edition = e }) ≡ true
sheet_ok n bs e o t = go (name_ok n) (all_bytes bs) o t
  where
    go : (a b : Bool) → a ≡ true → T b → (a && b) ≡ true
    go true true p q = refl
    go true false p q = absurd q
    go false b p q = p

first_most : {A : Type 0} (m : ℕ) (xs : List A) → length (first_of m xs) ≤ m
unfolding first_of
first_most zero xs = omega arith
first_most (suc m) [] = omega arith
first_most (suc m) (x ∷ xs) = let a = first_most m xs in omega arith

short_name : (n : Name) (b : Bool) → (name_ok n && b) ≡ true → NameShort n ≡ true
short_name n b e = go (ltb 0 (length n)) (leb (length n) 255) (all_bytes n) b e
  where
    go : (a c d e : Bool) → ((a && c && d) && e) ≡ true → (c && d) ≡ true
    go true true true e u = refl
    go true true false e u = u
    go true false d e u = u
    go false c d e u = absurd (both_ways false refl u)

names_mapped : (ys : List Sheet) → T (every SheetOk ys) → T (every NameShort (map (λ (x : Sheet). x.name) ys))
unfolding every
names_mapped [] u = tt
names_mapped (y ∷ ys) u = go (SheetOk y) refl (λ v. names_mapped ys v) u
  where
    go : (b : Bool) → SheetOk y ≡ b → (T (every SheetOk ys) → T (every NameShort (map (λ (x : Sheet). x.name) ys))) → T (b && every SheetOk ys) → T (NameShort y.name && every NameShort (map (λ (x : Sheet). x.name) ys))
    go true e h v = subst (λ c. T (c && every NameShort (map (λ (x : Sheet). x.name) ys))) (sym (short_name y.name (all_bytes y.bytes) e)) (h v)
    go false e h v = absurd v

names_short : (f : Sheet → Bool) (m : ℕ) (xs : List Sheet) → T (every SheetOk xs) → T (every NameShort (first_of m (map (λ (x : Sheet). x.name) (keep f xs))))
names_short f m xs o = every_first NameShort m (map (λ (x : Sheet). x.name) (keep f xs)) (names_mapped (keep f xs) (every_keep SheetOk f xs o))

pub record Good (o : Out) : Type 0 where
  pub reply' : ReplyOk o.reply
  pub table' : TableOk o.state

pub call_good : (room i : ℕ) (c : Call) (s : State) → TableOk s → Good (does room i c s)
call_good room i c s t = every_call Good room i s (record {
  refused = λ k e. record { reply' = tt; table' = t };
  set' = λ n bs o u. record { reply' = tt; table' = put_ok (record { name = n; bytes = bs; edition = s.changes' + 1 }) s.sheets (sheet_ok n bs (s.changes' + 1) o (u t)) t };
  got = λ e w f m bs l u. record { reply' = (let a = first_most m (drop_of f bs) in omega arith, every_first (λ (b : ℕ). ltb b 256) m (drop_of f bs) (every_drop (λ (b : ℕ). ltb b 256) f bs (u t))); table' = t };
  removed = λ n. record { reply' = tt; table' = every_keep SheetOk (λ (x : Sheet). not (is_sheet n x)) s.sheets t };
  renamed = λ n k bs e o u. record { reply' = tt; table' = put_ok (record { name = k; bytes = bs; edition = e }) (without n s.sheets) (sheet_ok k bs e o (u t)) (every_keep SheetOk (λ (x : Sheet). not (is_sheet n x)) s.sheets t) };
  found = λ a m l. record { reply' = (let b = first_most m (map (λ (x : Sheet). x.name) (keep (λ (x : Sheet). less a x.name) s.sheets)) in omega arith, names_short (λ (x : Sheet). less a x.name) m s.sheets t); table' = t };
  took = λ n a. record { reply' = tt; table' = t };
  let_go = λ n. record { reply' = tt; table' = t };
}) c
