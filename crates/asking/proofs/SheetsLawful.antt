-- The table of sheets is a lawful machine, whichever calls are built, puts and patches among them.
use Rattle.std.proofs.Common.{◌≡◌, ℕ, ◌^◌, ◌<◌, Bool, true, false, cond, not, ◌&&◌, T, eqb, leb, List, [], ◌∷◌, length, Some, None, Option, sym, refl, ap, ◌∙◌, arith}
use Rattle.std.proofs.lemmas.Bool.{both_ways, cond-true, lt-leb, and_left, and_right}
use Rattle.promise.specs.Bytes.{Bytes, every, all_bytes}
use Rattle.promise.specs.Sheets.{Name, Sheet, Hold, State, Expect, Call, Read, Put, Patch, Remove, Rename, Names, Take, LetGo, Reply, No, Found, Out, does, leaves, keep, reads, find, is_sheet, barred, name_ok, bytes_ok, names_after, reply_to, left_by, out_of_range, in_others_hand, not_built}
use Rattle.promise.specs.Sheets as S
use Rattle.promise.specs.Layout.{encode_reply, decode_call, is_busy}
use Rattle.promise.specs.Machine.{answered, changing, reads_only, sheets}
use Rattle.asking.specs.Lawful.{Lawful}
use Rattle.asking.proofs.SheetCases.{TableOk}
use Rattle.asking.proofs.SheetHands.{hands, keep_less, gone_empty, empty_stays, HandsOk, call_hands}
use Rattle.asking.proofs.SheetReplies.{ReplyOk, reply_bytes, reply_length, not_busy_bytes, call_not_busy, call_good}
use Rattle.asking.proofs.LongCalls.{TooLong, long_call}

-- a query leaves the table
reads_leave : (f m : ℕ) (xs : List Sheet) (s : State) → (reads f m xs s).state ≡ s
unfolding reads
reads_leave f m [] s = refl
reads_leave f m (x ∷ xs) s = refl

query_leaves_lem : (room i : ℕ) (c : Call) (s : State) → changing c ≡ false → (does room i c s).state ≡ s
unfolding changing does
query_leaves_lem room i (Read n f m) s e = go (name_ok n && leb m 1048576) (barred i n s) (find (is_sheet n) s.sheets)
  where
    go : (a b : Bool) (xs : List Sheet) → (cond a (cond b (S.no in_others_hand s) (reads f m xs s)) (S.no out_of_range s)).state ≡ s
    go true true xs = refl
    go true false xs = reads_leave f m xs s
    go false b xs = refl
query_leaves_lem room i (Put n bs p) s e = absurd (both_ways true e refl)
query_leaves_lem room i (Patch n a bs p) s e = absurd (both_ways true e refl)
query_leaves_lem room i (Remove n p) s e = absurd (both_ways true e refl)
query_leaves_lem room i (Rename n k) s e = absurd (both_ways true e refl)
query_leaves_lem room i (Names a m) s e = go (leb (length a) 255 && all_bytes a && leb m 1024)
  where
    go : (b : Bool) → (cond b (record { reply = Found (names_after a m s.sheets); state = s }) (S.no out_of_range s)).state ≡ s
    go true = refl
    go false = refl
query_leaves_lem room i (Take n a) s e = absurd (both_ways true e refl)
query_leaves_lem room i (LetGo n) s e = absurd (both_ways true e refl)

module _ (can : Call → Bool) (room : ℕ) (puts : (n : Name) (bs : Bytes) (e : Expect) → can (Put n bs e) ≡ true) (patches' : (n : Name) (at : ℕ) (bs : Bytes) (e : Expect) → can (Patch n at bs e) ≡ true) where
  -- if it is built or not
  built : (P : Reply → State → Type 0) (i : ℕ) (c : Call) (s : State) → P (does room i c s).reply (does room i c s).state → P (No not_built) s → P (reply_to can room i c s) (left_by can room i c s)
  built P i c s p q = go (can c)
    where
      go : (b : Bool) → P (cond b (does room i c s).reply (No not_built)) (cond b (does room i c s).state s)
      go true = p
      go false = q

  abbrev AnswerOk : Bytes → Type 0
  AnswerOk a = T (all_bytes a) × (length a < 2 ^ 31)

  reply_ok : (r : Reply) → ReplyOk r → AnswerOk (encode_reply r)
  reply_ok r o = (reply_bytes r o, reply_length r o)

  answers : (i : ℕ) (o : Option Call) (s : State) → TableOk s → AnswerOk (answered can room i o s).answer
  unfolding answered
  answers i None s t = reply_ok (No out_of_range) tt
  answers i (Some c) s t = built (λ r _. AnswerOk (encode_reply r)) i c s (reply_ok (does room i c s).reply (call_good room i c s t).reply') (reply_ok (No not_built) tt)

  stays_ok : (i : ℕ) (o : Option Call) (s : State) → TableOk s → TableOk (answered can room i o s).state
  unfolding answered
  stays_ok i None s t = t
  stays_ok i (Some c) s t = built (λ _ s'. TableOk s') i c s (call_good room i c s t).table' t

  not_busy_lem : (i : ℕ) (o : Option Call) (s : State) → is_busy (answered can room i o s).answer ≡ false
  unfolding answered
  not_busy_lem i None s = not_busy_bytes (No out_of_range) refl
  not_busy_lem i (Some c) s = built (λ r _. is_busy (encode_reply r) ≡ false) i c s (not_busy_bytes (does room i c s).reply (call_not_busy room i c s)) (not_busy_bytes (No not_built) refl)

  query : (i : ℕ) (o : Option Call) (s : State) → reads_only can o ≡ true → (answered can room i o s).state ≡ s
  unfolding answered reads_only
  query i None s e = refl
  query i (Some c) s e = go (can c) (changing c) refl e
    where
      go : (b d : Bool) → changing c ≡ d → cond b (not d) true ≡ true → cond b (does room i c s).state s ≡ s
      go true false p u = query_leaves_lem room i c s p
      go true true p u = absurd (both_ways false refl u)
      go false d p u = refl

  -- too many bytes are out of range
  too_many : (bs : Bytes) → 1048576 < length bs → bytes_ok bs ≡ false
  too_many bs l = and_left (leb (length bs) 1048576) (all_bytes bs) (lt-leb (length bs) 1048576 l)

  long_put : (i : ℕ) (n : Name) (bs : Bytes) (e : Expect) (s : State) → 1048576 < length bs → does room i (Put n bs e) s ≡ S.no out_of_range s
  unfolding does
  long_put i n bs e s l = ap (λ b. cond b (S.changes room i n e bs s) (S.no out_of_range s)) (and_right (name_ok n) (bytes_ok bs) (too_many bs l))

  long_patch : (i : ℕ) (n : Name) (at : ℕ) (bs : Bytes) (e : Expect) (s : State) → 1048576 < length bs → does room i (Patch n at bs e) s ≡ S.no out_of_range s
  unfolding does
  long_patch i n at bs e s l = ap (λ b. cond b (S.patches room i n at bs e (find (is_sheet n) s.sheets) s) (S.no out_of_range s)) (and_right (name_ok n) (bytes_ok bs) (too_many bs l))

  out_of_range_lem : (i : ℕ) (c : Call) (s : State) → can c ≡ true → does room i c s ≡ S.no out_of_range s → answered can room i (Some c) s ≡ answered can room i None s
  unfolding answered
  out_of_range_lem i c s b e = let r : reply_to can room i c s ≡ No out_of_range = cond-true (can c) (does room i c s).reply (No not_built) b ∙ ap (λ (o : Out). o.reply) e in let t : left_by can room i c s ≡ s = cond-true (can c) (does room i c s).state s b ∙ ap (λ (o : Out). o.state) e in λ z. record { answer = encode_reply (r z); state = t z }

  too_long_lem : (i : ℕ) (o : Option Call) (s : State) → TooLong o → answered can room i o s ≡ answered can room i None s
  too_long_lem i None s t = refl
  too_long_lem i (Some (Read n f m)) s t = absurd t
  too_long_lem i (Some (Put n bs e)) s t = out_of_range_lem i (Put n bs e) s (puts n bs e) (long_put i n bs e s t)
  too_long_lem i (Some (Patch n at bs e)) s t = out_of_range_lem i (Patch n at bs e) s (patches' n at bs e) (long_patch i n at bs e s t)
  too_long_lem i (Some (Remove n e)) s t = absurd t
  too_long_lem i (Some (Rename n k)) s t = absurd t
  too_long_lem i (Some (Names a m)) s t = absurd t
  too_long_lem i (Some (Take n a)) s t = absurd t
  too_long_lem i (Some (LetGo n)) s t = absurd t

  empty_none : decode_call [] ≡ None
  unfolding decode_call
  empty_none = refl

  hands_after : (i : ℕ) (o : Option Call) (s : State) → HandsOk i s.holds (answered can room i o s).state.holds
  unfolding answered
  hands_after i None s = record { own = omega arith; others' = λ j _. omega arith }
  hands_after i (Some c) s = built (λ _ s'. HandsOk i s.holds s'.holds) i c s (call_hands room i c s) (record { own = omega arith; others' = λ j _. omega arith })

  start_empty_lem : (i : ℕ) → hands i [] ≡ 0
  unfolding keep
  start_empty_lem i = refl

  start_ok : TableOk S.blank
  unfolding every
  start_ok = tt

  pub sheets_lawful : Lawful (sheets can room)
  sheets_lawful =
      record {
        ok = TableOk;
        ok_start = start_ok;
        ok_does = λ i c s t. stays_ok i (decode_call c) s t;
        ok_leaves = λ i s t. t;
        answers_bytes = λ i c s t. (answers i (decode_call c) s t).0;
        answers_fit = λ i c s t. (answers i (decode_call c) s t).1;
        never_busy = λ i c s. not_busy_lem i (decode_call c) s;
        query_leaves = λ i c s e. query i (decode_call c) s e;
        long_as_empty = λ i c s o l. too_long_lem i (decode_call c) s (long_call c o l) ∙ ap (λ x. answered can room i x s) (sym empty_none);
        leaves_empty = λ i s. gone_empty i s.holds;
        empty_leaves = λ i s e. let p = empty_stays i s.holds e in λ z. record { sheets = s.sheets; holds = p z; changes' = s.changes' };
        leaves_less = λ i j s. keep_less j (λ (h : Hold). not (eqb i h.desk)) s.holds;
        start_empty = start_empty_lem;
        does_one_more = λ i c s. (hands_after i (decode_call c) s).own;
        does_others_less = λ i j c s n. (hands_after i (decode_call c) s).others' j n;
      }
