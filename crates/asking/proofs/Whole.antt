-- The promise, over bytes.
use Rattle.std.proofs.Common.{◌≡◌, ℕ, ◌+◌, ◌<◌, ◌≤◌, List, ◌++◌, Some, None, Option, sym, refl, subst, arith}
use mathlib.Core.List.Memᴰ
use mathlib.Core.List.{Memᴰ}
use Rattle.promise.specs.Bytes.{Bytes}
use Rattle.promise.specs.Layout.{busy}
use Rattle.promise.specs.Machine.{Machine}
use Rattle.promise.specs.Desks.{Comes, From, Ask, Beat, Tell, Lapse, Seen, told, there, World, Clocks, Goes, count_at, Within, SeenAtTable, OneTable, BusyAtNine, TwoMinutes, LapsesRightly, NotUntilMonday, PassesNoise}
use Rattle.promise.specs.Promise.{Whole}
use Rattle.codec.specs.Messages.{Msg, decode_msg, ReadsBack}
use Rattle.asking.specs.Lawful.{Lawful}
use Rattle.asking.specs.Code.{Settings, Mind, written, mind_turn, byte_turn, decoded_turn, asking, asking_bytes}
use Rattle.asking.proofs.OneTable.{one_table}
use Rattle.asking.proofs.Busy.{busy_at_nine}
use Rattle.asking.proofs.Silence.{lapses_rightly, not_until_monday}
use Rattle.asking.proofs.TwoMinutes.{two_minutes}
use Rattle.asking.proofs.Decoded.{decoded_not_busy}
use Rattle.asking.proofs.Lifted.{world_of, lifting, byte_noise, tell_so, lapse_so, between_so}

module _ (back : ReadsBack) (mc : Machine) (law : Lawful mc) (z : Settings) where
  one_table' : OneTable mc (asking_bytes mc z)
  one_table' clock clocks all n a b c es w g =
      let u = lifting mc z law back clock clocks all n es w g in
      one_table mc law z clock clocks all u.k a b (let f = u.few in omega arith) es u.v u.goes

  none_told : (j t : ℕ) (m : Mind mc) (k : ℕ) → Memᴰ (Tell k busy) (decoded_turn z j None t m).does → ⊥
  unfolding decoded_turn
  none_told j t m k s = Memᴰ.not-nil s

  some_told : (j : ℕ) (x : Msg) (t : ℕ) (m : Mind mc) (k : ℕ) → Memᴰ (Tell k busy) (decoded_turn z j (Some x) t m).does → Memᴰ (Tell k busy) (written (mind_turn z (From j x) t m)).does
  unfolding decoded_turn
  some_told j x t m k s = s

  none_lapsed : (j t : ℕ) (m : Mind mc) (i : ℕ) → Memᴰ (Lapse i) (decoded_turn z j None t m).does → ⊥
  unfolding decoded_turn
  none_lapsed j t m i s = Memᴰ.not-nil s

  some_lapsed : (j : ℕ) (x : Msg) (t : ℕ) (m : Mind mc) (i : ℕ) → Memᴰ (Lapse i) (decoded_turn z j (Some x) t m).does → Memᴰ (Lapse i) (written (mind_turn z (From j x) t m)).does
  unfolding decoded_turn
  some_lapsed j x t m i s = s

  -- what is told at a turn over bytes is told at that turn over messages
  busy_turn : (clock : ℕ → ℕ → ℕ) → Clocks clock → (all n : ℕ) → n < 72057594037927936 → (es : List Seen) (v : World (Mind mc) Msg) → Goes (asking mc z) clock all n es v → (i k : ℕ) (m : Mind mc) (x : Comes Bytes) → v.who i ≡ there m → Memᴰ (Tell k busy) (byte_turn z x (clock i v.now) m).does → (c : Bytes) × (x ≡ Ask k c) × (8 ≤ count_at i v.waits)
  unfolding byte_turn
  busy_turn clock clocks all n lt es v g i k m (From j b) e t = go (decode_msg b) refl t
    where
      go : (o : Option Msg) → decode_msg b ≡ o → Memᴰ (Tell k busy) (decoded_turn z j o (clock i v.now) m).does → (c : Bytes) × (From j b ≡ Ask k c) × (8 ≤ count_at i v.waits)
      go None p s = absurd (none_told j (clock i v.now) m k s)
      go (Some x) p s =
          let u = busy_at_nine mc law z clock clocks all n (omega arith) es v g i k m (From j x) (decoded_not_busy b x p) e (tell_so k busy (mind_turn z (From j x) (clock i v.now) m).does (some_told j x (clock i v.now) m k s)) in
          absurd (let u1 = u.1 in let o : ◌≡◌ {A = ℕ} 0 1 = cc in omega arith)
  busy_turn clock clocks all n lt es v g i k m (Ask k' c) e t =
      let u = busy_at_nine mc law z clock clocks all n (omega arith) es v g i k m (Ask k' c) tt e (tell_so k busy (mind_turn z (Ask k' c) (clock i v.now) m).does t) in
      let u1 = u.1 in
      let ek : k' ≡ k = cc in
      let ec : c ≡ u.0 = cc in
      (u.0, λ y. Ask (ek y) (ec y), u.2)
  busy_turn clock clocks all n lt es v g i k m Beat e t =
      let u = busy_at_nine mc law z clock clocks all n (omega arith) es v g i k m Beat tt e (tell_so k busy (mind_turn z Beat (clock i v.now) m).does t) in
      absurd (let u1 = u.1 in let o : ◌≡◌ {A = ℕ} 0 1 = cc in omega arith)

  busy_at_nine' : BusyAtNine (asking_bytes mc z)
  busy_at_nine' clock clocks all n a b c es w g =
      let u = lifting mc z law back clock clocks all n es w g in
      subst (λ y. (i k : ℕ) (m : Mind mc) (x : Comes Bytes) → y.who i ≡ there m → Memᴰ (Tell k busy) (byte_turn z x (clock i y.now) m).does → (c : Bytes) × (x ≡ Ask k c) × (8 ≤ count_at i y.waits)) (sym u.same)
      (busy_turn clock clocks all u.k (let f = u.few in omega arith) es u.v u.goes)

  two_minutes' : z.retry ≤ 50000 → TwoMinutes (asking_bytes mc z)
  two_minutes' r50 clock clocks all n a b c es w g =
      let u = lifting mc z law back clock clocks all n es w g in
      subst (λ y. (i : ℕ) → 0 < i → i < all → Within (asking_bytes mc z) clock i y (λ fs v. (k : ℕ) → Memᴰ (record { desk = i; number = k }) y.waits → (r : Bytes) × Memᴰ (told i k r) fs)) (sym u.same)
      (λ i p s. let q = two_minutes mc law z r50 clock clocks all u.k a b (let f = u.few in omega arith) es u.v u.goes i p s in
      (q.0, q.1, world_of mc z q.2, between_so mc z law back clock clocks all i a s u.k es u.v u.goes q.0 q.1 q.2 q.3, q.4, q.5, q.6))

  lapse_turn : (clock : ℕ → ℕ → ℕ) → Clocks clock → (all n : ℕ) → 2 ≤ all → all ≤ 64 → n < 72057594037927936 → (es : List Seen) (v : World (Mind mc) Msg) → Goes (asking mc z) clock all n es v → (i : ℕ) (m : Mind mc) (x : Comes Bytes) → v.who 0 ≡ there m → Memᴰ (Lapse i) (byte_turn z x (clock 0 v.now) m).does → v.heard i + 60000 ≤ clock 0 v.now
  unfolding byte_turn
  lapse_turn clock clocks all n a b lt es v g i m (From j x) e t = go (decode_msg x) t
    where
      go : (o : Option Msg) → Memᴰ (Lapse i) (decoded_turn z j o (clock 0 v.now) m).does → v.heard i + 60000 ≤ clock 0 v.now
      go None s = absurd (none_lapsed j (clock 0 v.now) m i s)
      go (Some y) s = lapses_rightly mc law z clock clocks all n a b lt es v g i m (From j y) e (lapse_so i (mind_turn z (From j y) (clock 0 v.now) m).does (some_lapsed j y (clock 0 v.now) m i s))
  lapse_turn clock clocks all n a b lt es v g i m (Ask k c) e t = lapses_rightly mc law z clock clocks all n a b lt es v g i m (Ask k c) e (lapse_so i (mind_turn z (Ask k c) (clock 0 v.now) m).does t)
  lapse_turn clock clocks all n a b lt es v g i m Beat e t = lapses_rightly mc law z clock clocks all n a b lt es v g i m Beat e (lapse_so i (mind_turn z Beat (clock 0 v.now) m).does t)

  lapses_rightly' : LapsesRightly (asking_bytes mc z)
  lapses_rightly' clock clocks all n a b c es w g =
      let u = lifting mc z law back clock clocks all n es w g in
      subst (λ y. (i : ℕ) (m : Mind mc) (x : Comes Bytes) → y.who 0 ≡ there m → Memᴰ (Lapse i) (byte_turn z x (clock 0 y.now) m).does → y.heard i + 60000 ≤ clock 0 y.now) (sym u.same)
      (lapse_turn clock clocks all u.k a b (let f = u.few in omega arith) es u.v u.goes)

  not_until_monday' : NotUntilMonday mc (asking_bytes mc z)
  not_until_monday' clock clocks all n a b c es w g =
      let u = lifting mc z law back clock clocks all n es w g in
      subst (λ y. Within (asking_bytes mc z) clock 0 y (λ fs v. SeenAtTable mc (fs ++ es) (λ s. (i : ℕ) → mc.in_hand i s ≡ 0))) (sym u.same)
      (let q = not_until_monday mc law z clock clocks all u.k a b (let f = u.few in omega arith) es u.v u.goes in
      (q.0, q.1, world_of mc z q.2, between_so mc z law back clock clocks all 0 a (omega arith) u.k es u.v u.goes q.0 q.1 q.2 q.3, q.4, q.5, q.6))

  passes_noise : PassesNoise (asking_bytes mc z)
  passes_noise x t j clock m = byte_noise mc z j x clock m t

  pub whole : z.retry ≤ 50000 → Whole mc (asking_bytes mc z)
  whole r50 = (one_table', busy_at_nine', two_minutes' r50, lapses_rightly', not_until_monday', passes_noise)
