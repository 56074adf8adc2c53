-- Words of 8 bytes, and the sum over them.
use Rattle.std.proofs.Common.{◌≡◌, ℕ, ◌+◌, ◌-◌, ◌*◌, ◌/◌, zero, suc, ◌<◌, ◌≤◌, List, [], ◌++◌, length, get_or, take, drop, replicate, sym, refl, ap, ◌∙◌, ⊎_elim, zero-mul, suc-mul, add-one, arith}
use Rattle.std.proofs.lemmas.List.{length-append, length-drop, length-replicate, drop-drop, get_or-drop, get_or-take, take_all, drop-replicate, get_or_past, get_or_append_left, get_or-append_right, get_or-replicate}
use Rattle.std.proofs.lemmas.Bool.{cases_lt}
use Rattle.std.specs.Simd.{first_chunks}
use Rattle.promise.specs.Bytes.{Bytes, number}
use Rattle.codec.specs.Sum.{word, mixed, joined, lane_to, sum_to, sum_of}
use Rattle.codec.proofs.Numbers.{number_8}
use Rattle.messages.specs.declared.sum.Lanes.{Lanes}
use Rattle.messages.specs.Lanes.{LanesAt, MixedIn}

-- eight bytes as a number, by what stands at each place
abbrev pub eight : (ℕ → ℕ) → ℕ
eight f =
    f 0 * 72057594037927936 + f 1 * 281474976710656 + f 2 * 1099511627776 + f 3 * 4294967296
    + f 4 * 16777216 + f 5 * 65536 + f 6 * 256 + f 7

pub eight_same : (f g : ℕ → ℕ) → ((i : ℕ) → i < 8 → f i ≡ g i) → eight f ≡ eight g
eight_same f g h =
    omega (arith, h 0 (omega arith), h 1 (omega arith), h 2 (omega arith), h 3 (omega arith), h 4 (omega arith), h 5 (omega arith), h 6 (omega arith), h 7 (omega arith))

pub get_or_zeros : (b : Bytes) (n i : ℕ) → get_or (b ++ replicate n 0) i 0 ≡ get_or b i 0
get_or_zeros b n i =
    ⊎_elim
    (λ (h : i < length b). get_or_append_left b (replicate n 0) 0 i h)
    (λ (h : length b ≤ i). get_or-append_right b (replicate n 0) (length b) i 0 refl h ∙ zero_at (i - length b) ∙ sym (get_or_past b i 0 h))
    (cases_lt i (length b)) where
      zero_at : (j : ℕ) → ◌≡◌ {A = ℕ} (get_or (replicate n 0) j 0) 0
      zero_at j =
          ⊎_elim
          (λ (h : j < n). get_or-replicate n j 0 0 h)
          (λ (h : n ≤ j). get_or_past (replicate n 0) j 0 (omega (arith, length-replicate {A = ℕ} n 0)))
          (cases_lt j n)

pub number_whole : (b : Bytes) → length b ≡ 8 → number b ≡ eight (λ i. get_or b i 0)
number_whole b e = ap number (sym (take_all 8 b (omega arith))) ∙ number_8 b (omega arith)

-- a word by what stands at each place
pub word_is : (b : Bytes) (k : ℕ) → word b k ≡ eight (λ i. get_or b (8 * k + i) 0)
unfolding word
word_is b k =
    let x : Bytes = drop (8 * k) b ++ replicate 8 0 in
    let l : length x ≡ length (drop (8 * k) b) + 8 = length-append (drop (8 * k) b) (replicate 8 0) ∙ ap (λ n. length (drop (8 * k) b) + n) (length-replicate {A = ℕ} 8 0) in
    number_8 x (omega arith) ∙ eight_same (λ i. get_or x i 0) (λ i. get_or b (8 * k + i) 0) (λ i h. get_or_zeros (drop (8 * k) b) 8 i ∙ get_or-drop (8 * k) b i 0)

-- eight bytes that are there
word_there : (b : Bytes) (k at : ℕ) → at ≡ 8 * k → at + 8 ≤ length b → number (take 8 (drop at b)) ≡ word b k
word_there b k at e h =
    number_8 (drop at b) (omega (arith, length-drop at b))
    ∙ eight_same (λ i. get_or (drop at b) i 0) (λ i. get_or b (8 * k + i) 0) (λ i l. get_or-drop at b i 0 ∙ ap (λ n. get_or b (n + i) 0) e)
    ∙ sym (word_is b k)

-- a chunk by its place
chunk_at : (n k j : ℕ) (xs : Bytes) → j < k → get_or (first_chunks n k xs) j [] ≡ take n (drop (j * n) xs)
chunk_at n zero j xs h = absurd (omega arith)
chunk_at n (suc k) zero xs h = ap (λ i. take n (drop i xs)) (sym (zero-mul n))
chunk_at n (suc k) (suc j) xs h =
    let e : n + j * n ≡ suc j * n = omega (arith, suc-mul j n) in
    chunk_at n k j (drop n xs) (omega arith) ∙ ap (take n) (drop-drop (j * n) n xs ∙ ap (λ i. drop i xs) e)

-- a chunk of eight bytes is a word
pub word_chunk : (words : List Bytes) (block : Bytes) (k : ℕ) → words ≡ first_chunks 8 (length block / 8) block → length block ≡ 32 → k < 4 →
    number (get_or words k []) ≡ word block k
word_chunk words block k e l h =
    ap (λ x. number (get_or x k [])) e ∙ ap number (chunk_at 8 (length block / 8) k block (omega arith)) ∙ word_there block k (k * 8) (omega arith) (omega arith)

-- a word of a block of four is one of the whole
pub word_block : (b block : Bytes) (k l : ℕ) → l < 4 → ((i : ℕ) → i < 32 → get_or block i 0 ≡ get_or b (32 * k + i) 0) → word block l ≡ word b (4 * k + l)
word_block b block k l h same =
    word_is block l
    ∙ eight_same (λ i. get_or block (8 * l + i) 0) (λ i. get_or b (8 * (4 * k + l) + i) 0)
    (λ i j. same (8 * l + i) (omega arith) ∙ ap (λ n. get_or b n 0) (let e : 32 * k + (8 * l + i) ≡ 8 * (4 * k + l) + i = omega arith in e))
    ∙ sym (word_is b (4 * k + l))

-- the blocks that the code hands on

pub block_at : (blocks : List Bytes) (b : Bytes) (k i : ℕ) → blocks ≡ first_chunks 32 (length b / 32) b → k < length b / 32 → i < 32 →
    get_or (get_or blocks k []) i 0 ≡ get_or b (32 * k + i) 0
block_at blocks b k i e h j =
    let n : k * 32 + i ≡ 32 * k + i = omega arith in
    ap (λ x. get_or (get_or x k []) i 0) e ∙ ap (λ x. get_or x i 0) (chunk_at 32 (length b / 32) k b h)
    ∙ get_or-take 32 (drop (k * 32) b) i 0 j ∙ get_or-drop (k * 32) b i 0 ∙ ap (λ x. get_or b x 0) n

pub rest_at : (rest b : Bytes) (n i : ℕ) → rest ≡ drop (length b / 32 * 32) b → get_or (rest ++ replicate n 0) i 0 ≡ get_or b (32 * (length b / 32) + i) 0
rest_at rest b n i e =
    let m : length b / 32 * 32 + i ≡ 32 * (length b / 32) + i = omega arith in
    get_or_zeros rest n i ∙ ap (λ x. get_or x i 0) e ∙ get_or-drop (length b / 32 * 32) b i 0 ∙ ap (λ x. get_or b x 0) m

pub padded_is : (b s : Bytes) → s ≡ b → s ++ drop (length b) (replicate 32 0) ≡ b ++ replicate (32 - length b) 0
padded_is b s e = ap (λ x. x ++ drop (length b) (replicate 32 0)) e ∙ ap (λ x. b ++ x) (drop-replicate (length b) 32 0)

lane_more : (b : Bytes) (l k h w : ℕ) → h ≡ lane_to b l k → w ≡ word b (4 * k + l) → mixed h w ≡ lane_to b l (k + 1)
unfolding lane_to
lane_more b l k h w e f = ap (λ n. mixed n w) e ∙ ap (mixed (lane_to b l k)) f ∙ ap (lane_to b l) (sym (add-one k))

pub lanes_more : (x y : Lanes) (b block : Bytes) (k : ℕ) → LanesAt x b k → MixedIn x y block → ((i : ℕ) → i < 32 → get_or block i 0 ≡ get_or b (32 * k + i) 0) → LanesAt y b (k + 1)
lanes_more x y b block k a m same = record {
  first = m.first ∙ lane_more b 0 k x.first (word block 0) a.first (word_block b block k 0 (omega arith) same);
  second = m.second ∙ lane_more b 1 k x.second (word block 1) a.second (word_block b block k 1 (omega arith) same);
  third = m.third ∙ lane_more b 2 k x.third (word block 2) a.third (word_block b block k 2 (omega arith) same);
  fourth = m.fourth ∙ lane_more b 3 k x.fourth (word block 3) a.fourth (word_block b block k 3 (omega arith) same);
}

pub sum_all : (x : Lanes) (b : Bytes) (k : ℕ) → k ≡ (length b + 31) / 32 → LanesAt x b k → joined x.first x.second x.third x.fourth ≡ sum_of b
unfolding sum_to sum_of
sum_all x b k e a =
    ap (λ h. joined h x.second x.third x.fourth) a.first
    ∙ ap (λ h. joined (lane_to b 0 k) h x.third x.fourth) a.second
    ∙ ap (λ h. joined (lane_to b 0 k) (lane_to b 1 k) h x.fourth) a.third
    ∙ ap (λ h. joined (lane_to b 0 k) (lane_to b 1 k) (lane_to b 2 k) h) a.fourth
    ∙ ap (sum_to b) e
