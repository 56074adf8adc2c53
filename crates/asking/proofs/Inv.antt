-- What holds of the house, of all letters ever sent, and of the table, however it went.
use Rattle.std.proofs.Common.{◌≡◌, ℕ, ◌<◌, ◌≤◌, true, false, T, ◌⊎◌, List, ◌++◌, inl, inr}
use mathlib.Core.List.Memᴰ
use mathlib.Core.List.{Memᴰ}
use Rattle.promise.specs.Bytes.{Bytes}
use Rattle.promise.specs.Machine.{Machine}
use Rattle.promise.specs.Desks.{Letter, Seen, Open, Ready, Table, is_in, is_used}
use Rattle.codec.specs.Messages.{Msg, Hello, Welcome, Request, Response, Alive}
use Rattle.asking.specs.Desk.{Desk}
use Rattle.asking.proofs.View.{slots_of, AbsPeer, AbsHouse, AbsSlot, idle, waiting, changing, FreeOf}

-- WHAT NOBODY KNOWS, but the proof does. A life of a desk is one incarnation of it, counted from 0; a nonce names one.
pub record Ghost : Type 0 where
  -- of a nonce: whose it is, and which of its lives
  pub desk : ℕ → ℕ
  pub life : ℕ → ℕ
  -- of a session: the nonce that it was given to
  pub given : ℕ → ℕ
  -- of a nonce and a slot: how it stands, or stood when its desk fell
  pub last : ℕ → ℕ → AbsSlot
  -- of a desk: how often it fell, and how many of its lives the house has let go of
  pub lives : ℕ → ℕ
  pub emptied : ℕ → ℕ
  -- of a desk: the nonce that is there, 0 for none
  pub alive : ℕ → ℕ

abbrev pub seq_of : AbsSlot → ℕ
seq_of (idle q) = q
seq_of (waiting q k c) = q

-- a nonce that was drawn
pub record Real (drawn : List ℕ) (c : ℕ) : Type 0 where
  pub pos : 0 < c
  pub drawn' : T (is_in c drawn)

-- each nonce is of a life that is over, or is the one that is there; no two are of one life
pub record Births (desk life lives alive : ℕ → ℕ) (drawn : List ℕ) : Type 0 where
  pub zero_in : T (is_in 0 drawn)
  pub born : (c : ℕ) → Real drawn c → (life c < lives (desk c)) ⊎ ((alive (desk c) ≡ c) × (life c ≡ lives (desk c)))
  pub apart : (c c' : ℕ) → Real drawn c → Real drawn c' → desk c ≡ desk c' → life c ≡ life c' → c ≡ c'
  pub alive_is : (i : ℕ) → 0 < alive i → Real drawn (alive i) × (desk (alive i) ≡ i) × (life (alive i) ≡ lives i)

-- a session that was given to this nonce of this desk
pub record Given (desk given : ℕ → ℕ) (drawn : List ℕ) (next i c s : ℕ) : Type 0 where
  pub below : s < next
  pub is' : given s ≡ c
  pub real : Real drawn c
  pub whose : desk c ≡ i

-- current and offered sessions were given, and to different nonces
pub record PeersOk (desk given : ℕ → ℕ) (drawn : List ℕ) (next : ℕ) (peers : ℕ → AbsPeer) : Type 0 where
  pub next_pos : 0 < next
  pub cur : (i : ℕ) → 0 < (peers i).session → Given desk given drawn next i (peers i).nonce (peers i).session
  pub off : (i : ℕ) → 0 < (peers i).session' → Given desk given drawn next i (peers i).nonce' (peers i).session'
  pub two : (i : ℕ) → 0 < (peers i).session → 0 < (peers i).session' → (peers i).nonce ≡ (peers i).nonce' → ⊥

-- the house has done nothing that was not asked
pub record Seqs (last : ℕ → ℕ → AbsSlot) (peers : ℕ → AbsPeer) : Type 0 where
  pub upto : (i j : ℕ) → 0 < (peers i).session → ((peers i).slots j).seq ≤ seq_of (last (peers i).nonce j)

-- hands were emptied for all lives before the current one
pub record Emptied (life emptied : ℕ → ℕ) (peers : ℕ → AbsPeer) : Type 0 where
  pub none : (i : ℕ) → (peers i).session ≡ 0 → emptied i ≡ 0
  pub some : (i : ℕ) → 0 < (peers i).session → emptied i ≡ life (peers i).nonce

-- numbers of calls that wait: each was used, and waits in one slot only
pub record Numbers (desk : ℕ → ℕ) (last : ℕ → ℕ → AbsSlot) (drawn : List ℕ) (es : List Seen) : Type 0 where
  pub seq_pos : (c j q k : ℕ) (x : Bytes) → last c j ≡ waiting q k x → 0 < q
  pub used : (c j q k : ℕ) (x : Bytes) → Real drawn c → last c j ≡ waiting q k x → T (is_used (desk c) k es)
  pub once : (c j q k : ℕ) (x : Bytes) (j' q' : ℕ) (x' : Bytes) → Real drawn c → last c j ≡ waiting q k x → last c j' ≡ waiting q' k x' → j ≡ j'

-- LETTERS: what holds of each that was ever sent

pub record HelloOk (desk : ℕ → ℕ) (drawn : List ℕ) (by c : ℕ) : Type 0 where
  pub real : Real drawn c
  pub whose : desk c ≡ by

pub record WelcomeOk (given : ℕ → ℕ) (next c s : ℕ) : Type 0 where
  pub pos : 0 < s
  pub below : s < next
  pub is' : given s ≡ c

-- this call of this life is done, or that life is over
pub record IsPast (p : AbsPeer) (c j q : ℕ) : Type 0 where
  pub on : 0 < p.session
  pub is' : p.nonce ≡ c
  pub upto : q ≤ (p.slots j).seq

-- a Request of which nothing is left to do: a later one waits in its slot or none does, and a change was done or its life is over
pub record Settled (mc : Machine) (g : Ghost) (p : AbsPeer) (i c j q : ℕ) (x : Bytes) : Type 0 where
  pub over : (q' k' : ℕ) (x' : Bytes) → g.last c j ≡ waiting q' k' x' → q < q'
  pub past : changing mc x ≡ true → (g.life c < g.emptied i) ⊎ IsPast p c j q

-- a Request belongs to the nonce that its session was given to; an offered session is of a later life than the current one
pub record RequestOk (mc : Machine) (g : Ghost) (next : ℕ) (p : AbsPeer) (drawn : List ℕ) (by s j q : ℕ) (x : Bytes) : Type 0 where
  pub c : ℕ
  pub pos : 0 < s
  pub below : s < next
  pub is' : g.given s ≡ c
  pub real : Real drawn c
  pub whose : g.desk c ≡ by
  pub qpos : 0 < q
  pub upto : q ≤ seq_of (g.last c j)
  pub stands : ((k : ℕ) × (g.last c j ≡ waiting q k x)) ⊎ Settled mc g p by c j q x
  pub lifts : s ≡ p.session' → 0 < p.session → g.life p.nonce < g.life c

-- an answer under the current session: that of a change is the kept one
pub record Answer (mc : Machine) (g : Ghost) (p : AbsPeer) (c s j q : ℕ) (r : Bytes) : Type 0 where
  pub on : 0 < p.session
  pub is' : p.session ≡ s
  pub recorded' : (k : ℕ) (x : Bytes) → g.last c j ≡ waiting q k x → changing mc x ≡ true → ((p.slots j).seq ≡ q) × ((p.slots j).answer ≡ r)

-- a Response is of a life that is over, or of the current session
pub record ResponseOk (mc : Machine) (g : Ghost) (h : AbsHouse mc) (drawn : List ℕ) (s j q : ℕ) (r : Bytes) : Type 0 where
  pub c : ℕ
  pub i : ℕ
  pub pos : 0 < s
  pub below : s < h.next
  pub is' : g.given s ≡ c
  pub real : Real drawn c
  pub whose : g.desk c ≡ i
  pub upto : q ≤ seq_of (g.last c j)
  pub stands : (g.life c < g.emptied i) ⊎ Answer mc g (h.peers i) c s j q r

abbrev pub WordOk : (mc : Machine) → Ghost → AbsHouse mc → List ℕ → (by : ℕ) → Msg → Type 0
WordOk mc g h drawn by (Hello c) = HelloOk g.desk drawn by c
WordOk mc g h drawn by (Welcome c s) = WelcomeOk g.given h.next c s
WordOk mc g h drawn by (Request s j q x) = RequestOk mc g h.next (h.peers by) drawn by s j q x
WordOk mc g h drawn by (Alive s) = Unit {0}
WordOk mc g h drawn by (Response s j q gr r) = ResponseOk mc g h drawn s j q r

-- THE TABLE. A query is done each time it is asked for, and one of its answers is told. So there is a table for every choice of one of the
-- answers that were sent, or of none yet, for each query that waits.
pub data Pick : Type 0 where
  unpicked : Pick
  picked : Bytes → Pick

-- such an answer was sent
pub record Evid (mc : Machine) (given : ℕ → ℕ) (last : ℕ → ℕ → AbsSlot) (letters : List (Letter Msg)) (c j : ℕ) (r : Bytes) : Type 0 where
  pub s : ℕ
  pub q : ℕ
  pub gr : ℕ
  pub k : ℕ
  pub x : Bytes
  pub l : Letter Msg
  pub waits : last c j ≡ waiting q k x
  pub reads : changing mc x ≡ false
  pub is' : given s ≡ c
  pub mem : Memᴰ l letters
  pub word' : l.word ≡ Response s j q gr r

abbrev pub Fits : (mc : Machine) (given : ℕ → ℕ) (last : ℕ → ℕ → AbsSlot) (letters : List (Letter Msg)) (σ : ℕ → ℕ → Pick) → Type 0
Fits mc given last letters σ = (c j : ℕ) (r : Bytes) → σ c j ≡ picked r → Evid mc given last letters c j r

abbrev pub open_of : Ghost → (c k : ℕ) → Bytes → Open
open_of g c k x = record { desk = g.desk c; number = k; life = g.life c; call = x }

abbrev pub ready_of : Ghost → (c k : ℕ) → Bytes → Ready
ready_of g c k r = record { desk = g.desk c; number = k; life = g.life c; answer = r }

-- a change that waits is open until the house has done it, and ready then
pub record Change (g : Ghost) (p : AbsPeer) (c j q k : ℕ) (x : Bytes) (os : List Open) (rs : List Ready) : Type 0 where
  pub is_open : (0 < p.session → p.nonce ≡ c → (p.slots j).seq < q) → Memᴰ (open_of g c k x) os
  pub is_ready : 0 < p.session → p.nonce ≡ c → q ≤ (p.slots j).seq → Memᴰ (ready_of g c k (p.slots j).answer) rs

-- a query that waits is open, or ready with the answer that was chosen
pub record Reading (g : Ghost) (c k : ℕ) (x : Bytes) (y : Pick) (os : List Open) (rs : List Ready) : Type 0 where
  pub is_open : y ≡ unpicked → Memᴰ (open_of g c k x) os
  pub is_ready : (r : Bytes) → y ≡ picked r → Memᴰ (ready_of g c k r) rs

-- the table for one choice: of open and ready calls only membership is asked
pub record Held (mc : Machine) (g : Ghost) (h : AbsHouse mc) (drawn : List ℕ) (es : List Seen) (σ : ℕ → ℕ → Pick) : Type 0 where
  pub os : List Open
  pub rs : List Ready
  pub tab : Table mc es h.table os rs g.lives g.emptied
  pub change : (c j q k : ℕ) (x : Bytes) → Real drawn c → g.last c j ≡ waiting q k x → changing mc x ≡ true → g.emptied (g.desk c) ≤ g.life c → Change g (h.peers (g.desk c)) c j q k x os rs
  pub reading : (c j q k : ℕ) (x : Bytes) → Real drawn c → g.last c j ≡ waiting q k x → changing mc x ≡ false → Reading g c k x (σ c j) os rs

-- all of it. free: of whom the house knows nothing yet has nothing in hand
pub record Core (mc : Machine) (g : Ghost) (h : AbsHouse mc) (drawn : List ℕ) (letters : List (Letter Msg)) (es : List Seen) : Type 0 where
  pub births : Births g.desk g.life g.lives g.alive drawn
  pub peers_ok : PeersOk g.desk g.given drawn h.next h.peers
  pub seqs : Seqs g.last h.peers
  pub emptied_ok : Emptied g.life g.emptied h.peers
  pub numbers : Numbers g.desk g.last drawn es
  pub free : (i : ℕ) → (h.peers i).session ≡ 0 → FreeOf mc i h.table
  pub letters_ok : (l : Letter Msg) → Memᴰ l letters → WordOk mc g h drawn l.by l.word
  pub table : (σ : ℕ → ℕ → Pick) → Fits mc g.given g.last letters σ → Held mc g h drawn es σ

-- of a desk that is there
pub record DeskOk (mc : Machine) (g : Ghost) (h : AbsHouse mc) (i : ℕ) (d : Desk) : Type 0 where
  pub me : g.alive i ≡ d.nonce
  pub pos : 0 < d.nonce
  pub slots' : (j : ℕ) → slots_of d.slots j ≡ g.last d.nonce j
  pub session' : 0 < d.session → (d.session < h.next) × (g.given d.session ≡ d.nonce)
  pub settled' : d.answered ≡ true → 0 < d.session
  pub current : d.answered ≡ true → (h.peers i).session ≡ d.session

-- LETTERS THAT ARE NO NEW ANSWERS TO A QUERY change nothing of the table
abbrev pub NoNewAnswer : Machine → Ghost → List (Letter Msg) → Type 0
NoNewAnswer mc g new = (l : Letter Msg) → Memᴰ l new → (s j q gr : ℕ) (r : Bytes) → l.word ≡ Response s j q gr r → (c k : ℕ) (x : Bytes) → g.given s ≡ c → g.last c j ≡ waiting q k x → changing mc x ≡ false → ⊥

pub fits_old : (mc : Machine) (g : Ghost) (new letters : List (Letter Msg)) (σ : ℕ → ℕ → Pick) → NoNewAnswer mc g new → Fits mc g.given g.last (new ++ letters) σ → Fits mc g.given g.last letters σ
fits_old mc g new letters σ no_new f c j r e = go (f c j r e) (Memᴰ.append_cases new (f c j r e).mem)
  where
    go : (v : Evid mc g.given g.last (new ++ letters) c j r) → Memᴰ v.l new ⊎ Memᴰ v.l letters → Evid mc g.given g.last letters c j r
    go v (inl m) = absurd (no_new v.l m v.s j v.q v.gr r v.word' c v.k v.x v.is' v.waits v.reads)
    go v (inr m) = record { s = v.s; q = v.q; gr = v.gr; k = v.k; x = v.x; l = v.l; waits = v.waits; reads = v.reads; is' = v.is'; mem = m; word' = v.word' }

pub sends : (mc : Machine) (g : Ghost) (h : AbsHouse mc) (drawn : List ℕ) (letters : List (Letter Msg)) (es : List Seen) (new : List (Letter Msg)) → Core mc g h drawn letters es → ((l : Letter Msg) → Memᴰ l new → WordOk mc g h drawn l.by l.word) → NoNewAnswer mc g new → Core mc g h drawn (new ++ letters) es
sends mc g h drawn letters es new v ok no_new =
    record {
      births = v.births;
      peers_ok = v.peers_ok;
      seqs = v.seqs;
      emptied_ok = v.emptied_ok;
      numbers = v.numbers;
      free = v.free;
      letters_ok = λ l m. elim (Memᴰ.append_cases new m) [ inl a ↦ ok l a | inr b ↦ v.letters_ok l b ];
      table = λ σ f. v.table σ (fits_old mc g new letters σ no_new f);
    }
