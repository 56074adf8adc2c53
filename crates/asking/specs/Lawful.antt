-- What the protocol asks of a state machine.
-- Assumes nothing.
use Rattle.std.specs.Prelude.{◌≡◌, ℕ, ◌+◌, ◌^◌, ◌<◌, ◌≤◌, true, false, T, [], length, ◌≢◌}
use Rattle.promise.specs.Bytes.{Bytes, all_bytes}
use Rattle.promise.specs.Layout.{is_busy}
use Rattle.promise.specs.Machine.{Machine}

-- the longest call that is in range
abbrev pub longest_call : ℕ
longest_call = 1048850

pub record Lawful (m : Machine) : Type 1 where
  -- what holds of every state that can be come to
  pub ok : m.State → Type 0
  pub ok_start : ok m.start
  pub ok_does : (i : ℕ) (c : Bytes) (s : m.State) → ok s → ok (m.does i c s).state
  pub ok_leaves : (i : ℕ) (s : m.State) → ok s → ok (m.leaves i s)
  -- an answer can be written into a message, and is never what a desk tells at which eight calls wait
  pub answers_bytes : (i : ℕ) (c : Bytes) (s : m.State) → ok s → T (all_bytes (m.does i c s).answer)
  pub answers_fit : (i : ℕ) (c : Bytes) (s : m.State) → ok s → length (m.does i c s).answer < 2 ^ 31
  pub never_busy : (i : ℕ) (c : Bytes) (s : m.State) → is_busy (m.does i c s).answer ≡ false
  -- a query leaves the state
  pub query_leaves : (i : ℕ) (c : Bytes) (s : m.State) → m.reads c ≡ true → (m.does i c s).state ≡ s
  -- bytes longer than the longest call are turned away as the empty call is
  pub long_as_empty : (i : ℕ) (c : Bytes) (s : m.State) → T (all_bytes c) → longest_call < length c → m.does i c s ≡ m.does i [] s
  -- who is gone has nothing in hand; who had nothing leaves the state; and nobody has more in hand than before
  pub leaves_empty : (i : ℕ) (s : m.State) → m.in_hand i (m.leaves i s) ≡ 0
  pub empty_leaves : (i : ℕ) (s : m.State) → m.in_hand i s ≡ 0 → m.leaves i s ≡ s
  pub leaves_less : (i j : ℕ) (s : m.State) → m.in_hand j (m.leaves i s) ≤ m.in_hand j s
  -- a call puts at most one thing into the hands of its own desk, and nothing into those of others
  pub start_empty : (i : ℕ) → m.in_hand i m.start ≡ 0
  pub does_one_more : (i : ℕ) (c : Bytes) (s : m.State) → m.in_hand i (m.does i c s).state ≤ m.in_hand i s + 1
  pub does_others_less : (i j : ℕ) (c : Bytes) (s : m.State) → (j ≢ i) → m.in_hand j (m.does i c s).state ≤ m.in_hand j s
