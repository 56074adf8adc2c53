-- The steps of a script and the lines that say them: words with one space between them.
-- Assumes nothing.
use Rattle.std.specs.Prelude.{ℕ, cond, length, drop, Some, None, codes, Option, ◌==◌, slice_index}
use Rattle.std.specs.Str.{bytes_eq}
use Rattle.promise.specs.Bytes.{Bytes, bind, ended}
use Rattle.text.specs.Decimals.{decimal_in, number_word}
use Rattle.text.specs.Words.{first_in, word_in}
use Rattle.script.specs.declared.step.Drift.{Drift}
use Rattle.script.specs.declared.step.Drift.TheVariants.{Fast, Slow}
use Rattle.script.specs.declared.step.Fate.{Fate}
use Rattle.script.specs.declared.step.Fate.TheVariants.{Pass, Lose, Twice}
use Rattle.script.specs.declared.step.Which.{Which}
use Rattle.script.specs.declared.step.Which.TheVariants.{Oldest, OldestBetween, NthBetween}
use Rattle.script.specs.declared.step.Step as step
use Rattle.script.specs.declared.step.Step.TheVariants as s

-- a step, with bytes in the place of parts of its line
pub data StepOf : Type 0 where
  script : (name : Bytes) → StepOf
  desks : (count : ℕ) → StepOf
  memory : (house desk : ℕ) → StepOf
  rate : (who : ℕ) → Drift → StepOf
  time : (ms : ℕ) → StepOf
  call : (desk : ℕ) → (line : Bytes) → StepOf
  beat : (who : ℕ) → StepOf
  deliver : Fate → Which → StepOf
  pass_all : StepOf
  dark : StepOf
  light : StepOf
  fall : (desk : ℕ) → StepOf
  come : (desk : ℕ) → StepOf

abbrev pub step_of : step.Step → StepOf
step_of (s.Script n) = script n.now
step_of (s.Desks n) = desks n
step_of (s.Memory h d) = memory h d
step_of (s.Rate i d) = rate i d
step_of (s.Time t) = time t
step_of (s.Call i l) = call i l.now
step_of (s.Beat i) = beat i
step_of (s.Deliver f w) = deliver f w
step_of s.PassAll = pass_all
step_of s.Dark = dark
step_of s.Light = light
step_of (s.Fall i) = fall i
step_of (s.Come i) = come i

-- READING

-- a number that is not 0
abbrev pub count_in : (most : ℕ) → Bytes → Option (ℕ × Bytes)
count_in most b = bind (number_word most b) (λ n. cond (n.0 == 0) None (Some n))

unfoldable pub script_in : Bytes → Option StepOf
script_in b = bind (word_in b) (λ n. ended (script n.0) n.1)

abbrev pub desks_in : Bytes → Option StepOf
desks_in b = bind (count_in 8 b) (λ n. ended (desks n.0) n.1)

unfoldable pub memory_in : Bytes → Option StepOf
memory_in b = bind (number_word 18446744073709551615 b) (λ h. bind (number_word 18446744073709551615 h.1) (λ d. ended (memory h.0 d.0) d.1))

-- how much a clock runs wrong: a number of hundredths up to 100, behind '-' if it is slow
abbrev pub drift_of : Bytes → Option Drift
drift_of w =
    cond (slice_index w 0 == 45) (bind (decimal_in 100 (drop 1 w)) (λ n. cond (n == 0) None (Some (Slow n))))
    (bind (decimal_in 100 w) (λ n. Some (Fast n)))

unfoldable pub rate_in : Bytes → Option StepOf
rate_in b = bind (number_word 8 b) (λ i. bind (word_in i.1) (λ w. bind (drift_of w.0) (λ d. ended (rate i.0 d) w.1)))

abbrev pub time_in : Bytes → Option StepOf
time_in b = bind (number_word 18446744073709551615 b) (λ t. ended (time t.0) t.1)

abbrev pub beat_in : Bytes → Option StepOf
beat_in b = bind (number_word 8 b) (λ i. ended (beat i.0) i.1)

abbrev pub fall_in : Bytes → Option StepOf
fall_in b = bind (count_in 8 b) (λ i. ended (fall i.0) i.1)

abbrev pub come_in : Bytes → Option StepOf
come_in b = bind (count_in 8 b) (λ i. ended (come i.0) i.1)

-- from whom, to whom, and perhaps the how manieth
abbrev pub nth_in : (sender receiver : ℕ) → Bytes → Option Which
nth_in i j b = cond (length b == 0) (Some (OldestBetween i j)) (bind (count_in 4294967295 b) (λ k. ended (NthBetween i j k.0) k.1))

abbrev pub between_in : Bytes → Option Which
between_in b = bind (number_word 8 b) (λ i. bind (number_word 8 i.1) (λ j. nth_in i.0 j.0 j.1))

abbrev pub which_in : Bytes → Option Which
which_in b = cond (length b == 0) (Some Oldest) (between_in b)

unfoldable pub deliver_in : Fate → Bytes → Option StepOf
deliver_in f b = bind (which_in b) (λ w. Some (deliver f w))

unfoldable pub pass_in : Bytes → Option StepOf
pass_in b = cond (bytes_eq b (codes " all")) (Some pass_all) (deliver_in Pass b)

-- what is said behind a desk's number and a space is a line of that desk
unfoldable pub call_in : (word rest : Bytes) → Option StepOf
call_in w b = bind (decimal_in 8 w) (λ i. cond (i == 0) None (cond (slice_index b 0 == 32) (Some (call i (drop 1 b))) None))

unfoldable pub numbers_in : (word rest : Bytes) → Option StepOf
numbers_in w b =
    cond (bytes_eq w (codes "desks")) (desks_in b) (cond (bytes_eq w (codes "rate")) (rate_in b)
    (cond (bytes_eq w (codes "time")) (time_in b) (call_in w b)))

unfoldable pub begins_in : (word rest : Bytes) → Option StepOf
begins_in w b = cond (bytes_eq w (codes "script")) (script_in b) (cond (bytes_eq w (codes "memory")) (memory_in b) (numbers_in w b))

unfoldable pub darkness_in : (word rest : Bytes) → Option StepOf
darkness_in w b = cond (bytes_eq w (codes "dark")) (ended dark b) (cond (bytes_eq w (codes "light")) (ended light b) (begins_in w b))

unfoldable pub happens_in : (word rest : Bytes) → Option StepOf
happens_in w b =
    cond (bytes_eq w (codes "beat")) (beat_in b) (cond (bytes_eq w (codes "fall")) (fall_in b)
    (cond (bytes_eq w (codes "come")) (come_in b) (darkness_in w b)))

abbrev pub message_in : (word rest : Bytes) → Option StepOf
message_in w b =
    cond (bytes_eq w (codes "pass")) (pass_in b) (cond (bytes_eq w (codes "lose")) (deliver_in Lose b)
    (cond (bytes_eq w (codes "twice")) (deliver_in Twice b) (happens_in w b)))

-- the step that a line says
abbrev pub step_in : Bytes → Option StepOf
step_in b = bind (first_in b) (λ w. message_in w.0 w.1)
