-- What the program works out: made-up inputs, and the checksum of what came out.
use Rattle.std.specs.Prelude.{ℕ, zero, suc, ◌+◌, ◌*◌, ◌/◌, ◌%◌, ◌^◌, cond, nat_lt, map, ℤ, pos, negsuc, ◌+ℤ◌, ◌-ℤ◌, int_lt}
use Rattle.std.specs.List.{range_with_len}
use Rattle.machine.specs.Lines.{Brought}
use Rattle.machine.specs.Outputs.{outputs_of}
use Rattle.machine.specs.State.{State, cycled}
use Rattle.terminals.specs.Meaning.{OutputValues}

-- the generator's next state, by a linear congruence
abbrev pub next : ℕ → ℕ
next s = (1664525 * s + 1013904223) % 2 ^ 32

-- its state after so many draws
unfoldable pub after : (draws : ℕ) → ℕ → ℕ
after zero s = s
after (suc n) s = next (after n s)

-- the number that a state gives: its upper half
abbrev pub drawn : ℕ → ℕ
drawn s = s / 65536

-- the input of a number, from -16000 to 16000
abbrev pub input_of : ℕ → ℤ
input_of n = pos (n % 32001) -ℤ pos 16000

-- the sample after a state: eight inputs, and nine bits
abbrev pub sample_after : ℕ → Brought
sample_after s =
    record {
      inputs = map (λ k. input_of (drawn (after (k + 1) s))) (range_with_len 0 8);
      bits = drawn (after 9 s) % 512;
    }

-- a checksum with one number more
abbrev pub with : ℕ → ℕ → ℕ
with sum n = (sum * 31 + n) % 2 ^ 64

-- a number from 0 on as it is, any other as 0
abbrev pub natural : ℤ → ℕ
natural (pos n) = n
natural (negsuc n) = 0

-- a number from -32768 on as one from 0 on
abbrev pub lifted : ℤ → ℕ
lifted z = natural (z +ℤ pos 32768)

-- a checksum with what the terminals are given
abbrev pub with_outputs : ℕ → OutputValues → ℕ
with_outputs sum o = with (with (with sum (lifted o.first)) (lifted o.second)) o.digital

-- what a line adds: a bit, or a reading
abbrev pub number_at : (line : ℕ) → (value : ℤ) → ℕ
number_at k z = cond (nat_lt k 0x40) (cond (int_lt (pos 0) z) 1 0) (lifted z)

-- a checksum with the lines below an address
unfoldable pub with_lines : ℕ → State → (below : ℕ) → ℕ
with_lines sum m zero = sum
with_lines sum m (suc k) = with (with_lines sum m k) (number_at k (m.lines k).value)

-- a run so far: the machine, the generator's state, the checksum
pub record Run : Type 0 where
  pub machine : State
  pub seed : ℕ
  pub sum : ℕ

-- a run after one cycle more
abbrev pub cycle_more : Run → Run
cycle_more r =
    let m = cycled (sample_after r.seed) r.machine in
    record { machine = m; seed = after 9 r.seed; sum = with_outputs r.sum (outputs_of m.lines) }

-- a run of so many cycles
unfoldable pub run_of : (count : ℕ) → State → Run
run_of zero m = record { machine = m; seed = 0; sum = 0 }
run_of (suc n) m = cycle_more (run_of n m)

-- the checksum of a run
abbrev pub sum_of : (count : ℕ) → State → ℕ
sum_of n m = let r = run_of n m in with_lines r.sum r.machine 256
