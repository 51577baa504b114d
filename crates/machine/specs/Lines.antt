-- The lines that a machine's arrays stand for.
use Rattle.std.specs.Prelude.{ℕ, ◌-◌, ◌/◌, ◌%◌, ◌^◌, Bool, false, cond, List, ℤ, pos, ◌==◌, nat_lt, slice_index_or}
use Rattle.lines.specs.View.{Held, Moment}
use Rattle.lines.specs.Commands.{as_number}
use Rattle.machine.specs.declared.sample.Sample.{Sample}
use Rattle.machine.specs.declared.values.AnalogValue.{AnalogValue}
use Rattle.machine.specs.declared.values.Values.{Values}

-- what an analog line holds
abbrev pub analog_held : AnalogValue → Held
analog_held v = record { value = v.reading; remainder = v.remainder }

-- what a binary line holds: the number 0 or 1, and no remainder
abbrev pub binary_held : Bool → Held
binary_held b = record { value = as_number b; remainder = pos 0 }

-- an analog line that holds 0
abbrev pub blank : AnalogValue
blank = record { reading = pos 0; remainder = pos 0 }

-- what each line holds
abbrev pub lines_of : Values → ℕ → Held
lines_of v k =
    cond (nat_lt k 0x40) (binary_held (slice_index_or v.bits k false)) (analog_held (slice_index_or v.analog (k - 0x40) blank))

-- what a sample brings: eight input readings, and the switch bits as a number, D00 lowest
pub record Brought : Type 0 where
  pub inputs : List ℤ
  pub bits : ℕ

abbrev pub brought : Sample → Brought
brought s = record { inputs = s.inputs; bits = s.bits }

-- switch bit i of a number; there are nine
abbrev pub switch_of : ℕ → ℕ → Bool
switch_of bits i = cond (nat_lt i 9) (bits / 2 ^ i % 2 == 1) false

-- what stands after a sample, by what the lines hold
abbrev pub standing : Brought → (ℕ → Held) → Moment
standing s lines =
    record {
      lines = λ k. (lines k).value;
      inputs = λ i. slice_index_or s.inputs i (pos 0);
      switches = λ i. as_number (switch_of s.bits i);
    }
