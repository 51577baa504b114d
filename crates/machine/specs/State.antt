-- What a machine holds, as its calls see it, and what each call makes of it.
use Rattle.std.specs.Prelude.{◌≡◌, ℕ, Bool, true, false, cond, ◌&&◌, List, ℤ, pos, negsuc, Some, None, Ok, Err, Option, Result, int_le}
use Rattle.lines.specs.View.{Command, holds, gives, remembers, Held, nothing}
use Rattle.lines.specs.Order.{descending}
use Rattle.commands.specs.declared.command.Analog.{Analog}
use Rattle.lines.specs.declared.program.Work.{Work}
use Rattle.lines.specs.Board.{analog_command, command_of}
use Rattle.machine.specs.declared.state.Machine.{Machine}
use Rattle.machine.specs.declared.state.Mode.{Mode}
use Rattle.machine.specs.declared.state.Mode.TheVariants.{Empty, Stopped, Running}
use Rattle.machine.specs.declared.refusal.AdjustRefusal.{AdjustRefusal}
use Rattle.machine.specs.declared.refusal.AdjustRefusal.TheVariants.{NotFlexible, OverRange}
use Rattle.machine.specs.declared.values.AnalogValue.{AnalogValue}
use Rattle.machine.specs.Lines.{Brought, analog_held, lines_of}
use Rattle.machine.specs.Sound.{Sound}
use Rattle.readings.specs.declared.word.Word.{Word}
use Rattle.machine.specs.Cycle.{all_worked, next_phase, put, swept, together, worked_at}

-- the mode, the order in which analog lines are worked, the command of each line, what each line holds, the phase
pub record State : Type 0 where
  pub mode : Mode
  pub order : List ℕ
  pub command : ℕ → Command
  pub lines : ℕ → Held
  pub phase : ℕ

-- what a machine's arrays stand for; analog lines are worked by descending addresses
abbrev pub state_of : Machine → State
state_of m =
    record {
      mode = m.mode;
      order = descending;
      command = command_of m.program;
      lines = lines_of m.values;
      phase = m.phase.number;
    }

-- the same with other lines
abbrev pub with_lines : (ℕ → Held) → State → State
with_lines lines m = record { mode = m.mode; order = m.order; command = m.command; lines = lines; phase = m.phase }

-- no configuration, all values and the phase 0
abbrev pub new : List ℕ → State
new order =
    record { mode = Empty; order = order; command = nothing; lines = λ k. record { value = pos 0; remainder = pos 0 }; phase = 0 }

-- ---- one cycle

-- line k is worked from what stands
abbrev pub line_worked : Brought → ℕ → State → State
line_worked s k m = with_lines (put m.lines k (worked_at m.command m.phase s m.lines k)) m

-- the analog lines are worked in place, one after another, in this order
abbrev pub swept_lines : Brought → (order : List ℕ) → State → State
swept_lines s order m = with_lines (swept m.command m.phase s order m.lines) m

-- the binary lines are worked together
abbrev pub decided : Brought → State → State
decided s m = with_lines (together m.command m.phase s m.lines) m

-- all lines are worked after a sample, and the phase goes one on
abbrev pub cycled : Brought → State → State
cycled s m =
    record {
      mode = m.mode;
      order = m.order;
      command = m.command;
      lines = all_worked m.command m.phase s m.order m.lines;
      phase = next_phase m.phase;
    }

-- ---- load

-- only empty becomes stopped
abbrev pub loaded_mode : Mode → Mode
loaded_mode Empty = Stopped
loaded_mode Stopped = Stopped
loaded_mode Running = Running

-- an analog line with nothing left over
abbrev pub without_remainder : AnalogValue → AnalogValue
without_remainder v = record { reading = v.reading; remainder = pos 0 }

-- new commands; all values and the phase stay, and every remainder becomes 0
abbrev pub loaded : (ℕ → Command) → State → State
loaded c m =
    record {
      mode = loaded_mode m.mode;
      order = m.order;
      command = c;
      lines = λ k. record { value = (m.lines k).value; remainder = pos 0 };
      phase = m.phase;
    }

-- ---- recall and adjust

abbrev pub with_value : ℤ → Held → Held
with_value z x = record { value = z; remainder = x.remainder }

-- the default of a line: only FLX has one
abbrev pub default_of : Command → Option ℤ
default_of (holds d) = d
default_of (gives f a b) = None
default_of (remembers f a b) = None

-- a line after a recall: FLX has its default
abbrev pub defaulted : Command → Held → Held
defaulted (holds None) x = x
defaulted (holds (Some d)) x = with_value d x
defaulted (gives f a b) x = x
defaulted (remembers f a b) x = x

-- an analog line's value after a recall, with any table; it stays sound
unfoldable pub IsRestored : Work Analog → (old new : AnalogValue) → Type 0
IsRestored w old new = ((t : Option (List Word)) → analog_held new ≡ defaulted (analog_command t w) (analog_held old)) × Sound w.command new

abbrev pub recalled : State → State
recalled m = with_lines (λ k. defaulted (m.command k) (m.lines k)) m

-- is the line FLX?
abbrev pub flexible : Command → Bool
flexible (holds None) = false
flexible (holds (Some d)) = true
flexible (gives f a b) = false
flexible (remembers f a b) = false

-- is the number from -31984 to 31984?
abbrev pub within_limit : ℤ → Bool
within_limit z = int_le (negsuc 31983) z && int_le z (pos 31984)

-- the questions of an adjustment, the first no by its number
abbrev pub adjust_rule : Command → ℤ → Result (Unit {0}) ℕ
adjust_rule c z = cond (flexible c) (cond (within_limit z) (Ok tt) (Err 35)) (Err 34)

-- an answer, a refusal by its number
abbrev pub adjust_told : Result (Unit {0}) AdjustRefusal → Result (Unit {0}) ℕ
adjust_told (Ok u) = Ok u
adjust_told (Err NotFlexible) = Err 34
adjust_told (Err OverRange) = Err 35

-- line k has the value z
abbrev pub adjusted_lines : ℕ → ℤ → State → State
adjusted_lines k z m = with_lines (put m.lines k (with_value z (m.lines k))) m

-- an adjustment sets the reading, where it is accepted
abbrev pub adjusted : ℕ → ℤ → State → State
adjusted k z m = cond (flexible (m.command k) && within_limit z) (adjusted_lines k z m) m
