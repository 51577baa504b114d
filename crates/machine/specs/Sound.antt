-- What holds of every machine's analog lines.
use Rattle.std.specs.Prelude.{ℕ, List, slice_index_or}
use Rattle.readings.specs.Range.{InRange}
use Rattle.commands.specs.declared.command.Analog.{Analog}
use Rattle.lines.specs.declared.program.Work.{Work}
use Rattle.lines.specs.Programs.{idle_analog}
use Rattle.lines.specs.Commands.{Keeps, divides_by}
use Rattle.machine.specs.declared.values.AnalogValue.{AnalogValue}
use Rattle.machine.specs.Lines.{blank}

-- the number is a reading, and the remainder nearer to 0 than the divisor of its own line, or 0 where that has none
pub record Sound (command : Analog) (v : AnalogValue) : Type 0 where
  pub reading : InRange v.reading
  pub remainder : Keeps (divides_by command) v.remainder

-- so for each place
abbrev pub AllSound : List (Work Analog) → List AnalogValue → Type 0
AllSound works vs = (k : ℕ) → Sound (slice_index_or works k idle_analog).command (slice_index_or vs k blank)
