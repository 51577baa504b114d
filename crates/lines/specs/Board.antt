-- The command of each of the 256 lines.
use Rattle.std.specs.Prelude.{ℕ, ◌-◌, cond, List, get_or, Option, nat_lt, slice_index_or}
use Rattle.readings.specs.declared.word.Word.{Word}
use Rattle.parcel.specs.declared.configuration.Configuration.{Configuration}
use Rattle.commands.specs.declared.command.Analog.{Analog}
use Rattle.commands.specs.declared.command.Binary.{Binary}
use Rattle.lines.specs.declared.program.Work.{Work}
use Rattle.lines.specs.declared.program.Program.{Program}
use Rattle.lines.specs.View.{Command, only_lines}
use Rattle.lines.specs.Programs.{analog_work, binary_work, blank_analog, blank_binary, idle_analog, idle_binary}
use Rattle.lines.specs.Commands.{analog_view, binary_view}

-- the command of an analog line, over a table
abbrev pub analog_command : Option (List Word) → Work Analog → Command
analog_command t w = analog_view t w.command w.sources

-- the command of a binary line
abbrev pub binary_command : Work Binary → Command
binary_command w = binary_view w.command w.sources

-- the binary lines are 00H to 3FH, the analog ones 40H to FFH
abbrev pub by_side : (ℕ → Work Binary) → (ℕ → Work Analog) → Option (List Word) → ℕ → Command
by_side binary analog t =
    only_lines (λ k. cond (nat_lt k 0x40) (binary_command (binary k)) (analog_command t (analog (k - 0x40))))

-- the command of each line of a configuration
abbrev pub command_in : Configuration → ℕ → Command
command_in c =
    by_side (λ k. binary_work (slice_index_or c.binary k blank_binary)) (λ k. analog_work (slice_index_or c.analog k blank_analog)) c.table

-- and of a program
abbrev pub command_of : Program → ℕ → Command
command_of p = by_side (λ k. get_or p.binary k idle_binary) (λ k. get_or p.analog k idle_analog) p.table
