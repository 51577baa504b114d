-- A line with its sources resolved.
use Rattle.std.specs.Prelude.{ℕ, ◌+◌, ◌*◌, ℤ, pos}
use Rattle.readings.specs.Range.{InRange}
use Rattle.readings.specs.Words.{constant_reading}
use Rattle.commands.specs.declared.command.Analog.{Analog}
use Rattle.commands.specs.declared.command.Analog.TheVariants as an
use Rattle.commands.specs.declared.command.Binary.{Binary}
use Rattle.commands.specs.declared.command.Binary.TheVariants as bit
use Rattle.commands.specs.declared.command.Operands.{Operands}
use Rattle.commands.specs.declared.command.Operands.TheVariants.{Unused, Constant, First, Both}
use Rattle.commands.specs.Properties.{analog_operands, binary_operands}
use Rattle.parcel.specs.declared.line.Line.{Line}
use Rattle.lines.specs.declared.program.Work.{Work}
use Rattle.lines.specs.declared.program.Sources.{Sources}
use Rattle.lines.specs.declared.source.Source.{Source}
use Rattle.lines.specs.declared.source.Source.TheVariants as names
use Rattle.lines.specs.Sources.{source_of}

-- a source that is not used
abbrev pub unused : Source
unused = names.Fixed (pos 0)

-- the constant that two source bytes write
abbrev pub constant_of : (sr1 sr2 : ℕ) → Source
constant_of a b = names.Fixed (constant_reading (a + 256 * b))

-- what the source bytes name, by what stands in them
abbrev pub sources_of : Operands → (sr1 sr2 : ℕ) → Sources
sources_of Unused a b = record { a = unused; b = unused }
sources_of Constant a b = record { a = constant_of a b; b = unused }
sources_of (First x) a b = record { a = source_of x a; b = unused }
sources_of (Both x y) a b = record { a = source_of x a; b = source_of y b }

-- a line of one side, by what stands in the source bytes of its commands
abbrev pub work_of : {C : Type 0} → (C → Operands) → Line C → Work C
work_of operands l = record { command = l.command; sources = sources_of (operands l.command) l.sr1 l.sr2 }

-- an analog line
abbrev pub analog_work : Line Analog → Work Analog
analog_work l = work_of analog_operands l

-- a binary line
abbrev pub binary_work : Line Binary → Work Binary
binary_work l = work_of binary_operands l

-- a line of a configuration that says nothing
abbrev pub blank : {C : Type 0} → (nop : C) → Line C
blank nop = record { command = nop; sr1 = 0; sr2 = 0 }

abbrev pub blank_binary : Line Binary
blank_binary = blank bit.Nop

abbrev pub blank_analog : Line Analog
blank_analog = blank an.Nop

-- a line that does nothing
abbrev pub idle : {C : Type 0} → (nop : C) → Work C
idle nop = record { command = nop; sources = record { a = unused; b = unused } }

abbrev pub idle_binary : Work Binary
idle_binary = idle bit.Nop

abbrev pub idle_analog : Work Analog
idle_analog = idle an.Nop

-- the number that stays, if a source is one
abbrev pub constant_in : Source → ℤ
constant_in (names.Fixed z) = z
constant_in (names.Line k) = pos 0
constant_in (names.Input i) = pos 0
constant_in (names.Switch i) = pos 0

-- the constants among the sources are readings
abbrev pub SoundSources : Sources → Type 0
SoundSources s = InRange (constant_in s.a) × InRange (constant_in s.b)
