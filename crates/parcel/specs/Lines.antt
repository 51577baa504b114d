-- The questions about each line.
use Rattle.std.specs.Prelude.{ℕ, zero, suc, ◌+◌, ◌*◌, ◌<◌, Bool, cond, List, is_some, Some, None, Option, nat_le, nat_lt, slice_index, unsigned_abs}
use Rattle.readings.specs.Words.{constant_reading}
use Rattle.commands.specs.declared.command.Analog.{Analog}
use Rattle.commands.specs.declared.command.Requirement.{Requirement}
use Rattle.commands.specs.declared.command.Requirement.TheVariants.{Nothing, UpperLine, Table, Range}
use Rattle.commands.specs.Codes.{analog_of, binary_of}
use Rattle.commands.specs.Properties.{requirement_of}
use Rattle.parcel.specs.declared.bodies.Places.{Places}
use Rattle.parcel.specs.declared.contents.Directory.{Directory}
use Rattle.parcel.specs.declared.line.LineBytes.{LineBytes}
use Rattle.parcel.specs.Verdicts.{Verdict, taken, refused, question, ◌then◌}

-- the constant in the two source bytes lies within 31984 of 0
abbrev pub within_limit : LineBytes → Bool
within_limit b = nat_le (unsigned_abs (constant_reading (b.sr1 + 256 * b.sr2))) 31984

-- what the command asks of its line, in a parcel with a table or without
abbrev pub required : Bool → (line : ℕ) → LineBytes → Requirement → Verdict
required table a b Nothing = taken
required table a b UpperLine = question 22 (Some a) (nat_le 0x80 a)
required table a b Table = question 23 (Some a) table
required table a b Range = question 24 (Some a) (within_limit b)

-- a code that no command of the side has is refused first
abbrev pub command_asked : Bool → (line : ℕ) → LineBytes → Option Analog → Verdict
command_asked table a b None = refused 21 (Some a)
command_asked table a b (Some x) = required table a b (requirement_of x)

-- an analog line
abbrev pub analog_asked : Bool → (line : ℕ) → LineBytes → Verdict
analog_asked table a b = command_asked table a b (analog_of b.code)

-- one line: those below 40H are binary, the others analog
abbrev pub line_asked : Bool → (line : ℕ) → LineBytes → Verdict
line_asked table a b = cond (nat_lt a 0x40) (question 21 (Some a) (is_some (binary_of b.code))) (analog_asked table a b)

-- where the three bytes of a line stand
abbrev pub places_in : Directory → (line : ℕ) → Places
places_in d a = record { code = d.codes + a; sr1 = d.sr1 + a; sr2 = d.sr2 + a }

-- they stand within n bytes
pub record Inside (at : Places) (n : ℕ) : Type 0 where
  pub code : at.code < n
  pub sr1 : at.sr1 < n
  pub sr2 : at.sr2 < n

-- the three bytes
abbrev pub line_in : List ℕ → Places → LineBytes
line_in p at = record { code = slice_index p at.code; sr1 = slice_index p at.sr1; sr2 = slice_index p at.sr2 }

-- a line's bytes in a parcel whose bodies begin at d
abbrev pub bytes_at : List ℕ → Directory → (line : ℕ) → LineBytes
bytes_at p d a = line_in p (places_in d a)

-- the line at an address of a parcel
abbrev pub line_at : List ℕ → Directory → (line : ℕ) → Verdict
line_at p d a = line_asked (is_some d.table) a (bytes_at p d a)

-- the first n lines, upward from 00H
unfoldable pub lines_asked : List ℕ → Directory → ℕ → Verdict
lines_asked p d zero = taken
lines_asked p d (suc n) = lines_asked p d n then line_at p d n
