-- The rows of a listing, each ended by a newline. A text is the list of its bytes.
use Rattle.std.specs.Prelude.{ℕ, zero, suc, ◌-◌, ◌/◌, ◌%◌, cond, List, [], ◌++◌, Some, None, codes, decimal, Option, nat_lt, slice_index_or}
use Rattle.readings.specs.declared.word.Word.{Word}
use Rattle.notation.specs.Bytes.{byte_text}
use Rattle.commands.specs.declared.command.Operands.{Operands}
use Rattle.commands.specs.declared.command.Analog.TheVariants as an
use Rattle.commands.specs.declared.command.Binary.TheVariants as bit
use Rattle.commands.specs.Properties.{analog_name, analog_operands, binary_name, binary_operands}
use Rattle.parcel.specs.declared.configuration.Configuration.{Configuration}
use Rattle.parcel.specs.declared.line.Line.{Line}
use Rattle.listing.specs.declared.operand.Operand.{Operand}
use Rattle.listing.specs.Operands.{operand_of, operand_text, word_text, written_of}

-- the first n texts, one after another
unfoldable pub up_to : (ℕ → List ℕ) → ℕ → List ℕ
up_to text zero = []
up_to text (suc n) = up_to text n ++ text n

-- a line's row: address, name and operands
abbrev pub row_text : (address : ℕ) (name : List ℕ) → Operand → List ℕ
row_text a name o = byte_text a ++ (codes " : " ++ (name ++ (codes ", " ++ operand_text o)))

-- a line with nothing to list is left out
abbrev pub entry_text : (address : ℕ) (name : List ℕ) → Option Operand → List ℕ
entry_text a name None = []
entry_text a name (Some o) = row_text a name o ++ codes "\n"

-- a line's row, by the names and the sources of its side's commands
abbrev pub command_text : {C : Type 0} → (printed : C → List ℕ) → (sources : C → Operands) → (address : ℕ) → Line C → List ℕ
command_text printed sources a l = entry_text a (printed l.command) (operand_of (sources l.command) l.sr1 l.sr2)

-- the row of the line at an address: binary below 40H, analog from there on
abbrev pub line_text : Configuration → (address : ℕ) → List ℕ
line_text c a =
    cond (nat_lt a 0x40) (command_text binary_name binary_operands a (slice_index_or c.binary a (record { command = bit.Nop; sr1 = 0; sr2 = 0 })))
    (command_text analog_name analog_operands a (slice_index_or c.analog (a - 0x40) (record { command = an.Nop; sr1 = 0; sr2 = 0 })))

-- a table's row: the point's number in two digits, and its word
abbrev pub table_row_text : (place : ℕ) → Word → List ℕ
table_row_text i w = codes "TABLE " ++ (decimal (i / 10) ++ (decimal (i % 10) ++ (codes " : " ++ word_text (written_of w))))

-- a point's row with its newline
abbrev pub point_text : List Word → (place : ℕ) → List ℕ
point_text ws i = table_row_text i (slice_index_or ws i (record { low = 0; high = 0 })) ++ codes "\n"

-- all 17 points, if there is a table
abbrev pub table_text : Option (List Word) → List ℕ
table_text None = []
table_text (Some ws) = up_to (point_text ws) 17

-- the lines, and then the table
abbrev pub listing_text : Configuration → List ℕ
listing_text c = up_to (line_text c) 256 ++ table_text c.table
