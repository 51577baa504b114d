-- What is listed of a line's two source bytes, or of a table's word. A text is the list of its bytes.
use Rattle.std.specs.Prelude.{ℕ, cond, ◌&&◌, List, ◌++◌, Some, None, codes, Option, ◌==◌}
use Rattle.readings.specs.declared.word.Word.{Word}
use Rattle.readings.specs.Words.{bits_of, word_reading}
use Rattle.notation.specs.declared.percent.Percent.{Percent}
use Rattle.notation.specs.Bytes.{byte_text}
use Rattle.notation.specs.Percents.{percent_of, percent_text}
use Rattle.commands.specs.declared.command.Operands.{Operands}
use Rattle.commands.specs.declared.command.Operands.TheVariants.{Unused, First, Both}
use Rattle.commands.specs.declared.command.Operands.TheVariants as kind
use Rattle.listing.specs.declared.operand.Written.{Written}
use Rattle.listing.specs.declared.operand.Written.TheVariants.{Number, Bytes}
use Rattle.listing.specs.declared.operand.Operand.{Operand}
use Rattle.listing.specs.declared.operand.Operand.TheVariants.{One, Two, Constant}

-- in percent where that is known, else the two bytes
abbrev pub written_as : Word → Option Percent → Written
written_as w None = Bytes w
written_as w (Some p) = Number p

-- a word is written in percent if it is a whole number of tenths; its bits 0 and 1 are then 0
abbrev pub written_of : Word → Written
written_of w = written_as w (percent_of (word_reading (bits_of w)))

-- a percentage, or two bytes, the low one first
abbrev pub word_text : Written → List ℕ
word_text (Number p) = percent_text p
word_text (Bytes w) = byte_text w.low ++ (codes ", " ++ byte_text w.high)

-- the operands of a row: bytes that are not used are listed where they are not zero
abbrev pub operand_of : Operands → (sr1 sr2 : ℕ) → Option Operand
operand_of Unused a b = cond (a == 0 && b == 0) None (Some (Two a b))
operand_of kind.Constant a b = Some (Constant (written_of (record { low = a; high = b })))
operand_of (First k) a b = Some (cond (b == 0) (One a) (Two a b))
operand_of (Both j k) a b = Some (Two a b)

-- a constant in percent follows a number sign
abbrev pub constant_text : Written → List ℕ
constant_text (Number p) = codes "#" ++ percent_text p
constant_text (Bytes w) = word_text (Bytes w)

-- what is written of the operands
abbrev pub operand_text : Operand → List ℕ
operand_text (One a) = byte_text a
operand_text (Two a b) = byte_text a ++ (codes ", " ++ byte_text b)
operand_text (Constant w) = constant_text w
