-- What the addresses of sources mean.
use Rattle.std.specs.Prelude.{ℕ, ◌-◌, cond, pos, ◌==◌, nat_le, nat_lt}
use Rattle.commands.specs.declared.command.SourceKind.{SourceKind}
use Rattle.commands.specs.declared.command.SourceKind.TheVariants.{Reading, Bit}
use Rattle.lines.specs.declared.source.Source.{Source}
use Rattle.lines.specs.declared.source.Source.TheVariants.{Fixed, Line, Input, Switch}

-- as a reading, 40H to FFH is that line, 3FH down to 38H are the inputs E1 to E8, 20H is 16000, any other address 0
abbrev pub reading_source : ℕ → Source
reading_source a =
    cond (nat_le 0x40 a) (Line a)
    (cond (nat_le 0x38 a) (Input (0x3F - a))
    (cond (a == 0x20) (Fixed (pos 16000)) (Fixed (pos 0))))

-- as a bit, 00H to 3FH is that line, A0H is D00, F8H to FFH are D01 to D08, BDH is 1, any other address 0
abbrev pub bit_source : ℕ → Source
bit_source a =
    cond (nat_lt a 0x40) (Line a)
    (cond (a == 0xA0) (Switch 0)
    (cond (nat_le 0xF8 a) (Switch (a - 0xF7))
    (cond (a == 0xBD) (Fixed (pos 1)) (Fixed (pos 0)))))

-- by what the source is
abbrev pub source_of : SourceKind → ℕ → Source
source_of Reading a = reading_source a
source_of Bit a = bit_source a
