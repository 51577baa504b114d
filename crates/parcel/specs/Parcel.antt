-- All of load's questions about a parcel, and the configuration that it holds.
use Rattle.std.specs.Prelude.{ℕ, ◌+◌, ◌*◌, List, map, Option, slice_index}
use Rattle.std.specs.List.{range_with_len}
use Rattle.std.specs.Option.{option_map, unwrap_or}
use Rattle.readings.specs.declared.word.Word.{Word}
use Rattle.commands.specs.declared.command.Analog.TheVariants as an
use Rattle.commands.specs.declared.command.Binary.TheVariants as bit
use Rattle.commands.specs.Codes.{analog_of, binary_of}
use Rattle.parcel.specs.declared.configuration.Configuration.{Configuration}
use Rattle.parcel.specs.declared.contents.Directory.{Directory}
use Rattle.parcel.specs.declared.line.Line.{Line}
use Rattle.parcel.specs.declared.line.LineBytes.{LineBytes}
use Rattle.parcel.specs.Verdicts.{Verdict, ◌then◌}
use Rattle.parcel.specs.Contents.{contents_asked, directory_of}
use Rattle.parcel.specs.Lines.{lines_asked, bytes_at}

-- all of load's questions, in their order
abbrev pub asked : List ℕ → Verdict
asked p = contents_asked p then lines_asked p (directory_of p) 256

-- the line of a side that bytes write; an unknown code, which no accepted parcel has, counts as NOP
abbrev pub line_of : {C : Type 0} → (ℕ → Option C) → (nop : C) → LineBytes → Line C
line_of decoded nop b = record { command = unwrap_or (decoded b.code) nop; sr1 = b.sr1; sr2 = b.sr2 }

-- n lines of a side, from the line `from` on
unfoldable pub lines_of : {C : Type 0} → (ℕ → Option C) → (nop : C) → List ℕ → Directory → (from n : ℕ) → List (Line C)
lines_of decoded nop p d from n = map (λ i. line_of decoded nop (bytes_at p d (from + i))) (range_with_len 0 n)

-- word i of a table that begins at `at`, its low byte first
abbrev pub word_at : List ℕ → (at i : ℕ) → Word
word_at p at i = record { low = slice_index p (at + 2 * i); high = slice_index p (at + 2 * i + 1) }

-- the first n words
unfoldable pub words_at : List ℕ → (at n : ℕ) → List Word
words_at p at n = map (word_at p at) (range_with_len 0 n)

-- the table, if there is one
abbrev pub table_at : List ℕ → Option ℕ → Option (List Word)
table_at p o = option_map (λ at. words_at p at 17) o

-- the configuration that a parcel holds
abbrev pub configured : List ℕ → Configuration
configured p = record {
  binary = lines_of binary_of bit.Nop p (directory_of p) 0x00 64;
  analog = lines_of analog_of an.Nop p (directory_of p) 0x40 192;
  table = table_at p (directory_of p).table;
}
