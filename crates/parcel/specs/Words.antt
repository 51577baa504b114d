-- The word in two source bytes.
use Rattle.std.specs.Prelude.{ℕ}
use Rattle.readings.specs.declared.word.Word.{Word}

-- the low byte stands in SR1, the high byte in SR2
abbrev pub word_of : (sr1 sr2 : ℕ) → Word
word_of sr1 sr2 = record { low = sr1; high = sr2 }
