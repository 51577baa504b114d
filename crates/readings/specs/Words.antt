-- Words: 16 bits that write a reading.
use Rattle.std.specs.Prelude.{ℕ, ◌+◌, ◌*◌, ◌/◌, ◌%◌, ℤ, nat_le}
use Rattle.readings.specs.Range.{signed_by}
use Rattle.readings.specs.declared.word.Word.{Word}

-- the word as a number: its low byte, and its high byte 256 times
abbrev pub bits_of : Word → ℕ
bits_of w = w.low + 256 * w.high

-- bit 15 is 1 for plus, and the other 15 bits are the magnitude; minus zero is 0
abbrev pub word_reading : ℕ → ℤ
word_reading n = signed_by (nat_le 0x8000 n) (n % 0x8000)

-- in a FIX or FLX line bits 0 and 1 place the decimal point, and count as 0
abbrev pub constant_reading : ℕ → ℤ
constant_reading n = word_reading (n / 4 * 4)
