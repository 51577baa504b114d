-- The table, by its points as a function of their number.
use Rattle.std.specs.Prelude.{ℕ, ◌+◌, ◌/◌, ◌%◌, cond, List, ℤ, pos, negsuc, ◌+ℤ◌, ◌-ℤ◌, ◌*ℤ◌, nat_lt, slice_index_or}
use Rattle.readings.specs.Words.{bits_of, word_reading}
use Rattle.readings.specs.declared.word.Word.{Word}
use Rattle.arithmetic.specs.Quotients.{quotient}

-- the points that a table's words write
abbrev pub point_of : List Word → ℕ → ℤ
point_of ws k = word_reading (bits_of (slice_index_or ws k (record { low = 0; high = 0 })))

-- between the points p and p + 1, r past p
abbrev pub between : (ℕ → ℤ) → (p r : ℕ) → ℤ
between y p r = y p +ℤ quotient ((y (p + 1) -ℤ y p) *ℤ pos r) (pos 1024)

-- the points lie at 0, 1024, .., 16384; an input outside is taken as the nearer end
abbrev pub interpolated : (ℕ → ℤ) → ℤ → ℤ
interpolated y (negsuc n) = y 0
interpolated y (pos n) = cond (nat_lt n 16384) (between y (n / 1024) (n % 1024)) (y 16)
