-- A reading in percent, to the tenth: one tenth of a percent is 16.
use Rattle.std.specs.Prelude.{ℕ, ◌+◌, ◌/◌, ◌%◌, cond, List, [], ◌∷◌, ℤ, pos, Some, None, Option, ◌==◌, int_div, int_lt, unsigned_abs}
use Rattle.notation.specs.declared.percent.Percent.{Percent}

-- the tenths of a reading, if it is a whole number of them
abbrev pub percent_of : ℤ → Option Percent
percent_of z = cond (unsigned_abs z % 16 == 0) (Some (record { tenths = int_div z (pos 16) })) None

-- the character of a number's last digit
abbrev pub decimal_digit : ℕ → ℕ
decimal_digit n = 48 + n % 10

-- a sign, three digits, a point and one digit
abbrev pub percent_text : Percent → List ℕ
percent_text p =
    let tenths = unsigned_abs p.tenths in
    cond (int_lt p.tenths (pos 0)) 45 43
    ∷ decimal_digit (tenths / 1000)
    ∷ decimal_digit (tenths / 100)
    ∷ decimal_digit (tenths / 10)
    ∷ 46
    ∷ decimal_digit tenths
    ∷ []
