-- A byte as text: two capital hexadecimal digits and an H. A text is the list of its bytes.
use Rattle.std.specs.Prelude.{ℕ, ◌+◌, ◌-◌, ◌*◌, ◌/◌, ◌%◌, cond, ◌&&◌, List, [], ◌∷◌, length, Some, None, Option, ◌==◌, nat_le, nat_lt, slice_index}

-- the character of a digit from 0 to 15
abbrev pub hex_digit : ℕ → ℕ
hex_digit n = cond (nat_lt n 10) (48 + n) (55 + n)

-- what is written of a byte
abbrev pub byte_text : ℕ → List ℕ
byte_text n = hex_digit (n / 16) ∷ hex_digit (n % 16) ∷ 72 ∷ []

-- the digit that a character writes: 0 to 9, or A to F
abbrev pub hex_read : ℕ → Option ℕ
hex_read c = cond (nat_le 48 c && nat_le c 57) (Some (c - 48)) (cond (nat_le 65 c && nat_le c 70) (Some (c - 55)) None)

-- two digits, the high one first
abbrev pub joined : Option ℕ → Option ℕ → Option ℕ
joined None _ = None
joined (Some high) None = None
joined (Some high) (Some low) = Some (high * 16 + low)

-- the byte that a text writes: exactly two digits and an H
abbrev pub byte_read : List ℕ → Option ℕ
byte_read cs =
    cond (length cs == 3 && slice_index cs 2 == 72) (joined (hex_read (slice_index cs 0)) (hex_read (slice_index cs 1))) None
