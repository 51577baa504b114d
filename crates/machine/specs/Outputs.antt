-- What the output lines give the terminals.
use Rattle.std.specs.Prelude.{ℕ, ◌+◌, ◌*◌, cond, List, [], ◌∷◌}
use Rattle.lines.specs.View.{Held}
use Rattle.lines.specs.Commands.{as_bit}
use Rattle.terminals.specs.Meaning.{OutputValues}

-- the lines of Q00, of Q01 to Q04, and of Q05 to Q12
abbrev pub digital_lines : List ℕ
digital_lines =
    0x17 ∷ 0x24 ∷ 0x25 ∷ 0x26 ∷ 0x27 ∷ 0x18 ∷ 0x19 ∷ 0x1A ∷ 0x1B ∷ 0x1C ∷ 0x1D ∷ 0x1E ∷ 0x1F ∷ []

-- the bits of these lines as a number, the first lowest
abbrev pub packed : (ℕ → Held) → List ℕ → ℕ
packed lines [] = 0
packed lines (k ∷ ks) = cond (as_bit (lines k).value) 1 0 + 2 * packed lines ks

-- A1 is line 40H and A2 line 41H
abbrev pub outputs_of : (ℕ → Held) → OutputValues
outputs_of lines = record { first = (lines 0x40).value; second = (lines 0x41).value; digital = packed lines digital_lines }
