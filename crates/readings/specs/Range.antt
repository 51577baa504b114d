-- The range of readings. Every bound on a reading comes from these two numbers.
use Rattle.std.specs.Prelude.{ℕ, Bool, true, cond, ◌&&◌, List, [], ◌∷◌, ℤ, pos, negsuc, neg_ℤ, ◌≤ℤ◌, Some, None, Option, int_le}
use Rattle.std.specs.Int.{int_min, int_max}

-- the least reading, -32767
abbrev pub lowest : ℤ
lowest = negsuc 32766

-- the greatest reading
abbrev pub highest : ℤ
highest = pos 32767

-- a number is a reading
abbrev pub InRange : ℤ → Type 0
InRange z = (lowest ≤ℤ z) × (z ≤ℤ highest)

-- the same, as a test
abbrev pub is_reading : ℤ → Bool
is_reading z = int_le lowest z && int_le z highest

-- every number of a list is a reading
abbrev pub are_readings : List ℤ → Bool
are_readings [] = true
are_readings (z ∷ zs) = is_reading z && are_readings zs

-- the reading that a number is, if it is one
abbrev pub readable : ℤ → Option ℤ
readable z = cond (is_reading z) (Some z) None

-- a number brought between two others
abbrev pub clamped : (low high : ℤ) → ℤ → ℤ
clamped low high z = int_max low (int_min z high)

-- limited: brought into ±31984, which is 199.9 %
unfoldable pub limit : ℤ → ℤ
limit z = clamped (negsuc 31983) (pos 31984) z

-- a magnitude with its sign
abbrev pub signed_by : Bool → ℕ → ℤ
signed_by plus n = cond plus (pos n) (neg_ℤ (pos n))
