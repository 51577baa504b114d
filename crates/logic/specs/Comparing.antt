-- Comparators.
use Rattle.std.specs.Prelude.{Bool, true, false, cond, ℤ, pos, ◌-ℤ◌, int_lt}

-- a is greater than b
abbrev pub exceeds : ℤ → ℤ → Bool
exceeds a b = int_lt b a

-- 1 above b, 0 below b - 80, and its own bit between
abbrev pub exceeds_held : ℤ → ℤ → (own : Bool) → Bool
exceeds_held a b own = cond (int_lt b a) true (cond (int_lt a (b -ℤ pos 80)) false own)
