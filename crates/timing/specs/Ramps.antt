-- Rate limiters.
use Rattle.std.specs.Prelude.{ℕ, ◌+◌, ◌-◌, ◌*◌, ◌/◌, cond, ℤ, pos, ◌+ℤ◌, ◌-ℤ◌, ◌≤ℤ◌, int_lt}
use Rattle.std.specs.Int.{int_min, int_max}
use Rattle.readings.specs.declared.settings.Rate.{Rate}
use Rattle.readings.specs.declared.settings.Rate.TheVariants.{T2, T4, T8, T16, T50, T100, T200, T400, T1000, T2000, T4000, T8000}

-- the number T of a rate
abbrev pub period : Rate → ℕ
period T2 = 2
period T4 = 4
period T8 = 8
period T16 = 16
period T50 = 50
period T100 = 100
period T200 = 200
period T400 = 400
period T1000 = 1000
period T2000 = 2000
period T4000 = 4000
period T8000 = 8000

-- what may be moved at phase f: in five cycles 8000 / T in all
abbrev pub allowance : (t f : ℕ) → ℕ
allowance t f = (f + 1) * 1600 / t - f * 1600 / t

-- b moved toward a by n, or a if nearer
abbrev pub toward : ℕ → ℤ → ℤ → ℤ
toward n a b = cond (int_lt a (b -ℤ pos n)) (b -ℤ pos n) (cond (int_lt (b +ℤ pos n) a) (b +ℤ pos n) a)

-- z lies between a and b
abbrev pub Between : ℤ → ℤ → ℤ → Type 0
Between a b z = (int_min a b ≤ℤ z) × (z ≤ℤ int_max a b)
