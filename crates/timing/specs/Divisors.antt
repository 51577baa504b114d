-- The divisors of integrators and delays, and division that keeps its remainder.
use Rattle.std.specs.Prelude.{cond, ◌&&◌, ℤ, pos, negsuc, ◌-ℤ◌, ◌*ℤ◌, neg_ℤ, ◌≤ℤ◌, ◌<ℤ◌, Some, None, Option, int_div, int_lt}
use Rattle.readings.specs.declared.settings.Divisor.{Divisor}
use Rattle.readings.specs.declared.settings.Divisor.TheVariants.{D10, D40, D100, D250, D1200, D4800, D12000, D30000}

-- the number D of a divisor
abbrev pub divisor : Divisor → ℤ
divisor D10 = pos 10
divisor D40 = pos 40
divisor D100 = pos 100
divisor D250 = pos 250
divisor D1200 = pos 1200
divisor D4800 = pos 4800
divisor D12000 = pos 12000
divisor D30000 = pos 30000

-- m is nearer to 0 than d
abbrev pub Below : ℤ → ℤ → Type 0
Below d m = (neg_ℤ d <ℤ m) × (m <ℤ d)

-- sums of readings and remainders lie here, far from the ends of 32 bits
abbrev pub Small : ℤ → Type 0
Small z = (negsuc 199999 ≤ℤ z) × (z ≤ℤ pos 200000)

-- the remainder that a number is, if it is one
abbrev pub remaining : Divisor → ℤ → Option ℤ
remaining d z = cond (int_lt (neg_ℤ (divisor d)) z && int_lt z (divisor d)) (Some z) None

-- the quotient of integrators and delays: cut toward zero
unfoldable pub cut : ℤ → ℤ → ℤ
cut n d = int_div n d

-- what the cut leaves
unfoldable pub rest : ℤ → ℤ → ℤ
rest n d = n -ℤ cut n d *ℤ d
