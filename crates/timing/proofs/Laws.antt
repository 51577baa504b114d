-- Laws of the divisors, and of division that keeps its remainder.
use Rattle.std.proofs.Common.{◌≡◌, ℕ, suc, ◌+◌, ◌-◌, ◌/◌, ◌<◌, ◌≤◌, ℤ, pos, negsuc, ◌+ℤ◌, ◌-ℤ◌, ◌*ℤ◌, ◌≤ℤ◌, refl, subst, add-mul, arith}
use borrow.Author.Differences.{up, down}
use Rattle.std.proofs.lemmas.Int.{ints, clamps, rem_below}
use Rattle.std.proofs.lemmas.Nat.{mul-le, div_below}
use Rattle.readings.specs.declared.settings.Divisor.{Divisor}
use Rattle.readings.specs.declared.settings.Divisor.TheVariants.{D10, D40, D100, D250, D1200, D4800, D12000, D30000}
use Rattle.timing.specs.Divisors.{Below, cut, divisor, rest}
use Rattle.std.specs.Prelude.{int_rem}
use Rattle.std.specs.Int.{int_min, int_max}
use Rattle.readings.specs.Range.{InRange}
use Rattle.readings.proofs.Whole.{rem-rest}
use Rattle.timing.specs.Ramps.{Between, toward}

-- every divisor is 1 at least
pub divisor_low : (d : Divisor) → pos 1 ≤ℤ divisor d
divisor_low D10 = omega (arith, ints)
divisor_low D40 = omega (arith, ints)
divisor_low D100 = omega (arith, ints)
divisor_low D250 = omega (arith, ints)
divisor_low D1200 = omega (arith, ints)
divisor_low D4800 = omega (arith, ints)
divisor_low D12000 = omega (arith, ints)
divisor_low D30000 = omega (arith, ints)

-- the laws of cutting by a positive number: n is q · d and what is left, which is less than d
pub cut-rest : (n d : ℤ) → cut n d *ℤ d +ℤ rest n d ≡ n
unfolding rest
cut-rest n d = omega (arith, ints)

pub rem_is_rest : (n d : ℤ) → int_rem n d ≡ rest n d
unfolding cut rest
rem_is_rest = rem-rest

pub rest_within : (n d : ℤ) → pos 1 ≤ℤ d → Below d (rest n d)
rest_within n d p = subst (Below d) (rem_is_rest n d) (omega (arith, ints, rem_below n d (omega (arith, ints))))

-- a delay stays between its value and its input
near : (x e k : ℕ) → 0 < k → x < e + k → x / k ≤ e
near x e k p h = omega (arith, div_below x k (e + 1) p (omega (arith, add-mul e 1 k, mul-le e 1 e k (omega arith) (omega arith))))

pub delay_between : (d a b m : ℤ) → pos 1 ≤ℤ d → Below d m → Between a b (b +ℤ cut (a -ℤ b +ℤ m) d)
unfolding cut
delay_between (negsuc d) a b m p h = absurd (omega (arith, ints))
delay_between (pos k) a b m p h = go (a -ℤ b +ℤ m) refl
  where
    go : (n : ℤ) → a -ℤ b +ℤ m ≡ n → Between a b (b +ℤ cut n (pos k))
    go (pos x) e = omega (arith, ints, clamps, near x (up a + down b - (down a + up b)) k (omega (arith, ints)) (omega (arith, ints)))
    go (negsuc x) e = omega (arith, ints, clamps, near (suc x) (up b + down a - (down b + up a)) k (omega (arith, ints)) (omega (arith, ints)))

-- what lies between two readings is a reading
pub between_range : (a b z : ℤ) → InRange a → InRange b → Between a b z → InRange z
between_range a b z u v h = omega (arith, ints, clamps)

-- a rate limiter brings its input between the ends of its reach
pub toward_is : (n : ℕ) (a b : ℤ) → int_max (b -ℤ pos n) (int_min a (b +ℤ pos n)) ≡ toward n a b
toward_is n a b = grind (arith, ints)
