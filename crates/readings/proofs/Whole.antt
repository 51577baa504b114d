-- Whole numbers in 32 bits, and how far quotients reach.
use Rattle.std.proofs.Common.{◌≡◌, ℕ, suc, ◌<◌, ℤ, pos, negsuc, neg_ℤ, ◌+ℤ◌, ◌-ℤ◌, ◌*ℤ◌, ◌≤ℤ◌, div-le_self, arith, w32, to_z, of_z}
use lib.Signed.{quot_z, mag}
use Rattle.std.proofs.lemmas.Int.{ints, quot-rem, to_z-of_z}
use Rattle.std.specs.Prelude.{int_div, int_rem}

-- a number that went to its bits and back: `back z c.f.ok` of what a call gave, `back z c.fits.z.sfits` of an argument
pub back : (z : ℤ) → mag z < 2147483648 → to_z w32 (of_z w32 z) ≡ z
back z h = to_z-of_z w32 z (record { sfits = h })

-- a quotient cut toward zero is no larger than its dividend
pub quotient_within : (n d : ℤ) (high : ℕ) → neg_ℤ (pos high) ≤ℤ n → n ≤ℤ pos high → (neg_ℤ (pos high) ≤ℤ quot_z n d) × (quot_z n d ≤ℤ pos high)
quotient_within (pos n) (pos d) high p q = omega (arith, ints, div-le_self n d)
quotient_within (pos n) (negsuc d) high p q = omega (arith, ints, div-le_self n (suc d))
quotient_within (negsuc n) (pos d) high p q = omega (arith, ints, div-le_self (suc n) d)
quotient_within (negsuc n) (negsuc d) high p q = omega (arith, ints, div-le_self (suc n) (suc d))

-- what a division leaves is the dividend less the divisor's multiple
pub rem-rest : (n d : ℤ) → int_rem n d ≡ n -ℤ int_div n d *ℤ d
rem-rest n d = left (int_div n d *ℤ d) (int_rem n d) (quot-rem n d)
  where
    left : (x r : ℤ) → x +ℤ r ≡ n → r ≡ n -ℤ x
    left x r e = omega (arith, ints)
