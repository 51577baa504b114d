-- Laws of the table: the gaps, and what lies between two points.
use Rattle.std.proofs.Common.{◌≡◌, ℕ, zero, suc, ◌+◌, ◌*◌, ◌<◌, ◌≤◌, ℤ, pos, negsuc, ◌+ℤ◌, ◌-ℤ◌, ◌*ℤ◌, neg_ℤ, nat_abs, ◌≤ℤ◌, refl, add-mul, arith, w32, SFits, to_z, of_z}
use Rattle.std.proofs.lemmas.Int.{ints, to_z-of_z, to_z_pos, unsigned_abs-mul}
use Rattle.std.proofs.lemmas.Nat.{mul-le, div_below}
use Rattle.readings.specs.Range.{InRange}
use Rattle.arithmetic.specs.Quotients.{Small, quotient}

-- the laws of the quotient rule that the commands rest on: the quotient of what lies from 0 to k · d lies from 0 to k
pub quotient_up : (n k d : ℕ) → 0 < d → n ≤ k * d → (pos 0 ≤ℤ quotient (pos n) (pos d)) × (quotient (pos n) (pos d) ≤ℤ pos k)
unfolding quotient
quotient_up n k d p h = omega (arith, ints, div_below n d (k + 1) p (omega (arith, add-mul k 1 d)))

pub quotient_down : (n k d : ℕ) → 0 < d → suc n ≤ k * d → (neg_ℤ (pos k) ≤ℤ quotient (negsuc n) (pos d)) × (quotient (negsuc n) (pos d) ≤ℤ pos 0)
unfolding quotient
quotient_down n k d p h = omega (arith, ints, div_below (suc n) d (k + 1) p (omega (arith, add-mul k 1 d)))

-- r steps of the gap between two readings are far from the ends of an i32
pub steps_small : (low high : ℤ) (r : ℕ) → InRange low → InRange high → r < 1024 → Small ((high -ℤ low) *ℤ pos r)
steps_small low high r u v h =
    omega (arith, ints, unsigned_abs-mul (high -ℤ low) (pos r), mul-le (nat_abs (high -ℤ low)) r 65534 1023 (omega (arith, ints)) (omega arith))

-- and so is each part of them, through its bits and back
pub steps_back : (low high : ℤ) (r : ℕ) → InRange low → InRange high → r < 1024
    → to_z w32 (of_z w32 (to_z w32 (of_z w32 (high -ℤ low)) *ℤ to_z w32 r)) ≡ (high -ℤ low) *ℤ pos r
steps_back low high r u v h =
    let s = steps_small low high r u v h in
    let k : r < 2147483648 = omega arith in
    let g : SFits w32 (high -ℤ low) = omega (arith, ints) in
    let p : SFits w32 ((high -ℤ low) *ℤ pos r) = omega (arith, ints) in
    simp (to_z-of_z, to_z_pos) refl

-- interpolation stays between the points
pub between_within : (low high : ℤ) (r : ℕ) → InRange low → InRange high → r < 1024 → InRange (low +ℤ quotient ((high -ℤ low) *ℤ pos r) (pos 1024))
between_within low high r u v h = go (high -ℤ low) refl
  where
    go : (x : ℤ) → high -ℤ low ≡ x → InRange (low +ℤ quotient (x *ℤ pos r) (pos 1024))
    go (pos x) e = omega (arith, ints, quotient_up (x * r) x 1024 (omega arith) (mul-le x r x 1024 (omega arith) (omega arith)))
    go (negsuc x) e = below (suc x * r) refl
      where
        below : (y : ℕ) → suc x * r ≡ y → InRange (low +ℤ quotient (neg_ℤ (pos y)) (pos 1024))
        below zero f = omega (arith, ints, quotient_up 0 0 1024 (omega arith) (omega arith))
        below (suc y) f = omega (arith, ints, quotient_down y (suc x) 1024 (omega arith) (omega (arith, mul-le (suc x) r (suc x) 1024 (omega arith) (omega arith))))
