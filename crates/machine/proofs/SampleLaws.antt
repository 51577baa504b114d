-- The nearest reading is a reading.
use Rattle.std.proofs.Common.{ℤ, arith}
use Rattle.std.proofs.lemmas.Int.{ints, clamps}
use Rattle.readings.specs.Range.{InRange, clamped, highest, lowest}

pub clamped_in : (z : ℤ) → InRange (clamped lowest highest z)
clamped_in z = omega (arith, ints, clamps)
