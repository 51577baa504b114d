-- The plant's input stays between where it was and the output.
use Rattle.std.proofs.Common.{suc, ◌/◌, ◌≤◌, ◌⊎◌, ℤ, pos, negsuc, ◌-ℤ◌, ◌≤ℤ◌, inl, inr, arith}
use lib.Signed.{quot_z}
use Rattle.std.proofs.lemmas.Int.{ints}
use Rattle.readings.specs.Range.{InRange}
use Rattle.ends.specs.Plants.{moved}

pub quotient_between : (d : ℤ) → ((pos 0 ≤ℤ quot_z d (pos 16)) × (quot_z d (pos 16) ≤ℤ d)) ⊎ ((d ≤ℤ quot_z d (pos 16)) × (quot_z d (pos 16) ≤ℤ pos 0))
quotient_between (pos a) = let h : a / 16 ≤ a = omega arith in inl (omega (arith, ints), omega (arith, ints))
quotient_between (negsuc a) = let h : suc a / 16 ≤ suc a = omega arith in inr (omega (arith, ints), omega (arith, ints))

pub moved_reading : (z o : ℤ) → InRange z → InRange o → InRange (moved z o)
moved_reading z o h k =
    let q = quotient_between (o -ℤ z) in (grind (arith, ints), grind (arith, ints))
