-- What the test of a list of readings tells.
use Rattle.std.proofs.Common.{◌≡◌, ℕ, zero, suc, ◌<◌, true, List, [], ◌∷◌, length, get_or, ℤ, pos, refl, le_of_suc-le-suc, arith}
use Rattle.std.proofs.lemmas.Int.{ints}
use Rattle.std.proofs.lemmas.Bool.{and_parts}
use Rattle.readings.specs.Range.{InRange, are_readings, is_reading}
use Rattle.std.specs.List.{list_all}

pub reading_from_test : (z : ℤ) → is_reading z ≡ true → InRange z
reading_from_test z h = grind (arith, ints)

-- the test of a list tests each number
pub all_tests : (zs : List ℤ) → are_readings zs ≡ list_all is_reading zs
all_tests [] = refl
all_tests (z ∷ zs) = rw (all_tests zs)

pub reading_at : (zs : List ℤ) (k : ℕ) → k < length zs → are_readings zs ≡ true → InRange (get_or zs k (pos 0))
reading_at [] k h t = omega arith
reading_at (z ∷ zs) zero h t = reading_from_test z (and_parts (is_reading z) (are_readings zs) t).0
reading_at (z ∷ zs) (suc k) h t = reading_at zs k (le_of_suc-le-suc h) (and_parts (is_reading z) (are_readings zs) t).1
