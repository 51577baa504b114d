-- The law of a self-fed integrator: over any cycles of which none is limited, the movement times the divisor and the remainder are the sum of the inputs.
use Rattle.std.specs.Prelude.{◌≡◌, false, List, [], ◌∷◌, ℤ, pos, ◌+ℤ◌, ◌*ℤ◌}
use Rattle.readings.specs.declared.settings.Divisor.{Divisor}
use Rattle.timing.specs.Divisors.{Below, divisor}
use Rattle.timing.specs.Remainders.{beyond, unlimited, integrated, integrated_rest}

-- the reading after these inputs
abbrev pub value_after : ℤ → List ℤ → ℤ → ℤ → ℤ
value_after d [] b m = b
value_after d (a ∷ xs) b m = value_after d xs (integrated d a b m) (integrated_rest d a b m)

-- the remainder after these inputs
abbrev pub rest_after : ℤ → List ℤ → ℤ → ℤ → ℤ
rest_after d [] b m = m
rest_after d (a ∷ xs) b m = rest_after d xs (integrated d a b m) (integrated_rest d a b m)

-- none of these cycles is limited
abbrev pub Unlimited : ℤ → List ℤ → ℤ → ℤ → Type 0
Unlimited d [] b m = Unit {0}
Unlimited d (a ∷ xs) b m = (beyond (unlimited d a b m) ≡ false) × Unlimited d xs (integrated d a b m) (integrated_rest d a b m)

-- the sum of the inputs
abbrev pub total : List ℤ → ℤ
total [] = pos 0
total (a ∷ xs) = a +ℤ total xs

-- what an integrator has gained is what it was given
pub record Balance (d : ℤ) (xs : List ℤ) (b m : ℤ) : Type 0 where
  pub sum : value_after d xs b m *ℤ d +ℤ rest_after d xs b m ≡ b *ℤ d +ℤ m +ℤ total xs
  pub small : Below d (rest_after d xs b m)

-- so for every divisor, inputs, value and remainder
abbrev pub SumLaw : Type 0
SumLaw = (d : Divisor) (xs : List ℤ) (b m : ℤ) → Below (divisor d) m → Unlimited (divisor d) xs b m → Balance (divisor d) xs b m
