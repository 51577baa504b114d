-- Integrators and delays: a is the input, b the value to move from, m the remainder kept, d the divisor.
use Rattle.std.specs.Prelude.{Bool, cond, ◌||◌, ℤ, pos, negsuc, ◌+ℤ◌, ◌-ℤ◌, int_lt}
use Rattle.readings.specs.Range.{limit}
use Rattle.timing.specs.Divisors.{cut, rest}

-- where an integrator would move without the limit
abbrev pub unlimited : (d a b m : ℤ) → ℤ
unlimited d a b m = b +ℤ cut (a +ℤ m) d

-- an integrator's reading
abbrev pub integrated : (d a b m : ℤ) → ℤ
integrated d a b m = limit (unlimited d a b m)

-- limiting changes the number
abbrev pub beyond : ℤ → Bool
beyond z = int_lt z (negsuc 31983) || int_lt (pos 31984) z

-- an integrator's remainder: 0 after a limited cycle
abbrev pub integrated_rest : (d a b m : ℤ) → ℤ
integrated_rest d a b m = cond (beyond (unlimited d a b m)) (pos 0) (rest (a +ℤ m) d)

-- a delay's reading
abbrev pub delayed : (d a b m : ℤ) → ℤ
delayed d a b m = b +ℤ cut (a -ℤ b +ℤ m) d

-- a delay's remainder
abbrev pub delayed_rest : (d a b m : ℤ) → ℤ
delayed_rest d a b m = rest (a -ℤ b +ℤ m) d
