-- The commands that only compute, over whole numbers.
use Rattle.std.specs.Prelude.{zero, suc, ◌*◌, ℤ, pos, negsuc, ◌+ℤ◌, ◌-ℤ◌, ◌*ℤ◌, neg_ℤ, unsigned_abs}
use Rattle.std.specs.Int.{int_min, int_max, int_signum}
use Rattle.readings.specs.declared.settings.Factor.{Factor}
use Rattle.readings.specs.declared.settings.Factor.TheVariants.{Tenth, Eighth, Fifth, Quarter, Third, Half, Times2, Times3, Times4, Times5, Times8, Times10, Times20, Times40, Times50, Times100}
use Rattle.arithmetic.specs.declared.operation.Operation.{Operation}
use Rattle.arithmetic.specs.declared.operation.Operation.TheVariants.{Abs, Inv, Dir, Max, Min, Add, Sub, Mul, Div, Rez, Qua, Rad, Scale}
use Rattle.readings.specs.Range.{limit}
use Rattle.arithmetic.specs.Quotients.{quotient, root}

-- ADD
abbrev pub sum : ℤ → ℤ → ℤ
sum a b = limit (a +ℤ b)

-- SUB
abbrev pub difference : ℤ → ℤ → ℤ
difference a b = limit (a -ℤ b)

-- MUL, where 16000 is 100 %
abbrev pub product : ℤ → ℤ → ℤ
product a b = limit (quotient (a *ℤ b) (pos 16000))

-- DIV; by 0: 0, or the limit with the sign of a
abbrev pub ratio : ℤ → ℤ → ℤ
ratio a (pos zero) = int_signum a *ℤ pos 31984
ratio a (pos (suc n)) = limit (quotient (a *ℤ pos 16000) (pos (suc n)))
ratio a (negsuc n) = limit (quotient (a *ℤ pos 16000) (negsuc n))

-- RAD: the whole root of the magnitude times 16000, with the sign of a
abbrev pub square_root : ℤ → ℤ
square_root (pos n) = pos (root (n * 16000))
square_root (negsuc n) = neg_ℤ (pos (root (suc n * 16000)))

-- a factor is a numerator over a denominator
abbrev pub numerator : Factor → ℤ
numerator Tenth = pos 1
numerator Eighth = pos 1
numerator Fifth = pos 1
numerator Quarter = pos 1
numerator Third = pos 1
numerator Half = pos 1
numerator Times2 = pos 2
numerator Times3 = pos 3
numerator Times4 = pos 4
numerator Times5 = pos 5
numerator Times8 = pos 8
numerator Times10 = pos 10
numerator Times20 = pos 20
numerator Times40 = pos 40
numerator Times50 = pos 50
numerator Times100 = pos 100

-- and the denominator
abbrev pub denominator : Factor → ℤ
denominator Tenth = pos 10
denominator Eighth = pos 8
denominator Fifth = pos 5
denominator Quarter = pos 4
denominator Third = pos 3
denominator Half = pos 2
denominator Times2 = pos 1
denominator Times3 = pos 1
denominator Times4 = pos 1
denominator Times5 = pos 1
denominator Times8 = pos 1
denominator Times10 = pos 1
denominator Times20 = pos 1
denominator Times40 = pos 1
denominator Times50 = pos 1
denominator Times100 = pos 1

-- the factors
abbrev pub scaled : Factor → ℤ → ℤ
scaled f a = limit (quotient (a *ℤ numerator f) (denominator f))

-- what each command gives; those with one source take no account of b
abbrev pub operated : Operation → ℤ → ℤ → ℤ
operated Abs a b = pos (unsigned_abs a)
operated Inv a b = neg_ℤ a
operated Dir a b = a
operated Max a b = int_max a b
operated Min a b = int_min a b
operated Add a b = sum a b
operated Sub a b = difference a b
operated Mul a b = product a b
operated Div a b = ratio a b
operated Rez a b = ratio (pos 16000) a
operated Qua a b = product a a
operated Rad a b = square_root a
operated (Scale f) a b = scaled f a
