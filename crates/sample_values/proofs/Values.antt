-- The definitions give the sample values: by computation.
use mathlib.Core.Path.{refl}
use Rattle.readings.specs.Range.{limit}
use Rattle.arithmetic.specs.Quotients.{quotient, root, root_from}
use Rattle.timing.specs.Divisors.{cut, rest}
use Rattle.sample_values.specs.Samples.{Samples}

pub samples : Samples
unfolding limit quotient root root_from cut rest
samples = record {
  word_plus = refl;
  word_minus = refl;
  word_zero = refl;
  constant_point = refl;
  constant_greatest = refl;
  constant_beyond = refl;
  mul_limited = refl;
  div_minus = refl;
  qua_below = refl;
  qua_limited = refl;
  rad_minus = refl;
  third_minus = refl;
  table = refl;
  ramp = refl;
  integral = refl;
  delay = refl;
}
