use Rattle.std.proofs.Common.{ℤ, ◌+ℤ◌, sym, ap, ◌∙◌, subst, ap₂}
use Rattle.readings.specs.Range.{InRange}
use Rattle.readings.proofs.Whole.{back}
use Rattle.timing.specs.Divisors.{cut, divisor, rest}
use Rattle.timing.specs.Ramps.{Between}
use Rattle.timing.specs.Remainders.{delayed}
use Rattle.timing.proofs.Laws.{between_range, delay_between, divisor_low}
use Rattle.timing.proofs.steps.delay.Goals as goal

pub returns : goal.returns
returns c =
    let a = c.args.a.value in
    let b = c.args.b.value in
    let D = divisor c.args.m.divisor in
    let s = c.of_distance-division.ensures in
    let d = ap divisor s.divisor in
    let z = back _ c.moved.type_inv ∙ c.moved.ensures ∙ ap (λ (x : ℤ). b +ℤ x) (ap₂ cut s.dividend d) in
    let here = delay_between D a b c.args.m.value (divisor_low c.args.m.divisor) c.args.m.small in
    let in-range = between_range a b (delayed D a b c.args.m.value) c.args.a.range c.args.b.range here in
    let v = c.nearest.ensures.same (subst InRange (sym z) in-range) ∙ z in
    record {
      reading = v;
      remainder = c.remainder.ensures.value ∙ ap₂ rest s.dividend d;
      divisor = c.remainder.ensures.divisor ∙ s.divisor;
      between = subst (Between a b) (sym v) here;
    }
