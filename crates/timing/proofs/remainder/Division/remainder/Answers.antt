use Rattle.std.proofs.Common.{ap, ◌∙◌, arith, w16, w32, SFits}
use Rattle.std.proofs.lemmas.Int.{ints, rem_is, to_z-of_z}
use Rattle.std.specs.Prelude.{int_rem}
use Rattle.timing.specs.Divisors.{divisor, rest}
use Rattle.timing.proofs.Laws.{divisor_low, rem_is_rest, rest_within}
use Rattle.timing.proofs.remainder.Division.remainder.Goals as goal

pub returns-clause-value : goal.returns-clause-value
returns-clause-value c =
    let z = c.args.self.dividend in
    let D = divisor c.args.self.divisor in
    let n : SFits w32 c.args.self.dividend = omega (arith, ints) in
    let d : SFits w32 c.number.result = omega (arith, ints) in
    let left = rem_is w32 _ _ n d ∙ ap (int_rem z) c.number.ensures.value ∙ rem_is_rest z D in
    let below = rest_within z D (divisor_low c.args.self.divisor) in
    let f : SFits w16 (rest z D) = omega (arith, ints) in
    rw left (to_z-of_z w16 _ f)
