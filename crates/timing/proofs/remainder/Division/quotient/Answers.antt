use Rattle.std.proofs.Common.{ap, ◌∙◌, arith, w32, SFits}
use Rattle.std.proofs.lemmas.Int.{ints, quot_fits, quot_is}
use Rattle.timing.specs.Divisors.{cut}
use Rattle.timing.proofs.remainder.Division.quotient.Goals as goal

pub returns-clause-value : goal.returns-clause-value
unfolding cut
returns-clause-value c =
    let n : SFits w32 c.args.self.dividend = omega (arith, ints) in
    let d : SFits w32 c.number.result = omega (arith, ints) in
    quot_is w32 _ _ n d (quot_fits w32 _ _ n (omega (arith, ints))) ∙ ap (cut c.args.self.dividend) c.number.ensures.value
