use Rattle.std.proofs.Common.{arith, w32, SFits}
use Rattle.std.proofs.lemmas.Int.{ints, quot_is}
use Rattle.arithmetic.specs.Quotients.{quotient}
use Rattle.arithmetic.proofs.Laws.{quotient_small}
use Rattle.arithmetic.proofs.quotients.Dividend.over.Goals as goal

pub returns-clause-value : goal.returns-clause-value
unfolding quotient
returns-clause-value c =
    let s = quotient_small c.args.self.value c.args.d c.args.self.small in
    let n : SFits w32 c.args.self.value = omega (arith, ints) in
    let q : SFits w32 (quotient c.args.self.value c.args.d) = omega (arith, ints) in
    quot_is w32 _ _ n c.ranges.d q
