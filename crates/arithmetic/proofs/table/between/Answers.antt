use Rattle.std.proofs.Common.{ℤ, pos, ap, ◌∙◌, arith}
use Rattle.std.proofs.lemmas.Int.{ints}
use Rattle.arithmetic.specs.Quotients.{quotient}
use Rattle.readings.proofs.Whole.{back}
use Rattle.arithmetic.proofs.TableLaws.{between_within}
use Rattle.arithmetic.proofs.table.between.Goals as goal

pub returns : goal.returns
returns c =
    let q = back _ c.over.type_inv ∙ c.over.ensures.value ∙ ap (λ (x : ℤ). quotient x (pos 1024)) c.steps.ensures in
    let here = between_within c.args.low.value c.args.high.value c.args.r c.args.low.range c.args.high.range c.requires in
    let same = c.nearest.ensures.same (omega (arith, ints)) in
    omega (arith, ints)
