use Rattle.std.proofs.Common.{◌∙◌}
use Rattle.readings.proofs.Whole.{back}
use Rattle.arithmetic.proofs.TableLaws.{steps_back, steps_small}
use Rattle.arithmetic.proofs.quotients.Dividend.steps.Goals as goal

pub invariant_of-result : goal.invariant_of-result
invariant_of-result c =
    let high = back _ c.value.type_inv ∙ c.value.ensures.same in
    let low = back _ c.value-2.type_inv ∙ c.value-2.ensures.same in
    rw (high, low, steps_back _ _ _ c.args.low.range c.args.high.range c.requires) (record { small = steps_small _ _ _ c.args.low.range c.args.high.range c.requires })

pub returns : goal.returns
returns c =
    let high = back _ c.value.type_inv ∙ c.value.ensures.same in
    let low = back _ c.value-2.type_inv ∙ c.value-2.ensures.same in
    rw (high, low) (steps_back _ _ _ c.args.low.range c.args.high.range c.requires)
