use Rattle.std.proofs.Common.{rules}
use Rattle.stages.specs.StageLaws.{floored_input}
use Rattle.stages.proofs.rules.FlooringRule.input.Goals as goal

pub returns-then-value-lt0 : goal.returns-then-value-lt0
returns-then-value-lt0 g c =
    let e = floored_input c.args.self.now.chosen.0 c.args.number _ c.in_ok-x.x.value c.in_ok-x.ensures in
    search (rules, e)

pub returns : goal.returns
returns g c =
    let e = floored_input c.args.self.now.chosen.0 c.args.number _ c.in_ok-x.x.value c.in_ok-x.ensures in
    search (rules, e)
