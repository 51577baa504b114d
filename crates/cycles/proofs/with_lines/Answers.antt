use Rattle.std.proofs.Common.{refl, ap, ◌∙◌, arith, ltb-false, ltb-true}
use Rattle.machine.specs.State.{state_of}
use Rattle.cycles.specs.Sums.{with_lines}
use Rattle.cycles.proofs.SumLaws.{line_added}
use Rattle.cycles.proofs.with_lines.Goals as goal

pub loop-line-init : goal.loop-line-init
unfolding with_lines
loop-line-init c = refl

pub loop-line-preserved : goal.loop-line-preserved
loop-line-preserved c =
    line_added _ _ _ _ _ _ c.loop-line.invariant c.number_at.ensures c.with-sum.ensures

pub returns-2 : goal.returns-2
returns-2 c =
    line_added _ _ _ _ _ _ c.loop-line.invariant c.number_at.ensures c.with-sum.ensures
    ∙ ap (with_lines c.args.sum (state_of c.args.machine.now)) (omega (arith, ltb-true, ltb-false))
