use Rattle.std.proofs.Common.{refl}
use Rattle.cycles.specs.Sums.{run_of}
use Rattle.cycles.proofs.SumLaws.{cycle_added}
use Rattle.cycles.proofs.run.Goals as goal

pub loop-init : goal.loop-init
unfolding run_of
loop-init c = refl

pub loop-preserved : goal.loop-preserved
loop-preserved c =
    cycle_added _ _ _ _ _ _ _ _ _ _ c.loop.invariant c.sample.ensures.state c.sample.ensures.value c.cycle.ensures
    c.outputs.ensures.value c.with_outputs-sum.ensures
