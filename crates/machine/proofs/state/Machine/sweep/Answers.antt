use Rattle.std.proofs.Common.{◌-◌, refl, ◌∙◌, arith}
use Rattle.lines.specs.Order.{descending}
use Rattle.machine.specs.Lines.{brought}
use Rattle.machine.specs.State.{state_of}
use Rattle.machine.proofs.SweepLaws.{none_left, turn}
use Rattle.machine.proofs.state.Machine.sweep.Goals as goal

pub loop-place-init : goal.loop-place-init
unfolding descending
loop-place-init c = refl

pub loop-place-preserved : goal.loop-place-preserved
loop-place-preserved c =
    turn (brought c.args.sample.now) (state_of c.loop-place.self) (state_of c.work_place.new.self) c.loop-place.place (c.loop-place.place - 1) (omega arith) c.work_place.ensures ∙ c.loop-place.invariant

pub returns : goal.returns
returns c = none_left _ _ c.loop-place.place c.loop-place-test.false ∙ c.loop-place.invariant
