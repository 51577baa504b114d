use Rattle.std.proofs.Common.{◌<◌, false, ◌≢◌, length, refl, ap, ◌∙◌, arith, length-set, get_or-set_other, get_or-set_same, below_more}
use Rattle.machine.specs.Lines.{binary_held, brought}
use Rattle.machine.specs.State.{state_of, with_lines}
use Rattle.machine.proofs.CallLaws.{lines_decided}
use Rattle.machine.proofs.state.Machine.decide.Goals as goal

pub loop-line-init : goal.loop-line-init
loop-line-init c = (refl, λ k h. absurd (omega arith))

pub loop-line-preserved : goal.loop-line-preserved
loop-line-preserved c =
    let bits = c.loop-line.bits in
    let i = c.loop-line.line in
    let lt : i < length bits = omega arith in (
      simp length-set c.loop-line.invariant.0,
      below_more _ _
          (λ k h. let ne : k ≢ i = omega arith in ap binary_held (get_or-set_other bits i k c.work_bit.result false ne) ∙ c.loop-line.invariant.1 k h)
          (ap binary_held (get_or-set_same bits i c.work_bit.result false lt) ∙ c.work_bit.ensures),
    )

pub returns : goal.returns
returns c =
    let m = c.args.self.now in
    λ j. with_lines (lines_decided m.program m.phase.number (brought c.args.sample.now) m.values c.loop-line.bits (λ k h. c.loop-line.invariant.1 k (omega arith)) j) (state_of m)
