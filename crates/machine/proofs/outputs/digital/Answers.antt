use Rattle.std.proofs.Common.{◌+◌, ◌*◌, sym, ◌∙◌}
use Rattle.machine.specs.Lines.{lines_of}
use Rattle.machine.specs.Outputs.{digital_lines}
use Rattle.machine.proofs.OutputLaws.{doubled, packed_more}
use Rattle.machine.proofs.outputs.digital.Goals as goal

pub loop-place-preserved : goal.loop-place-preserved
loop-place-preserved c =
    let n = c.loop-place.place in (
      (λ j. c.bit.ensures.value j + 2 * c.loop-place.invariant.0 j) ∙ sym (packed_more (lines_of c.args.values.now) digital_lines n c.loop-place-test.true c.loop-place.auto.place),
      doubled c.bit.result c.loop-place.number n c.loop-place-test.true c.loop-place.auto.place c.bit.ensures.few c.loop-place.invariant.1,
    )
