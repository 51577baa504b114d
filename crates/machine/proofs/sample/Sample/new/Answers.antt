use Rattle.std.proofs.Common.{get_or, pos, sym, ap, ◌∙◌, subst, rules}
use Rattle.std.proofs.Math.ListN.{get_or-map}
use Rattle.readings.specs.Range.{InRange, clamped, highest, lowest}
use Rattle.readings.proofs.Arrays.{map_is}
use Rattle.machine.proofs.SampleLaws.{clamped_in}
use Rattle.machine.proofs.sample.Sample.new.Goals as goal

pub invariant_of-result : goal.invariant_of-result
invariant_of-result c =
    let xs = c.args.inputs.now in
    let h = clamped lowest highest in
    let same = map_is _ h _ (pos 0) (pos 0) xs c.map.result 8 c.told-inputs (λ x r q called. search rules) c.map.ensures.items in
    record { range = λ k. subst InRange (sym (ap (λ zs. get_or zs k (pos 0)) same ∙ get_or-map h xs k (pos 0))) (clamped_in (get_or xs k (pos 0))) }
