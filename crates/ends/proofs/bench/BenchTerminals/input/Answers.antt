use Rattle.std.proofs.Common.{◌<◌, length, get_or, pos, sym, ◌∙◌, subst, arith}
use Rattle.std.proofs.lemmas.Int.{ints}
use Rattle.std.proofs.lemmas.Bool.Decides.{nat_tests}
use Rattle.readings.specs.Range.{InRange}
use Rattle.readings.proofs.Whole.{back}
use Rattle.ends.proofs.ListLaws.{reading_at}
use Rattle.ends.proofs.bench.BenchTerminals.input.Goals as goal

pub returns : goal.returns
returns c =
    let zs = c.args.self.now.shown.inputs in
    let k = c.in_ok-place.place in
    let below : k < length zs = omega (arith, c.in_ok-place.ensures.below) in
    let here = reading_at zs k below c.args.self.now.shown_lawful.1 in
    let same = back (get_or zs k (pos 0)) (omega (arith, ints)) in
    let value = c.nearest.ensures.same (subst InRange (sym same) here) ∙ same in
    grind (arith, nat_tests)
