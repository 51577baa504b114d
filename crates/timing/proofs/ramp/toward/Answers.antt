use Rattle.std.proofs.Common.{◌≡◌, pos, ◌+ℤ◌, ◌-ℤ◌, ◌∙◌, arith}
use Rattle.std.proofs.lemmas.Int.{ints, clamps}
use Rattle.std.specs.Int.{int_min, int_max}
use Rattle.timing.proofs.Laws.{toward_is}
use Rattle.timing.proofs.ramp.toward.Goals as goal

pub returns : goal.returns
returns c =
    let low = c.args.b.value -ℤ pos c.args.n in
    let high = c.args.b.value +ℤ pos c.args.n in
    let same = c.nearest.ensures.same (omega (arith, ints, clamps)) in
    let v : c.nearest.result.value ≡ int_max low (int_min c.args.a.value high) = omega (arith, ints, clamps) in
    v ∙ toward_is c.args.n c.args.a.value c.args.b.value
