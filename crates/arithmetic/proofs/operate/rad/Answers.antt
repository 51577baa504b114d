use Rattle.std.proofs.Common.{◌≡◌, ◌*◌, ◌<◌, nat_abs, ap, ◌∙◌, arith}
use Rattle.std.proofs.lemmas.Int.{ints}
use Rattle.arithmetic.specs.Quotients.{root}
use Rattle.arithmetic.proofs.Laws.{root_below, root_is, square_root-neg, square_root-pos}
use Rattle.arithmetic.proofs.operate.rad.Goals as goal
use Rattle.arithmetic.proofs.operate.rad.Goals.{then-value-lt0, else-value-lt0}

pub returns : goal.returns
returns c =
    let r : c.isqrt-root.result < 30000 = root_below _ _ c.isqrt-root.ensures.square_le (omega (arith, ints)) in
    let e : c.isqrt-root.result ≡ root (nat_abs c.args.a.value * 16000) =
    root_is _ _ (omega (arith, ints)) c.isqrt-root.ensures.square_le c.isqrt-root.ensures.next_square_gt ∙ ap root (omega (arith, ints)) in
    elim c.if-value-lt0.branch [
      | then-value-lt0 w ↦ omega (arith, ints, c.nearest.ensures.same (omega (arith, ints)), square_root-neg c.args.a.value (omega (arith, ints)))
      | else-value-lt0 w ↦ omega (arith, ints, c.nearest.ensures.same (omega (arith, ints)), square_root-pos c.args.a.value (omega (arith, ints)))
    ]
