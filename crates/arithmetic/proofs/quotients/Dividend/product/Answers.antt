use Rattle.std.proofs.Common.{◌*ℤ◌, refl, arith, w32, SFits}
use Rattle.std.proofs.lemmas.Int.{ints, to_z-of_z}
use Rattle.arithmetic.proofs.Laws.{product_small}
use Rattle.arithmetic.proofs.quotients.Dividend.product.Goals as goal

pub invariant_of-result : goal.invariant_of-result
invariant_of-result c =
    let s = product_small c.args.x c.args.y c.requires.left c.requires.right in
    let x = c.ranges.x in
    let y = c.ranges.y in
    let p : SFits w32 (c.args.x *ℤ c.args.y) = omega (arith, ints) in
    simp to_z-of_z (record { small = s })

pub returns : goal.returns
returns c =
    let s = product_small c.args.x c.args.y c.requires.left c.requires.right in
    let x = c.ranges.x in
    let y = c.ranges.y in
    let p : SFits w32 (c.args.x *ℤ c.args.y) = omega (arith, ints) in
    simp to_z-of_z refl
