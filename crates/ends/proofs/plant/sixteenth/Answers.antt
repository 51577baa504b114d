use Rattle.std.proofs.Common.{pos, ◌-ℤ◌, w32, SFits, rules}
use lib.Signed.{quot_z}
use Rattle.std.proofs.lemmas.Int.{ints, to_z-of_z}
use Rattle.ends.specs.Plants.{moved}
use Rattle.ends.proofs.PlantLaws.{moved_reading, quotient_between}
use Rattle.ends.proofs.plant.sixteenth.Goals as goal

pub returns-clause-value : goal.returns-clause-value
returns-clause-value c =
    let from = c.args.from in
    let to = c.args.to in
    let between = quotient_between (to -ℤ from) in
    let m = moved_reading from to c.requires.from_range c.requires.to_range in
    let f = c.ranges.from in
    let t = c.ranges.to in
    let d : SFits w32 (to -ℤ from) = search (rules, ints) in
    let q : SFits w32 (quot_z (to -ℤ from) (pos 16)) = search (rules, ints) in
    let s : SFits w32 (moved from to) = search (rules, ints) in
    simp to_z-of_z
