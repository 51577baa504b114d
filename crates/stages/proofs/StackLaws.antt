-- How far a fault climbs.
use Rattle.std.proofs.Common.{◌≡◌, ℕ, zero, suc, ◌+◌, min, ap, ◌∙◌, arith}
use Rattle.stages.specs.Stacks.{DistanceLaw}
use Rattle.stages.specs.Stages.{raised}
use Rattle.terminals.specs.declared.faults.Fault.{Fault}

with_distance : Fault → ℕ → Fault
with_distance f d = record { cause = f.cause; input = f.input; distance = d }

pub distance_law : DistanceLaw
unfolding with_distance
distance_law zero f h = let e : f.distance ≡ min (f.distance + 0) 255 = omega arith in ap (with_distance f) e
distance_law (suc n) f h =
    let e : min (min (f.distance + n) 255 + 1) 255 ≡ min (f.distance + suc n) 255 = omega arith in
    ap raised (distance_law n f h) ∙ ap (with_distance f) e
