-- How far a fault climbs through a stack of stages.
use Rattle.std.specs.Prelude.{◌≡◌, ℕ, zero, suc, ◌+◌, ◌≤◌, min}
use Rattle.stages.specs.Stages.{raised}
use Rattle.terminals.specs.declared.faults.Fault.{Fault}

-- a fault as it is seen through n stages
abbrev pub climbed : ℕ → Fault → Fault
climbed zero f = f
climbed (suc n) f = raised (climbed n f)

-- through n stages the cause and the input stay whole, and the distance is n more, at most 255
abbrev pub DistanceLaw : Type 0
DistanceLaw = (n : ℕ) (f : Fault) → f.distance ≤ 255
    → climbed n f ≡ record { cause = f.cause; input = f.input; distance = min (f.distance + n) 255 }
