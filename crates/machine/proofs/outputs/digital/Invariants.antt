use Rattle.std.proofs.Common.{◌≡◌, ◌-◌, ◌^◌, ◌<◌, drop}
use Rattle.machine.specs.Lines.{lines_of}
use Rattle.machine.specs.Outputs.{digital_lines, packed}
use Rattle.machine.proofs.outputs.digital.Given as goal

abbrev pub invariant-loop-place : goal.invariant-loop-place
invariant-loop-place l =
    (l.number ≡ packed (lines_of l.values) (drop l.place digital_lines)) × (l.number < 2 ^ (13 - l.place))
