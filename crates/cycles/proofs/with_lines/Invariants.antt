use Rattle.std.proofs.Common.{◌≡◌}
use Rattle.machine.specs.State.{state_of}
use Rattle.cycles.specs.Sums.{with_lines}
use Rattle.cycles.proofs.with_lines.Given as goal

-- the lines so far are counted in
abbrev pub invariant-loop-line : goal.invariant-loop-line
invariant-loop-line l = l.sum ≡ with_lines l.initial.sum (state_of l.machine) l.line
