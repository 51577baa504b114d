use Rattle.std.proofs.Common.{◌≡◌}
use Rattle.lines.specs.Order.{countdown, descending}
use Rattle.machine.specs.Lines.{brought}
use Rattle.machine.specs.State.{state_of, swept_lines}
use Rattle.machine.proofs.state.Machine.sweep.Given as goal

-- to sweep what is left gives what the whole sweep gives
abbrev pub invariant-loop-place : goal.invariant-loop-place
invariant-loop-place l =
    swept_lines (brought l.sample) (countdown 64 l.place) (state_of l.self) ≡ swept_lines (brought l.sample) descending (state_of l.initial.self)
