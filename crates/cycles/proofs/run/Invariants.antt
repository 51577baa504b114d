use Rattle.std.proofs.Common.{◌≡◌}
use Rattle.machine.specs.State.{state_of}
use Rattle.cycles.specs.Sums.{run_of}
use Rattle.cycles.proofs.run.Given as goal

-- so many cycles were run
abbrev pub invariant-loop : goal.invariant-loop
invariant-loop l =
    run_of l.counter (state_of l.initial.machine) ≡ record { machine = state_of l.machine; seed = l.generator.0; sum = l.sum }
