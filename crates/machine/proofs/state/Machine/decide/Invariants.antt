use Rattle.std.proofs.Common.{◌≡◌, ℕ, ◌<◌, false, length, get_or}
use Rattle.lines.specs.Board.{command_of}
use Rattle.machine.specs.Cycle.{worked_at}
use Rattle.machine.specs.Lines.{binary_held, brought, lines_of}
use Rattle.machine.proofs.state.Machine.decide.Given as goal

abbrev pub invariant-loop-line : goal.invariant-loop-line
invariant-loop-line l =
    (length l.bits ≡ 64)
    × ((k : ℕ) → k < l.line → binary_held (get_or l.bits k false) ≡ worked_at (command_of l.self.program) l.self.phase.number (brought l.sample) (lines_of l.self.values) k)
