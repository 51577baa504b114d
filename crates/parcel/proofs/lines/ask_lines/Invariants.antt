use Rattle.std.proofs.Common.{◌≡◌}
use Rattle.parcel.specs.Verdicts.{taken}
use Rattle.parcel.specs.Lines.{lines_asked}
use Rattle.parcel.proofs.lines.ask_lines.Given as goal

abbrev pub invariant-loop-line : goal.invariant-loop-line
invariant-loop-line l = lines_asked l.bodies.parcel.now l.bodies.directory l.line ≡ taken
