use Rattle.std.specs.Fmt.{IsPlainFormatter, HasWritten}
use Rattle.journal.specs.Journals.{rows_text}
use Rattle.journal.proofs.journal.RefusalsDisplay.fmt.Given as goal

-- the rows so far are written
abbrev pub invariant-loop-number : goal.invariant-loop-number
invariant-loop-number g l = IsPlainFormatter l.initial.f → HasWritten g.W.Write.write_str_gives l.initial.f (rows_text l.self.0 l.number) l.f
