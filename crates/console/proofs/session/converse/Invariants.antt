use Rattle.journal.specs.Journals.{Remembers}
use Rattle.console.specs.Desks.{Agrees}
use Rattle.console.proofs.session.converse.Given as goal

-- the flag and the journal agree after each line, if they did before the first, and what was wrong before is still counted
abbrev pub invariant-loop : goal.invariant-loop
invariant-loop g l =
    (Agrees l.initial.desk.journal l.initial.desk.failed → Agrees l.desk.journal l.desk.failed)
    × Remembers l.initial.desk.journal l.desk.journal
