use Rattle.std.proofs.Common.{refl, add-one}
use Rattle.std.proofs.Output.{writes_in_calls_nil, has_written_append}
use Rattle.journal.specs.Journals.{rows_text}
use Rattle.journal.proofs.journal.RefusalsDisplay.fmt.Goals as goal

pub loop-number-init : goal.loop-number-init
unfolding rows_text
loop-number-init g c p = record { wrote = writes_in_calls_nil _ _; plain = p }

pub loop-number-preserved : goal.loop-number-preserved
unfolding rows_text
loop-number-preserved g c p =
    rw add-one
    (has_written_append _ _ _ _ _ _ (c.loop-number.invariant p)
    (c.in_ok-write.ensures.writes (c.loop-number.invariant p).plain refl))
