use Rattle.std.proofs.Common.{sym}
use Rattle.parcel.proofs.Bounds.{bodies_within}
use Rattle.parcel.proofs.questions.listed.Goals as goal

pub invariant_of-result : goal.invariant_of-result
invariant_of-result g c =
    record { within = rw c.directory.ensures (bodies_within c.in_ok-contents.contents.entries _ _ (sym c.in_ok-ask.ensures)) }
