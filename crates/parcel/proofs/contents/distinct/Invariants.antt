use Rattle.std.proofs.Common.{◌≡◌, length}
use Rattle.parcel.specs.Contents.{lawful}
use Rattle.parcel.proofs.contents.distinct.Given as goal

abbrev pub invariant-loop-rest : goal.invariant-loop-rest
invariant-loop-rest l = lawful l.rest ≡ lawful l.entries

abbrev pub decreases-loop-rest : goal.decreases-loop-rest
decreases-loop-rest l = length l.rest
