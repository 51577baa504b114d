use Rattle.std.proofs.Common.{◌≡◌, ◌+◌, ◌*◌, ◌≤◌, drop}
use Rattle.parcel.specs.Contents.{ends}
use Rattle.parcel.proofs.contents.Contents.end.Given as goal

abbrev pub invariant-loop-e : goal.invariant-loop-e
invariant-loop-e g l =
    (ends (drop l.e-index l.self.entries) l.at ≡ ends l.self.entries (1 + 3 * g.row.N))
    × (l.at ≤ 1 + 3 * g.row.N + 65535 * l.e-index)
