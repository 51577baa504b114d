use Rattle.std.proofs.Common.{◌≡◌, ℕ, ◌<◌, pos, length, get_or}
use Rattle.cycles.specs.Sums.{after}
use Rattle.cycles.proofs.SumLaws.{input_in}
use Rattle.cycles.proofs.Generator.sample.Given as goal

-- so many inputs are drawn, and stand in their places
abbrev pub invariant-loop-place : goal.invariant-loop-place
invariant-loop-place l =
    (l.self.0 ≡ after l.place-index l.initial.self.0)
    × (length l.place-items ≡ 8)
    × ((k : ℕ) → k < l.place-index → get_or l.place-items k (pos 0) ≡ input_in l.initial.self.0 k)
