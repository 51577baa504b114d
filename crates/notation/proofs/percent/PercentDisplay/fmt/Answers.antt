use Rattle.std.proofs.Common.{◌≡◌, ℕ, ◌+◌, ◌%◌, [], ◌∷◌, rules, arith}
use Rattle.std.specs.Fmt.{decimal}
use Rattle.std.proofs.lemmas.Fmt.{decimal_digit}
use Rattle.std.proofs.lemmas.Str.{encode_ascii}
use Rattle.notation.proofs.percent.PercentDisplay.fmt.Goals as goal

last : (n : ℕ) → decimal (n % 10) ≡ (48 + n % 10) ∷ []
last n = decimal_digit (n % 10) (omega arith)

pub returns-clause-writes : goal.returns-clause-writes
returns-clause-writes g c = let h = simp last at c.write.ensures.writes in search (rules, encode_ascii)
