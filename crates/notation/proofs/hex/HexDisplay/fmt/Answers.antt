use Rattle.std.proofs.Common.{rules}
use Rattle.std.proofs.lemmas.Fmt.{hex_byte}
use Rattle.notation.proofs.hex.HexDisplay.fmt.Goals as goal

pub returns-clause-writes : goal.returns-clause-writes
returns-clause-writes g c = let h = rw (c.laid_out.ensures, c.in_radix.ensures) at c.write.ensures.writes in search (rules, hex_byte)
