use Rattle.std.proofs.Common.{rules}
use Rattle.listing.proofs.Texts.{two_digits}
use Rattle.listing.proofs.rows.TableRowDisplay.fmt.Goals as goal

pub returns-clause-writes : goal.returns-clause-writes
returns-clause-writes g c = let h = rw c.laid_out.ensures at c.write.ensures.writes in search (rules, two_digits)
