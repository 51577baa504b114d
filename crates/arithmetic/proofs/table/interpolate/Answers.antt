use Rattle.arithmetic.proofs.Laws.{quotient_law}
use Rattle.arithmetic.proofs.table.interpolate.Goals as goal

pub returns-then-value-lt0-clause-law : goal.returns-then-value-lt0-clause-law
returns-then-value-lt0-clause-law c = quotient_law

pub returns-then-n-ge16384-clause-law : goal.returns-then-n-ge16384-clause-law
returns-then-n-ge16384-clause-law c = quotient_law

pub returns-clause-law : goal.returns-clause-law
returns-clause-law c = quotient_law
