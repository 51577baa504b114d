use Rattle.timing.proofs.Sums.{sum_law}
use Rattle.timing.proofs.steps.integrate.Goals as goal

pub returns-clause-law : goal.returns-clause-law
returns-clause-law c = sum_law
