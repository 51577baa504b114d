use Rattle.stages.proofs.StackLaws.{distance_law}
use Rattle.stages.proofs.stacks.distance_through.Goals as goal

pub returns-clause-law : goal.returns-clause-law
returns-clause-law c = distance_law
