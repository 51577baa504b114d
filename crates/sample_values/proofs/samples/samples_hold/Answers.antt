use Rattle.sample_values.proofs.Values.{samples}
use Rattle.sample_values.proofs.samples.samples_hold.Goals as goal

pub returns-clause-defined : goal.returns-clause-defined
returns-clause-defined c = samples
