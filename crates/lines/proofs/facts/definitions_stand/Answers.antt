use Rattle.lines.proofs.UniqueLaws.{unique}
use Rattle.lines.proofs.OrderLaws.{by_address}
use Rattle.lines.proofs.SampleLaws.{sample_waits}
use Rattle.lines.proofs.facts.definitions_stand.Goals as goal

pub returns : goal.returns
returns c = record { unique = unique; by_address = by_address; sample_waits = sample_waits }
