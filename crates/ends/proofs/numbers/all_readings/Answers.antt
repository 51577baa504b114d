use Rattle.std.proofs.Common.{rules, tests}
use Rattle.std.proofs.lemmas.Iterator.{YieldsList-from_slice}
use Rattle.std.proofs.lemmas.Iterator.Search.{all_from_yields_List}
use Rattle.readings.specs.Range.{is_reading}
use Rattle.ends.proofs.ListLaws.{all_tests}
use Rattle.ends.proofs.numbers.all_readings.Goals as goal

pub returns : goal.returns
returns c =
    rw all_tests (all_from_yields_List is_reading _ _ _ c.all.ensures.ran (YieldsList-from_slice c.args.values.now cc)
    (λ x b q k. search (rules, tests)))
