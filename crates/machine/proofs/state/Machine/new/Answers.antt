use Rattle.lines.specs.Order.{descending}
use Rattle.machine.specs.declared.state.Mode.TheVariants.{Empty}
use Rattle.machine.proofs.CallLaws.{all_blank, fresh_lines}
use Rattle.machine.proofs.state.Machine.new.Goals as goal

pub invariant_of-result : goal.invariant_of-result
invariant_of-result c = record { sound = all_blank c.empty.result.analog 192 }

pub returns : goal.returns
returns c =
    λ j. record { mode = Empty; order = descending; command = c.empty.ensures j; lines = fresh_lines j; phase = c.first.ensures j }
