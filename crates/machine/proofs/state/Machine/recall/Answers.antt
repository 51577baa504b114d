use Rattle.std.proofs.Common.{◌≡◌, length, rules}
use Rattle.machine.specs.State.{state_of, with_lines}
use Rattle.machine.proofs.CallLaws.{lines_restored, restored_sound}
use Rattle.machine.proofs.state.Machine.recall.Goals as goal

pub invariant_of-self : goal.invariant_of-self
invariant_of-self c =
    let m = c.args.self.now in
    let long : length c.recalled-self.result ≡ 192 = search rules in
    record { sound = restored_sound m.program.analog m.values.analog c.recalled-self.result long c.recalled-self.ensures }

pub returns : goal.returns
returns c =
    let m = c.args.self.now in
    let old : length m.values.analog ≡ 192 = search rules in
    let long : length c.recalled-self.result ≡ 192 = search rules in
    λ j. with_lines (lines_restored m.program m.values c.recalled-self.result old long c.recalled-self.ensures j) (state_of m)
