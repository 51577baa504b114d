use Rattle.std.proofs.Common.{◌≡◌, length, sym, ap, ◌∙◌, subst, rules}
use Rattle.readings.proofs.Arrays.{map_is}
use Rattle.lines.specs.Board.{command_in}
use Rattle.lines.specs.Order.{descending}
use Rattle.machine.specs.Lines.{blank, lines_of}
use Rattle.machine.specs.Sound.{AllSound}
use Rattle.machine.specs.State.{without_remainder}
use Rattle.machine.proofs.CallLaws.{cleared_sound, lines_cleared}
use Rattle.machine.proofs.state.Machine.load.Goals as goal

pub invariant_of-self : goal.invariant_of-self
invariant_of-self c =
    let m = c.args.self.now in
    let vs = m.values.analog in
    let long : length vs ≡ 192 = search rules in
    let same = map_is _ without_remainder _ blank blank vs c.map-self.result 192 long (λ x r q called. search rules) c.map-self.ensures.items in
    record { sound = subst (AllSound c.of-self.result.analog) (sym same) (cleared_sound m.program.analog c.of-self.result.analog vs m.sound) }

pub returns-clause-state : goal.returns-clause-state
returns-clause-state c =
    let m = c.args.self.now in
    let vs = m.values.analog in
    let long : length vs ≡ 192 = search rules in
    let same = map_is _ without_remainder _ blank blank vs c.map-self.result 192 long (λ x r q called. search rules) c.map-self.ensures.items in
    let command = c.of-self.ensures ∙ ap command_in c.in_ok-configuration.ensures.holds in
    let lines = (λ j. lines_of (record { analog = same j; bits = m.values.bits })) ∙ lines_cleared m.values in
    λ j. record { mode = c.loaded_mode-self.ensures j; order = descending; command = command j; lines = lines j; phase = m.phase.number }
