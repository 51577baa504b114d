use Rattle.std.proofs.Common.{◌≡◌, false, get_or, ap, ◌∙◌, sym, subst, w16, to_z, of_z, rules}
use Rattle.readings.specs.Range.{InRange}
use Rattle.lines.specs.View.{Held, at, worked}
use Rattle.lines.specs.Commands.{binary_view, nearest, resulting}
use Rattle.lines.specs.Programs.{idle_binary}
use Rattle.lines.proofs.WorkLaws.{binary_keeps}
use Rattle.machine.specs.Lines.{binary_held, brought, lines_of, standing}
use Rattle.machine.proofs.PlaceLaws.{bit_worked, command_binary, lines_binary, nearest_same}
use Rattle.machine.proofs.state.Machine.work_bit.Goals as goal

pub returns : goal.returns
returns c =
    let f = c.args.self.now.phase.number in
    let p = c.args.self.now.program in
    let k = c.args.line in
    let v = c.args.self.now.values in
    let s = brought c.args.sample.now in
    let w = get_or p.binary k idle_binary in
    let now = standing s (lines_of v) in
    let own = binary_held (get_or v.bits k false) in
    let sound = p.binary_sound k in
    let a : to_z w16 (of_z w16 c.number-a.result) ≡ at now w.sources.a = search rules in
    let b : to_z w16 (of_z w16 c.number-b.result) ≡ at now w.sources.b = search rules in
    let na = ap nearest a ∙ nearest_same (at now w.sources.a) (subst InRange c.number-a.ensures.value (c.number-a.ensures.range sound.0)) in
    let nb = ap nearest b ∙ nearest_same (at now w.sources.b) (subst InRange c.number-b.ensures.value (c.number-b.ensures.range sound.1)) in
    let value =
    c.work_binary.ensures f
    ∙ (λ j. (resulting (binary_view w.command w.sources) f (na j) (nb j) own).value)
    ∙ ap (λ (x : Held). x.value) (bit_worked p k f s v c.requires) in
    let rest = (λ j. (worked (command_binary p k c.requires j) f now (lines_binary v k c.requires j)).remainder) ∙ binary_keeps w.command w.sources f now own in
    λ j. record { value = value j; remainder = sym rest j }
