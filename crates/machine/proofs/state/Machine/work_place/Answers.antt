use Rattle.std.proofs.Common.{◌≡◌, ◌+◌, get_or, length, ap, ◌∙◌, arith, w16, to_z, of_z, rules}
use Rattle.lines.specs.View.{at}
use Rattle.lines.specs.Commands.{analog_view, resulting}
use Rattle.lines.specs.Programs.{idle_analog}
use Rattle.machine.specs.Cycle.{put}
use Rattle.machine.specs.Lines.{analog_held, blank, brought, lines_of, standing}
use Rattle.machine.specs.Sound.{Sound}
use Rattle.machine.specs.State.{state_of, with_lines}
use Rattle.machine.proofs.PlaceLaws.{place_worked}
use Rattle.machine.proofs.SweepLaws.{all_set, lines_placed}
use Rattle.machine.proofs.state.Machine.work_place.Goals as goal

pub invariant_of-self : goal.invariant_of-self
invariant_of-self c =
    let m = c.args.self.now in
    record { sound = all_set blank (λ k. Sound (get_or m.program.analog k idle_analog).command) m.values.analog c.args.place c.worked.result m.sound c.worked.ensures.sound }

pub returns : goal.returns
returns c =
    let m = c.args.self.now in
    let p = m.program in
    let v = m.values in
    let i = c.args.place in
    let s = brought c.args.sample.now in
    let w = get_or p.analog i idle_analog in
    let now = standing s (lines_of v) in
    let long : length v.analog ≡ 192 = search rules in
    let a : to_z w16 (of_z w16 c.number-a.result) ≡ at now w.sources.a = search rules in
    let b : to_z w16 (of_z w16 c.number-b.result) ≡ at now w.sources.b = search rules in
    let is = c.worked.ensures.value ∙ (λ j. resulting (analog_view p.table w.command w.sources) m.phase.number (a j) (b j) (analog_held (get_or v.analog i blank))) ∙ place_worked p i m.phase.number s v c.requires in
    let lines = lines_placed v i c.worked.result (omega arith) ∙ ap (put (lines_of v) (64 + i)) is in
    λ j. with_lines (lines j) (state_of m)
