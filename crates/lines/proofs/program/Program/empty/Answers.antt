use Rattle.std.proofs.Common.{sym, ap, subst}
use Rattle.commands.specs.declared.command.Analog.{Analog}
use Rattle.commands.specs.declared.command.Binary.{Binary}
use Rattle.lines.specs.declared.program.Work.{Work}
use Rattle.lines.specs.Programs.{SoundSources, idle_analog, idle_binary}
use Rattle.lines.proofs.SoundLaws.{filled, no_commands, zero_in}
use Rattle.lines.proofs.program.Program.empty.Goals as goal

pub invariant_of-result : goal.invariant_of-result
invariant_of-result c =
    let B = λ (w : Work Binary). SoundSources w.sources in
    let A = λ (w : Work Analog). SoundSources w.sources in
    record {
      binary_sound = λ k. filled B 64 k c.idle.result idle_binary (subst B (sym c.idle.ensures) (zero_in, zero_in)) (zero_in, zero_in);
      analog_sound = λ k. filled A 192 k c.idle-2.result idle_analog (subst A (sym c.idle-2.ensures) (zero_in, zero_in)) (zero_in, zero_in);
    }

pub returns : goal.returns
returns c =
    no_commands c.idle.result c.idle-2.result (ap (λ (w : Work Binary). w.command) c.idle.ensures) (ap (λ (w : Work Analog). w.command) c.idle-2.ensures)
