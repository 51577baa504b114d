use Rattle.std.proofs.Common.{get_or, sym, subst}
use Rattle.commands.specs.declared.command.Analog.{Analog}
use Rattle.commands.specs.declared.command.Binary.{Binary}
use Rattle.commands.specs.Properties.{analog_operands, binary_operands}
use Rattle.lines.specs.Board.{by_side}
use Rattle.lines.specs.declared.program.Work.{Work}
use Rattle.lines.specs.Programs.{SoundSources, blank_analog, blank_binary}
use Rattle.lines.proofs.SoundLaws.{sound_sources}
use Rattle.lines.proofs.program.Program.of.Goals as goal

pub invariant_of-result : goal.invariant_of-result
invariant_of-result c =
    let bs = c.args.configuration.now.binary in
    let ls = c.args.configuration.now.analog in
    record {
      binary_sound = λ k. let l = get_or bs k blank_binary in subst (λ (w : Work Binary). SoundSources w.sources) (sym (c.works.ensures k)) (sound_sources (binary_operands l.command) l.sr1 l.sr2);
      analog_sound = λ k. let l = get_or ls k blank_analog in subst (λ (w : Work Analog). SoundSources w.sources) (sym (c.works-2.ensures k)) (sound_sources (analog_operands l.command) l.sr1 l.sr2);
    }

pub returns : goal.returns
returns c = λ j. by_side (λ k. c.works.ensures k j) (λ k. c.works-2.ensures k j) c.args.configuration.now.table
