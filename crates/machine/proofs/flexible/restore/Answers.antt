use Rattle.std.proofs.Common.{◌≡◌, sym, subst, w16, to_z, of_z, rules}
use Rattle.std.proofs.lemmas.Int.{to_z-of_z}
use Rattle.readings.specs.Range.{InRange}
use Rattle.lines.specs.Commands.{Keeps, divides_by}
use Rattle.lines.specs.Programs.{constant_in}
use Rattle.machine.specs.State.{IsRestored}
use Rattle.machine.proofs.flexible.restore.Goals as goal

pub returns-in-Some : goal.returns-in-Some
unfolding IsRestored
returns-in-Some c =
    let w = c.args.work in
    let m = c.args.own.remainder in
    let reading : to_z w16 (of_z w16 c.in-Some.reading) ≡ constant_in w.sources.a = search (rules, to_z-of_z) in
    let remainder : to_z w16 (of_z w16 m) ≡ m = search (rules, to_z-of_z) in (
      search rules,
      record {
        reading = subst InRange (sym reading) c.requires.constant;
        remainder = subst (Keeps (divides_by w.command)) (sym remainder) c.requires.own.remainder;
      },
    )

pub returns-in-None : goal.returns-in-None
unfolding IsRestored
returns-in-None c = search rules
