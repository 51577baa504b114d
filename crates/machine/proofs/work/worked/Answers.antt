use Rattle.std.proofs.Common.{◌≡◌, None, ap, ◌∙◌, sym, subst, w16, to_z, of_z, rules}
use Rattle.std.proofs.lemmas.Int.{to_z-of_z}
use Rattle.readings.specs.Range.{InRange}
use Rattle.lines.specs.Commands.{Keeps, analog_view, divides_by, nearest, resulting}
use Rattle.machine.proofs.PlaceLaws.{nearest_same}
use Rattle.machine.proofs.work.worked.Goals as goal

pub returns-in_default : goal.returns-in_default
returns-in_default c =
    let w = c.args.work in
    let own = c.args.own in
    let none : divides_by w.command ≡ None = search rules in
    let reading : to_z w16 (of_z w16 c.from.result) ≡ c.work_analog.result.value = search (rules, to_z-of_z) in
    let remainder : to_z w16 (of_z w16 own.remainder) ≡ own.remainder = search (rules, to_z-of_z) in
    let a : to_z w16 (of_z w16 c.args.a) ≡ c.args.a = search (rules, to_z-of_z) in
    let b : to_z w16 (of_z w16 c.args.b) ≡ c.args.b = search (rules, to_z-of_z) in
    let o : to_z w16 (of_z w16 own.reading) ≡ own.reading = search (rules, to_z-of_z) in
    let na = ap nearest a ∙ nearest_same c.args.a c.requires.a in
    let nb = ap nearest b ∙ nearest_same c.args.b c.requires.b in
    let no = ap nearest o ∙ nearest_same own.reading c.requires.own.reading in
    record {
      value =
          (λ j. record { value = reading j; remainder = remainder j })
          ∙ c.work_analog.ensures.given own.remainder none
          ∙ (λ j. resulting (analog_view c.args.table.now w.command w.sources) c.args.phase.number (na j) (nb j) (record { value = no j; remainder = own.remainder }));
      sound = record {
        reading = subst InRange (sym reading) c.work_analog.result.range;
        remainder = subst (Keeps (divides_by w.command)) (sym remainder) c.requires.own.remainder;
      };
    }
