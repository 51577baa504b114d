use Rattle.std.proofs.Common.{◌≡◌, ◌+◌, ◌<◌, true, false, ◌&&◌, get_or, length, set, pos, negsuc, int_lt, sym, ap, ◌∙◌, subst, arith, ℕ, w16, w32, to_z, of_z, rules}
use Rattle.std.proofs.lemmas.Int.{ints, to_z-of_z}
use Rattle.std.proofs.lemmas.Bool.{and_from, cond-true}
use Rattle.readings.specs.Range.{InRange}
use Rattle.lines.specs.Board.{command_of}
use Rattle.lines.specs.Programs.{idle_analog}
use Rattle.machine.specs.Cycle.{put}
use Rattle.machine.specs.Lines.{blank, lines_of}
use Rattle.machine.specs.Sound.{Sound}
use Rattle.machine.specs.State.{adjusted_lines, flexible, state_of, with_lines, with_value, within_limit}
use Rattle.machine.proofs.CallLaws.{within_from}
use Rattle.machine.proofs.PlaceLaws.{lines_analog}
use Rattle.machine.proofs.SweepLaws.{all_set, lines_placed}
use Rattle.machine.proofs.state.Machine.adjust.Goals as goal

pub invariant_of-self : goal.invariant_of-self
invariant_of-self c =
    let m = c.args.self.now in
    let i = c.in-Some.place in
    let number : to_z w16 (of_z w16 (to_z w32 (of_z w32 c.args.number))) ≡ c.args.number = search (rules, to_z-of_z) in
    let range : InRange c.args.number = omega (arith, ints) in
    record {
      sound = all_set blank (λ k. Sound (get_or m.program.analog k idle_analog).command) m.values.analog i _ m.sound (record { reading = subst InRange (sym number) range; remainder = (m.sound i).remainder });
    }

pub returns : goal.returns
returns c =
    let m = c.args.self.now in
    let v = m.values in
    let z = c.args.number in
    let k = c.args.line in
    let i = c.in-Some.place in
    let long : length v.analog ≡ 192 = search rules in
    let byte : k < 256 = search rules in
    let number : to_z w16 (of_z w16 (to_z w32 (of_z w32 z))) ≡ z = search (rules, to_z-of_z) in
    let at : 64 + i ≡ k = c.in-Some.ensures.place in
    let command = command_of m.program k in
    let yes : flexible command ≡ true = sym c.in-Some.ensures.answer in
    let wide : to_z w32 (of_z w32 z) ≡ z = search (rules, to_z-of_z) in
    let within = within_from z (subst (λ x. int_lt x (negsuc 31983) ≡ false) wide c.if-number.false) (subst (λ x. int_lt (pos 31984) x ≡ false) wide c.if-number-gt-LIMIT.false) in
    let old = get_or v.analog i blank in
    let lines =
    (λ j. lines_of (record { analog = set v.analog i (record { reading = number j; remainder = old.remainder }); bits = v.bits }))
    ∙ lines_placed v i (record { reading = z; remainder = old.remainder }) (omega arith)
    ∙ (λ j. put (lines_of v) (64 + i) (with_value z (sym (lines_analog v i) j)))
    ∙ ap (λ (n : ℕ). put (lines_of v) n (with_value z (lines_of v n))) at in
    record {
      answer = sym (cond-true (flexible command) _ _ yes ∙ cond-true (within_limit z) _ _ within);
      state = (λ j. with_lines (lines j) (state_of m)) ∙ sym (cond-true (flexible command && within_limit z) (adjusted_lines k z (state_of m)) (state_of m) (and_from _ _ yes within));
    }
