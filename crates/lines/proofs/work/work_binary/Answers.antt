use Rattle.std.proofs.Common.{◌≡◌, ℕ, Bool, true, false, ℤ, pos, refl, ap, ◌∙◌, w16}
use Rattle.std.proofs.lemmas.Int.{to_z-of_z}
use Rattle.logic.specs.Comparing.{exceeds_held}
use Rattle.commands.specs.declared.command.Binary.{Binary}
use Rattle.commands.specs.declared.command.Binary.TheVariants as bit
use Rattle.lines.specs.declared.program.Sources.{Sources}
use Rattle.lines.specs.Commands.{as_bit, as_number, binary_view, nearest, resulting}
use Rattle.lines.proofs.work.work_binary.Goals as goal

as_bit-as_number : (b : Bool) → as_bit (as_number b) ≡ b
as_bit-as_number true = refl
as_bit-as_number false = refl

held : (m : Binary) (s : Sources) (phase : ℕ) (a b x y : ℤ) (own r : Bool) → m ≡ bit.Cgh → x ≡ a → y ≡ b → r ≡ exceeds_held x y own
    → as_number r ≡ (resulting (binary_view m s) phase a b (record { value = as_number own; remainder = pos 0 })).value
held m s phase a b x y own r e p q h = rw (e, h, p, q, as_bit-as_number own)

pub returns-in-Cgh : goal.returns-in-Cgh
returns-in-Cgh c =
    λ phase. held c.args.work.command c.args.work.sources phase _ _ _ _ c.args.own _ c.in-Cgh.is
    (c.reading-in-Cgh.ensures ∙ ap nearest (to_z-of_z w16 c.args.a c.ranges.a))
    (c.reading-in-Cgh-2.ensures ∙ ap nearest (to_z-of_z w16 c.args.b c.ranges.b))
    c.exceeds_held.ensures
