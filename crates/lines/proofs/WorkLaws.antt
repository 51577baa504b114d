-- A line's work, from what stands at the sources that its bytes name.
use Rattle.std.proofs.Common.{◌≡◌, ℕ, List, pos, Some, None, Option, refl, arith}
use Rattle.std.proofs.lemmas.Int.{ints}
use Rattle.readings.specs.declared.settings.Divisor.{Divisor}
use Rattle.readings.specs.declared.settings.Divisor.TheVariants.{D10, D40, D100, D250, D1200, D4800, D12000, D30000}
use Rattle.readings.specs.declared.word.Word.{Word}
use Rattle.commands.specs.declared.command.Analog.{Analog}
use Rattle.commands.specs.declared.command.Analog.TheVariants as an
use Rattle.commands.specs.declared.command.Binary.{Binary}
use Rattle.commands.specs.declared.command.Binary.TheVariants as bit
use Rattle.lines.specs.declared.program.Sources.{Sources}
use Rattle.lines.specs.View.{Held, Moment, at, worked}
use Rattle.lines.specs.Commands.{Keeps, analog_view, binary_view, resulting}

pub analog_worked : (t : Option (List Word)) (c : Analog) (s : Sources) (phase : ℕ) (m : Moment) (x : Held) → worked (analog_view t c s) phase m x ≡ resulting (analog_view t c s) phase (at m s.a) (at m s.b) x
analog_worked t an.Nop s phase m x = refl
analog_worked t an.Flx s phase m x = refl
analog_worked t an.Fix s phase m x = refl
analog_worked t an.Sol s phase m x = refl
analog_worked t an.Sih s phase m x = refl
analog_worked t an.Sil s phase m x = refl
analog_worked t an.Szl s phase m x = refl
analog_worked t an.Szh s phase m x = refl
analog_worked t an.Abs s phase m x = refl
analog_worked t an.Inv s phase m x = refl
analog_worked t an.Dir s phase m x = refl
analog_worked t an.Ma0 s phase m x = refl
analog_worked t an.Ma1 s phase m x = refl
analog_worked t an.Ma2 s phase m x = refl
analog_worked t an.Ma3 s phase m x = refl
analog_worked t an.Max s phase m x = refl
analog_worked t an.Min s phase m x = refl
analog_worked t an.Add s phase m x = refl
analog_worked t an.Sub s phase m x = refl
analog_worked t an.Mul s phase m x = refl
analog_worked t an.Div s phase m x = refl
analog_worked t an.Rez s phase m x = refl
analog_worked t an.Qua s phase m x = refl
analog_worked t an.Rad s phase m x = refl
analog_worked t an.Ta0 s phase m x = refl
analog_worked t (an.Scale f) s phase m x = refl
analog_worked t (an.LimitRate r) s phase m x = refl
analog_worked t (an.Integrate d) s phase m x = refl
analog_worked t (an.Delay d) s phase m x = refl

pub binary_worked : (c : Binary) (s : Sources) (phase : ℕ) (m : Moment) (x : Held) → worked (binary_view c s) phase m x ≡ resulting (binary_view c s) phase (at m s.a) (at m s.b) x
binary_worked bit.Nop s phase m x = refl
binary_worked bit.Btn s phase m x = refl
binary_worked bit.Bti s phase m x = refl
binary_worked bit.Ann s phase m x = refl
binary_worked bit.Ani s phase m x = refl
binary_worked bit.Ain s phase m x = refl
binary_worked bit.Aii s phase m x = refl
binary_worked bit.Onn s phase m x = refl
binary_worked bit.Oni s phase m x = refl
binary_worked bit.Oin s phase m x = refl
binary_worked bit.Oii s phase m x = refl
binary_worked bit.Xnn s phase m x = refl
binary_worked bit.Xni s phase m x = refl
binary_worked bit.Frs s phase m x = refl
binary_worked bit.Cgt s phase m x = refl
binary_worked bit.Cgh s phase m x = refl

-- a binary line's remainder stays
pub binary_keeps : (c : Binary) (s : Sources) (phase : ℕ) (m : Moment) (x : Held) → (worked (binary_view c s) phase m x).remainder ≡ x.remainder
binary_keeps bit.Nop s phase m x = refl
binary_keeps bit.Btn s phase m x = refl
binary_keeps bit.Bti s phase m x = refl
binary_keeps bit.Ann s phase m x = refl
binary_keeps bit.Ani s phase m x = refl
binary_keeps bit.Ain s phase m x = refl
binary_keeps bit.Aii s phase m x = refl
binary_keeps bit.Onn s phase m x = refl
binary_keeps bit.Oni s phase m x = refl
binary_keeps bit.Oin s phase m x = refl
binary_keeps bit.Oii s phase m x = refl
binary_keeps bit.Xnn s phase m x = refl
binary_keeps bit.Xni s phase m x = refl
binary_keeps bit.Frs s phase m x = refl
binary_keeps bit.Cgt s phase m x = refl
binary_keeps bit.Cgh s phase m x = refl

-- 0 is a remainder for every line
pub keeps_zero : (o : Option Divisor) → Keeps o (pos 0)
keeps_zero None = omega (arith, ints)
keeps_zero (Some D10) = omega (arith, ints)
keeps_zero (Some D40) = omega (arith, ints)
keeps_zero (Some D100) = omega (arith, ints)
keeps_zero (Some D250) = omega (arith, ints)
keeps_zero (Some D1200) = omega (arith, ints)
keeps_zero (Some D4800) = omega (arith, ints)
keeps_zero (Some D12000) = omega (arith, ints)
keeps_zero (Some D30000) = omega (arith, ints)
