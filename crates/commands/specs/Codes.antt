-- The code of each command. A block is a first code and the commands of the codes from there on.
use Rattle.std.specs.Prelude.{ℕ, ◌+◌, ◌-◌, cond, ◌&&◌, List, [], ◌∷◌, map, length, None, Option, nat_le, nat_lt}
use Rattle.std.specs.List.{slice_get}
use Rattle.readings.specs.declared.settings.Factor.{Factor}
use Rattle.readings.specs.declared.settings.Factor.TheVariants.{Tenth, Eighth, Fifth, Quarter, Third, Half, Times2, Times3, Times4, Times5, Times8, Times10, Times20, Times40, Times50, Times100}
use Rattle.readings.specs.declared.settings.Rate.{Rate}
use Rattle.readings.specs.declared.settings.Rate.TheVariants.{T2, T4, T8, T16, T50, T100, T200, T400, T1000, T2000, T4000, T8000}
use Rattle.readings.specs.declared.settings.Divisor.{Divisor}
use Rattle.readings.specs.declared.settings.Divisor.TheVariants.{D10, D40, D100, D250, D1200, D4800, D12000, D30000}
use Rattle.commands.specs.declared.command.Binary.{Binary}
use Rattle.commands.specs.declared.command.Binary.TheVariants as bit
use Rattle.commands.specs.declared.command.Analog.{Analog}
use Rattle.commands.specs.declared.command.Analog.TheVariants as an

-- a first code, and the commands from there on
abbrev pub Block : Type 0 → Type 0
Block X = ℕ × List X

-- the command of a code, in the first block that holds the code
abbrev pub decoded : {X : Type 0} → List (Block X) → ℕ → Option X
decoded [] c = None
decoded (b ∷ bs) c = cond (nat_le b.0 c && nat_lt c (b.0 + length b.1)) (slice_get b.1 (c - b.0)) (decoded bs c)

-- factors in the order of their codes
abbrev pub factors : List Factor
factors =
    Tenth ∷ Eighth ∷ Fifth ∷ Quarter ∷ Third ∷ Half ∷ Times2 ∷ Times3 ∷ Times4 ∷ Times5 ∷ Times8 ∷ Times10
    ∷ Times20 ∷ Times40 ∷ Times50 ∷ Times100 ∷ []

-- rates in the order of their codes
abbrev pub rates : List Rate
rates = T2 ∷ T4 ∷ T8 ∷ T16 ∷ T50 ∷ T100 ∷ T200 ∷ T400 ∷ T1000 ∷ T2000 ∷ T4000 ∷ T8000 ∷ []

-- divisors in the order of their codes
abbrev pub divisors : List Divisor
divisors = D10 ∷ D40 ∷ D100 ∷ D250 ∷ D1200 ∷ D4800 ∷ D12000 ∷ D30000 ∷ []

-- the codes of binary lines
abbrev pub binary_blocks : List (Block Binary)
binary_blocks = (
  0x00,
  bit.Nop ∷ bit.Btn ∷ bit.Bti ∷ bit.Ann ∷ bit.Ani ∷ bit.Ain ∷ bit.Aii ∷ bit.Onn ∷ bit.Oni ∷ bit.Oin
      ∷ bit.Oii ∷ bit.Xnn ∷ bit.Xni ∷ bit.Frs ∷ [],
)
    ∷ (0xC0, bit.Cgt ∷ bit.Cgh ∷ [])
    ∷ []

-- the codes of analog lines
abbrev pub analog_blocks : List (Block Analog)
analog_blocks =
    (0x00, an.Nop ∷ [])
    ∷ (0x11, an.Sol ∷ [])
    ∷ (0x13, an.Sih ∷ an.Sil ∷ an.Szl ∷ an.Szh ∷ [])
    ∷ (0x3B, an.Abs ∷ an.Inv ∷ an.Dir ∷ an.Ma0 ∷ an.Ma1 ∷ an.Ma2 ∷ an.Ma3 ∷ [])
    ∷ (0x46, an.Max ∷ an.Min ∷ an.Add ∷ an.Sub ∷ an.Mul ∷ an.Div ∷ an.Rez ∷ an.Qua ∷ an.Rad ∷ [])
    ∷ (0x50, an.Ta0 ∷ [])
    ∷ (0x58, map an.Scale factors)
    ∷ (0x68, map an.LimitRate rates)
    ∷ (0x74, map an.Integrate divisors)
    ∷ (0xA4, an.Fix ∷ an.Flx ∷ [])
    ∷ (0xA7, map an.Delay divisors)
    ∷ []

-- the command that a code byte stands for on a binary line
abbrev pub binary_of : ℕ → Option Binary
binary_of = decoded binary_blocks

-- the command that a code byte stands for on an analog line
abbrev pub analog_of : ℕ → Option Analog
analog_of = decoded analog_blocks
