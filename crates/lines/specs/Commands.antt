-- The command of each line, as cycles, diagrams and runs see it.
use Rattle.std.specs.Prelude.{ℕ, Bool, true, false, List, ℤ, pos, Some, None, Option, int_lt}
use Rattle.readings.specs.declared.settings.Divisor.{Divisor}
use Rattle.readings.specs.declared.word.Word.{Word}
use Rattle.arithmetic.specs.declared.operation.Operation.{Operation}
use Rattle.arithmetic.specs.declared.operation.Operation.TheVariants as op
use Rattle.arithmetic.specs.declared.switches.Switch.{Switch}
use Rattle.arithmetic.specs.declared.switches.Switch.TheVariants as sw
use Rattle.arithmetic.specs.Operations.{operated}
use Rattle.arithmetic.specs.Switches.{selected, switched}
use Rattle.arithmetic.specs.Tables.{interpolated, point_of}
use Rattle.readings.specs.Range.{clamped, highest, lowest}
use Rattle.timing.specs.Divisors.{Below, divisor}
use Rattle.timing.specs.Ramps.{allowance, period, toward}
use Rattle.timing.specs.Remainders.{delayed, delayed_rest, integrated, integrated_rest}
use Rattle.logic.specs.declared.gates.Gate.{Gate}
use Rattle.logic.specs.declared.gates.Gate.TheVariants.{And, AndInverted, Or, OrInverted, Xor, Copy}
use Rattle.logic.specs.Gates.{gated, latched}
use Rattle.logic.specs.Comparing.{exceeds, exceeds_held}
use Rattle.commands.specs.declared.command.Analog.{Analog}
use Rattle.commands.specs.declared.command.Analog.TheVariants as an
use Rattle.commands.specs.declared.command.Binary.{Binary}
use Rattle.commands.specs.declared.command.Binary.TheVariants as bit
use Rattle.lines.specs.declared.program.Sources.{Sources}
use Rattle.lines.specs.Programs.{constant_in}
use Rattle.lines.specs.View.{Command, holds, gives, remembers, Held}

-- a bit as a number
abbrev pub as_number : Bool → ℤ
as_number true = pos 1
as_number false = pos 0

-- and back
abbrev pub as_bit : ℤ → Bool
as_bit z = int_lt (pos 0) z

-- a new value, with the remainder that there was
abbrev pub keeping : ℤ → Held → Held
keeping z h = record { value = z; remainder = h.remainder }

-- a computing command of one or two readings
abbrev pub computes : Operation → Sources → Command
computes o s = gives (operated o) s.a s.b

-- a switch of a reading and a bit
abbrev pub switches : Switch → Sources → Command
switches k s = gives (λ x y. switched k x (as_bit y)) s.a s.b

-- a gate of bits, or its inverse
abbrev pub gates : Gate → (inverse : Bool) → Sources → Command
gates g inverse s = gives (λ x y. as_number (gated g inverse (as_bit x) (as_bit y))) s.a s.b

-- the table that a configuration brings; without one TA0 gives 0, but no parcel with such a line is taken
abbrev pub tabled : Option (List Word) → ℤ → ℤ
tabled None x = pos 0
tabled (Some ws) x = interpolated (point_of ws) x

-- an integrator
abbrev pub integrates : Divisor → Sources → Command
integrates d s =
    remembers (λ phase x y h. record { value = integrated (divisor d) x y h.remainder; remainder = integrated_rest (divisor d) x y h.remainder }) s.a s.b

-- a delay
abbrev pub delays : Divisor → Sources → Command
delays d s =
    remembers (λ phase x y h. record { value = delayed (divisor d) x y h.remainder; remainder = delayed_rest (divisor d) x y h.remainder }) s.a s.b

-- the command of an analog line
abbrev pub analog_view : Option (List Word) → Analog → Sources → Command
analog_view t an.Nop s = holds None
analog_view t an.Flx s = holds (Some (constant_in s.a))
analog_view t an.Fix s = computes op.Dir s
analog_view t an.Sol s = remembers (λ phase x y h. keeping (selected x (as_bit y) h.value) h) s.a s.b
analog_view t an.Sih s = switches sw.Sih s
analog_view t an.Sil s = switches sw.Sil s
analog_view t an.Szl s = switches sw.Szl s
analog_view t an.Szh s = switches sw.Szh s
analog_view t an.Abs s = computes op.Abs s
analog_view t an.Inv s = computes op.Inv s
analog_view t an.Dir s = computes op.Dir s
analog_view t an.Ma0 s = computes op.Dir s
analog_view t an.Ma1 s = computes op.Dir s
analog_view t an.Ma2 s = computes op.Dir s
analog_view t an.Ma3 s = computes op.Dir s
analog_view t an.Max s = computes op.Max s
analog_view t an.Min s = computes op.Min s
analog_view t an.Add s = computes op.Add s
analog_view t an.Sub s = computes op.Sub s
analog_view t an.Mul s = computes op.Mul s
analog_view t an.Div s = computes op.Div s
analog_view t an.Rez s = computes op.Rez s
analog_view t an.Qua s = computes op.Qua s
analog_view t an.Rad s = computes op.Rad s
analog_view t an.Ta0 s = gives (λ x y. tabled t x) s.a s.b
analog_view t (an.Scale f) s = computes (op.Scale f) s
analog_view t (an.LimitRate r) s = remembers (λ phase x y h. keeping (toward (allowance (period r) phase) x y) h) s.a s.b
analog_view t (an.Integrate d) s = integrates d s
analog_view t (an.Delay d) s = delays d s

-- the command of a binary line
abbrev pub binary_view : Binary → Sources → Command
binary_view bit.Nop s = holds None
binary_view bit.Btn s = gates Copy false s
binary_view bit.Bti s = gates Copy true s
binary_view bit.Ann s = gates And false s
binary_view bit.Ani s = gates And true s
binary_view bit.Ain s = gates AndInverted false s
binary_view bit.Aii s = gates AndInverted true s
binary_view bit.Onn s = gates Or false s
binary_view bit.Oni s = gates Or true s
binary_view bit.Oin s = gates OrInverted false s
binary_view bit.Oii s = gates OrInverted true s
binary_view bit.Xnn s = gates Xor false s
binary_view bit.Xni s = gates Xor true s
binary_view bit.Frs s = remembers (λ phase x y h. keeping (as_number (latched (as_bit x) (as_bit y) (as_bit h.value))) h) s.a s.b
binary_view bit.Cgt s = gives (λ x y. as_number (exceeds x y)) s.a s.b
binary_view bit.Cgh s = remembers (λ phase x y h. keeping (as_number (exceeds_held x y (as_bit h.value))) h) s.a s.b

-- what a command makes of x and y, in this phase, where its line holds h
abbrev pub resulting : Command → (phase : ℕ) → ℤ → ℤ → Held → Held
resulting (holds d) phase x y h = h
resulting (gives f a b) phase x y h = keeping (f x y) h
resulting (remembers f a b) phase x y h = f phase x y h

-- the divisor of an integrator or a delay; no other command has one
abbrev pub divides_by : Analog → Option Divisor
divides_by an.Nop = None
divides_by an.Flx = None
divides_by an.Fix = None
divides_by an.Sol = None
divides_by an.Sih = None
divides_by an.Sil = None
divides_by an.Szl = None
divides_by an.Szh = None
divides_by an.Abs = None
divides_by an.Inv = None
divides_by an.Dir = None
divides_by an.Ma0 = None
divides_by an.Ma1 = None
divides_by an.Ma2 = None
divides_by an.Ma3 = None
divides_by an.Max = None
divides_by an.Min = None
divides_by an.Add = None
divides_by an.Sub = None
divides_by an.Mul = None
divides_by an.Div = None
divides_by an.Rez = None
divides_by an.Qua = None
divides_by an.Rad = None
divides_by an.Ta0 = None
divides_by (an.Scale f) = None
divides_by (an.LimitRate r) = None
divides_by (an.Integrate d) = Some d
divides_by (an.Delay d) = Some d

-- what a line's remainder stays below: its divisor, or 1 where it has none
abbrev pub bound_of : Option Divisor → ℤ
bound_of None = pos 1
bound_of (Some d) = divisor d

-- a remainder is nearer to 0 than its line's divisor, and 0 on a line that has none
abbrev pub Keeps : Option Divisor → ℤ → Type 0
Keeps o m = Below (bound_of o) m

-- a number from an array as a reading
abbrev pub nearest : ℤ → ℤ
nearest z = clamped lowest highest z
