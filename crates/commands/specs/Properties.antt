-- What is known of each command: its printed name, its source bytes, and what load asks of its line.
use Rattle.std.specs.Prelude.{ℕ, List, codes}
use Rattle.readings.specs.declared.settings.Factor.{Factor}
use Rattle.readings.specs.declared.settings.Factor.TheVariants.{Tenth, Eighth, Fifth, Quarter, Third, Half, Times2, Times3, Times4, Times5, Times8, Times10, Times20, Times40, Times50, Times100}
use Rattle.readings.specs.declared.settings.Rate.{Rate}
use Rattle.readings.specs.declared.settings.Rate.TheVariants.{T2, T4, T8, T16, T50, T100, T200, T400, T1000, T2000, T4000, T8000}
use Rattle.readings.specs.declared.settings.Divisor.{Divisor}
use Rattle.readings.specs.declared.settings.Divisor.TheVariants.{D10, D40, D100, D250, D1200, D4800, D12000, D30000}
use Rattle.commands.specs.declared.command.Binary.{Binary}
use Rattle.commands.specs.declared.command.Binary.TheVariants as bit
use Rattle.commands.specs.declared.command.Analog.{Analog}
use Rattle.commands.specs.declared.command.Analog.TheVariants as an
use Rattle.commands.specs.declared.command.Operands.{Operands}
use Rattle.commands.specs.declared.command.Operands.TheVariants.{Unused, Constant, First, Both}
use Rattle.commands.specs.declared.command.SourceKind.TheVariants.{Reading, Bit}
use Rattle.commands.specs.declared.command.Requirement.{Requirement}
use Rattle.commands.specs.declared.command.Requirement.TheVariants.{Nothing, UpperLine, Table, Range}

-- factors: K and what it multiplies by, HU for a hundred
abbrev pub factor_name : Factor → List ℕ
factor_name Tenth = codes "K.1"
factor_name Eighth = codes "K/8"
factor_name Fifth = codes "K/5"
factor_name Quarter = codes "K/4"
factor_name Third = codes "K/3"
factor_name Half = codes "K/2"
factor_name Times2 = codes "K02"
factor_name Times3 = codes "K03"
factor_name Times4 = codes "K04"
factor_name Times5 = codes "K05"
factor_name Times8 = codes "K08"
factor_name Times10 = codes "K10"
factor_name Times20 = codes "K20"
factor_name Times40 = codes "K40"
factor_name Times50 = codes "K50"
factor_name Times100 = codes "KHU"

-- rate limiters, numbered by their rate
abbrev pub rate_name : Rate → List ℕ
rate_name T2 = codes "RL1"
rate_name T4 = codes "RL2"
rate_name T8 = codes "RL3"
rate_name T16 = codes "RL4"
rate_name T50 = codes "RL5"
rate_name T100 = codes "RL6"
rate_name T200 = codes "RL7"
rate_name T400 = codes "RL8"
rate_name T1000 = codes "RL9"
rate_name T2000 = codes "RLA"
rate_name T4000 = codes "RLB"
rate_name T8000 = codes "RLC"

-- integrators, numbered by their divisor
abbrev pub integrator_name : Divisor → List ℕ
integrator_name D10 = codes "IG1"
integrator_name D40 = codes "IG2"
integrator_name D100 = codes "IG3"
integrator_name D250 = codes "IG4"
integrator_name D1200 = codes "IG5"
integrator_name D4800 = codes "IG6"
integrator_name D12000 = codes "IG7"
integrator_name D30000 = codes "IG8"

-- delays, numbered by their divisor
abbrev pub delay_name : Divisor → List ℕ
delay_name D10 = codes "VZ1"
delay_name D40 = codes "VZ2"
delay_name D100 = codes "VZ3"
delay_name D250 = codes "VZ4"
delay_name D1200 = codes "VZ5"
delay_name D4800 = codes "VZ6"
delay_name D12000 = codes "VZ7"
delay_name D30000 = codes "VZ8"

-- the commands of binary lines
abbrev pub binary_name : Binary → List ℕ
binary_name bit.Nop = codes "NOP"
binary_name bit.Btn = codes "BTN"
binary_name bit.Bti = codes "BTI"
binary_name bit.Ann = codes "ANN"
binary_name bit.Ani = codes "ANI"
binary_name bit.Ain = codes "AIN"
binary_name bit.Aii = codes "AII"
binary_name bit.Onn = codes "ONN"
binary_name bit.Oni = codes "ONI"
binary_name bit.Oin = codes "OIN"
binary_name bit.Oii = codes "OII"
binary_name bit.Xnn = codes "XNN"
binary_name bit.Xni = codes "XNI"
binary_name bit.Frs = codes "FRS"
binary_name bit.Cgt = codes "CGT"
binary_name bit.Cgh = codes "CGH"

-- the commands of analog lines
abbrev pub analog_name : Analog → List ℕ
analog_name an.Nop = codes "NOP"
analog_name an.Sol = codes "SOL"
analog_name an.Sih = codes "SIH"
analog_name an.Sil = codes "SIL"
analog_name an.Szl = codes "SZL"
analog_name an.Szh = codes "SZH"
analog_name an.Abs = codes "ABS"
analog_name an.Inv = codes "INV"
analog_name an.Dir = codes "DIR"
analog_name an.Ma0 = codes "MA0"
analog_name an.Ma1 = codes "MA1"
analog_name an.Ma2 = codes "MA2"
analog_name an.Ma3 = codes "MA3"
analog_name an.Max = codes "MAX"
analog_name an.Min = codes "MIN"
analog_name an.Add = codes "ADD"
analog_name an.Sub = codes "SUB"
analog_name an.Mul = codes "MUL"
analog_name an.Div = codes "DIV"
analog_name an.Rez = codes "REZ"
analog_name an.Qua = codes "QUA"
analog_name an.Rad = codes "RAD"
analog_name an.Ta0 = codes "TA0"
analog_name an.Fix = codes "FIX"
analog_name an.Flx = codes "FLX"
analog_name (an.Scale f) = factor_name f
analog_name (an.LimitRate r) = rate_name r
analog_name (an.Integrate d) = integrator_name d
analog_name (an.Delay d) = delay_name d

-- the sources that a command of a binary line uses
abbrev pub binary_operands : Binary → Operands
binary_operands bit.Nop = Unused
binary_operands bit.Btn = First Bit
binary_operands bit.Bti = First Bit
binary_operands bit.Ann = Both Bit Bit
binary_operands bit.Ani = Both Bit Bit
binary_operands bit.Ain = Both Bit Bit
binary_operands bit.Aii = Both Bit Bit
binary_operands bit.Onn = Both Bit Bit
binary_operands bit.Oni = Both Bit Bit
binary_operands bit.Oin = Both Bit Bit
binary_operands bit.Oii = Both Bit Bit
binary_operands bit.Xnn = Both Bit Bit
binary_operands bit.Xni = Both Bit Bit
binary_operands bit.Frs = Both Bit Bit
binary_operands bit.Cgt = Both Reading Reading
binary_operands bit.Cgh = Both Reading Reading

-- the sources that a command of an analog line uses, or its constant
abbrev pub analog_operands : Analog → Operands
analog_operands an.Nop = Unused
analog_operands an.Sol = Both Reading Bit
analog_operands an.Sih = Both Reading Bit
analog_operands an.Sil = Both Reading Bit
analog_operands an.Szl = Both Reading Bit
analog_operands an.Szh = Both Reading Bit
analog_operands an.Abs = First Reading
analog_operands an.Inv = First Reading
analog_operands an.Dir = First Reading
analog_operands an.Ma0 = First Reading
analog_operands an.Ma1 = First Reading
analog_operands an.Ma2 = First Reading
analog_operands an.Ma3 = First Reading
analog_operands an.Max = Both Reading Reading
analog_operands an.Min = Both Reading Reading
analog_operands an.Add = Both Reading Reading
analog_operands an.Sub = Both Reading Reading
analog_operands an.Mul = Both Reading Reading
analog_operands an.Div = Both Reading Reading
analog_operands an.Rez = First Reading
analog_operands an.Qua = First Reading
analog_operands an.Rad = First Reading
analog_operands an.Ta0 = First Reading
analog_operands an.Fix = Constant
analog_operands an.Flx = Constant
analog_operands (an.Scale f) = First Reading
analog_operands (an.LimitRate r) = Both Reading Reading
analog_operands (an.Integrate d) = Both Reading Reading
analog_operands (an.Delay d) = Both Reading Reading

-- what load asks of a line with the command, besides that its side has it
abbrev pub requirement_of : Analog → Requirement
requirement_of an.Nop = Nothing
requirement_of an.Sol = Nothing
requirement_of an.Sih = Nothing
requirement_of an.Sil = Nothing
requirement_of an.Szl = Nothing
requirement_of an.Szh = Nothing
requirement_of an.Abs = Nothing
requirement_of an.Inv = Nothing
requirement_of an.Dir = Nothing
requirement_of an.Ma0 = Nothing
requirement_of an.Ma1 = Nothing
requirement_of an.Ma2 = Nothing
requirement_of an.Ma3 = Nothing
requirement_of an.Max = Nothing
requirement_of an.Min = Nothing
requirement_of an.Add = Nothing
requirement_of an.Sub = Nothing
requirement_of an.Mul = Nothing
requirement_of an.Div = Nothing
requirement_of an.Rez = Nothing
requirement_of an.Qua = Nothing
requirement_of an.Rad = Nothing
requirement_of an.Ta0 = Table
requirement_of an.Fix = Range
requirement_of an.Flx = Range
requirement_of (an.Scale f) = Nothing
requirement_of (an.LimitRate r) = UpperLine
requirement_of (an.Integrate d) = UpperLine
requirement_of (an.Delay d) = UpperLine
