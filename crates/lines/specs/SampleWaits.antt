-- Samples of waits. Each holds of every configuration that has these lines, whatever its other lines are.
use Rattle.std.specs.Prelude.{◌≡◌, ℕ, ◌-◌, slice_index_or}
use Rattle.commands.specs.declared.command.Analog.{Analog}
use Rattle.commands.specs.declared.command.Analog.TheVariants as an
use Rattle.commands.specs.declared.command.Binary.{Binary}
use Rattle.commands.specs.declared.command.Binary.TheVariants as bit
use Rattle.parcel.specs.declared.configuration.Configuration.{Configuration}
use Rattle.lines.specs.Programs.{blank_analog, blank_binary}
use Rattle.lines.specs.Board.{command_in}
use Rattle.lines.specs.Order.{descending}
use Rattle.lines.specs.Diagram.{Reaches, Waits}

-- the analog line at this address, 40H or above, has this command and these source bytes
abbrev pub AnalogIs : Configuration → (address : ℕ) → Analog → (sr1 sr2 : ℕ) → Type 0
AnalogIs c address command a b =
    slice_index_or c.analog (address - 0x40) blank_analog ≡ record { command = command; sr1 = a; sr2 = b }

-- the binary line at this address, below 40H, has this command and these source bytes
abbrev pub BinaryIs : Configuration → (address : ℕ) → Binary → (sr1 sr2 : ℕ) → Type 0
BinaryIs c address command a b = slice_index_or c.binary address blank_binary ≡ record { command = command; sr1 = a; sr2 = b }

-- the line at this address has this wait, where the analog lines are worked by descending addresses
abbrev pub WaitIs : Configuration → (address wait : ℕ) → Type 0
WaitIs c address wait = Waits (command_in c) descending address wait

-- the samples; x, y and z are source bytes that the command does not use
pub record SampleWaits : Type 0 where
  -- 70H DIR 60H, 60H DIR 50H, 50H DIR 3FH: a line at a lower address is worked later, so it adds its wait and 1
  pub copies : (c : Configuration) (x y z : ℕ) → AnalogIs c 0x70 an.Dir 0x60 x → AnalogIs c 0x60 an.Dir 0x50 y → AnalogIs c 0x50 an.Dir 0x3F z → WaitIs c 0x70 3 × WaitIs c 0x60 2 × WaitIs c 0x50 1
  -- 04H BTN A0H, 05H BTN 04H, 60H SZL 3FH, 05H: binary lines are worked last and together, so each adds its wait and 1
  pub gated : (c : Configuration) (x y : ℕ) → BinaryIs c 0x04 bit.Btn 0xA0 x → BinaryIs c 0x05 bit.Btn 0x04 y → AnalogIs c 0x60 an.Szl 0x3F 0x05 → WaitIs c 0x04 1 × WaitIs c 0x05 2 × WaitIs c 0x60 3
  -- 80H ADD 80H, 3FH: a line that is its own source is a loop
  pub loop : (c : Configuration) → AnalogIs c 0x80 an.Add 0x80 0x3F → Reaches (command_in c) 0x80 0x80
  -- 80H DIR 3FH with its own address as the second byte: DIR does not use it, so there is no loop
  pub unused_byte : (c : Configuration) → AnalogIs c 0x80 an.Dir 0x3F 0x80 → WaitIs c 0x80 1
