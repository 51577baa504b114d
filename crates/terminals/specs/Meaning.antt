-- What terminals mean: eight input readings, nine input bits, the outputs, a tally and a link.
use Rattle.std.specs.Prelude.{◌≡◌, ℕ, ◌<◌, ◌≤◌, true, List, length, ℤ, pos, Some, None, Option, Ok, Err, Result}
use Rattle.readings.specs.Range.{InRange, are_readings}
use Rattle.terminals.specs.declared.faults.Fault.{Fault}
use Rattle.terminals.specs.declared.outputs.Outputs.{Outputs}
use Rattle.terminals.specs.declared.outputs.Signals.{Signals}

-- up, or down with a fault
abbrev pub Link : Type 0
Link = Result (Unit {0}) Fault

-- two output readings, and thirteen output bits as a number, Q00 lowest
pub record OutputValues : Type 0 where
  pub first : ℤ
  pub second : ℤ
  pub digital : ℕ

-- the outputs as numbers
abbrev pub values : Outputs → OutputValues
values o = record { first = o.first.value; second = o.second.value; digital = o.digital }

-- what signals ask for, as numbers
abbrev pub asked : Signals → OutputValues
asked s = record { first = s.first.value; second = s.second.value; digital = s.digital }

-- an input is named by its number, from 1 to 8
abbrev pub IsNamed : Option ℕ → Type 0
IsNamed None = Unit {0}
IsNamed (Some n) = (1 ≤ n) × (n ≤ 8)

-- a fault is in range
pub record IsFault (f : Fault) : Type 0 where
  pub cause_low : 1 ≤ f.cause
  pub cause_high : f.cause < 256
  pub input : IsNamed f.input
  pub distance : f.distance < 256

-- a link is up, or its fault is in range
abbrev pub IsLink : Link → Type 0
IsLink (Ok _) = Unit {0}
IsLink (Err f) = IsFault f

-- the ranges that hold of every kind of terminals
pub record Lawful (inputs : List ℤ) (bits : ℕ) (outputs : OutputValues) (tally : ℕ) (link : Link) : Type 0 where
  pub eight : length inputs ≡ 8
  pub readings : are_readings inputs ≡ true
  pub nine : bits < 512
  pub first : InRange outputs.first
  pub second : InRange outputs.second
  pub thirteen : outputs.digital < 8192
  pub byte : tally < 256
  pub fault : IsLink link

-- the outputs of new terminals
abbrev pub no_outputs : OutputValues
no_outputs = record { first = pos 0; second = pos 0; digital = 0 }
