-- What the calls on terminals answer. A refusal has a number, and at 44 the fault.
use Rattle.std.specs.Prelude.{ℕ, ◌-◌, cond, ◌&&◌, List, ℤ, pos, Some, None, Ok, Err, Option, Result, nat_le, nat_lt, slice_index_or}
use Rattle.terminals.specs.Meaning.{Link, OutputValues, asked, values}
use Rattle.terminals.specs.declared.faults.Fault.{Fault}
use Rattle.terminals.specs.declared.faults.NoSuchInput.{NoSuchInput}
use Rattle.terminals.specs.declared.faults.PutRefusal.{PutRefusal}
use Rattle.terminals.specs.declared.faults.PutRefusal.TheVariants.{DigitalOver, LinkDown}
use Rattle.terminals.specs.declared.outputs.Outputs.{Outputs}
use Rattle.terminals.specs.declared.outputs.Signals.{Signals}
use Rattle.readings.specs.declared.reading.Reading.{Reading}

-- what a refusal tells
pub record Refused : Type 0 where
  pub number : ℕ
  pub fault : Option Fault

-- a number alone
abbrev pub plain : ℕ → Refused
plain n = record { number = n; fault = None }

-- a number with a fault
abbrev pub with_fault : ℕ → Fault → Refused
with_fault n f = record { number = n; fault = Some f }

-- the answer to the question for an input
abbrev pub input_told : Result Reading NoSuchInput → Result ℤ Refused
input_told (Ok x) = Ok x.value
input_told (Err _) = Err (plain 54)

-- inputs are numbered from 1 to 8
abbrev pub input_rule : ℕ → List ℤ → Result ℤ Refused
input_rule n xs = cond (nat_le 1 n && nat_le n 8) (Ok (slice_index_or xs (n - 1) (pos 0))) (Err (plain 54))

-- what a refused put tells
abbrev pub refusal_told : PutRefusal → Refused
refusal_told DigitalOver = plain 55
refusal_told (LinkDown f) = with_fault 44 f

-- the outputs that signals make, a refusal by its number and fault
abbrev pub outputs_told : Result Outputs PutRefusal → Result OutputValues Refused
outputs_told (Ok o) = Ok (values o)
outputs_told (Err e) = Err (refusal_told e)

-- thirteen output bits are below 8192
abbrev pub outputs_rule : Signals → Result OutputValues Refused
outputs_rule s = cond (nat_lt s.digital 8192) (Ok (asked s)) (Err (plain 55))

-- the answer of a put
abbrev pub put_told : Result (Unit {0}) PutRefusal → Result (Unit {0}) Refused
put_told (Ok u) = Ok u
put_told (Err e) = Err (refusal_told e)

-- a put is refused while the link is down
abbrev pub link_rule : Link → Result (Unit {0}) Refused
link_rule (Ok u) = Ok u
link_rule (Err f) = Err (with_fault 44 f)

-- the questions of a put, in their order
abbrev pub put_rule : ℕ → Link → Result (Unit {0}) Refused
put_rule digital l = cond (nat_lt digital 8192) (link_rule l) (Err (plain 55))
