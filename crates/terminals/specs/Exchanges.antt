-- One exchange with the terminals: a sample, the question for the link, the inputs and bits, a put.
use Rattle.std.specs.Prelude.{ℕ, cond, List, ℤ, Ok, Err, Result, nat_lt}
use Rattle.terminals.specs.Meaning.{Link}
use Rattle.terminals.specs.Rules.{Refused, plain, with_fault, refusal_told}
use Rattle.terminals.specs.declared.exchange.Sampled.{Sampled}
use Rattle.terminals.specs.declared.faults.Fault.{Fault}
use Rattle.terminals.specs.declared.faults.PutRefusal.{PutRefusal}

-- what is taken: the inputs and bits after the sample, or the fault
abbrev pub take_rule : Link → List ℤ → ℕ → Result Sampled Fault
take_rule (Ok _) inputs bits = Ok (record { inputs = inputs; bits = bits })
take_rule (Err f) inputs bits = Err f

-- the answer of an exchange, a refusal by its number and fault
abbrev pub exchange_told : Result Sampled PutRefusal → Result Sampled Refused
exchange_told (Ok s) = Ok s
exchange_told (Err e) = Err (refusal_told e)

-- the link is asked first here, since nothing is put before it is known
abbrev pub exchange_rule : (digital : ℕ) → Link → List ℤ → ℕ → Result Sampled Refused
exchange_rule digital (Ok _) inputs bits = cond (nat_lt digital 8192) (Ok (record { inputs = inputs; bits = bits })) (Err (plain 55))
exchange_rule digital (Err f) inputs bits = Err (with_fault 44 f)
