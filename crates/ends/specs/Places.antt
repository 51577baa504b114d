-- Where an input stands.
use Rattle.std.specs.Prelude.{ℕ, ◌-◌, cond, ◌&&◌, Ok, Err, Result, nat_le}
use Rattle.terminals.specs.declared.faults.NoSuchInput.{NoSuchInput}

-- the place from 0 of the input with that number; they are numbered from 1 to 8
abbrev pub place_rule : ℕ → Result ℕ NoSuchInput
place_rule n = cond (nat_le 1 n && nat_le n 8) (Ok (n - 1)) (Err (record {}))
