-- The plant model: input 1 follows output 1.
use Rattle.std.specs.Prelude.{List, ◌∷◌, replicate, ℤ, pos, ◌+ℤ◌, ◌-ℤ◌, int_div}

-- one sample moves input 1 by a sixteenth of the way to output 1, cut toward zero
abbrev pub moved : ℤ → ℤ → ℤ
moved input output = input +ℤ int_div (output -ℤ input) (pos 16)

-- the other inputs are 0
abbrev pub plant_inputs : ℤ → List ℤ
plant_inputs z = z ∷ replicate 7 (pos 0)
