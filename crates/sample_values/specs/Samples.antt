-- Sample values that the definitions give.
use Rattle.std.specs.Prelude.{ℕ, zero, suc, cond, List, [], ◌∷◌, ◌≡◌, ◌==◌, ℤ, pos, negsuc}
use Rattle.readings.specs.Words.{word_reading, constant_reading}
use Rattle.readings.specs.declared.settings.Divisor.TheVariants.{D10}
use Rattle.readings.specs.declared.settings.Factor.TheVariants.{Third}
use Rattle.readings.specs.declared.settings.Rate.TheVariants.{T1000}
use Rattle.arithmetic.specs.declared.operation.Operation.TheVariants.{Mul, Div, Qua, Rad, Scale}
use Rattle.arithmetic.specs.Operations.{operated}
use Rattle.arithmetic.specs.Tables.{interpolated}
use Rattle.timing.specs.Divisors.{divisor}
use Rattle.timing.specs.Ramps.{allowance, period}
use Rattle.timing.specs.Remainders.{integrated, integrated_rest, delayed, delayed_rest}

-- a table of zeros but for points 3 and 4
abbrev pub points : ℕ → ℤ
points k = cond (k == 3) (pos 4000) (cond (k == 4) (pos 5000) (pos 0))

-- the allowances of RL9 at the phases 0 to 4
abbrev pub allowances : List ℕ
allowances = allowance (period T1000) 0 ∷ allowance (period T1000) 1 ∷ allowance (period T1000) 2 ∷ allowance (period T1000) 3 ∷ allowance (period T1000) 4 ∷ []

-- a self-fed line that keeps a remainder: its readings after each of n cycles, and at last the remainder
abbrev pub run : ℕ → (value rest : ℤ → ℤ → ℤ) → ℤ → ℤ → List ℤ
run zero value rest b m = m ∷ []
run (suc n) value rest b m = value b m ∷ run n value rest (value b m) (rest b m)

-- what each command and word gives
pub record Samples : Type 0 where
  pub word_plus : word_reading 0xBE80 ≡ pos 16000
  pub word_minus : word_reading 0x3E80 ≡ negsuc 15999
  pub word_zero : word_reading 0x0000 ≡ pos 0
  pub constant_point : constant_reading 0x8643 ≡ pos 1600
  pub constant_greatest : constant_reading 0xFCF3 ≡ pos 31984
  pub constant_beyond : constant_reading 0xFCF4 ≡ pos 31988
  pub mul_limited : operated Mul (pos 24000) (pos 24000) ≡ pos 31984
  pub div_minus : operated Div (pos 6400) (negsuc 7999) ≡ negsuc 12799
  pub qua_below : operated Qua (pos 22608) (pos 0) ≡ pos 31945
  pub qua_limited : operated Qua (pos 22624) (pos 0) ≡ pos 31984
  pub rad_minus : operated Rad (negsuc 3999) (pos 0) ≡ negsuc 7999
  pub third_minus : operated (Scale Third) (negsuc 15999) (pos 0) ≡ negsuc 5332
  pub table : interpolated points (pos 3584) ≡ pos 4500
  pub ramp : allowances ≡ 1 ∷ 2 ∷ 1 ∷ 2 ∷ 2 ∷ []
  pub integral :
      run 5 (integrated (divisor D10) (pos 7)) (integrated_rest (divisor D10) (pos 7)) (pos 0) (pos 0)
      ≡ pos 0 ∷ pos 1 ∷ pos 2 ∷ pos 2 ∷ pos 3 ∷ pos 5 ∷ []
  pub delay :
      run 2 (delayed (divisor D10) (pos 16000)) (delayed_rest (divisor D10) (pos 16000)) (pos 0) (pos 0)
      ≡ pos 1600 ∷ pos 3040 ∷ pos 0 ∷ []
