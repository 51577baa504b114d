-- The switches.
use Rattle.std.specs.Prelude.{Bool, cond, ℤ, pos, neg_ℤ}
use Rattle.arithmetic.specs.declared.switches.Switch.{Switch}
use Rattle.arithmetic.specs.declared.switches.Switch.TheVariants.{Sih, Sil, Szl, Szh}

-- SIH and SIL turn the sign, SZL and SZH give 0: at a bit of 1 (H) or of 0 (L)
abbrev pub switched : Switch → ℤ → Bool → ℤ
switched Sih a b = cond b (neg_ℤ a) a
switched Sil a b = cond b a (neg_ℤ a)
switched Szl a b = cond b a (pos 0)
switched Szh a b = cond b (pos 0) a

-- SOL takes the input over where the bit is 1, and else holds its own reading
abbrev pub selected : ℤ → Bool → (own : ℤ) → ℤ
selected a b own = cond b a own
