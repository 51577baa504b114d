-- The law of a self-fed integrator.
use Rattle.std.proofs.Common.{◌≡◌, ℕ, ◌*◌, true, false, cond, List, [], ◌∷◌, ℤ, pos, negsuc, ◌+ℤ◌, ◌*ℤ◌, ◌≤ℤ◌, ap, add-mul, arith}
use Rattle.std.specs.Prelude.{int_lt}
use borrow.Author.Differences.{sum_is_lem}
use Rattle.std.proofs.lemmas.Int.{ints}
use Rattle.std.proofs.lemmas.Bool.{or_parts}
use Rattle.readings.specs.Range.{limit}
use Rattle.timing.specs.Divisors.{Below, cut, divisor, rest}
use Rattle.timing.specs.Remainders.{beyond, unlimited, integrated, integrated_rest}
use Rattle.timing.specs.Sums.{Unlimited, Balance, SumLaw}
use Rattle.timing.proofs.Laws.{cut-rest, rest_within, divisor_low}

distrib : (a b : ℤ) (k : ℕ) → (a +ℤ b) *ℤ pos k ≡ a *ℤ pos k +ℤ b *ℤ pos k
distrib a b k =
    let e = simp add-mul at (ap (λ (x : ℕ). x * k) (sum_is_lem a b)) in
    omega (arith, ints)

limit_within : (z : ℤ) → beyond z ≡ false → limit z ≡ z
unfolding limit
limit_within z h =
    let p = or_parts (int_lt z (negsuc 31983)) (int_lt (pos 31984) z) h in
    grind (arith, ints)

-- one cycle that is not limited
step : (k : ℕ) (a b m : ℤ) → beyond (unlimited (pos k) a b m) ≡ false
    → integrated (pos k) a b m *ℤ pos k +ℤ integrated_rest (pos k) a b m ≡ b *ℤ pos k +ℤ m +ℤ a
step k a b m h =
    let v = limit_within (unlimited (pos k) a b m) h in
    let r = cut-rest (a +ℤ m) (pos k) in
    let x = distrib b (cut (a +ℤ m) (pos k)) k in
    rw (v, h, x) (omega (arith, ints))

-- a remainder stays nearer to 0 than its divisor
rest_below : (k : ℕ) (a b m : ℤ) → pos 1 ≤ℤ pos k → Below (pos k) (integrated_rest (pos k) a b m)
rest_below k a b m p =
    elim (beyond (unlimited (pos k) a b m)) as (λ t. Below (pos k) (cond t (pos 0) (rest (a +ℤ m) (pos k)))) [
      | true ↦ omega (arith, ints)
      | false ↦ rest_within (a +ℤ m) (pos k) p
    ]

sums : (k : ℕ) (xs : List ℤ) (b m : ℤ) → pos 1 ≤ℤ pos k → Below (pos k) m → Unlimited (pos k) xs b m → Balance (pos k) xs b m
sums k [] b m p u h = record { sum = omega (arith, ints); small = u }
sums k (a ∷ xs) b m p u h =
    let s = step k a b m h.0 in
    let i = sums k xs (integrated (pos k) a b m) (integrated_rest (pos k) a b m) p (rest_below k a b m p) h.1 in
    record { sum = omega (arith, ints, i.sum); small = i.small }

pub sum_law : SumLaw
sum_law d xs b m = at (divisor d) (divisor_low d)
  where
    at : (z : ℤ) → pos 1 ≤ℤ z → Below z m → Unlimited z xs b m → Balance z xs b m
    at (pos k) p = sums k xs b m p
    at (negsuc k) p = absurd (omega (arith, ints))
