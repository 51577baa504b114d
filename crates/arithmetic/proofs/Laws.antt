-- Laws of quotients and roots.
use Rattle.std.proofs.Common.{◌≡◌, ℕ, zero, suc, ◌+◌, ◌*◌, ◌^◌, ◌<◌, ◌≤◌, Bool, true, false, cond, leb, ◌⊎◌, ◌≢◌, ℤ, pos, negsuc, ◌*ℤ◌, neg_ℤ, nat_abs, ◌≤ℤ◌, ◌<ℤ◌, refl, inl, inr, ⊎_elim, pow-suc, arith}
use Rattle.std.proofs.lemmas.Int.{ints, rem_below, unsigned_abs-mul}
use Rattle.std.proofs.lemmas.Nat.{mul-le}
use Rattle.std.proofs.lemmas.Bool.{leb-true, leb-false, cases_lt}
use Rattle.readings.specs.Range.{InRange}
use Rattle.readings.proofs.Whole.{quotient_within, rem-rest}
use Rattle.arithmetic.specs.Quotients.{QuotientLaw, Small, quotient, root, root_from}
use Rattle.arithmetic.specs.Operations.{square_root}

-- the product of two readings is far from the ends of an i32
pub product_small : (a b : ℤ) → InRange a → InRange b → Small (a *ℤ b)
product_small a b p q =
    omega (arith, ints, unsigned_abs-mul a b, mul-le (nat_abs a) (nat_abs b) 32767 32767 (omega (arith, ints)) (omega (arith, ints)))

-- the whole root by its defining inequality
abbrev IsRoot : ℕ → ℕ → Type 0
IsRoot n r = (r * r ≤ n) × (n < (r + 1) * (r + 1))

root_from-IsRoot : (k n r : ℕ) → r * r ≤ n → n < (r + 2 ^ k) * (r + 2 ^ k) → IsRoot n (root_from k n r)
unfolding root_from
root_from-IsRoot zero n r p q = (p, q)
root_from-IsRoot (suc k) n r p q = go (leb ((r + 2 ^ k) * (r + 2 ^ k)) n) refl (root_from-IsRoot k n (r + 2 ^ k)) (root_from-IsRoot k n r p)
  where
    go : (t : Bool) → leb ((r + 2 ^ k) * (r + 2 ^ k)) n ≡ t
        → ((r + 2 ^ k) * (r + 2 ^ k) ≤ n → n < (r + 2 ^ k + 2 ^ k) * (r + 2 ^ k + 2 ^ k) → IsRoot n (root_from k n (r + 2 ^ k)))
        → (n < (r + 2 ^ k) * (r + 2 ^ k) → IsRoot n (root_from k n r))
        → IsRoot n (root_from k n (cond t (r + 2 ^ k) r))
    go true e f g = f (leb-true _ _ e) (let h : r + 2 ^ suc k ≡ r + 2 ^ k + 2 ^ k = omega (arith, pow-suc 2 k) in rw h at q)
    go false e f g = g (leb-false _ _ e)

unique : (n r s : ℕ) → IsRoot n r → IsRoot n s → s ≤ r
unique n r s p q = ⊎_elim (λ h. h) (λ h. absurd (omega (arith, mul-le (r + 1) (r + 1) s s (omega arith) (omega arith)))) (le_or r s)
  where
    le_or : (r s : ℕ) → (s ≤ r) ⊎ (r < s)
    le_or r s = ⊎_elim (λ h. inr h) (λ h. inl h) (cases_lt r s)

pub root_is : (n r : ℕ) → n < 2 ^ 32 → r * r ≤ n → n < (r + 1) * (r + 1) → r ≡ root n
unfolding root
root_is n r h p q = let s = root_from-IsRoot 16 n 0 (omega arith) (omega arith) in omega (arith, unique n r (root_from 16 n 0) (p, q) s, unique n (root_from 16 n 0) r s (p, q))

pub root_below : (n r : ℕ) → r * r ≤ n → n < 900000000 → r < 30000
root_below n r p h = ⊎_elim (λ k. k) (λ k. absurd (omega (arith, mul-le 30000 30000 r r (omega arith) (omega arith)))) (cases_lt r 30000)

pub square_root-pos : (a : ℤ) → pos 0 ≤ℤ a → square_root a ≡ pos (root (nat_abs a * 16000))
square_root-pos (pos n) p = refl
square_root-pos (negsuc n) p = absurd (omega (arith, ints))

pub square_root-neg : (a : ℤ) → a <ℤ pos 0 → square_root a ≡ neg_ℤ (pos (root (nat_abs a * 16000)))
square_root-neg (pos n) p = absurd (omega (arith, ints))
square_root-neg (negsuc n) p = refl

-- the quotient of a small number is small
pub quotient_small : (n d : ℤ) → Small n → Small (quotient n d)
unfolding quotient
quotient_small n d h = quotient_within n d 1073741823 h.0 h.1

pub quotient_law : QuotientLaw
unfolding quotient
quotient_law n d ne = rw (rem-rest n d) at (rem_below n d (nonzero d ne))
  where
    nonzero : (d : ℤ) → d ≢ pos 0 → 0 < nat_abs d
    nonzero (pos zero) ne = absurd (ne refl)
    nonzero (pos (suc d)) ne = omega arith
    nonzero (negsuc d) ne = omega arith
