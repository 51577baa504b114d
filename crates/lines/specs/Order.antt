-- The order in which the analog lines are worked.
use Rattle.std.specs.Prelude.{◌≡◌, ℕ, zero, suc, ◌+◌, ◌<◌, Bool, true, false, cond, List, [], ◌∷◌, ◌==◌}

abbrev pub has : List ℕ → ℕ → Bool
has [] k = false
has (x ∷ xs) k = cond (x == k) true (has xs k)

abbrev pub Distinct : List ℕ → Type 0
Distinct [] = Unit {0}
Distinct (x ∷ xs) = (has xs x ≡ false) × Distinct xs

-- An order has each analog line, 64 to 255, once, and no binary one.
pub record IsOrder (order : List ℕ) : Type 0 where
  pub distinct : Distinct order
  pub no_binary : (k : ℕ) → k < 64 → has order k ≡ false
  pub analog : (k : ℕ) → 63 < k → k < 256 → has order k ≡ true

-- n addresses from a upwards, the highest first.
abbrev pub countdown : ℕ → ℕ → List ℕ
countdown a zero = []
countdown a (suc n) = (a + n) ∷ countdown a n

-- FFH down to 40H
unfoldable pub descending : List ℕ
descending = countdown 64 192

-- Is line j worked before line k? Going through the order, j is met before k.
-- The binary lines are worked last and together, and are not in it.
abbrev pub before : List ℕ → ℕ → ℕ → Bool
before [] j k = false
before (x ∷ xs) j k = cond (x == k) false (cond (x == j) true (before xs j k))
