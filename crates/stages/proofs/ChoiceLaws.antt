-- The lowest chosen input that is low, found by its number.
use Rattle.std.proofs.Common.{◌≡◌, ℕ, ◌-◌, Bool, ◌&&◌, List, [], ◌∷◌, length, ℤ, pos, negsuc, refl, arith}
use Rattle.std.specs.Prelude.{int_lt, slice_index_or}
use Rattle.std.specs.List.{find, range_with_len}
use Rattle.stages.specs.Stages.{chosen_at, lowest_low}

-- whether byte m chooses the input of number n, and it is low
abbrev pub is_low : ℕ → List ℤ → ℕ → Bool
is_low m zs n = chosen_at m (n - 1) && int_lt (slice_index_or zs (n - 1) (pos 0)) (negsuc 1599)

-- looking at numbers 1 to 8 in turn finds what looking through the list does
pub lowest_is_found : (m : ℕ) (zs : List ℤ) → length zs ≡ 8 → find (is_low m zs) (range_with_len 1 8) ≡ lowest_low m 0 zs
lowest_is_found m (a ∷ b ∷ c ∷ d ∷ e ∷ f ∷ g ∷ h ∷ []) p = refl
lowest_is_found m zs p = absurd (omega (arith, p))
