-- What the stages' definitions keep.
use Rattle.std.specs.Prelude.{◌≡◌, ℕ, zero, suc, ◌+◌, ◌-◌, ◌≤◌, Bool, true, false, cond, ◌&&◌, List, [], ◌∷◌, length, ℤ, pos, negsuc, Some, None, Option, Ok, Err, int_lt, slice_index_or, refl}
use Rattle.std.proofs.Common.{ap, ◌∙◌, arith, add-zero}
use Rattle.std.proofs.lemmas.Bool.{and_parts, and_from}
use Rattle.std.proofs.lemmas.Bool.Decides.{nat_tests}
use Rattle.readings.specs.Range.{is_reading, are_readings}
use Rattle.terminals.specs.Meaning.{Link, IsLink}
use Rattle.stages.specs.Stages.{chosen_at, floored_one, floored, lowest_low, passed_link, watched_link, own_link}
use Rattle.terminals.specs.Rules.{input_rule}

by_cases : (b : Bool) (P : Bool → Type 0) → P true → P false → P b
by_cases true P p q = p
by_cases false P p q = q

pub floored_length : (m k : ℕ) (zs : List ℤ) → length (floored m k zs) ≡ length zs
floored_length m k [] = refl
floored_length m k (z ∷ zs) = ap suc (floored_length m (k + 1) zs)

floored_zero : (b : Bool) → pos 0 ≡ floored_one b (pos 0)
floored_zero true = refl
floored_zero false = refl

pub floored_at : (m k : ℕ) (zs : List ℤ) (i : ℕ) → slice_index_or (floored m k zs) i (pos 0) ≡ floored_one (chosen_at m (k + i)) (slice_index_or zs i (pos 0))
floored_at m k [] i = floored_zero (chosen_at m (k + i))
floored_at m k (z ∷ zs) zero = rw add-zero
floored_at m k (z ∷ zs) (suc i) =
    let e : (k + 1) + i ≡ k + suc i = omega arith in floored_at m (k + 1) zs i ∙ ap (λ j. floored_one (chosen_at m j) (slice_index_or zs i (pos 0))) e

floored_one_reading : (b : Bool) (z : ℤ) → is_reading z ≡ true → is_reading (floored_one b z) ≡ true
floored_one_reading b z h = grind arith

pub floored_readings : (m k : ℕ) (zs : List ℤ) → are_readings zs ≡ true → are_readings (floored m k zs) ≡ true
floored_readings m k [] h = refl
floored_readings m k (z ∷ zs) h =
    let p = and_parts (is_reading z) (are_readings zs) h in
    and_from _ _ (floored_one_reading (chosen_at m k) z p.0) (floored_readings m (k + 1) zs p.1)

pub passed_sound : (l : Link) → IsLink l → IsLink (passed_link l)
passed_sound (Ok u) h = tt
passed_sound (Err f) h = record { cause_low = h.cause_low; cause_high = h.cause_high; input = h.input; distance = omega arith }

-- an input, where one is named, is numbered up to high
abbrev pub UpTo : ℕ → Option ℕ → Type 0
UpTo high None = Unit {0}
UpTo high (Some n) = (1 ≤ n) × (n ≤ high)

raise_bound : (low high : ℕ) → low ≤ high → (r : Option ℕ) → UpTo low r → UpTo high r
raise_bound low high h None u = tt
raise_bound low high h (Some n) u = (u.0, omega (arith, u.1))

pub lowest_low_within : (m k : ℕ) (zs : List ℤ) → UpTo (k + length zs) (lowest_low m k zs)
lowest_low_within m k [] = tt
lowest_low_within m k (z ∷ zs) =
    let P = λ (b : Bool). UpTo (k + suc (length zs)) (cond b (Some (k + 1)) (lowest_low m (k + 1) zs)) in
    let rest = raise_bound ((k + 1) + length zs) (k + suc (length zs)) (omega arith) (lowest_low m (k + 1) zs) (lowest_low_within m (k + 1) zs) in
    by_cases (chosen_at m k && int_lt z (negsuc 1599)) P (omega arith, omega arith) rest

own_sound : (high : ℕ) → high ≤ 8 → (r : Option ℕ) → UpTo high r → IsLink (own_link r)
own_sound high h None u = tt
own_sound high h (Some n) u = record { cause_low = omega arith; cause_high = omega arith; input = (u.0, omega (arith, u.1)); distance = omega arith }

pub watched_sound : (m : ℕ) (zs : List ℤ) (l : Link) → length zs ≡ 8 → IsLink l → IsLink (watched_link m zs l)
watched_sound m zs (Ok u) e h = own_sound (0 + length zs) (omega arith) (lowest_low m 0 zs) (lowest_low_within m 0 zs)
watched_sound m zs (Err f) e h = passed_sound (Err f) h

-- the floor's input from the one below
pub floored_input : (m n : ℕ) (zs : List ℤ) (z : ℤ) → Ok z ≡ input_rule n zs → Ok (floored_one (chosen_at m (n - 1)) z) ≡ input_rule n (floored m 0 zs)
floored_input m n zs z h =
    let e = floored_at m 0 zs (n - 1) in grind (arith, nat_tests)
