-- The blocks of codes that carry a setting.
use Rattle.std.proofs.Common.{◌≡◌, ℕ, ◌-◌, ◌<◌, ◌≤◌, List, map, length, get_or, Some, refl, arith}
use Rattle.std.proofs.lemmas.Bool.Decides.{nat_tests}
use Rattle.std.proofs.lemmas.Option.{slice_get-map, slice_get-get_or}
use Rattle.std.specs.List.{slice_get}
use Rattle.readings.specs.declared.settings.Factor.{Factor}
use Rattle.readings.specs.declared.settings.Rate.{Rate}
use Rattle.readings.specs.declared.settings.Divisor.{Divisor}
use Rattle.commands.specs.declared.command.Analog.TheVariants.{Scale, LimitRate, Integrate, Delay}
use Rattle.commands.specs.Codes.{analog_of, factors, rates, divisors}

read : {X Y : Type 0} (f : X → Y) (xs : List X) (i : ℕ) (x : X) → i < length xs → slice_get (map f xs) i ≡ Some (f (get_or xs i x))
read f xs i x h = rw (slice_get-map f xs i, slice_get-get_or xs i x h) refl

pub scale_code : (c : ℕ) (x : Factor) → 0x58 ≤ c → c ≤ 0x67 → Some (Scale (get_or factors (c - 0x58) x)) ≡ analog_of c
scale_code c x low high = let e = read Scale factors (c - 0x58) x (omega arith) in grind (arith, nat_tests)

pub rate_code : (c : ℕ) (x : Rate) → 0x68 ≤ c → c ≤ 0x73 → Some (LimitRate (get_or rates (c - 0x68) x)) ≡ analog_of c
rate_code c x low high = let e = read LimitRate rates (c - 0x68) x (omega arith) in grind (arith, nat_tests)

pub integrate_code : (c : ℕ) (x : Divisor) → 0x74 ≤ c → c ≤ 0x7B → Some (Integrate (get_or divisors (c - 0x74) x)) ≡ analog_of c
integrate_code c x low high = let e = read Integrate divisors (c - 0x74) x (omega arith) in grind (arith, nat_tests)

pub delay_code : (c : ℕ) (x : Divisor) → 0xA7 ≤ c → c ≤ 0xAE → Some (Delay (get_or divisors (c - 0xA7) x)) ≡ analog_of c
delay_code c x low high = let e = read Delay divisors (c - 0xA7) x (omega arith) in grind (arith, nat_tests)
