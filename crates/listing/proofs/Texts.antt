-- Texts one after another: none, and one more.
use Rattle.std.proofs.Common.{◌≡◌, ℕ, ◌+◌, ◌-◌, ◌^◌, ◌/◌, ◌%◌, ◌<◌, ◌≤◌, false, List, [], ◌∷◌, ◌++◌, length, refl, add-one, arith, ⊎_elim}
use Rattle.std.specs.Fmt.{decimal, padded_integral, format_spec, char_count}
use Rattle.std.proofs.lemmas.Bool.{cases_lt}
use Rattle.std.proofs.lemmas.List.{length-append, append-nil, append_assoc}
use Rattle.std.proofs.lemmas.Fmt.{decimal_digit, decimal_nonempty, decimal_step}
use Rattle.listing.specs.Rows.{up_to}

pub up_to-none : (text : ℕ → List ℕ) → up_to text 0 ≡ []
unfolding up_to
up_to-none text = refl

pub up_to-more : (text : ℕ → List ℕ) (n : ℕ) → up_to text (n + 1) ≡ up_to text n ++ text n
unfolding up_to
up_to-more text n = rw add-one

-- what `{:02}` writes of a number: its tens and its last digit, or a zero and its only one
module _ (n : ℕ) (small : n < 2 ^ 64) where
  one : n < 10 → padded_integral (format_spec 32 0 4 2 (2 ^ 64 - 1)) false [] (decimal n) ≡ decimal (n / 10) ++ decimal (n % 10)
  unfolding padded_integral char_count
  one h = let high : n / 10 ≡ 0 = omega arith in let low : n % 10 ≡ n = omega arith in rw (high, low, decimal_digit n h, decimal_digit 0 (omega arith))

  more : 10 ≤ n → padded_integral (format_spec 32 0 4 2 (2 ^ 64 - 1)) false [] (decimal n) ≡ decimal (n / 10) ++ decimal (n % 10)
  unfolding padded_integral char_count
  more h =
      let some : 0 < length (decimal (n / 10)) = decimal_nonempty (n / 10) (omega arith) in
      let last : decimal (n % 10) ≡ (48 + n % 10) ∷ [] = decimal_digit (n % 10) (omega arith) in
      let none : 2 - (length (decimal (n / 10)) + 1) ≡ 0 = omega arith in
      rw (decimal_step n h small, last, length-append, none) (append-nil _)

pub two_digits : (n : ℕ) (rest : List ℕ) → n < 256 → padded_integral (format_spec 32 0 4 2 (2 ^ 64 - 1)) false [] (decimal n) ++ rest ≡ decimal (n / 10) ++ (decimal (n % 10) ++ rest)
two_digits n rest small = rw (⊎_elim (one n (omega arith)) (more n (omega arith)) (cases_lt n 10)) (append_assoc (decimal (n / 10)) (decimal (n % 10)) rest)
