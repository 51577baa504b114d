-- How quotients and roots are rounded.
use Rattle.std.specs.Prelude.{ℕ, zero, suc, ◌+◌, ◌*◌, ◌^◌, ◌<◌, cond, ℤ, pos, negsuc, ◌-ℤ◌, ◌*ℤ◌, ◌≤ℤ◌, ◌≢◌, int_div, nat_le, unsigned_abs}

-- the quotient of the commands: cut toward zero
unfoldable pub quotient : ℤ → ℤ → ℤ
quotient n d = int_div n d

-- a quotient is less than 1 from the true one: what it leaves of n is nearer to 0 than d
abbrev pub QuotientLaw : Type 0
QuotientLaw = (n d : ℤ) → (d ≢ pos 0) → unsigned_abs (n -ℤ quotient n d *ℤ d) < unsigned_abs d

-- products of readings and quotients of such stay in this range, which fits 32 bits twice over
abbrev pub Small : ℤ → Type 0
Small z = (negsuc 1073741822 ≤ℤ z) × (z ≤ℤ pos 1073741823)

-- the whole root of n, cut down: r, raised by the powers below 2 ^ k that keep its square within n
unfoldable pub root_from : ℕ → ℕ → ℕ → ℕ
root_from zero n r = r
root_from (suc k) n r = root_from k n (cond (nat_le ((r + 2 ^ k) * (r + 2 ^ k)) n) (r + 2 ^ k) r)

-- so from 0, by the powers below 2 ^ 16
unfoldable pub root : ℕ → ℕ
root n = root_from 16 n 0
