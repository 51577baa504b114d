-- The bits of the output lines as a number, from the last to the first.
use Rattle.std.proofs.Common.{◌≡◌, ℕ, suc, ◌+◌, ◌-◌, ◌*◌, ◌^◌, ◌<◌, ◌≤◌, cond, List, length, get_or, drop, ap, ◌∙◌, pow-suc, arith, drop-cons}
use Rattle.lines.specs.View.{Held}
use Rattle.lines.specs.Commands.{as_bit}
use Rattle.machine.specs.Outputs.{packed}

pub packed_more : (lines : ℕ → Held) (ks : List ℕ) (n : ℕ) → 0 < n → n ≤ length ks → packed lines (drop (n - 1) ks) ≡ cond (as_bit (lines (get_or ks (n - 1) 0)).value) 1 0 + 2 * packed lines (drop n ks)
packed_more lines ks n z h =
    let e : suc (n - 1) ≡ n = omega arith in
    ap (packed lines) (drop-cons ks (n - 1) 0 (omega arith)) ∙ ap (λ (i : ℕ). cond (as_bit (lines (get_or ks (n - 1) 0)).value) 1 0 + 2 * packed lines (drop i ks)) e

pub doubled : (b x n : ℕ) → 0 < n → n ≤ 13 → b ≤ 1 → x < 2 ^ (13 - n) → b + 2 * x < 2 ^ (13 - (n - 1))
doubled b x n z h p q =
    let e : 13 - (n - 1) ≡ suc (13 - n) = omega arith in
    rw (e, pow-suc) (omega arith)
