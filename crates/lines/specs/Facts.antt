-- What the definitions come to.
use Rattle.std.specs.Prelude.{◌≡◌, ℕ, ◌<◌, ◌≤◌, true, false, List, ℤ}
use Rattle.lines.specs.View.{Command, Moment}
use Rattle.lines.specs.Order.{IsOrder, before, descending}
use Rattle.lines.specs.Diagram.{Plain, Waits, Stands}
use Rattle.lines.specs.SampleWaits.{SampleWaits}

-- A line has at most one wait and one diagram value, and only a plain line has them.
pub record Unique : Type 0 where
  pub one_wait : (c : ℕ → Command) (order : List ℕ) (n t u : ℕ) → Waits c order n t → Waits c order n u → t ≡ u
  pub one_value : (c : ℕ → Command) (now : Moment) (n : ℕ) (x y : ℤ) → Stands c now n x → Stands c now n y → x ≡ y
  pub waits_plain : (c : ℕ → Command) (order : List ℕ) (n t : ℕ) → Waits c order n t → Plain c n
  pub stands_plain : (c : ℕ → Command) (now : Moment) (n : ℕ) (x : ℤ) → Stands c now n x → Plain c n

-- Which source lines are worked before the line that reads them, by descending addresses: for an analog line, the
-- analog lines at higher addresses; for a binary line, all analog lines; a binary line never.
pub record ByAddress : Type 0 where
  pub is_order : IsOrder descending
  pub higher : (n k : ℕ) → 64 ≤ n → n < k → k < 256 → before descending k n ≡ true
  pub not_higher : (n k : ℕ) → 64 ≤ n → k ≤ n → n < 256 → before descending k n ≡ false
  pub for_binary : (n k : ℕ) → n < 64 → 64 ≤ k → k < 256 → before descending k n ≡ true
  pub binary : (n k : ℕ) → k < 64 → before descending k n ≡ false

pub record Facts : Type 0 where
  pub unique : Unique
  pub by_address : ByAddress
  pub sample_waits : SampleWaits
