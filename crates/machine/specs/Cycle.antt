-- What one cycle does to all lines.
use Rattle.std.specs.Prelude.{ℕ, ◌+◌, ◌%◌, cond, List, [], ◌∷◌, ◌==◌, nat_lt}
use Rattle.lines.specs.View.{Command, Held, worked}
use Rattle.machine.specs.Lines.{Brought, standing}

-- the lines, with x at the address k
abbrev pub put : (ℕ → Held) → ℕ → Held → ℕ → Held
put lines k x j = cond (k == j) x (lines j)

-- the line k, worked from what stands
abbrev pub worked_at : (ℕ → Command) → (phase : ℕ) → Brought → (ℕ → Held) → ℕ → Held
worked_at c phase s lines k = worked (c k) phase (standing s lines) (lines k)

-- lines worked in place, one after another: each reads what stands then
unfoldable pub swept : (ℕ → Command) → (phase : ℕ) → Brought → (order : List ℕ) → (ℕ → Held) → ℕ → Held
swept c phase s [] lines = lines
swept c phase s (k ∷ ks) lines = swept c phase s ks (put lines k (worked_at c phase s lines k))

-- the binary lines, 00H to 3FH, worked together: each reads the bits of the cycle before and the new readings
unfoldable pub together : (ℕ → Command) → (phase : ℕ) → Brought → (ℕ → Held) → ℕ → Held
together c phase s lines k = cond (nat_lt k 0x40) (worked_at c phase s lines k) (lines k)

-- the analog lines in their order, then the binary ones
abbrev pub all_worked : (ℕ → Command) → (phase : ℕ) → Brought → (order : List ℕ) → (ℕ → Held) → ℕ → Held
all_worked c phase s order lines = together c phase s (swept c phase s order lines)

-- one on, from 4 to 0
abbrev pub next_phase : ℕ → ℕ
next_phase f = (f + 1) % 5
