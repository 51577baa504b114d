-- Gates and the latch.
use Rattle.std.specs.Prelude.{Bool, true, false, cond, not, ◌&&◌, ◌||◌}
use Rattle.logic.specs.declared.gates.Gate.{Gate}
use Rattle.logic.specs.declared.gates.Gate.TheVariants.{And, AndInverted, Or, OrInverted, Xor, Copy}

-- what a gate gives
abbrev pub plain : Gate → Bool → Bool → Bool
plain And a b = a && b
plain AndInverted a b = not a && b
plain Or a b = a || b
plain OrInverted a b = not a || b
plain Xor a b = cond a (not b) b
plain Copy a b = a

-- what it gives, or the inverse of that
abbrev pub gated : Gate → (inverse : Bool) → Bool → Bool → Bool
gated g inverse a b = cond inverse (not (plain g a b)) (plain g a b)

-- reset by b, set by a, else its own bit
abbrev pub latched : Bool → Bool → (own : Bool) → Bool
latched a b own = cond b false (cond a true own)
