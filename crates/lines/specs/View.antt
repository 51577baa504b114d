-- A line as cycles, diagrams and runs see it.
use Rattle.std.specs.Prelude.{ℕ, Bool, true, false, cond, ℤ, pos, None, Option, nat_lt}
use Rattle.lines.specs.declared.source.Source.{Source}
use Rattle.lines.specs.declared.source.Source.TheVariants.{Fixed, Line, Input, Switch}

-- What a line holds: its value, and the remainder that an integrator or a delay keeps.
pub record Held : Type 0 where
  pub value : ℤ
  pub remainder : ℤ

-- What a line's command does with its sources a and b. A source that it does not use is the fixed number 0.
--   holds      NOP, and FLX with its default
--   gives      the result is a function of what stands at a and b
--   remembers  the result depends on the phase and on what the line held, too
pub data Command : Type 0 where
  holds : Option ℤ → Command
  gives : (ℤ → ℤ → ℤ) → Source → Source → Command
  remembers : (ℕ → ℤ → ℤ → Held → Held) → Source → Source → Command

-- The commands of the 256 lines; beyond them there is none.
abbrev pub only_lines : (ℕ → Command) → ℕ → Command
only_lines c k = cond (nat_lt k 256) (c k) (holds None)

-- Every line holds.
abbrev pub nothing : ℕ → Command
nothing k = holds None

abbrev pub holding : Command → Bool
holding (holds d) = true
holding (gives f a b) = false
holding (remembers f a b) = false

abbrev pub remembering : Command → Bool
remembering (holds d) = false
remembering (gives f a b) = false
remembering (remembers f a b) = true

abbrev pub source_a : Command → Source
source_a (holds d) = Fixed (pos 0)
source_a (gives f a b) = a
source_a (remembers f a b) = a

abbrev pub source_b : Command → Source
source_b (holds d) = Fixed (pos 0)
source_b (gives f a b) = b
source_b (remembers f a b) = b

-- What stands at one moment: the value of each line, each input, each switch bit.
pub record Moment : Type 0 where
  pub lines : ℕ → ℤ
  pub inputs : ℕ → ℤ
  pub switches : ℕ → ℤ

-- What stands at a source.
abbrev pub at : Moment → Source → ℤ
at m (Line k) = m.lines k
at m (Input i) = m.inputs i
at m (Switch i) = m.switches i
at m (Fixed x) = x

-- What a line holds once it is worked, in this phase, at this moment.
abbrev pub worked : Command → ℕ → Moment → Held → Held
worked (holds d) phase m x = x
worked (gives f a b) phase m x = record { value = f (at m a) (at m b); remainder = x.remainder }
worked (remembers f a b) phase m x = f phase (at m a) (at m b) x
