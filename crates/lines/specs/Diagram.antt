-- A line's diagram, its wait and its diagram value, for the command c of each line.
use Rattle.std.specs.Prelude.{◌≡◌, ℕ, suc, max, true, false, cond, List, ℤ}
use Rattle.lines.specs.declared.source.Source.{Source}
use Rattle.lines.specs.declared.source.Source.TheVariants.{Fixed, Line, Input, Switch}
use Rattle.lines.specs.View.{Command, holds, gives, remembers, holding, remembering, source_a, source_b, Moment, at}
use Rattle.lines.specs.Order.{before}

-- ---- the diagram

-- The command of line n uses the source s.
pub data Uses (c : ℕ → Command) (n : ℕ) (s : Source) : Type 0 where
  as_a : source_a (c n) ≡ s → Uses c n s
  as_b : source_b (c n) ≡ s → Uses c n s

-- Line k is a source of line n.
abbrev pub Feeds : (ℕ → Command) → ℕ → ℕ → Type 0
Feeds c n k = Uses c n (Line k)

-- The diagram of line n: the line, and all lines reached through the sources that its commands use.
pub data Diagram (c : ℕ → Command) (n : ℕ) : ℕ → Type 0 where
  itself : Diagram c n n
  source : {m k : ℕ} → Diagram c n m → Feeds c m k → Diagram c n k

-- Line n reaches line m through its sources.
abbrev pub Reaches : (ℕ → Command) → ℕ → ℕ → Type 0
Reaches c n m = (k : ℕ) × Feeds c n k × Diagram c k m

-- No line of the diagram remembers.
abbrev pub Forgetful : (ℕ → Command) → ℕ → Type 0
Forgetful c n = (m : ℕ) → Diagram c n m → remembering (c m) ≡ false

-- No line of the diagram reaches itself.
abbrev pub LoopFree : (ℕ → Command) → ℕ → Type 0
LoopFree c n = (m : ℕ) → Diagram c n m → Reaches c m m → ⊥

abbrev pub Plain : (ℕ → Command) → ℕ → Type 0
Plain c n = Forgetful c n × LoopFree c n

-- What the diagram of line n reads: each line of it that holds, and each input and switch bit that a line of it uses.
pub data Reads (c : ℕ → Command) (n : ℕ) : Source → Type 0 where
  holds_there : {m : ℕ} → Diagram c n m → holding (c m) ≡ true → Reads c n (Line m)
  input_there : {m i : ℕ} → Diagram c n m → Uses c m (Input i) → Reads c n (Input i)
  switch_there : {m i : ℕ} → Diagram c n m → Uses c m (Switch i) → Reads c n (Switch i)

-- All that the diagram of line n reads was, at the moment m, as it is now.
abbrev pub Same : (ℕ → Command) → ℕ → Moment → Moment → Type 0
Same c n now m = (s : Source) → Reads c n s → at m s ≡ at now s

-- ---- the wait

-- What a source adds to the wait of line n, where w is the wait of each line. A line that holds adds 1, and so does
-- what is no line. Any other line adds its wait if it is worked before n, else its wait and 1.
abbrev pub adds : (ℕ → Command) → List ℕ → ℕ → (ℕ → ℕ) → Source → ℕ
adds c order n w (Line k) = cond (holding (c k)) 1 (cond (before order k n) (w k) (suc (w k)))
adds c order n w (Input i) = 1
adds c order n w (Switch i) = 1
adds c order n w (Fixed x) = 1

-- A line that holds waits 0, any other the greatest of 1 and what its sources add.
abbrev pub wait_from : (ℕ → Command) → List ℕ → ℕ → (ℕ → ℕ) → ℕ
wait_from c order n w =
    cond (holding (c n)) 0 (max 1 (max (adds c order n w (source_a (c n))) (adds c order n w (source_b (c n)))))

-- The wait of line n is t.
pub data Waits (c : ℕ → Command) (order : List ℕ) : ℕ → ℕ → Type 0 where
  waits : {n t : ℕ} → remembering (c n) ≡ false → (w : ℕ → ℕ) → ((k : ℕ) → Feeds c n k → Waits c order k (w k)) → t ≡ wait_from c order n w → Waits c order n t

-- ---- the diagram value

-- This moment, had each line the value v.
abbrev pub valued : Moment → (ℕ → ℤ) → Moment
valued m v = record { lines = v; inputs = m.inputs; switches = m.switches }

-- What a command gives, by the value that its line holds and what its sources have.
abbrev pub applied : Command → ℤ → ℤ → ℤ → ℤ
applied (holds d) held x y = held
applied (gives f a b) held x y = f x y
applied (remembers f a b) held x y = held

-- A line that holds has its present value, any other what its command gives where v is the value of each line.
abbrev pub value_from : (ℕ → Command) → Moment → ℕ → (ℕ → ℤ) → ℤ
value_from c now n v =
    applied (c n) (now.lines n) (at (valued now v) (source_a (c n))) (at (valued now v) (source_b (c n)))

-- The diagram value of line n is z.
pub data Stands (c : ℕ → Command) (now : Moment) : ℕ → ℤ → Type 0 where
  stands : {n : ℕ} {z : ℤ} → remembering (c n) ≡ false → (v : ℕ → ℤ) → ((k : ℕ) → Feeds c n k → Stands c now k (v k)) → z ≡ value_from c now n v → Stands c now n z
