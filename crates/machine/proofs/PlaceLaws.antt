-- The lines and commands that a machine's arrays stand for, side by side.
use Rattle.std.proofs.Common.{◌≡◌, ℕ, ◌+◌, ◌-◌, ◌<◌, false, ltb, get_or, ℤ, sym, ap, ◌∙◌, subst, ⊎_elim, arith}
use Rattle.std.proofs.Math.Nat.{add-sub_cancel_left}
use Rattle.std.proofs.lemmas.Int.{ints, clamps}
use Rattle.std.proofs.lemmas.Bool.{cases_lt, cond-true, cond-false, lt-ltb, le-ltb}
use Rattle.readings.specs.Range.{InRange}
use Rattle.lines.specs.declared.program.Program.{Program}
use Rattle.lines.specs.View.{at, worked}
use Rattle.lines.specs.Board.{analog_command, binary_command, command_of}
use Rattle.lines.specs.Commands.{analog_view, binary_view, nearest, resulting}
use Rattle.lines.specs.Programs.{idle_analog, idle_binary}
use Rattle.lines.proofs.WorkLaws.{analog_worked, binary_worked}
use Rattle.machine.specs.declared.values.Values.{Values}
use Rattle.machine.specs.Lines.{Brought, analog_held, binary_held, blank, lines_of, standing}
use Rattle.machine.specs.Cycle.{worked_at}

pub command_analog : (p : Program) (i : ℕ) → i < 192 → command_of p (64 + i) ≡ analog_command p.table (get_or p.analog i idle_analog)
command_analog p i h =
    let c = λ (j : ℕ). analog_command p.table (get_or p.analog j idle_analog) in
    cond-true (ltb (64 + i) 256) _ _ (lt-ltb (64 + i) 256 (omega arith))
    ∙ cond-false (ltb (64 + i) 64) _ (c (64 + i - 64)) (le-ltb (64 + i) 64 (omega arith))
    ∙ ap c (add-sub_cancel_left 64 i)

pub command_binary : (p : Program) (k : ℕ) → k < 64 → command_of p k ≡ binary_command (get_or p.binary k idle_binary)
command_binary p k h =
    cond-true (ltb k 256) _ _ (lt-ltb k 256 (omega arith)) ∙ cond-true (ltb k 64) (binary_command (get_or p.binary k idle_binary)) _ (lt-ltb k 64 h)

pub lines_analog : (v : Values) (i : ℕ) → lines_of v (64 + i) ≡ analog_held (get_or v.analog i blank)
lines_analog v i =
    let h = λ (j : ℕ). analog_held (get_or v.analog j blank) in
    cond-false (ltb (64 + i) 64) _ (h (64 + i - 64)) (le-ltb (64 + i) 64 (omega arith)) ∙ ap h (add-sub_cancel_left 64 i)

pub lines_binary : (v : Values) (k : ℕ) → k < 64 → lines_of v k ≡ binary_held (get_or v.bits k false)
lines_binary v k h = cond-true (ltb k 64) _ (analog_held (get_or v.analog (k - 64) blank)) (lt-ltb k 64 h)

-- what holds of every binary line and of every analog one holds of all
pub by_line : (P : ℕ → Type 0) → ((k : ℕ) → k < 64 → P k) → ((i : ℕ) → P (64 + i)) → (k : ℕ) → P k
by_line P b a k =
    ⊎_elim (b k) (λ h. let e : 64 + (k - 64) ≡ k = omega arith in subst P e (a (k - 64))) (cases_lt k 64)

-- a number in range is its own reading
pub nearest_same : (z : ℤ) → InRange z → nearest z ≡ z
nearest_same z h = omega (arith, ints, clamps)

-- an analog line, worked from what stands at its sources
pub place_worked : (p : Program) (i f : ℕ) (s : Brought) (v : Values) → i < 192 → let w = get_or p.analog i idle_analog in resulting (analog_view p.table w.command w.sources) f (at (standing s (lines_of v)) w.sources.a) (at (standing s (lines_of v)) w.sources.b) (analog_held (get_or v.analog i blank)) ≡ worked_at (command_of p) f s (lines_of v) (64 + i)
place_worked p i f s v lt =
    let w = get_or p.analog i idle_analog in
    let x = analog_held (get_or v.analog i blank) in
    sym
    ((λ j. worked (command_analog p i lt j) f (standing s (lines_of v)) (lines_analog v i j))
    ∙ analog_worked p.table w.command w.sources f (standing s (lines_of v)) x)

-- a binary line, likewise
pub bit_worked : (p : Program) (k f : ℕ) (s : Brought) (v : Values) → k < 64 → let w = get_or p.binary k idle_binary in resulting (binary_view w.command w.sources) f (at (standing s (lines_of v)) w.sources.a) (at (standing s (lines_of v)) w.sources.b) (binary_held (get_or v.bits k false)) ≡ worked_at (command_of p) f s (lines_of v) k
bit_worked p k f s v lt =
    let w = get_or p.binary k idle_binary in
    sym
    ((λ j. worked (command_binary p k lt j) f (standing s (lines_of v)) (lines_binary v k lt j))
    ∙ binary_worked w.command w.sources f (standing s (lines_of v)) (binary_held (get_or v.bits k false)))
