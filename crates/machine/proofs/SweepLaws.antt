-- A sweep over the arrays is the sweep over the lines that they stand for.
use Rattle.std.proofs.Common.{◌≡◌, ℕ, zero, suc, ◌+◌, ◌<◌, ◌≤◌, eqb, List, [], ◌∷◌, length, get_or, set, sym, refl, ap, ◌∙◌, ⊎_elim, arith, get_or-set_other, get_or-set_same}
use mathlib.Core.Path.{fun_ext}
use Rattle.std.proofs.lemmas.Bool.{cases_Bool, cond-true, cond-false, eqb-true, eqb-false}
use Rattle.lines.specs.Order.{countdown}
use Rattle.machine.specs.declared.values.AnalogValue.{AnalogValue}
use Rattle.machine.specs.declared.values.Values.{Values}
use Rattle.machine.specs.Lines.{Brought, analog_held, blank, lines_of}
use Rattle.machine.specs.Cycle.{put, swept}
use Rattle.machine.specs.State.{State, line_worked, swept_lines}
use Rattle.machine.proofs.PlaceLaws.{by_line, lines_analog, lines_binary}

-- what holds of each element still holds when one is replaced
pub all_set : {X : Type 0} (d : X) (P : ℕ → X → Type 0) (xs : List X) (i : ℕ) (x : X) → ((k : ℕ) → P k (get_or xs k d)) → P i x → (k : ℕ) → P k (get_or (set xs i x) k d)
all_set d P [] i x p w k = p k
all_set d P (y ∷ ys) zero x p w zero = w
all_set d P (y ∷ ys) zero x p w (suc k) = p (suc k)
all_set d P (y ∷ ys) (suc i) x p w zero = p zero
all_set d P (y ∷ ys) (suc i) x p w (suc k) = all_set d (λ j. P (suc j)) ys i x (λ j. p (suc j)) w k

module _ (v : Values) (i : ℕ) (x : AnalogValue) (lt : i < length v.analog) where
  placed : Values
  placed = record { analog = set v.analog i x; bits = v.bits }

  elsewhere : (k : ℕ) → (64 + i ≡ k → ⊥) → lines_of placed k ≡ lines_of v k
  unfolding placed
  elsewhere =
      by_line (λ k. (64 + i ≡ k → ⊥) → lines_of placed k ≡ lines_of v k)
      (λ k h n. lines_binary placed k h ∙ sym (lines_binary v k h))
      (λ k n. lines_analog placed k ∙ ap analog_held (get_or-set_other v.analog i k x blank (λ e. n (omega arith))) ∙ sym (lines_analog v k))

  -- a value at place i is that value on line 64 + i
  pub lines_placed : lines_of (record { analog = set v.analog i x; bits = v.bits }) ≡ put (lines_of v) (64 + i) (analog_held x)
  unfolding placed
  lines_placed =
      fun_ext (λ k. ⊎_elim
      (λ t. ap (lines_of placed) (sym (eqb-true (64 + i) k t)) ∙ lines_analog placed i ∙ ap analog_held (get_or-set_same v.analog i x blank lt) ∙ sym (cond-true (eqb (64 + i) k) (analog_held x) (lines_of v k) t))
      (λ t. elsewhere k (eqb-false (64 + i) k t) ∙ sym (cond-false (eqb (64 + i) k) (analog_held x) (lines_of v k) t))
      (cases_Bool (eqb (64 + i) k)))

-- one turn: line i is worked, and those below it are left
pub turn : (s : Brought) (m new : State) (n i : ℕ) → n ≡ suc i → new ≡ line_worked s (64 + i) m → swept_lines s (countdown 64 i) new ≡ swept_lines s (countdown 64 n) m
unfolding swept
turn s m new n i e w =
    ap (swept_lines s (countdown 64 i)) w ∙ ap (λ (k : ℕ). swept_lines s (countdown 64 k) m) (sym e)

pub none_left : (s : Brought) (m : State) (n : ℕ) → n ≤ 0 → m ≡ swept_lines s (countdown 64 n) m
unfolding swept
none_left s m zero h = refl
none_left s m (suc n) h = absurd (omega arith)
