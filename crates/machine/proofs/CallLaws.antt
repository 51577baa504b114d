-- What a new machine, load, recall and new bits make of the lines that the arrays stand for.
use Rattle.std.proofs.Common.{◌≡◌, ℕ, ◌+◌, ◌<◌, ◌≤◌, Bool, true, false, ltb, List, length, get_or, map, replicate, ℤ, pos, negsuc, int_lt, None, sym, refl, ap, ◌∙◌, subst, ⊎_elim, arith}
use mathlib.Core.Path.{fun_ext}
use Rattle.std.proofs.Math.ListN.{get_or-map}
use Rattle.std.proofs.lemmas.List.{get_or_past}
use Rattle.std.proofs.lemmas.Int.{ints}
use Rattle.std.proofs.lemmas.Bool.{cases_lt, cond-true, cond-false, lt-ltb, le-ltb}
use Rattle.commands.specs.declared.command.Analog.{Analog}
use Rattle.commands.specs.declared.command.Binary.{Binary}
use Rattle.commands.specs.declared.command.Binary.TheVariants as bit
use Rattle.lines.specs.declared.program.Work.{Work}
use Rattle.lines.specs.declared.program.Program.{Program}
use Rattle.lines.specs.declared.program.Sources.{Sources}
use Rattle.lines.specs.View.{holds, Held}
use Rattle.lines.specs.Board.{command_of}
use Rattle.lines.specs.Commands.{binary_view, divides_by}
use Rattle.lines.specs.Programs.{idle_analog, idle_binary}
use Rattle.lines.proofs.SoundLaws.{slice_index_or-all, zero_in}
use Rattle.lines.proofs.WorkLaws.{keeps_zero}
use Rattle.machine.specs.declared.values.AnalogValue.{AnalogValue}
use Rattle.machine.specs.declared.values.Values.{Values}
use Rattle.machine.specs.Lines.{Brought, analog_held, binary_held, blank, lines_of}
use Rattle.machine.specs.Sound.{AllSound, Sound}
use Rattle.machine.specs.Cycle.{together, worked_at}
use Rattle.machine.specs.State.{IsRestored, defaulted, within_limit, without_remainder}
use Rattle.machine.proofs.PlaceLaws.{by_line, command_analog, command_binary, lines_analog, lines_binary}

-- ---- a new machine

sound_blank : (c : Analog) → Sound c blank
sound_blank c = record { reading = zero_in; remainder = keeps_zero (divides_by c) }

pub all_blank : (works : List (Work Analog)) (n : ℕ) → AllSound works (replicate n blank)
all_blank works n k = subst (Sound (get_or works k idle_analog).command) (sym (slice_index_or-all n k blank)) (sound_blank _)

pub fresh_lines : lines_of (record { analog = replicate 192 blank; bits = replicate 64 false }) ≡ (λ k. analog_held blank)
fresh_lines =
    let v : Values = record { analog = replicate 192 blank; bits = replicate 64 false } in
    fun_ext
    (by_line (λ k. lines_of v k ≡ analog_held blank)
    (λ k h. lines_binary v k h ∙ ap binary_held (slice_index_or-all 64 k false))
    (λ i. lines_analog v i ∙ ap analog_held (slice_index_or-all 192 i blank)))

-- ---- analog values given anew

-- where each binary line would keep its bit, and each analog line has its new value, all lines are changed as f says
pub lines_changed : (v : Values) (xs : List AnalogValue) (f : ℕ → Held → Held) → ((k : ℕ) (b : Bool) → k < 64 → binary_held b ≡ f k (binary_held b)) → ((i : ℕ) → analog_held (get_or xs i blank) ≡ f (64 + i) (analog_held (get_or v.analog i blank))) → lines_of (record { analog = xs; bits = v.bits }) ≡ (λ k. f k (lines_of v k))
lines_changed v xs f b a =
    let new : Values = record { analog = xs; bits = v.bits } in
    fun_ext
    (by_line (λ k. lines_of new k ≡ f k (lines_of v k))
    (λ k h. lines_binary new k h ∙ b k (get_or v.bits k false) h ∙ ap (f k) (sym (lines_binary v k h)))
    (λ i. lines_analog new i ∙ a i ∙ ap (f (64 + i)) (sym (lines_analog v i))))

-- ---- load

pub lines_cleared : (v : Values) → lines_of (record { analog = map without_remainder v.analog; bits = v.bits }) ≡ (λ k. record { value = (lines_of v k).value; remainder = pos 0 })
lines_cleared v =
    lines_changed v (map without_remainder v.analog) (λ k x. record { value = x.value; remainder = pos 0 }) (λ k b h. refl)
    (λ i. ap analog_held (get_or-map without_remainder v.analog i blank))

pub cleared_sound : (old new : List (Work Analog)) (vs : List AnalogValue) → AllSound old vs → AllSound new (map without_remainder vs)
cleared_sound old new vs h k =
    let c = (get_or new k idle_analog).command in
    subst (Sound c) (sym (get_or-map without_remainder vs k blank)) (record { reading = (h k).reading; remainder = keeps_zero (divides_by c) })

-- ---- recall

-- a binary line has no default
binary_default : (c : Binary) (s : Sources) (x : Held) → x ≡ defaulted (binary_view c s) x
binary_default bit.Nop s x = refl
binary_default bit.Btn s x = refl
binary_default bit.Bti s x = refl
binary_default bit.Ann s x = refl
binary_default bit.Ani s x = refl
binary_default bit.Ain s x = refl
binary_default bit.Aii s x = refl
binary_default bit.Onn s x = refl
binary_default bit.Oni s x = refl
binary_default bit.Oin s x = refl
binary_default bit.Oii s x = refl
binary_default bit.Xnn s x = refl
binary_default bit.Xni s x = refl
binary_default bit.Frs s x = refl
binary_default bit.Cgt s x = refl
binary_default bit.Cgh s x = refl

pub no_command : (p : Program) (k : ℕ) → 256 ≤ k → command_of p k ≡ holds None
no_command p k h = cond-false (ltb k 256) _ (holds None) (le-ltb k 256 h)

pub lines_restored : (p : Program) (v : Values) (new : List AnalogValue) → length v.analog ≡ 192 → length new ≡ 192 → ((k : ℕ) → k < 192 → IsRestored (get_or p.analog k idle_analog) (get_or v.analog k blank) (get_or new k blank)) → lines_of (record { analog = new; bits = v.bits }) ≡ (λ k. defaulted (command_of p k) (lines_of v k))
unfolding IsRestored
lines_restored p v new l m h =
    lines_changed v new (λ k x. defaulted (command_of p k) x)
    (λ k b lt. let w = get_or p.binary k idle_binary in binary_default w.command w.sources (binary_held b) ∙ (λ j. defaulted (sym (command_binary p k lt) j) (binary_held b)))
    (λ i. ⊎_elim
    (λ lt. (h i lt).0 p.table ∙ (λ j. defaulted (sym (command_analog p i lt) j) (analog_held (get_or v.analog i blank))))
    (λ ge. ap analog_held (get_or_past new i blank (omega arith)) ∙ ap analog_held (sym (get_or_past v.analog i blank (omega arith))) ∙ (λ j. defaulted (sym (no_command p (64 + i) (omega arith)) j) (analog_held (get_or v.analog i blank))))
    (cases_lt i 192))

-- past the end of both arrays stands a value that is sound of any line
pub restored_sound : (works : List (Work Analog)) (old new : List AnalogValue) → length new ≡ 192 → ((k : ℕ) → k < 192 → IsRestored (get_or works k idle_analog) (get_or old k blank) (get_or new k blank)) → AllSound works new
unfolding IsRestored
restored_sound works old new l h k =
    let c = (get_or works k idle_analog).command in
    ⊎_elim (λ lt. (h k lt).1) (λ ge. subst (Sound c) (sym (get_or_past new k blank (omega arith))) (sound_blank c)) (cases_lt k 192)

-- ---- new bits

module _ (p : Program) (f : ℕ) (s : Brought) (v : Values) (bits : List Bool) (h : (k : ℕ) → k < 64 → binary_held (get_or bits k false) ≡ worked_at (command_of p) f s (lines_of v) k) where
  -- the new bits beside the analog values are the binary lines worked together
  pub lines_decided : lines_of (record { analog = v.analog; bits = bits }) ≡ together (command_of p) f s (lines_of v)
  unfolding together
  lines_decided =
      let new : Values = record { analog = v.analog; bits = bits } in
      fun_ext
      (by_line (λ k. lines_of new k ≡ together (command_of p) f s (lines_of v) k)
      (λ k lt. lines_binary new k lt ∙ h k lt ∙ sym (cond-true (ltb k 64) (worked_at (command_of p) f s (lines_of v) k) (lines_of v k) (lt-ltb k 64 lt)))
      (λ i. lines_analog new i ∙ sym (lines_analog v i) ∙ sym (cond-false (ltb (64 + i) 64) (worked_at (command_of p) f s (lines_of v) (64 + i)) (lines_of v (64 + i)) (le-ltb (64 + i) 64 (omega arith)))))

-- ---- adjust

pub within_from : (z : ℤ) → int_lt z (negsuc 31983) ≡ false → int_lt (pos 31984) z ≡ false → within_limit z ≡ true
within_from z low high = grind (arith, ints)
