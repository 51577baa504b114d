-- One step of each definition over a run, and the inputs of a sample.
use Rattle.std.proofs.Common.{◌≡◌, ℕ, ◌+◌, ◌%◌, ◌<◌, List, map, ℤ, pos, length, get_or, refl, ap, ◌∙◌, arith, add-one, FitsSigned, to_z, of_z, w16}
use Rattle.std.specs.List.{range_with_len}
use Rattle.std.proofs.lemmas.Int.{ints, clamps, to_z-of_z}
use Rattle.std.proofs.lemmas.List.FromFn.{fill_by_all}
use Rattle.readings.specs.Range.{clamped, highest, lowest}
use Rattle.machine.specs.Lines.{Brought}
use Rattle.machine.specs.Outputs.{outputs_of}
use Rattle.terminals.specs.Meaning.{OutputValues}
use Rattle.machine.specs.State.{State, cycled}
use Rattle.cycles.specs.Sums.{next, after, drawn, input_of, sample_after, with, with_outputs, number_at, with_lines, cycle_more, run_of}

pub after_more : (n s : ℕ) → next (after n s) ≡ after (n + 1) s
unfolding after
after_more n s = rw add-one refl

pub lines_more : (sum : ℕ) (m : State) (k : ℕ) → with (with_lines sum m k) (number_at k (m.lines k).value) ≡ with_lines sum m (k + 1)
unfolding with_lines
lines_more sum m k = rw add-one refl

pub line_added : (sum : ℕ) (m : State) (k done number total : ℕ) → done ≡ with_lines sum m k → number ≡ number_at k (m.lines k).value → total ≡ with done number → total ≡ with_lines sum m (k + 1)
line_added sum m k d n t p q r =
    r ∙ (ap (with d) q ∙ (ap (λ s. with s (number_at k (m.lines k).value)) p ∙ lines_more sum m k))

pub run_more : (n : ℕ) (m : State) → run_of (n + 1) m ≡ cycle_more (run_of n m)
unfolding run_of
run_more n m = rw add-one refl

pub cycle_added : (n : ℕ) (m now later : State) (seed later_seed sum later_sum : ℕ) (b : Brought) (o : OutputValues) → run_of n m ≡ record { machine = now; seed = seed; sum = sum } → later_seed ≡ after 9 seed → b ≡ sample_after seed → later ≡ cycled b now → o ≡ outputs_of later.lines → later_sum ≡ with_outputs sum o → run_of (n + 1) m ≡ record { machine = later; seed = later_seed; sum = later_sum }
cycle_added n m now later seed later_seed sum later_sum b o e s v l p q =
    run_more n m ∙ (ap cycle_more e ∙ rw q (rw p (rw l (rw v (rw s refl)))))

-- the input in a place
abbrev pub input_in : (seed place : ℕ) → ℤ
input_in s k = input_of (drawn (after (k + 1) s))

-- it stands in 16 bits as it is
pub input_kept : (s k : ℕ) → to_z w16 (of_z w16 (input_in s k)) ≡ input_in s k
input_kept s k =
    let fits : FitsSigned w16 (input_in s k) = omega (arith, ints) in to_z-of_z w16 (input_in s k) fits

-- a made-up input is a reading
pub input_is_reading : (n : ℕ) → clamped lowest highest (input_of n) ≡ input_of n
input_is_reading n = omega (arith, ints, clamps)

-- what a sample holds of inputs that are drawn one after another
pub inputs_held : (s : ℕ) (given held : List ℤ) → length held ≡ 8 → ((k : ℕ) → k < 8 → get_or given k (pos 0) ≡ input_in s k) → ((k : ℕ) → get_or held k (pos 0) ≡ clamped lowest highest (get_or given k (pos 0))) → held ≡ map (input_in s) (range_with_len 0 8)
inputs_held s given held l drawn_ones nearest =
    fill_by_all (input_in s) held 8 (pos 0) l
    (λ k h. nearest k ∙ (ap (clamped lowest highest) (drawn_ones k h) ∙ input_is_reading _))

pub sample_made : (s : ℕ) (held : List ℤ) (bits : ℕ) → held ≡ map (input_in s) (range_with_len 0 8) → bits ≡ drawn (after 9 s) % 512 → sample_after s ≡ record { inputs = held; bits = bits }
sample_made s held bits h b = rw h (rw b refl)
