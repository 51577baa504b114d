-- Every constant that a line can hold is a reading.
use Rattle.std.proofs.Common.{◌≡◌, ℕ, zero, suc, ◌+◌, ◌-◌, ◌*◌, ◌/◌, ◌%◌, ◌<◌, Bool, true, false, cond, eqb, ltb, leb, List, length, get_or, replicate, pos, None, sym, refl, ap, ◌∙◌, ap₂, ⊎_elim, arith}
use Rattle.std.proofs.lemmas.Bool.{cases_lt}
use Rattle.std.proofs.lemmas.List.{get_or_past}
use Rattle.parcel.specs.declared.line.Line as row
use mathlib.Core.Path.{fun_ext}
use Rattle.std.proofs.lemmas.Int.{ints}
use Rattle.readings.specs.Range.{InRange, signed_by}
use Rattle.commands.specs.declared.command.Analog.{Analog}
use Rattle.commands.specs.declared.command.Analog.TheVariants as an
use Rattle.commands.specs.declared.command.Binary.{Binary}
use Rattle.commands.specs.declared.command.Binary.TheVariants as bit
use Rattle.commands.specs.declared.command.Operands.{Operands}
use Rattle.commands.specs.declared.command.Operands.TheVariants as operands
use Rattle.commands.specs.declared.command.SourceKind.{SourceKind}
use Rattle.commands.specs.declared.command.SourceKind.TheVariants as kind
use Rattle.lines.specs.declared.source.Source.{Source}
use Rattle.lines.specs.declared.source.Source.TheVariants.{Fixed, Line, Input, Switch}
use Rattle.lines.specs.Sources.{reading_source, bit_source, source_of}
use Rattle.lines.specs.declared.program.Work.{Work}
use Rattle.lines.specs.View.{Command, holds, nothing}
use Rattle.lines.specs.Commands.{analog_view, binary_view}
use Rattle.lines.specs.Board.{analog_command, binary_command, by_side}
use Rattle.lines.specs.Programs.{blank, constant_in, idle, idle_analog, idle_binary, sources_of, work_of, SoundSources}

pub zero_in : InRange (pos 0)
zero_in = omega (arith, ints)

one_in : InRange (pos 1)
one_in = omega (arith, ints)

hundred_in : InRange (pos 16000)
hundred_in = omega (arith, ints)

in_cond : (b : Bool) (s t : Source) → InRange (constant_in s) → InRange (constant_in t) → InRange (constant_in (cond b s t))
in_cond true s t p q = p
in_cond false s t p q = q

signed_in : (b : Bool) (n : ℕ) → InRange (signed_by b (n % 0x8000))
signed_in true n = omega (arith, ints)
signed_in false n = omega (arith, ints)

reading_in : (a : ℕ) → InRange (constant_in (reading_source a))
reading_in a =
    let last = cond (eqb a 0x20) (Fixed (pos 16000)) (Fixed (pos 0)) in
    in_cond (leb 0x40 a) (Line a) (cond (leb 0x38 a) (Input (0x3F - a)) last) zero_in
    (in_cond (leb 0x38 a) (Input (0x3F - a)) last zero_in (in_cond (eqb a 0x20) (Fixed (pos 16000)) (Fixed (pos 0)) hundred_in zero_in))

bit_in : (a : ℕ) → InRange (constant_in (bit_source a))
bit_in a =
    let last = cond (eqb a 0xBD) (Fixed (pos 1)) (Fixed (pos 0)) in
    let upper = cond (leb 0xF8 a) (Switch (a - 0xF7)) last in
    in_cond (ltb a 0x40) (Line a) (cond (eqb a 0xA0) (Switch 0) upper) zero_in
    (in_cond (eqb a 0xA0) (Switch 0) upper zero_in
    (in_cond (leb 0xF8 a) (Switch (a - 0xF7)) last zero_in (in_cond (eqb a 0xBD) (Fixed (pos 1)) (Fixed (pos 0)) one_in zero_in)))

source_in : (x : SourceKind) (a : ℕ) → InRange (constant_in (source_of x a))
source_in kind.Reading a = reading_in a
source_in kind.Bit a = bit_in a

pub sound_sources : (o : Operands) (a b : ℕ) → SoundSources (sources_of o a b)
sound_sources operands.Unused a b = (zero_in, zero_in)
sound_sources operands.Constant a b = let n = (a + 256 * b) / 4 * 4 in (signed_in (leb 0x8000 n) n, zero_in)
sound_sources (operands.First x) a b = (source_in x a, zero_in)
sound_sources (operands.Both x y) a b = (source_in x a, source_in y b)

-- what holds of x, and of the value past the end, holds at every place of an array filled with x
pub filled : {X : Type 0} (P : X → Type 0) (n k : ℕ) (x past : X) → P x → P past → P (get_or (replicate n x) k past)
filled P zero k x past p q = q
filled P (suc n) zero x past p q = p
filled P (suc n) (suc k) x past p q = filled P n k x past p q

-- an array in which every place has x
pub slice_index_or-all : {X : Type 0} (n k : ℕ) (x : X) → get_or (replicate n x) k x ≡ x
slice_index_or-all n k x = filled (λ y. y ≡ x) n k x x refl refl

-- a program filled with lines whose command is NOP has no command
pub no_commands : (b : Work Binary) (a : Work Analog) → b.command ≡ bit.Nop → a.command ≡ an.Nop → by_side (λ k. get_or (replicate 64 b) k idle_binary) (λ k. get_or (replicate 192 a) k idle_analog) None ≡ nothing
no_commands b a p q =
    fun_ext (λ k. ap₂ (λ (x y : Command). cond (ltb k 256) (cond (ltb k 0x40) x y) (holds None)) (filled (λ (w : Work Binary). binary_command w ≡ holds None) 64 k b idle_binary (ap (λ (m : Binary). binary_view m b.sources) p) refl) (filled (λ (w : Work Analog). analog_command None w ≡ holds None) 192 (k - 0x40) a idle_analog (ap (λ (m : Analog). analog_view None m a.sources) q) refl) ∙ same (ltb k 0x40) (ltb k 256))
  where
    same : (b c : Bool) → cond c (cond b (holds None) (holds None)) (holds None) ≡ holds None
    same true true = refl
    same false true = refl
    same b false = refl

-- ---- the lines of one side with their sources resolved

-- past the end of both arrays stands a line that says nothing, and one that does nothing
pub works_at : {C : Type 0} (operands_of : C → Operands) (nop : C) → operands_of nop ≡ operands.Unused → (ls : List (row.Line C)) (ws : List (Work C)) (n : ℕ) → length ls ≡ n → length ws ≡ n → ((k : ℕ) → k < n → get_or ws k (idle nop) ≡ work_of operands_of (get_or ls k (blank nop))) → (k : ℕ) → get_or ws k (idle nop) ≡ work_of operands_of (get_or ls k (blank nop))
works_at operands_of nop none ls ws n l m h k =
    ⊎_elim (h k)
    (λ ge. get_or_past ws k (idle nop) (omega arith)
    ∙ (λ j. record { command = nop; sources = sources_of (sym none j) 0 0 })
    ∙ ap (λ x. work_of operands_of x) (sym (get_or_past ls k (blank nop) (omega arith))))
    (cases_lt k n)
