-- The sample waits: what one line waits, by its command and what its sources wait.
use Rattle.std.proofs.Common.{◌≡◌, ℕ, suc, ◌<◌, ◌≤◌, max, false, cond, ltb, ℤ, sym, refl, ap, ◌∙◌, subst, ap₂, arith, lit<, lit≤}
use Rattle.std.proofs.lemmas.Bool.{cond-true, cond-false, lt-ltb, le-ltb}
use Rattle.commands.specs.declared.command.Analog.{Analog}
use Rattle.commands.specs.declared.command.Analog.TheVariants as an
use Rattle.commands.specs.declared.command.Binary.{Binary}
use Rattle.commands.specs.declared.command.Binary.TheVariants as bit
use Rattle.commands.specs.Properties.{analog_operands, binary_operands}
use Rattle.parcel.specs.declared.line.Line as row
use Rattle.parcel.specs.declared.configuration.Configuration.{Configuration}
use Rattle.lines.specs.declared.source.Source.{Source}
use Rattle.lines.specs.declared.source.Source.TheVariants.{Fixed, Line, Input, Switch}
use Rattle.lines.specs.View.{Command, gives, holding, remembering, source_a, source_b}
use Rattle.lines.specs.Programs.{analog_work, binary_work, sources_of}
use Rattle.lines.specs.Commands.{analog_view, binary_view}
use Rattle.lines.specs.Board.{analog_command, binary_command, command_in}
use Rattle.lines.specs.Order.{before, descending}
use Rattle.lines.specs.Diagram.{Feeds, as_a, as_b, itself, Reaches, adds, Waits, waits}
use Rattle.lines.specs.SampleWaits.{AnalogIs, BinaryIs, WaitIs, SampleWaits}
use Rattle.lines.proofs.OrderLaws.{before_analog, before_binary}

-- ---- what one line waits

module _ (c : ℕ → Command) where
  -- the line that a source names, if it names one, waits t
  abbrev SourceWaits : Source → ℕ → Type 0
  SourceWaits (Line k) t = Waits c descending k t
  SourceWaits (Input i) t = Unit {0}
  SourceWaits (Switch i) t = Unit {0}
  SourceWaits (Fixed x) t = Unit {0}

  source_waits : (s : Source) (t k : ℕ) → SourceWaits s t → s ≡ Line k → Waits c descending k t
  source_waits (Line j) t k h e = let i : j ≡ k = cc in subst (λ (i : ℕ). Waits c descending i t) i h
  source_waits (Input j) t k h e = let z : ◌≡◌ {A = ℕ} 0 1 = cc in absurd (omega arith)
  source_waits (Switch j) t k h e = let z : ◌≡◌ {A = ℕ} 0 1 = cc in absurd (omega arith)
  source_waits (Fixed x) t k h e = let z : ◌≡◌ {A = ℕ} 0 1 = cc in absurd (omega arith)

  -- a line that computes, whose source lines wait t, and whose sources add x and y
  one_line : (n t x y : ℕ) (f : ℤ → ℤ → ℤ) (a b : Source) → c n ≡ gives f a b → SourceWaits a t → SourceWaits b t → adds c descending n (λ _. t) a ≡ x → adds c descending n (λ _. t) b ≡ y → Waits c descending n (max 1 (max x y))
  one_line n t x y f a b e p q u v =
      let more = adds c descending n (λ _. t) in
      let wait = λ (k : Command). cond (holding k) 0 (max 1 (max (more (source_a k)) (more (source_b k)))) in
      waits (ap remembering e) (λ _. t) each (sym (ap wait e ∙ ap₂ (λ (i j : ℕ). max 1 (max i j)) u v))
    where
      each : (k : ℕ) → Feeds c n k → Waits c descending k t
      each k (as_a i) = source_waits a t k p (sym (ap source_a e) ∙ i)
      each k (as_b i) = source_waits b t k q (sym (ap source_b e) ∙ i)

  -- a source line that computes, and is not worked before line n, adds its wait and 1
  later_line : (n t k : ℕ) (f : ℤ → ℤ → ℤ) (a b : Source) → c k ≡ gives f a b → before descending k n ≡ false → adds c descending n (λ _. t) (Line k) ≡ suc t
  later_line n t k f a b e h = cond-false (holding (c k)) 1 _ (ap holding e) ∙ cond-false (before descending k n) t (suc t) h

-- ---- the command of one line

command_in-analog : (c : Configuration) (n : ℕ) (m : Analog) (a b : ℕ) → 0x40 ≤ n → n < 256 → AnalogIs c n m a b → command_in c n ≡ analog_view c.table m (sources_of (analog_operands m) a b)
command_in-analog c n m a b l h e =
    cond-true (ltb n 256) _ _ (lt-ltb n 256 h) ∙ cond-false (ltb n 0x40) _ _ (le-ltb n 0x40 l) ∙ ap (λ (w : row.Line Analog). analog_command c.table (analog_work w)) e

command_in-binary : (c : Configuration) (n : ℕ) (m : Binary) (a b : ℕ) → n < 0x40 → BinaryIs c n m a b → command_in c n ≡ binary_view m (sources_of (binary_operands m) a b)
command_in-binary c n m a b h e =
    cond-true (ltb n 256) _ _ (lt-ltb n 256 (omega arith)) ∙ cond-true (ltb n 0x40) _ _ (lt-ltb n 0x40 h) ∙ ap (λ (w : row.Line Binary). binary_command (binary_work w)) e

-- ---- the samples

copies : (c : Configuration) (x y z : ℕ) → AnalogIs c 0x70 an.Dir 0x60 x → AnalogIs c 0x60 an.Dir 0x50 y → AnalogIs c 0x50 an.Dir 0x3F z → WaitIs c 0x70 3 × WaitIs c 0x60 2 × WaitIs c 0x50 1
copies c x y z a70 a60 a50 =
    let k = command_in c in
    let k70 = command_in-analog c 0x70 an.Dir 0x60 x (lit≤ tt) (lit< tt) a70 in
    let k60 = command_in-analog c 0x60 an.Dir 0x50 y (lit≤ tt) (lit< tt) a60 in
    let k50 = command_in-analog c 0x50 an.Dir 0x3F z (lit≤ tt) (lit< tt) a50 in
    let later60 = before_analog 0x60 0x70 (lit≤ tt) (lit< tt) (lit< tt) in
    let later50 = before_analog 0x50 0x60 (lit≤ tt) (lit< tt) (lit< tt) in
    let w50 = one_line k 0x50 0 1 1 _ _ _ k50 tt tt refl refl in
    let w60 = one_line k 0x60 1 2 1 _ _ _ k60 w50 tt (later_line k 0x60 1 0x50 _ _ _ k50 later50) refl in
    let w70 = one_line k 0x70 2 3 1 _ _ _ k70 w60 tt (later_line k 0x70 2 0x60 _ _ _ k60 later60) refl in
    (w70, w60, w50)

gated : (c : Configuration) (x y : ℕ) → BinaryIs c 0x04 bit.Btn 0xA0 x → BinaryIs c 0x05 bit.Btn 0x04 y → AnalogIs c 0x60 an.Szl 0x3F 0x05 → WaitIs c 0x04 1 × WaitIs c 0x05 2 × WaitIs c 0x60 3
gated c x y b04 b05 a60 =
    let k = command_in c in
    let k04 = command_in-binary c 0x04 bit.Btn 0xA0 x (lit< tt) b04 in
    let k05 = command_in-binary c 0x05 bit.Btn 0x04 y (lit< tt) b05 in
    let k60 = command_in-analog c 0x60 an.Szl 0x3F 0x05 (lit≤ tt) (lit< tt) a60 in
    let w04 = one_line k 0x04 0 1 1 _ _ _ k04 tt tt refl refl in
    let w05 = one_line k 0x05 1 2 1 _ _ _ k05 w04 tt (later_line k 0x05 1 0x04 _ _ _ k04 (before_binary 0x04 0x05 (lit< tt))) refl in
    let w60 = one_line k 0x60 2 1 3 _ _ _ k60 tt w05 refl (later_line k 0x60 2 0x05 _ _ _ k05 (before_binary 0x05 0x60 (lit< tt))) in
    (w04, w05, w60)

loop : (c : Configuration) → AnalogIs c 0x80 an.Add 0x80 0x3F → Reaches (command_in c) 0x80 0x80
loop c a80 = (0x80, as_a (ap source_a (command_in-analog c 0x80 an.Add 0x80 0x3F (lit≤ tt) (lit< tt) a80)), itself)

unused_byte : (c : Configuration) → AnalogIs c 0x80 an.Dir 0x3F 0x80 → WaitIs c 0x80 1
unused_byte c a80 =
    one_line (command_in c) 0x80 0 1 1 _ _ _ (command_in-analog c 0x80 an.Dir 0x3F 0x80 (lit≤ tt) (lit< tt) a80) tt tt refl refl

pub sample_waits : SampleWaits
sample_waits = record { copies = copies; gated = gated; loop = loop; unused_byte = unused_byte }
