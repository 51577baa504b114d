-- A line has one wait and one diagram value, and only a plain line has them.
use Rattle.std.proofs.Common.{◌≡◌, ℕ, suc, max, false, cond, List, ℤ, sym, refl, ap, ◌∙◌, subst, ap₂, ⊎_elim}
use Rattle.lines.specs.declared.source.Source.{Source}
use Rattle.lines.specs.declared.source.Source.TheVariants.{Fixed, Line, Input, Switch}
use Rattle.lines.specs.View.{Command, holding, remembering, source_a, source_b, Moment, at}
use Rattle.lines.specs.Order.{before}
use Rattle.lines.specs.Diagram.{as_a, as_b, Feeds, Reaches, Forgetful, LoopFree, Plain, adds, wait_from, Waits, waits, valued, applied, value_from, Stands, stands}
use Rattle.lines.specs.Facts.{Unique}
use Rattle.lines.proofs.DiagramLaws.{Diagram-split}

-- what two sets of waits have in common at the sources of a line fixes what these add
pub adds_same : (c : ℕ → Command) (order : List ℕ) (n : ℕ) (w w' : ℕ → ℕ) (s : Source) → ((k : ℕ) → s ≡ Line k → w k ≡ w' k) → adds c order n w s ≡ adds c order n w' s
adds_same c order n w w' (Line k) e =
    ap (λ (t : ℕ). cond (holding (c k)) 1 (cond (before order k n) t (suc t))) (e k refl)
adds_same c order n w w' (Input i) e = refl
adds_same c order n w w' (Switch i) e = refl
adds_same c order n w w' (Fixed x) e = refl

pub at_same : (m : Moment) (v v' : ℕ → ℤ) (s : Source) → ((k : ℕ) → s ≡ Line k → v k ≡ v' k) → at (valued m v) s ≡ at (valued m v') s
at_same m v v' (Line k) e = e k refl
at_same m v v' (Input i) e = refl
at_same m v v' (Switch i) e = refl
at_same m v v' (Fixed x) e = refl

pub wait_from_same : (c : ℕ → Command) (order : List ℕ) (n : ℕ) (w w' : ℕ → ℕ) → ((k : ℕ) → Feeds c n k → w k ≡ w' k) → wait_from c order n w ≡ wait_from c order n w'
wait_from_same c order n w w' e =
    ap₂ (λ (a b : ℕ). cond (holding (c n)) 0 (max 1 (max a b))) (adds_same c order n w w' (source_a (c n)) (λ k p. e k (as_a p))) (adds_same c order n w w' (source_b (c n)) (λ k p. e k (as_b p)))

pub value_from_same : (c : ℕ → Command) (now : Moment) (n : ℕ) (v v' : ℕ → ℤ) → ((k : ℕ) → Feeds c n k → v k ≡ v' k) → value_from c now n v ≡ value_from c now n v'
value_from_same c now n v v' e =
    ap₂ (applied (c n) (now.lines n)) (at_same now v v' (source_a (c n)) (λ k p. e k (as_a p))) (at_same now v v' (source_b (c n)) (λ k p. e k (as_b p)))

pub Waits-unique : {c : ℕ → Command} {order : List ℕ} {n t u : ℕ} → Waits c order n t → Waits c order n u → t ≡ u
Waits-unique {c} {order} {n} (waits _ w each e) (waits _ w' each' e') =
    e ∙ wait_from_same c order n w w' (λ k d. Waits-unique (each k d) (each' k d)) ∙ sym e'

pub Stands-unique : {c : ℕ → Command} {now : Moment} {n : ℕ} {x y : ℤ} → Stands c now n x → Stands c now n y → x ≡ y
Stands-unique {c} {now} {n} (stands _ v each e) (stands _ v' each' e') =
    e ∙ value_from_same c now n v v' (λ k d. Stands-unique (each k d) (each' k d)) ∙ sym e'

-- a line that settles: it does not remember, and its sources settle
data Settles (c : ℕ → Command) : ℕ → Type 0 where
  settle : {n : ℕ} → remembering (c n) ≡ false → ((k : ℕ) → Feeds c n k → Settles c k) → Settles c n

Settles-waits : {c : ℕ → Command} {order : List ℕ} {n t : ℕ} → Waits c order n t → Settles c n
Settles-waits (waits f w each e) = settle f (λ k d. Settles-waits (each k d))

Settles-stands : {c : ℕ → Command} {now : Moment} {n : ℕ} {z : ℤ} → Stands c now n z → Settles c n
Settles-stands (stands f v each e) = settle f (λ k d. Settles-stands (each k d))

Settles-forgetful : {c : ℕ → Command} {n : ℕ} → Settles c n → Forgetful c n
Settles-forgetful {c} {n} (settle f each) m d =
    ⊎_elim (λ i. subst (λ j. remembering (c j) ≡ false) i f) (λ r. Settles-forgetful (each r.0 r.1) m r.2) (Diagram-split d)

Settles-loop_free : {c : ℕ → Command} {n : ℕ} → Settles c n → LoopFree c n
Settles-loop_free {c} {n} (settle f each) m d r =
    ⊎_elim (λ i. let r' = subst (λ j. Reaches c j j) (sym i) r in Settles-loop_free (each r'.0 r'.1) n r'.2 r') (λ i. Settles-loop_free (each i.0 i.1) m i.2 r) (Diagram-split d)

pub plain_waits : {c : ℕ → Command} {order : List ℕ} {n t : ℕ} → Waits c order n t → Plain c n
plain_waits h = let s = Settles-waits h in (Settles-forgetful s, Settles-loop_free s)

pub plain_stands : {c : ℕ → Command} {now : Moment} {n : ℕ} {z : ℤ} → Stands c now n z → Plain c n
plain_stands h = let s = Settles-stands h in (Settles-forgetful s, Settles-loop_free s)

pub unique : Unique
unique =
    record { one_wait = λ c order n t u. Waits-unique; one_value = λ c now n x y. Stands-unique; waits_plain = λ c order n t. plain_waits; stands_plain = λ c now n x. plain_stands }
