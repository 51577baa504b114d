-- The questions line by line: a step on, and the first line with a no.
use Rattle.std.proofs.Common.{◌≡◌, ℕ, zero, suc, ◌+◌, ◌-◌, ◌<◌, Bool, List, is_some, Option, refl, ap, ◌∙◌, subst, add-one, arith}
use native.Mathlib.Numerals.{unary_clauses}
use Rattle.parcel.specs.declared.line.LineBytes.{LineBytes}
use Rattle.parcel.specs.declared.contents.Directory.{Directory}
use Rattle.parcel.specs.Verdicts.{Verdict, taken, refused, ◌then◌}
use Rattle.parcel.specs.Lines.{lines_asked, line_asked, line_at, bytes_at}

module _ (p : List ℕ) (d : Directory) where
  pub lines_none : lines_asked p d 0 ≡ taken
  unfolding lines_asked
  lines_none = refl

  pub lines_more : (n : ℕ) → lines_asked p d (n + 1) ≡ (lines_asked p d n then line_at p d n)
  unfolding lines_asked
  lines_more n = rw add-one

  refused_on : (i m k : ℕ) (a : Option ℕ) → lines_asked p d i ≡ refused k a → lines_asked p d (i + m) ≡ refused k a
  unfolding lines_asked
  refused_on i zero k a e = simp unary_clauses e
  refused_on i (suc m) k a e = simp unary_clauses (rw (refused_on i m k a e))

  -- the lines below i are in order, and line i is not
  pub first_no : (i n k : ℕ) (a : Option ℕ) → i < n → lines_asked p d i ≡ taken → line_at p d i ≡ refused k a → lines_asked p d n ≡ refused k a
  first_no i n k a lt below here =
      let now : lines_asked p d (i + 1) ≡ refused k a = lines_more i ∙ ap (λ v. v then line_at p d i) below ∙ here in
      let e : (i + 1) + (n - (i + 1)) ≡ n = omega arith in
      subst (λ m. lines_asked p d m ≡ refused k a) e (refused_on (i + 1) (n - (i + 1)) k a now)

  -- what was asked of the line's bytes is what the parcel's line is asked
  pub line_answer : (a : ℕ) (table : Bool) (b : LineBytes) (v : Verdict) → table ≡ is_some d.table → b ≡ bytes_at p d a → v ≡ line_asked table a b → v ≡ line_at p d a
  line_answer a table b v et eb ev = ev ∙ ap (λ t. line_asked t a b) et ∙ ap (line_asked (is_some d.table) a) eb
