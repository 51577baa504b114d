-- The old line put back in the place of a new one: the parcel is as before, whatever the three places are.
use Rattle.std.proofs.Common.{◌≡◌, ℕ, ◌<◌, ◌≢◌, List, length, get_or, set, Option, sym, ap, ◌∙◌, ⊎_elim, arith}
use Rattle.std.proofs.lemmas.List.{ext_get_or, length-set, get_or-set_same, get_or-set_other}
use Rattle.std.proofs.lemmas.Bool.{cases_eq}
use Rattle.parcel.specs.declared.line.LineBytes.{LineBytes}
use Rattle.parcel.specs.declared.bodies.Places.{Places}
use Rattle.parcel.specs.Verdicts.{Verdict, refused}
use Rattle.parcel.specs.Lines.{line_in}
use Rattle.parcel.specs.Trial.{with_line, kept}

-- a write of what stands in ys
mended : (xs ys : List ℕ) (i m : ℕ) → m < length xs → (m ≢ i → get_or xs m 0 ≡ get_or ys m 0) → get_or (set xs i (get_or ys i 0)) m 0 ≡ get_or ys m 0
mended xs ys i m h other =
    ⊎_elim
    (λ e. ap (λ k. get_or (set xs i (get_or ys i 0)) k 0) e ∙ get_or-set_same xs i (get_or ys i 0) 0 (omega arith) ∙ ap (λ k. get_or ys k 0) (sym e))
    (λ ne. get_or-set_other xs i m (get_or ys i 0) 0 ne ∙ other ne)
    (cases_eq m i)

untouched : (p : List ℕ) (at : Places) (l : LineBytes) (m : ℕ) → m ≢ at.code → m ≢ at.sr1 → m ≢ at.sr2 → get_or (with_line p at l) m 0 ≡ get_or p m 0
untouched p at l m n0 n1 n2 = rw (get_or-set_other, get_or-set_other, get_or-set_other)

pub restored : (p : List ℕ) (at : Places) (l : LineBytes) → with_line (with_line p at l) at (line_in p at) ≡ p
restored p at l =
    ext_get_or 0 _ p (simp length-set)
    (λ m h.
    let h : m < length p = simp length-set at h in
    mended _ p at.sr2 m (simp length-set h) (λ n2.
    mended _ p at.sr1 m (simp length-set h) (λ n1.
    mended _ p at.code m (simp length-set h) (λ n0.
    untouched p at l m n0 n1 n2))))

-- the guard's way out after a refusal: q is what stood under the exchange, v the trial's verdict
pub put_back : (p q : List ℕ) (at : Places) (l old : LineBytes) (n : ℕ) (a : Option ℕ) (v : Verdict) (new : List ℕ) → q ≡ with_line p at l → old ≡ line_in p at → refused n a ≡ v → with_line q at old ≡ kept v new p
put_back p q at l old n a v new eq eo ev = rw (eq, eo, sym ev) (restored p at l)
