-- The bodies of an accepted contents list lie within the parcel.
use Rattle.std.proofs.Common.{◌≡◌, ℕ, ◌+◌, ◌≤◌, true, cond, eqb, List, [], ◌∷◌, Some, None, Option, inl, inr, sym, ap, arith}
use Rattle.std.proofs.lemmas.Bool.Decides.{nat_tests}
use Rattle.std.proofs.lemmas.Bool.{and_parts, cases_Bool, eqb-true, false≢true}
use Rattle.parcel.specs.declared.contents.Entry.{Entry}
use Rattle.parcel.specs.declared.contents.Kind.{Kind}
use Rattle.parcel.specs.declared.contents.Kind.TheVariants.{Codes, Sr1, Sr2, Table}
use Rattle.parcel.specs.Verdicts.{taken, question}
use Rattle.parcel.specs.Contents.{named, present, sized, size_of, ends, begins, kinds_lawful, lawful, bodies_asked, places_of, Within}
use Rattle.parcel.proofs.Taken.{then-taken, question_taken}

pub ends_le : (es : List Entry) (from : ℕ) → from ≤ ends es from
ends_le [] from = omega arith
ends_le (e ∷ es) from = omega (arith, ends_le es (from + e.size))

named_size : (k : Kind) (m : Option Kind) → named k m ≡ true → size_of m ≡ size_of (Some k)
named_size k None e = absurd (false≢true e)
named_size k (Some l) e = ap (λ n. cond (eqb n 4) 34 256) (sym (eqb-true _ _ e))

pub body_fits : (k : Kind) (es : List Entry) (from : ℕ) → present k es ≡ true → sized es ≡ true → begins k es from + size_of (Some k) ≤ ends es from
body_fits k [] from there fit = absurd (false≢true there)
body_fits k (e ∷ es) from there fit =
    let rest = body_fits k es (from + e.size) in
    let le = ends_le es (from + e.size) in
    let size = named_size k e.kind in
    grind (arith, nat_tests)

module _ (es : List Entry) (from n : ℕ) (yes : bodies_asked es from n ≡ taken) where
  kinds_sizes_end : (kinds_lawful es ≡ true) × (sized es ≡ true) × (ends es from ≡ n)
  kinds_sizes_end =
      let p = then-taken (question 13 None (kinds_lawful es)) _ yes in
      let q = then-taken (question 14 None (sized es)) _ p.1 in
      (question_taken 13 None _ p.0, question_taken 14 None _ q.0, eqb-true _ _ (question_taken 15 None _ q.1))

  pub bodies_within : Within (places_of es from) n
  bodies_within =
      let f = kinds_sizes_end in
      let there = (and_parts _ (lawful es) f.0).0 in
      let p1 = and_parts (present Codes es) _ there in
      let p2 = and_parts (present Sr1 es) (present Sr2 es) p1.1 in
      record {
        codes = omega (arith, f.2, body_fits Codes es from p1.0 f.1);
        sr1 = omega (arith, f.2, body_fits Sr1 es from p2.0 f.1);
        sr2 = omega (arith, f.2, body_fits Sr2 es from p2.1 f.1);
        table =
            elim (cases_Bool (present Table es)) [
              | inl e ↦ rw e (omega (arith, f.2, body_fits Table es from e f.1))
              | inr e ↦ rw e tt
            ];
      }
