-- What a verdict of taken says of its questions.
use Rattle.std.proofs.Common.{◌≡◌, ℕ, Bool, true, false, Option, refl, arith}
use Rattle.parcel.specs.Verdicts.{Verdict, taken, refused, question, ◌then◌}

pub then-taken : (u v : Verdict) → u then v ≡ taken → (u ≡ taken) × (v ≡ taken)
then-taken taken v e = (refl, e)
then-taken (refused n a) v e = let z : ◌≡◌ {A = ℕ} 0 1 = cc in absurd (omega arith)

pub question_taken : (n : ℕ) (a : Option ℕ) (b : Bool) → question n a b ≡ taken → b ≡ true
question_taken n a true e = refl
question_taken n a false e = let z : ◌≡◌ {A = ℕ} 0 1 = cc in absurd (omega arith)
