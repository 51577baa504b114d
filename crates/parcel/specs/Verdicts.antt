-- What load's questions answer: taken, or refused with a number and, from 21 to 24, a line's address.
use Rattle.std.specs.Prelude.{ℕ, Bool, true, false, Some, None, Ok, Err, Option, Result}
use Rattle.parcel.specs.declared.refusal.Refusal.{Refusal}
use Rattle.parcel.specs.declared.refusal.Refusal.TheVariants.{BadCount, ListCut, BadKinds, BadLengths, BadEnd, BadCode, BadPlace, NoTable, OverRange}

-- taken, or refused
pub data Verdict : Type 0 where
  taken : Verdict
  refused : (number : ℕ) (address : Option ℕ) → Verdict

-- one question: a no gives its number
abbrev pub question : (number : ℕ) (address : Option ℕ) → Bool → Verdict
question n a true = taken
question n a false = refused n a

-- the first no decides
infixr 20 ◌then◌
abbrev pub ◌then◌ : Verdict → Verdict → Verdict
taken then v = v
refused n a then v = refused n a

-- the number of each refusal
abbrev pub number_of : Refusal → ℕ
number_of BadCount = 11
number_of ListCut = 12
number_of BadKinds = 13
number_of BadLengths = 14
number_of BadEnd = 15
number_of (BadCode a) = 21
number_of (BadPlace a) = 22
number_of (NoTable a) = 23
number_of (OverRange a) = 24

-- the line that a refusal names
abbrev pub address_of : Refusal → Option ℕ
address_of BadCount = None
address_of ListCut = None
address_of BadKinds = None
address_of BadLengths = None
address_of BadEnd = None
address_of (BadCode a) = Some a
address_of (BadPlace a) = Some a
address_of (NoTable a) = Some a
address_of (OverRange a) = Some a

-- a result as a verdict
abbrev pub verdict : {X : Type 0} → Result X Refusal → Verdict
verdict (Ok x) = taken
verdict (Err e) = refused (number_of e) (address_of e)
