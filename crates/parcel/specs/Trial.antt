-- A trial: one line's three bytes are exchanged, and stay if the parcel is still taken.
use Rattle.std.specs.Prelude.{ℕ, List, None, Option, Some, slice_set}
use Rattle.parcel.specs.declared.line.LineBytes.{LineBytes}
use Rattle.parcel.specs.declared.bodies.Places.{Places}
use Rattle.parcel.specs.Verdicts.{Verdict, taken, refused, ◌then◌}
use Rattle.parcel.specs.Contents.{directory_of}
use Rattle.parcel.specs.Lines.{places_in}
use Rattle.parcel.specs.Parcel.{asked}

-- a parcel with others in their places
abbrev pub with_line : List ℕ → Places → LineBytes → List ℕ
with_line p at l = slice_set (slice_set (slice_set p at.code l.code) at.sr1 l.sr1) at.sr2 l.sr2

-- a parcel with the old ones back, if there are any to put back
abbrev pub with_old : List ℕ → Places → Option LineBytes → List ℕ
with_old p at None = p
with_old p at (Some l) = with_line p at l

-- the parcel with the new line
abbrev pub exchanged : List ℕ → (line : ℕ) → LineBytes → List ℕ
exchanged p a l = with_line p (places_in (directory_of p) a) l

-- what a trial answers: load's questions to the parcel as it is, and then with the new line
abbrev pub tried : List ℕ → (line : ℕ) → LineBytes → Verdict
tried p a l = asked p then asked (exchanged p a l)

-- and the bytes that then stand
abbrev pub kept : Verdict → (new old : List ℕ) → List ℕ
kept taken new old = new
kept (refused n a) new old = old
