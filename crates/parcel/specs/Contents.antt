-- The contents list of a parcel, and where its bodies begin.
use Rattle.std.specs.Prelude.{ℕ, ◌+◌, ◌*◌, ◌≤◌, Bool, true, false, cond, not, ◌&&◌, ◌||◌, List, [], ◌∷◌, map, length, Some, None, Option, IfSome, ◌==◌, nat_le, slice_index}
use Rattle.parcel.specs.declared.contents.Entry.{Entry}
use Rattle.parcel.specs.declared.contents.Kind.{Kind}
use Rattle.parcel.specs.declared.contents.Kind.TheVariants.{Codes, Sr1, Sr2, Table}
use Rattle.parcel.specs.declared.contents.Directory.{Directory}
use Rattle.parcel.specs.Verdicts.{Verdict, question, ◌then◌}
use Rattle.std.specs.List.{range_with_len, list_any, list_all}

-- the number of a kind in a parcel
abbrev pub kind_number : Kind → ℕ
kind_number Codes = 1
kind_number Sr1 = 2
kind_number Sr2 = 3
kind_number Table = 4

-- the kind of a number; 0 and the numbers above 4 are unknown
abbrev pub kind_of : ℕ → Option Kind
kind_of n =
    cond (n == 1) (Some Codes) (cond (n == 2) (Some Sr1) (cond (n == 3) (Some Sr2) (cond (n == 4) (Some Table) None)))

-- entry i of the contents list: a kind byte and a length, its low byte first
abbrev pub entry_at : List ℕ → ℕ → Entry
entry_at p i = record { kind = kind_of (slice_index p (1 + 3 * i)); size = slice_index p (2 + 3 * i) + 256 * slice_index p (3 + 3 * i) }

-- the first n entries
unfoldable pub entries : List ℕ → ℕ → List Entry
entries p n = map (entry_at p) (range_with_len 0 n)

-- an entry's kind is k
abbrev pub named : Kind → Option Kind → Bool
named k None = false
named k (Some l) = kind_number k == kind_number l

-- a body of kind k is there
abbrev pub present : Kind → List Entry → Bool
present k es = list_any (λ e. named k e.kind) es

-- a kind is known, and none of these entries has it
abbrev pub fresh : Option Kind → List Entry → Bool
fresh None es = false
fresh (Some k) es = not (present k es)

-- no kind is unknown, and none is there twice
abbrev pub lawful : List Entry → Bool
lawful [] = true
lawful (e ∷ es) = fresh e.kind es && lawful es

-- the length of a body: the table has 17 words, the others a byte for each line
abbrev pub size_of : Option Kind → ℕ
size_of None = 256
size_of (Some k) = cond (kind_number k == 4) 34 256

-- each body has its length
abbrev pub sized : List Entry → Bool
sized es = list_all (λ e. e.size == size_of e.kind) es

-- where the last body ends, the first beginning at `from`
abbrev pub ends : List Entry → ℕ → ℕ
ends [] from = from
ends (e ∷ es) from = ends es (from + e.size)

-- where the body of kind k begins
abbrev pub begins : Kind → List Entry → ℕ → ℕ
begins k [] from = from
begins k (e ∷ es) from = cond (named k e.kind) from (begins k es (from + e.size))

-- kinds 1, 2 and 3 are there, and no kind is unknown or twice
abbrev pub kinds_lawful : List Entry → Bool
kinds_lawful es = (present Codes es && (present Sr1 es && present Sr2 es)) && lawful es

-- the questions about the bodies that are listed, the first beginning at `from`, in a parcel of n bytes
abbrev pub bodies_asked : List Entry → (from n : ℕ) → Verdict
bodies_asked es from n =
    question 13 None (kinds_lawful es) then question 14 None (sized es) then question 15 None (ends es from == n)

-- where each body begins
abbrev pub places_of : List Entry → (from : ℕ) → Directory
places_of es from = record {
  codes = begins Codes es from;
  sr1 = begins Sr1 es from;
  sr2 = begins Sr2 es from;
  table = cond (present Table es) (Some (begins Table es from)) None;
}

-- where the contents list ends, and its entries
abbrev pub list_end : List ℕ → ℕ
list_end p = 1 + 3 * slice_index p 0

-- the entries that the first byte counts
abbrev pub listed : List ℕ → List Entry
listed p = entries p (slice_index p 0)

-- the questions about the contents list, in their order
abbrev pub contents_asked : List ℕ → Verdict
contents_asked p =
    question 11 None (slice_index p 0 == 3 || slice_index p 0 == 4) then
    question 12 None (nat_le (list_end p) (length p)) then
    bodies_asked (listed p) (list_end p) (length p)

-- where the bodies of a parcel begin
abbrev pub directory_of : List ℕ → Directory
directory_of p = places_of (listed p) (list_end p)

-- the bodies lie within n bytes
pub record Within (d : Directory) (n : ℕ) : Type 0 where
  pub codes : d.codes + 256 ≤ n
  pub sr1 : d.sr1 + 256 ≤ n
  pub sr2 : d.sr2 + 256 ≤ n
  pub table : IfSome d.table (λ at. at + 34 ≤ n)
