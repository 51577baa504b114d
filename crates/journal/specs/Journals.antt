-- The console's journal: what each event makes of its counts, and what is printed of it.
use Rattle.std.specs.Prelude.{ℕ, zero, suc, ◌+◌, ◌-◌, ◌^◌, ◌≤◌, min, cond, Bool, nat_lt, List, [], ◌∷◌, ◌++◌, replicate, Ok, Err, codes, decimal, Result, ◌==◌, slice_index, slice_set}
use Rattle.parcel.specs.Verdicts.{number_of}
use Rattle.parcel.specs.declared.refusal.Refusal.{Refusal}
use Rattle.journal.specs.declared.journal.Traffic.{Traffic}
use Rattle.journal.specs.declared.journal.Answers.{Answers}
use Rattle.journal.specs.declared.journal.Refusals.{Refusals}
use Rattle.journal.specs.declared.journal.Journal.{Journal}

-- one more; a count stops at the highest of its type
abbrev pub counted : ℕ → ℕ
counted n = min (n + 1) (2 ^ 32 - 1)

-- one more parcel, of so many bytes
abbrev pub moved : Traffic → (bytes : ℕ) → Traffic
moved t n = record { parcels = counted t.parcels; bytes = min (t.bytes + n) (2 ^ 64 - 1) }

-- one more answer: taken or refused
abbrev pub answers_after : Answers → Result (Unit {0}) Refusal → Answers
answers_after a (Ok x) = record { given = counted a.given; taken = counted a.taken; refused = a.refused }
answers_after a (Err e) = record { given = counted a.given; taken = a.taken; refused = counted a.refused }

-- a refusal counts under its number
abbrev pub refusals_after : Refusals → Result (Unit {0}) Refusal → Refusals
refusals_after r (Ok x) = r
refusals_after r (Err e) = record { 0 = slice_set r.0 (number_of e) (counted (slice_index r.0 (number_of e))) }

-- nothing was done yet
abbrev pub blank : Journal
blank = record {
  read = record { parcels = 0; bytes = 0 };
  saved = record { parcels = 0; bytes = 0 };
  answers = record { given = 0; taken = 0; refused = 0 };
  refusals = record { 0 = replicate 25 0 };
  wrong = 0;
}

-- a parcel was read
abbrev pub after_read : Journal → (bytes : ℕ) → Journal
after_read j n = record { read = moved j.read n; saved = j.saved; answers = j.answers; refusals = j.refusals; wrong = j.wrong }

-- a parcel was saved
abbrev pub after_save : Journal → (bytes : ℕ) → Journal
after_save j n = record { read = j.read; saved = moved j.saved n; answers = j.answers; refusals = j.refusals; wrong = j.wrong }

-- a question was answered
abbrev pub after_answer : Journal → Result (Unit {0}) Refusal → Journal
after_answer j a = record { read = j.read; saved = j.saved; answers = answers_after j.answers a; refusals = refusals_after j.refusals a; wrong = j.wrong }

-- a command was wrong
abbrev pub after_wrong : Journal → Journal
after_wrong j = record { read = j.read; saved = j.saved; answers = j.answers; refusals = j.refusals; wrong = counted j.wrong }

-- some command was wrong
abbrev pub any_wrong : Journal → Bool
any_wrong j = nat_lt 0 j.wrong

-- no wrong command is forgotten
abbrev pub Remembers : (before after : Journal) → Type 0
Remembers j k = j.wrong ≤ k.wrong

-- the end of a row
abbrev pub newline : List ℕ
newline = 10 ∷ []

-- parcels and their bytes
abbrev pub traffic_text : Traffic → List ℕ
traffic_text t = decimal t.parcels ++ (codes ", bytes " ++ decimal t.bytes)

-- questions: how many, and how they were answered
abbrev pub answers_text : Answers → List ℕ
answers_text a = decimal a.given ++ (codes ": taken " ++ (decimal a.taken ++ (codes ", refused " ++ decimal a.refused)))

-- the row of a refusal, or nothing where it was never given
abbrev pub row_text : (number count : ℕ) → List ℕ
row_text n k = cond (k == 0) [] (codes "refusal " ++ (decimal n ++ (codes ": " ++ (decimal k ++ newline))))

-- the rows of the refusals below a number
unfoldable pub rows_text : (counts : List ℕ) (below : ℕ) → List ℕ
rows_text ks zero = []
rows_text ks (suc n) = rows_text ks n ++ row_text n (slice_index ks n)

-- the whole report
abbrev pub journal_text : Journal → List ℕ
journal_text j =
    codes "parcels read " ++ (traffic_text j.read ++ (newline
    ++ (codes "questions answered " ++ (answers_text j.answers ++ (newline
    ++ (rows_text j.refusals.0 25
    ++ (codes "parcels saved " ++ (traffic_text j.saved ++ (newline
    ++ (codes "wrong commands " ++ (decimal j.wrong ++ newline)))))))))))
