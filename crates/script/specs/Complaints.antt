-- What is printed of a complaint.
use Rattle.std.specs.Prelude.{ℕ, List, ◌++◌, codes}
use Rattle.script.specs.declared.complaint.Complaint.{Complaint}
use Rattle.script.specs.declared.complaint.Complaint.TheVariants.{Unknown, WordCount, NotByte, CannotRead, CannotWrite, NotText, NoMemory}

-- the reason in words, with the word or the file that it is about
abbrev pub complaint_text : Complaint → List ℕ
complaint_text (Unknown w) = codes "no command " ++ w.now
complaint_text (WordCount w) = codes "wrong number of words for " ++ w.now
complaint_text (NotByte w) = w.now ++ codes " is not a byte such as E2H"
complaint_text (CannotRead w) = codes "cannot read " ++ w.now
complaint_text (CannotWrite w) = codes "cannot write " ++ w.now
complaint_text NotText = codes "the line is not text"
complaint_text NoMemory = codes "out of memory"
