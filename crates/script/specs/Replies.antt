-- What is printed of an answer.
use Rattle.std.specs.Prelude.{ℕ, List, ◌++◌, Some, None, codes, decimal, Option}
use Rattle.notation.specs.Bytes.{byte_text}
use Rattle.parcel.specs.Verdicts.{number_of, address_of}
use Rattle.parcel.specs.declared.refusal.Refusal.{Refusal}
use Rattle.parcel.specs.declared.refusal.Refusal.TheVariants.{BadCount, ListCut, BadKinds, BadLengths, BadEnd, BadCode, BadPlace, NoTable, OverRange}
use Rattle.script.specs.declared.reply.Reply.{Reply}
use Rattle.script.specs.declared.reply.Reply.TheVariants.{Done, Bytes, Refused}

-- the reason of a refusal in words
abbrev pub reason_of : Refusal → List ℕ
reason_of BadCount = codes "the first byte is not 3 or 4"
reason_of ListCut = codes "the contents list is cut off"
reason_of BadKinds = codes "the kinds are not 1, 2, 3 and at most one 4"
reason_of BadLengths = codes "a body has not the length of its kind"
reason_of BadEnd = codes "the last body does not end at the last byte"
reason_of (BadCode a) = codes "the line's side has no such code"
reason_of (BadPlace a) = codes "the command stands below 80H"
reason_of (NoTable a) = codes "the parcel brings no table"
reason_of (OverRange a) = codes "the constant is beyond 199.9 %"

-- the line that a refusal names, if it names one
abbrev pub place_text : Option ℕ → List ℕ → List ℕ
place_text None after = after
place_text (Some line) after = codes " at " ++ (byte_text line ++ after)

-- a refusal: its number, its line and its reason
abbrev pub refusal_text : Refusal → List ℕ
refusal_text r = codes "refused " ++ (decimal (number_of r) ++ place_text (address_of r) (codes ": " ++ reason_of r))

-- an answer
abbrev pub reply_text : Reply → List ℕ
reply_text Done = codes "ok"
reply_text (Bytes n) = codes "ok " ++ (decimal n ++ codes " bytes")
reply_text (Refused r) = refusal_text r
