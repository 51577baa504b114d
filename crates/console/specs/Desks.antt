-- What the console's answers say of the parcel buffer, and what a command leaves of it.
use Rattle.std.specs.Prelude.{◌≡◌, ℕ, Bool, List, Ok, Err, Result}
use Rattle.journal.specs.Journals.{after_wrong, any_wrong}
use Rattle.journal.specs.declared.journal.Journal.{Journal}
use Rattle.parcel.specs.Trial.{tried, exchanged, kept}
use Rattle.parcel.specs.Verdicts.{Verdict, taken, refused, number_of, address_of}
use Rattle.parcel.specs.declared.refusal.Refusal.{Refusal}
use Rattle.script.specs.declared.command.Command.{Command}
use Rattle.script.specs.declared.command.Command.TheVariants.{Parcel, Save, Check, Lines, Trial, Report, Help}
use Rattle.script.specs.declared.complaint.Complaint.{Complaint}
use Rattle.script.specs.declared.reply.Reply.{Reply}
use Rattle.script.specs.declared.reply.Reply.TheVariants.{Done, Bytes, Refused}

-- the reply to the answer of a question
abbrev pub reply_to : Result (Unit {0}) Refusal → Reply
reply_to (Ok x) = Done
reply_to (Err e) = Refused e

-- the answer that a reply gives
abbrev pub answer_of : Reply → Result (Unit {0}) Refusal
answer_of Done = Ok tt
answer_of (Bytes n) = Ok tt
answer_of (Refused e) = Err e

-- the same as a verdict
abbrev pub told : Reply → Verdict
told Done = taken
told (Bytes n) = taken
told (Refused e) = refused (number_of e) (address_of e)

-- the buffer after a command: a trial keeps its line if it is taken, a file may bring any bytes, nothing else changes it
abbrev pub BufferAfter : Command → (before after : List ℕ) → Type 0
BufferAfter (Parcel f) p q = Unit {0}
BufferAfter (Save f) p q = q ≡ p
BufferAfter Check p q = q ≡ p
BufferAfter Lines p q = q ≡ p
BufferAfter (Trial a l) p q = q ≡ kept (tried p a l) (exchanged p a l) p
BufferAfter Report p q = q ≡ p
BufferAfter Help p q = q ≡ p

-- the flag is up exactly if the journal counts a wrong command
abbrev pub Agrees : Journal → (failed : Bool) → Type 0
Agrees j f = f ≡ any_wrong j

-- the journal once a command is answered: a complaint counts it as wrong
abbrev pub after_reply : Journal → Result Reply Complaint → Journal
after_reply j (Ok r) = j
after_reply j (Err e) = after_wrong j
