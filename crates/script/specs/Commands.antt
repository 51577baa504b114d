-- What the words of a line say. A text is the list of its bytes.
use Rattle.std.specs.Prelude.{ℕ, List, [], ◌∷◌, map, Some, None, Ok, Err, Option, Result}
use Rattle.std.specs.Borrow.{Bor}
use Rattle.notation.specs.Bytes.{byte_read}
use Rattle.parcel.specs.declared.line.LineBytes.{LineBytes}
use Rattle.script.specs.Verbs.{verb_read}
use Rattle.script.specs.declared.command.Command.{Command}
use Rattle.script.specs.declared.command.Command.TheVariants.{Parcel, Save, Check, Lines, Trial, Report, Help}
use Rattle.script.specs.declared.complaint.Complaint.{Complaint}
use Rattle.script.specs.declared.complaint.Complaint.TheVariants.{Unknown, WordCount, NotByte, CannotRead, CannotWrite, NotText, NoMemory}
use Rattle.script.specs.declared.parsing.Verb.{Verb}
use Rattle.script.specs.declared.parsing.Verb.TheVariants.{Parcel as VParcel, Save as VSave, Check as VCheck, Lines as VLines, Trial as VTrial, Report as VReport, Help as VHelp}

-- a command, with its file as a text
pub data Said : Type 0 where
  reads : (file : List ℕ) → Said
  saves : (file : List ℕ) → Said
  checks : Said
  lists : Said
  tries : (address : ℕ) (new : LineBytes) → Said
  reports : Said
  helps : Said

-- a complaint, with its word or file as a text
pub data Objection : Type 0 where
  unknown : (word : List ℕ) → Objection
  word_count : (verb : List ℕ) → Objection
  not_byte : (word : List ℕ) → Objection
  cannot_read : (file : List ℕ) → Objection
  cannot_write : (file : List ℕ) → Objection
  not_text : Objection
  no_memory : Objection

-- what a command says
abbrev pub said : Command → Said
said (Parcel f) = reads f.now
said (Save f) = saves f.now
said Check = checks
said Lines = lists
said (Trial a l) = tries a l
said Report = reports
said Help = helps

-- what a complaint says
abbrev pub objection : Complaint → Objection
objection (Unknown w) = unknown w.now
objection (WordCount w) = word_count w.now
objection (NotByte w) = not_byte w.now
objection (CannotRead f) = cannot_read f.now
objection (CannotWrite f) = cannot_write f.now
objection NotText = not_text
objection NoMemory = no_memory

-- what comes of a word: its value, or what is said of it
abbrev pub objected : {A : Type 0} → Result A Complaint → Result A Objection
objected (Ok x) = Ok x
objected (Err e) = Err (objection e)

-- what comes of a line: what the command says, or what is said of it
abbrev pub heard : Result Command Complaint → Result Said Objection
heard (Ok c) = Ok (said c)
heard (Err e) = Err (objection e)

-- a value, or what is said of the word that has none
abbrev pub or_else : {A : Type 0} → Objection → Option A → Result A Objection
or_else e None = Err e
or_else e (Some x) = Ok x

-- the byte that a word writes
abbrev pub byte_said : (word : List ℕ) → Result ℕ Objection
byte_said w = or_else (not_byte w) (byte_read w)

-- the verb that a word names
abbrev pub verb_said : (word : List ℕ) → Result Verb Objection
verb_said w = or_else (unknown w) (verb_read w)

-- a trial of four bytes; the first that is none is named
abbrev pub trial_of : (a c p q : Result ℕ Objection) → Result Said Objection
trial_of (Err e) c p q = Err e
trial_of (Ok a) (Err e) p q = Err e
trial_of (Ok a) (Ok c) (Err e) q = Err e
trial_of (Ok a) (Ok c) (Ok p) (Err e) = Err e
trial_of (Ok a) (Ok c) (Ok p) (Ok q) = Ok (tries a (record { code = c; sr1 = p; sr2 = q }))

-- the words after the verb of a command that takes none
abbrev pub alone : Said → (verb : List ℕ) → List (List ℕ) → Result Said Objection
alone s v [] = Ok s
alone s v (w ∷ ws) = Err (word_count v)

-- of one that takes a file
abbrev pub with_file : (List ℕ → Said) → (verb : List ℕ) → List (List ℕ) → Result Said Objection
with_file s v [] = Err (word_count v)
with_file s v (f ∷ []) = Ok (s f)
with_file s v (f ∷ w ∷ ws) = Err (word_count v)

-- of one that takes four bytes
abbrev pub with_bytes : (verb : List ℕ) → List (List ℕ) → Result Said Objection
with_bytes v [] = Err (word_count v)
with_bytes v (a ∷ []) = Err (word_count v)
with_bytes v (a ∷ c ∷ []) = Err (word_count v)
with_bytes v (a ∷ c ∷ p ∷ []) = Err (word_count v)
with_bytes v (a ∷ c ∷ p ∷ q ∷ []) = trial_of (byte_said a) (byte_said c) (byte_said p) (byte_said q)
with_bytes v (a ∷ c ∷ p ∷ q ∷ w ∷ ws) = Err (word_count v)

-- the words after a verb
abbrev pub arguments_read : Result Verb Objection → (verb : List ℕ) → List (List ℕ) → Result Said Objection
arguments_read (Err e) v ws = Err e
arguments_read (Ok VParcel) v ws = with_file reads v ws
arguments_read (Ok VSave) v ws = with_file saves v ws
arguments_read (Ok VCheck) v ws = alone checks v ws
arguments_read (Ok VLines) v ws = alone lists v ws
arguments_read (Ok VTrial) v ws = with_bytes v ws
arguments_read (Ok VReport) v ws = alone reports v ws
arguments_read (Ok VHelp) v ws = alone helps v ws

-- the words of a line
abbrev pub command_read : List (List ℕ) → Result Said Objection
command_read [] = Err (unknown [])
command_read (v ∷ ws) = arguments_read (verb_said v) v ws

-- words that are lent, as texts
abbrev pub texts : List (Bor (List ℕ)) → List (List ℕ)
texts ws = map (λ w. w.now) ws
