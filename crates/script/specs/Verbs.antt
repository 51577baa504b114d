-- The first word of a command. A text is the list of its bytes.
use Rattle.std.specs.Prelude.{ℕ, cond, List, Some, None, codes, Option}
use Rattle.std.specs.Str.{bytes_eq}
use Rattle.script.specs.declared.parsing.Verb.{Verb}
use Rattle.script.specs.declared.parsing.Verb.TheVariants.{Parcel, Save, Check, Lines, Trial, Report, Help}

-- the verb that a word names
abbrev pub verb_read : List ℕ → Option Verb
verb_read w =
    cond (bytes_eq w (codes "parcel")) (Some Parcel)
    (cond (bytes_eq w (codes "save")) (Some Save)
    (cond (bytes_eq w (codes "check")) (Some Check)
    (cond (bytes_eq w (codes "lines")) (Some Lines)
    (cond (bytes_eq w (codes "trial")) (Some Trial)
    (cond (bytes_eq w (codes "report")) (Some Report)
    (cond (bytes_eq w (codes "help")) (Some Help) None))))))
