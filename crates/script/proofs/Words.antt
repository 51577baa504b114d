-- Words: how many follow the first.
use Rattle.std.proofs.Common.{◌≡◌, ℕ, ◌-◌, ◌<◌, ◌≤◌, List, [], ◌∷◌, length, get_or, take, drop, Ok, Err, Result, sym, refl, ap, ◌∙◌, arith, take_all, Bor}
use Rattle.script.specs.Commands.{Said, Objection, word_count, texts, alone, with_file, with_bytes, trial_of, byte_said, arguments_read, command_read, verb_said}
use Rattle.script.specs.declared.parsing.Verb.{Verb}

-- a lent word; `get_or` takes it where there is none
abbrev pub Word : Type 0
Word = Bor (List ℕ)

abbrev pub blank : Word
blank = record { ref_ptr = (0, 0); now = [] }

-- the words after the first
abbrev pub rest : List Word → List Word
rest ws = take (length ws - 1) (drop 1 ws)

pub first_word : (ws : List Word) → 0 < length ws → texts ws ≡ (get_or ws 0 blank).now ∷ texts (rest ws)
first_word [] h = absurd (omega arith)
first_word (w ∷ ws) h =
    let l : length ws ≤ length (w ∷ ws) - 1 = omega arith in
    ap (λ (xs : List Word). w.now ∷ texts xs) (sym (take_all (length (w ∷ ws) - 1) ws l))

-- what a line says whose first word is the verb v
pub says : (ws : List Word) (u v : Verb) (s : Result Said Objection) → 0 < length ws → Ok u ≡ verb_said (get_or ws 0 blank).now → u ≡ v → arguments_read (Ok v) (get_or ws 0 blank).now (texts (rest ws)) ≡ s → s ≡ command_read (texts ws)
says ws u v s h e is a =
    sym a
    ∙ (ap (λ (o : Result Verb Objection). arguments_read o (get_or ws 0 blank).now (texts (rest ws))) (ap Ok (sym is) ∙ e)
    ∙ ap command_read (sym (first_word ws h)))

-- as many words as a trial takes
pub four_left : (v : List ℕ) (ws : List Word) → 4 ≤ length ws → length ws < 5 → with_bytes v (texts ws) ≡ trial_of (byte_said (get_or ws 0 blank).now) (byte_said (get_or ws 1 blank).now) (byte_said (get_or ws 2 blank).now) (byte_said (get_or ws 3 blank).now)
four_left v [] l h = absurd (omega arith)
four_left v (a ∷ []) l h = absurd (omega arith)
four_left v (a ∷ b ∷ []) l h = absurd (omega arith)
four_left v (a ∷ b ∷ c ∷ []) l h = absurd (omega arith)
four_left v (a ∷ b ∷ c ∷ d ∷ []) l h = refl
four_left v (a ∷ b ∷ c ∷ d ∷ e ∷ ws) l h = absurd (omega arith)

-- another number of words
pub some_left : (s : Said) (v : List ℕ) (ws : List Word) → 1 ≤ length ws → alone s v (texts ws) ≡ Err (word_count v)
some_left s v [] l = absurd (omega arith)
some_left s v (w ∷ ws) l = refl

pub no_file : (s : List ℕ → Said) (v : List ℕ) (ws : List Word) → length ws < 1 → with_file s v (texts ws) ≡ Err (word_count v)
no_file s v [] h = refl
no_file s v (w ∷ ws) h = absurd (omega arith)

pub past_file : (s : List ℕ → Said) (v : List ℕ) (ws : List Word) → 2 ≤ length ws → with_file s v (texts ws) ≡ Err (word_count v)
past_file s v [] l = absurd (omega arith)
past_file s v (w ∷ []) l = absurd (omega arith)
past_file s v (w ∷ x ∷ ws) l = refl

pub few_bytes : (v : List ℕ) (ws : List Word) → length ws < 4 → with_bytes v (texts ws) ≡ Err (word_count v)
few_bytes v [] h = refl
few_bytes v (a ∷ []) h = refl
few_bytes v (a ∷ b ∷ []) h = refl
few_bytes v (a ∷ b ∷ c ∷ []) h = refl
few_bytes v (a ∷ b ∷ c ∷ d ∷ ws) h = absurd (omega arith)

pub past_bytes : (v : List ℕ) (ws : List Word) → 5 ≤ length ws → with_bytes v (texts ws) ≡ Err (word_count v)
past_bytes v [] l = absurd (omega arith)
past_bytes v (a ∷ []) l = absurd (omega arith)
past_bytes v (a ∷ b ∷ []) l = absurd (omega arith)
past_bytes v (a ∷ b ∷ c ∷ []) l = absurd (omega arith)
past_bytes v (a ∷ b ∷ c ∷ d ∷ []) l = absurd (omega arith)
past_bytes v (a ∷ b ∷ c ∷ d ∷ e ∷ ws) l = refl
