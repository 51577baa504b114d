use Rattle.std.proofs.Common.{sym, ◌∙◌, arith, ltb-false, ltb-true}
use Rattle.script.specs.Commands.{reads, saves, checks, lists, reports, helps}
use Rattle.script.specs.declared.parsing.Verb.TheVariants.{Parcel, Save, Check, Lines, Trial, Report, Help}
use Rattle.script.proofs.Words.{rest, says, four_left, some_left, no_file, past_file, few_bytes, past_bytes}
use Rattle.script.proofs.parsing.parse.Goals as goal
use Rattle.script.proofs.parsing.parse.Goals.{in_default-2-via-in-Parcel+then-rest-lt1, in_default-2-via-in-Parcel+else-rest-lt1+else-this-lt2, in_default-2-via-in-Save+then-this-lt1, in_default-2-via-in-Save+else-this-lt1+else-this-lt2-2, in_default-2-via-in-Check+else-this-lt1-2, in_default-2-via-in-Lines+else-this-lt1-3, in_default-2-via-in-Trial+then-this-lt4, in_default-2-via-in-Trial+else-this-lt4+else-this-lt5, in_default-2-via-in-Report+else-this-lt1-4, in_default-2-via-in-Help+else-this-lt1-5}

pub returns-in-Trial-len4 : goal.returns-in-Trial-len4
returns-in-Trial-len4 c =
    says c.args.words.now _ Trial _ (omega (arith, ltb-true, ltb-false)) c.in_ok-try_from.ensures c.in-Trial-len4.is-0
    (four_left _ (rest c.args.words.now) (omega (arith, ltb-true, ltb-false)) (omega (arith, ltb-true, ltb-false)) ∙ sym c.trial.ensures)

pub returns-in_default-2 : goal.returns-in_default-2
returns-in_default-2 c =
    elim c.in_default-2.branch [
      | in_default-2-via-in-Parcel+then-rest-lt1 w ↦ says c.args.words.now c.in_ok-try_from.field-0 Parcel _ (omega (arith, ltb-true, ltb-false)) c.in_ok-try_from.ensures (cc) (no_file reads _ (rest c.args.words.now) (omega (arith, ltb-true, ltb-false)))
      | in_default-2-via-in-Parcel+else-rest-lt1+else-this-lt2 w ↦ says c.args.words.now c.in_ok-try_from.field-0 Parcel _ (omega (arith, ltb-true, ltb-false)) c.in_ok-try_from.ensures (cc) (past_file reads _ (rest c.args.words.now) (omega (arith, ltb-true, ltb-false)))
      | in_default-2-via-in-Save+then-this-lt1 w ↦ says c.args.words.now c.in_ok-try_from.field-0 Save _ (omega (arith, ltb-true, ltb-false)) c.in_ok-try_from.ensures (cc) (no_file saves _ (rest c.args.words.now) (omega (arith, ltb-true, ltb-false)))
      | in_default-2-via-in-Save+else-this-lt1+else-this-lt2-2 w ↦ says c.args.words.now c.in_ok-try_from.field-0 Save _ (omega (arith, ltb-true, ltb-false)) c.in_ok-try_from.ensures (cc) (past_file saves _ (rest c.args.words.now) (omega (arith, ltb-true, ltb-false)))
      | in_default-2-via-in-Check+else-this-lt1-2 w ↦ says c.args.words.now c.in_ok-try_from.field-0 Check _ (omega (arith, ltb-true, ltb-false)) c.in_ok-try_from.ensures (cc) (some_left checks _ (rest c.args.words.now) (omega (arith, ltb-true, ltb-false)))
      | in_default-2-via-in-Lines+else-this-lt1-3 w ↦ says c.args.words.now c.in_ok-try_from.field-0 Lines _ (omega (arith, ltb-true, ltb-false)) c.in_ok-try_from.ensures (cc) (some_left lists _ (rest c.args.words.now) (omega (arith, ltb-true, ltb-false)))
      | in_default-2-via-in-Trial+then-this-lt4 w ↦ says c.args.words.now c.in_ok-try_from.field-0 Trial _ (omega (arith, ltb-true, ltb-false)) c.in_ok-try_from.ensures (cc) (few_bytes _ (rest c.args.words.now) (omega (arith, ltb-true, ltb-false)))
      | in_default-2-via-in-Trial+else-this-lt4+else-this-lt5 w ↦ says c.args.words.now c.in_ok-try_from.field-0 Trial _ (omega (arith, ltb-true, ltb-false)) c.in_ok-try_from.ensures (cc) (past_bytes _ (rest c.args.words.now) (omega (arith, ltb-true, ltb-false)))
      | in_default-2-via-in-Report+else-this-lt1-4 w ↦ says c.args.words.now c.in_ok-try_from.field-0 Report _ (omega (arith, ltb-true, ltb-false)) c.in_ok-try_from.ensures (cc) (some_left reports _ (rest c.args.words.now) (omega (arith, ltb-true, ltb-false)))
      | in_default-2-via-in-Help+else-this-lt1-5 w ↦ says c.args.words.now c.in_ok-try_from.field-0 Help _ (omega (arith, ltb-true, ltb-false)) c.in_ok-try_from.ensures (cc) (some_left helps _ (rest c.args.words.now) (omega (arith, ltb-true, ltb-false)))
    ]
