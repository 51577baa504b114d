use Rattle.std.proofs.Common.{◌≡◌, ◌∙◌, rules}
use Rattle.parcel.specs.Verdicts.{number_of, address_of, refused}
use Rattle.parcel.specs.Trial.{tried}
use Rattle.parcel.proofs.Restored.{put_back}
use Rattle.parcel.proofs.trial.trial.Goals as goal

pub returns-in_err-ask-clause-bytes : goal.returns-in_err-ask-clause-bytes
returns-in_err-ask-clause-bytes c =
    let e = c.in_err-ask.field-0.0 in
    let no : refused (number_of e) (address_of e) ≡ tried c.args.parcel.now c.args.line c.args.new = search rules in
    let old = rw c.in_ok-bodies.ensures.bodies.0 at c.line-old.ensures in
    let at = c.places-at.ensures.place in
    c.drop-exchange.ensures ∙ put_back _ _ _ _ _ _ _ _ _ (c.ask.ensures.same ∙ c.put.ensures) (rw at old) no
