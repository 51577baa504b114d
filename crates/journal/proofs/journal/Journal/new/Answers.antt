use Rattle.std.proofs.Common.{◌≡◌, ◌∙◌, arith, replicate, sym}
use Rattle.std.proofs.lemmas.List.{ext_get_or, get_or-replicate}
use Rattle.journal.proofs.journal.Journal.new.Goals as goal

pub returns : goal.returns
returns c =
    let d = c.default.ensures in
    let all = d.1.1.1.0 in
    let zeros : c.default.result.refusals.0 ≡ replicate 25 0 =
    ext_get_or 0 _ (replicate 25 0) all.long (λ k lt. all.at k 0 (omega (arith, all.long)) ∙ sym (get_or-replicate 25 k 0 0 (omega (arith, all.long)))) in
    λ j. record {
      read = record { parcels = d.0.0 j; bytes = d.0.1 j };
      saved = record { parcels = d.1.0.0 j; bytes = d.1.0.1 j };
      answers = record { given = d.1.1.0.0 j; taken = d.1.1.0.1.0 j; refused = d.1.1.0.1.1 j };
      refusals = record { 0 = zeros j };
      wrong = d.1.1.1.1 j;
    }
