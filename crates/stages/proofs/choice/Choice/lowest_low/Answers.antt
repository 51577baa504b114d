use Rattle.std.proofs.Common.{rules, tests, refl, sym, ◌∙◌}
use Rattle.std.proofs.lemmas.Iterator.{YieldsList-from_range}
use Rattle.std.proofs.lemmas.Iterator.Search.{find_from_yields_List}
use Rattle.std.proofs.lemmas.Iterator.Adapters.{option_map_id}
use Rattle.stages.proofs.ChoiceLaws.{is_low, lowest_is_found}
use Rattle.stages.proofs.choice.Choice.lowest_low.Goals as goal

-- the numbers that the range gives, each with what the closure says of it
pub returns : goal.returns
returns c =
    let m = c.args.self.0 in
    let zs = c.args.values.now in
    let found = find_from_yields_List (is_low m zs) _ _ _ c.find.ensures.ran (YieldsList-from_range 1 9 8 refl refl) (λ x b q k. search (rules, tests)) in
    sym (option_map_id c.find.result) ∙ found ∙ lowest_is_found m zs c.told-values
