use Rattle.std.proofs.Common.{◌≡◌, Ok, Err, ap, ◌∙◌}
use Rattle.terminals.specs.Meaning.{Link}
use Rattle.terminals.specs.Rules.{put_rule}
use Rattle.terminals.specs.declared.faults.Fault.{Fault}
use Rattle.stages.specs.Stages.{raised}
use Rattle.stages.proofs.stages.StageTerminals.put.Goals as goal

-- where the stage's link is up, so is the one below
up_below : (up : Link → Link) → ((f : Fault) → up (Err f) ≡ Err (raised f)) → (l : Link) → Ok tt ≡ up l → l ≡ up l
up_below up h (Ok u) e = e
up_below up h (Err f) e = let d = h f in absurd (cc)

pub returns-clause-answer : goal.returns-clause-answer
returns-clause-answer g c =
    let s = c.args.self.now in
    let zs = g.T.Terminals.inputs s.below in
    let e = up_below (g.R.Rule.link s.rule zs) (g.met.R.Rule.raises s.rule zs) (g.T.Terminals.link s.below) c.in_ok-link.ensures in
    c.put.ensures.answer ∙ ap (put_rule c.args.signals.digital) e
