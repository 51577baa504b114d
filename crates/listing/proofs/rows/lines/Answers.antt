use Rattle.std.proofs.Common.{◌≡◌, ◌+◌, ◌++◌, sym, ap, ◌∙◌, rules, arith, ltb-false, ltb-true}
use Rattle.listing.specs.Rows.{line_text, up_to}
use Rattle.listing.proofs.Texts.{up_to-none, up_to-more}
use Rattle.listing.proofs.rows.lines.Goals.{else-loop-line-test, then-loop-line-test+in_ok-row+in_ok-push_str+else-line-lt255}
use Rattle.listing.proofs.rows.lines.Goals as goal

pub loop-line-init : goal.loop-line-init
loop-line-init c = let none = up_to-none (line_text c.args.configuration.now) in search rules

pub loop-line-preserved : goal.loop-line-preserved
loop-line-preserved c = let more = up_to-more (line_text c.args.configuration.now) c.loop-line.line in search rules

pub returns : goal.returns
returns c =
    let text = line_text c.args.configuration.now in
    elim c.loop-line-test.branch [
      | else-loop-line-test w ↦ absurd (omega (arith, w.loop-line-test.false, c.loop-line.auto.line-end))
      | then-loop-line-test+in_ok-row+in_ok-push_str+else-line-lt255 w ↦
          let last : c.loop-line.line + 1 ≡ 256 = omega (arith, ltb-true, ltb-false) in
          let all : up_to text 256 ≡ up_to text c.loop-line.line ++ text c.loop-line.line = sym (ap (up_to text) last) ∙ up_to-more text c.loop-line.line in
          search rules
    ]
