use Rattle.std.proofs.Common.{sym, ap, ◌∙◌, arith, ltb-false, ltb-true}
use Rattle.std.proofs.lemmas.Result.{err_from_is_err_and}
use Rattle.parcel.specs.Verdicts.{◌then◌}
use Rattle.parcel.specs.Lines.{line_at, lines_asked}
use Rattle.parcel.proofs.FirstNo.{lines_none, lines_more, line_answer, first_no}
use Rattle.parcel.proofs.lines.ask_lines.Goals as goal

pub loop-line-init : goal.loop-line-init
loop-line-init c = lines_none c.args.bodies.now.parcel.now c.args.bodies.now.directory

pub returns-in_err-ask_line : goal.returns-in_err-ask_line
returns-in_err-ask_line c =
    let p = c.args.bodies.now.parcel.now in
    let d = c.args.bodies.now.directory in
    let e = err_from_is_err_and c.from_residual.result c.from_residual.ensures.1 in
    let here = line_answer p d c.loop-line.line _ _ _ c.is_some-table.ensures c.line.ensures c.in_err-ask_line.ensures in
    rw (e.1, e.2) (sym (first_no p d c.loop-line.line 256 _ _ (omega arith) c.loop-line.invariant (sym here)))

pub loop-line-preserved : goal.loop-line-preserved
loop-line-preserved c =
    let p = c.args.bodies.now.parcel.now in
    let d = c.args.bodies.now.directory in
    let here = line_answer p d c.loop-line.line _ _ _ c.is_some-table.ensures c.line.ensures c.in_ok-ask_line.ensures in
    lines_more p d c.loop-line.line ∙ ap (λ v. v then line_at p d c.loop-line.line) c.loop-line.invariant ∙ sym here

pub returns-in_ok-ask_line : goal.returns-in_ok-ask_line
returns-in_ok-ask_line c =
    let p = c.args.bodies.now.parcel.now in
    let d = c.args.bodies.now.directory in
    let here = line_answer p d c.loop-line.line _ _ _ c.is_some-table.ensures c.line.ensures c.in_ok-ask_line.ensures in
    let more = lines_more p d c.loop-line.line ∙ ap (λ v. v then line_at p d c.loop-line.line) c.loop-line.invariant ∙ sym here in
    sym more ∙ ap (lines_asked p d) (omega (arith, ltb-true, ltb-false))
