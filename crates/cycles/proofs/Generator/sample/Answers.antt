use Rattle.std.proofs.Common.{ℕ, ◌%◌, ℤ, pos, refl, sym, ap, ◌∙◌, arith, length-set, to_z, of_z, w16}
use Rattle.std.proofs.lemmas.List.Edits.{fill_by_more}
use Rattle.cycles.specs.Sums.{next, after, drawn, input_of}
use Rattle.cycles.proofs.SumLaws.{after_more, input_in, input_kept, inputs_held, sample_made}
use Rattle.cycles.proofs.Generator.sample.Goals as goal

pub loop-place-init : goal.loop-place-init
unfolding after
loop-place-init c = (refl, refl, λ k h. absurd (omega arith))

pub loop-place-preserved : goal.loop-place-preserved
loop-place-preserved c =
    let states = ap next c.loop-place.invariant.0 ∙ after_more c.loop-place.place-index c.args.self.now.0 in
    let value = c.input.ensures.value ∙ ap (λ s. input_of (drawn s)) states in
    let kept = ap (λ z. to_z w16 (of_z w16 z)) value ∙ input_kept c.args.self.now.0 c.loop-place.place-index in
    let f : ℕ → ℤ = input_in c.args.self.now.0 in (
      c.input.ensures.state ∙ states,
      simp length-set c.loop-place.invariant.1,
      rw kept
          (fill_by_more f c.loop-place.place-items c.loop-place.place-index (pos 0) (omega (arith, c.loop-place.invariant.1))
          c.loop-place.invariant.2),
    )

pub returns-clause-state : goal.returns-clause-state
returns-clause-state c =
    c.draw.ensures.state
    ∙ (ap next c.loop-place.invariant.0
    ∙ (ap (λ n. next (after n c.args.self.now.0)) (omega arith) ∙ after_more 8 c.args.self.now.0))

pub returns-clause-value : goal.returns-clause-value
returns-clause-value c =
    let s = c.args.self.now.0 in
    let last = ap next c.loop-place.invariant.0 ∙ (ap (λ n. next (after n s)) (omega arith) ∙ after_more 8 s) in
    sym
    (sample_made s _ _
    (inputs_held s c.loop-place.place-items _ (omega arith) (λ k h. c.loop-place.invariant.2 k (omega arith)) c.new.ensures.inputs)
    (c.new.ensures.bits ∙ ap (λ n. n % 512) (c.draw.ensures.value ∙ ap drawn last)))
