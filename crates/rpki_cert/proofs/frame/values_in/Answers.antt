use Rattle.std.proofs.Common.{rules, ◌≡◌, Err, Some, refl, sym, ap, ◌∙◌}
use Rattle.rpki_der.specs.Folding.{gather}
use Rattle.rpki_der.specs.Skipping.Reading.{captured_at}
use Rattle.rpki_der.proofs.Answering.{rejects, passed_on}
use Rattle.rpki_der.proofs.SequenceWalks.{ends, goes_on, over_end, gathered, some_left}
use Rattle.rpki_cert.proofs.FrameReads.{captured_shrinks}
use Rattle.rpki_cert.proofs.frame.values_in.Goals as goal

pub returns-in_err-value : goal.returns-in_err-value
returns-in_err-value c =
    let same : c.from_residual.result ≡ Err c.in_err-value.field-0.0 = search rules in
    passed_on (λ v. v.items) _ _ _ same
    (rejects _ (λ none. sym (gathered captured_at _) ∙ sym c.loop-elements.invariant ∙
    ends captured_at gather captured_shrinks _ _ (some_left _ c.loop-elements-test.ensures.1) none)
    c.in_err-value.ensures.reads)

pub loop-elements-preserved : goal.loop-elements-preserved
loop-elements-preserved c =
    sym (goes_on captured_at gather captured_shrinks _ _ _ _ c.in_ok-value.ensures.reads
    _ (ap Some (sym c.in_ok-push.ensures))) ∙ c.loop-elements.invariant

pub loop-elements-smaller : goal.loop-elements-smaller
loop-elements-smaller c = captured_shrinks _ _ _ c.in_ok-value.ensures.reads

pub returns : goal.returns
returns c =
    let nil = c.loop-elements-test.ensures.0 refl in
    sym (gathered captured_at _) ∙ sym c.loop-elements.invariant ∙ rw nil (over_end captured_at gather _)
