use Rattle.std.proofs.Common.{refl, sym, ap, ◌∙◌}
use Rattle.rpki_der.specs.Folding.{over}
use Rattle.rpki_der.specs.Place.{Place, remaining}
use Rattle.rpki_der.proofs.Answering.{rejects, certainly}
use Rattle.rpki_der.specs.Extensions.{extension_format}
use Rattle.rpki_der.proofs.SequenceWalks.{goes_on, shorter, rejected, ends, over_end, some_left}
use Rattle.rpki_der.proofs.ExtensionReads.{extension_shrinks}
use Rattle.rpki_ext.specs.CertificateExtensions.{State, all_kinds, state_of}
use Rattle.rpki_ext.proofs.extensions.ReadExtensions.from_row.Goals as goal

pub loop-rest-init : goal.loop-rest-init
loop-rest-init c = ap (λ (s : State). over extension_format.read all_kinds.step s (remaining c.fork-rest.result))
    c.nothing-seen.ensures ∙
    ap (λ (p : Place). over extension_format.read all_kinds.step all_kinds.start (remaining p))
    c.fork-rest.ensures.same

pub returns-in-Err : goal.returns-in-Err
returns-in-Err c = certainly c.in-Err.error
    (sym c.loop-rest.invariant ∙ ends extension_format.read all_kinds.step extension_shrinks
    _ _ (some_left _ c.loop-rest-test.ensures.1) c.in-Err.ensures.answers.reads.1)

pub returns-in-Err-put : goal.returns-in-Err-put
returns-in-Err-put c =
    rejects c.in-Err-put.error
    (λ none. sym c.loop-rest.invariant ∙ rejected extension_format.read all_kinds.step extension_shrinks
    _ _ _ _ c.in-Ok.ensures.answers.reads none) c.in-Err-put.ensures

pub loop-rest-smaller : goal.loop-rest-smaller
loop-rest-smaller c = shorter extension_format.read all_kinds.step extension_shrinks (state_of c.loop-rest.seen)
    _ _ _ c.in-Ok.ensures.answers.reads

pub loop-rest-preserved : goal.loop-rest-preserved
loop-rest-preserved c =
    sym (goes_on extension_format.read all_kinds.step extension_shrinks _ _ _ _ c.in-Ok.ensures.answers.reads
    _ c.in-Ok-put.ensures) ∙ c.loop-rest.invariant

pub returns : goal.returns
returns c = let nil = c.loop-rest-test.ensures.0 refl in
    sym c.loop-rest.invariant ∙ rw nil (over_end extension_format.read all_kinds.step _)
