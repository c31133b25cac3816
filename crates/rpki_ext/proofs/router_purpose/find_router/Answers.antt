use Rattle.std.proofs.Common.{refl, sym, ap, ◌∙◌}
use Rattle.rpki_der.proofs.Octets.{some}
use Rattle.rpki_der.proofs.SequenceWalks.{shorter, goes_on, ends, over_end, some_left}
use Rattle.rpki_der.specs.Primitives.Reading.{oid_at}
use Rattle.rpki_ext.specs.RouterPurposes.{or_router}
use Rattle.rpki_ext.proofs.CertificateExtensions.{oid_shrinks}
use Rattle.rpki_ext.proofs.router_purpose.find_router.Goals as goal

pub loop-rest-smaller : goal.loop-rest-smaller
loop-rest-smaller c = shorter oid_at or_router oid_shrinks c.loop-rest.found _ _ _ c.in-Ok.ensures.reads

pub loop-rest-preserved : goal.loop-rest-preserved
loop-rest-preserved c =
    sym (goes_on oid_at or_router oid_shrinks c.loop-rest.found _ _ _ c.in-Ok.ensures.reads
    _ (ap some (sym c.or_router-found.ensures))) ∙ c.loop-rest.invariant

pub returns-in-Err : goal.returns-in-Err
returns-in-Err c = sym
    (sym c.loop-rest.invariant ∙ ends oid_at or_router oid_shrinks c.loop-rest.found
    _ (some_left _ c.loop-rest-test.ensures.1) c.in-Err.ensures.reads.1)

pub returns : goal.returns
returns c = let nil = c.loop-rest-test.ensures.0 refl in
    sym (sym c.loop-rest.invariant ∙ rw nil (over_end oid_at or_router c.loop-rest.found))
