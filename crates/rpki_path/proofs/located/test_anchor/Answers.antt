use Rattle.rpki_ext.specs.Kinds.{Means}
use Rattle.rpki_cert.specs.Certificates.{IsCertificate}
use Rattle.rpki_path.proofs.located.test_anchor.Goals as goal

pub returns-in-Some-clause-fault : goal.returns-in-Some-clause-fault
returns-in-Some-clause-fault c = c.test_cert.ensures.fault c.args.anchor.now c.in-Some.ensures

pub returns-in_ok-cert-in-None-clause-fault : goal.returns-in_ok-cert-in-None-clause-fault
returns-in_ok-cert-in-None-clause-fault c =
    let means : Means IsCertificate c.in_ok-cert-in-None.cert c.args.anchor.now =
    rw c.in_ok-cert-in-None.ensures.ok at c.decoded.ensures.ok in
    c.test_cert-answer.ensures.fault c.args.anchor.now means
