use Rattle.std.proofs.Common.{subst, inl}
use Rattle.rpki_cert.specs.Certificates.{TbsFields}
use Rattle.rpki_cert.specs.SaidKinds.{SaysKind}
use Rattle.rpki_verdicts.proofs.path.judged_as.Goals as goal

pub returns-in-Some : goal.returns-in-Some
returns-in-Some c =
    let cert = c.in-Some.cert.now in
    let begins = rw c.in-Some.is at c.certificate.ensures in
    let says : SaysKind c.said_kind.result cert.fields = subst (λ (f : TbsFields). SaysKind c.said_kind.result f)
    c.as_tbs.ensures c.said_kind.ensures in
    inl (cert, (begins.0, begins.1), says)
