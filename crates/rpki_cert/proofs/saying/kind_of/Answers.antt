use Rattle.std.proofs.Common.{inr, subst}
use Rattle.rpki_cert.specs.Certificates.{TbsFields}
use Rattle.rpki_cert.specs.declared.inspect.Kind.TheVariants.{Anchor}
use Rattle.rpki_cert.specs.Profiles.{Lacks, faults}
use Rattle.rpki_cert.proofs.Checks.{first_not_all}
use Rattle.rpki_cert.specs.SaidKinds.{SaysKind}
use Rattle.rpki_cert.proofs.saying.kind_of.Goals as goal

pub returns-in-Err : goal.returns-in-Err
returns-in-Err c =
    let strict = c.args.strict in
    let cert = c.args.cert.now in
    let none = first_not_all (Lacks Anchor strict cert) (faults Anchor) c.in-Err.field-0 c.in-Err.ensures.fault in
    inr (none, subst (λ (f : TbsFields). SaysKind c.said_kind.result f) c.as_tbs.ensures c.said_kind.ensures)
