use Rattle.std.proofs.Common.{rules, ◌≡◌, subst}
use Rattle.rpki_cert.specs.Certificates.{CertFields, IsMade}
use Rattle.rpki_issuing.specs.Readiness.{but_signature, unsigned_certificate}
use Rattle.rpki_issuing.specs.Roles.{IsValidAs, IsInvalidAs}
use Rattle.rpki_issuing.proofs.SignatureAlone.{unready}
use Rattle.rpki_issuing.proofs.prepared.prepare.Goals as goal

pub returns-in-Ok-clause-ready : goal.returns-in-Ok-clause-ready
returns-in-Ok-clause-ready c =
    let x = but_signature c.args.now c.args.strict in
    let same : c.in_ok-unsigned.unsigned ≡ unsigned_certificate c.args.tbs.now = search rules in
    let made = subst (λ (d : CertFields). IsMade d) same c.in_ok-unsigned.ensures.made in
    record {
      fields_are = made.fields_are;
      short = made.short;
      valid = subst (λ (d : CertFields). IsValidAs x c.args.role.now d) same c.in-Ok.ensures.ok;
    }

pub returns-in-Err-clause-fault : goal.returns-in-Err-clause-fault
returns-in-Err-clause-fault c =
    let x = but_signature c.args.now c.args.strict in
    let e = c.in-Err.error in
    let same : c.in_ok-unsigned.unsigned ≡ unsigned_certificate c.args.tbs.now = search rules in
    unready c.args.now c.args.strict c.args.role.now c.args.tbs.now e
    (subst (λ (d : CertFields). IsInvalidAs x c.args.role.now d e) same c.in-Err.ensures.fault)
