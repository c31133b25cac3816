use Rattle.std.proofs.Common.{Ok, sym, ap, subst, ◌∙◌}
use Rattle.rpki_parts.specs.SignedDatas.{signed_data}
use Rattle.rpki_cert.specs.Certificates.{CertFields, IsCertificate, encoding}
use Rattle.rpki_cert.specs.Validation.{IsValidBelow}
use Rattle.rpki_cert.specs.Verification.{context}
use Rattle.rpki_cert.specs.declared.inspect.Kind.TheVariants.{Authority}
use Rattle.rpki_cert.proofs.issue.issue_ca.Goals as goal

pub returns-in-Ok-validate_ca_at-clause-read : goal.returns-in-Ok-validate_ca_at-clause-read
returns-in-Ok-validate_ca_at-clause-read g c = subst (λ (x : CertFields). IsCertificate x (signed_data x.signed_data))
    (sym c.in-Ok-validate_ca_at.ensures.ok.issued.cert_is) c.in-Ok.ensures.read

pub returns-in-Ok-validate_ca_at-clause-fields : goal.returns-in-Ok-validate_ca_at-clause-fields
returns-in-Ok-validate_ca_at-clause-fields g c =
    ap (λ (x : CertFields). x.fields) c.in-Ok-validate_ca_at.ensures.ok.issued.cert_is ∙ c.in-Ok.ensures.fields

pub returns-in-Ok-validate_ca_at-clause-signed : goal.returns-in-Ok-validate_ca_at-clause-signed
returns-in-Ok-validate_ca_at-clause-signed g c =
    subst (λ (x : CertFields). g.S.Signer.signs c.args.signer.now c.args.key.now c.args.tbs.algorithm
    (encoding c.args.tbs) (Ok x.signed_data.signature)) (sym c.in-Ok-validate_ca_at.ensures.ok.issued.cert_is)
    c.in-Ok.ensures.signed

pub returns-in-Ok-validate_ca_at-clause-valid : goal.returns-in-Ok-validate_ca_at-clause-valid
returns-in-Ok-validate_ca_at-clause-valid g c =
    let x = context (g.V.Verifier.verifies c.args.verifier.now) c.args.now c.args.strict in
    let r = c.in-Ok-validate_ca_at.issued in
    let valid = c.in-Ok-validate_ca_at.ensures.ok in
    subst (λ (d : CertFields). IsValidBelow x c.args.issuer.now Authority d r) (sym valid.issued.cert_is) valid
