use Rattle.std.specs.Prelude.{Err}
use Rattle.std.proofs.Common.{rules, ◌≡◌, sym, subst}
use Rattle.rpki_cert.specs.Certificates.{TbsFields, CertFields}
use Rattle.rpki_cert.specs.Verification.{context}
use Rattle.rpki_issuing.specs.Readiness.{signed_with, IsUnassembled}
use Rattle.rpki_issuing.specs.Roles.{IsInvalidAs}
use Rattle.rpki_issuing.proofs.SignatureAlone.{incomplete, signature_fault, unassembled_incomplete}
use Rattle.rpki_issuing.proofs.completing.complete.Goals as goal

pub returns-in_err-cert-clause-fault : goal.returns-in_err-cert-clause-fault
returns-in_err-cert-clause-fault g c =
    let x = context (g.V.Verifier.verifies c.args.verifier.now) c.args.now c.args.strict in
    let role = c.args.role.now in
    let f = c.args.prepared.now in
    let value = c.args.signature.now in
    let e = c.in_err-cert.field-0.0 in
    let unassembled = subst (λ (t : TbsFields). IsUnassembled t value e) c.as_tbs.ensures c.in_err-cert.ensures.fault in
    let same : c.from_residual.result ≡ Err e = search rules in
    rw same (unassembled_incomplete x role f value e c.octets-octets.ensures.written unassembled)

pub returns-in-Err-clause-fault : goal.returns-in-Err-clause-fault
returns-in-Err-clause-fault g c =
    let x = context (g.V.Verifier.verifies c.args.verifier.now) c.args.now c.args.strict in
    let role = c.args.role.now in
    let f = c.args.prepared.now in
    let value = c.args.signature.now in
    let e = c.in-Err.error in
    let same : c.in_ok-cert.cert ≡ signed_with f value = rw (sym c.as_tbs.ensures) c.in_ok-cert.ensures.same in
    incomplete x role f value e (subst (λ (d : CertFields). IsInvalidAs x role d e) same c.in-Err.ensures.fault)

pub returns-in-Err-clause-ready : goal.returns-in-Err-clause-ready
returns-in-Err-clause-ready g c = λ ready.
    let x = context (g.V.Verifier.verifies c.args.verifier.now) c.args.now c.args.strict in
    let role = c.args.role.now in
    let f = c.args.prepared.now in
    let value = c.args.signature.now in
    let e = c.in-Err.error in
    let same : c.in_ok-cert.cert ≡ signed_with f value = rw (sym c.as_tbs.ensures) c.in_ok-cert.ensures.same in
    signature_fault (g.V.Verifier.verifies c.args.verifier.now) c.args.now c.args.strict f value role e ready.valid
    (incomplete x role f value e
    (subst (λ (d : CertFields). IsInvalidAs x role d e) same c.in-Err.ensures.fault))
