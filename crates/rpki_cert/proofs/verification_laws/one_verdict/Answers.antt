use Rattle.rpki_cert.specs.Verification.{context, CheckUnder, TrustAnchorCheck, issued_checks, trust_anchor_checks}
use Rattle.rpki_cert.proofs.Verdicts.{alike, answer_or_memory}
use Rattle.rpki_cert.proofs.verification_laws.one_verdict.Goals as goal

pub returns-clause-issued : goal.returns-clause-issued
returns-clause-issued g c = λ verifier now strict issuer cert r s t u.
    alike (CheckUnder (context (g.V.Verifier.verifies verifier) now strict) issuer cert) issued_checks r s t u

pub returns-clause-anchors : goal.returns-clause-anchors
returns-clause-anchors g c = λ verifier now strict cert r s t u.
    answer_or_memory (TrustAnchorCheck (context (g.V.Verifier.verifies verifier) now strict) cert)
    trust_anchor_checks r s t u
