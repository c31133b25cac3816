use Rattle.std.specs.Prelude.{Ok, Err}
use Rattle.rpki_cert.specs.Verification.{context}
use Rattle.rpki_crl.specs.Revocation.{IsUnderUri}
use Rattle.rpki_crl.specs.declared.revocation_error.RevocationError.TheVariants.{Revoked}
use Rattle.rpki_crl.proofs.Earliest.{one_earliest, tests_of}
use Rattle.rpki_issuing.proofs.laws.stored_list_answers.Goals as goal

pub returns-clause-unrevoked : goal.returns-clause-unrevoked
returns-clause-unrevoked g c = λ verifier now strict issuer pairs uri crl serial is leaves off.
    let x = context (g.V.Verifier.verifies verifier) now strict in
    tests_of x issuer serial (IsUnderUri pairs uri) crl is (λ d at. one_earliest pairs uri d crl at is) (Ok tt)
    (leaves serial off)

pub returns-clause-revoked : goal.returns-clause-revoked
returns-clause-revoked g c = λ verifier now strict issuer pairs uri crl serial is revokes on.
    let x = context (g.V.Verifier.verifies verifier) now strict in
    tests_of x issuer serial (IsUnderUri pairs uri) crl is (λ d at. one_earliest pairs uri d crl at is)
    (Err Revoked) (revokes serial on)
