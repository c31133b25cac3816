use Rattle.rpki_der.proofs.Answering.{whole_means}
use Rattle.rpki_cert.specs.Certificates.{IsCertificate}
use Rattle.rpki_cert.specs.Verification.{context}
use Rattle.rpki_path.proofs.ValidPaths.{valid_then, held_then, one_more}
use Rattle.rpki_path.proofs.laws.issued_below.Goals as goal

pub returns-clause-path : goal.returns-clause-path
returns-clause-path g c = λ verifier source now strict p tal issuer r kind is_valid held below free.
    let x = context (g.V.Verifier.verifies verifier) now strict in
    let asked = g.R.RevocationSource.asks source x in (
      valid_then x asked p tal issuer held kind r is_valid below free,
      held_then x asked p tal issuer held kind r below.issued,
    )

pub returns-clause-strings : goal.returns-clause-strings
returns-clause-strings g c = λ verifier source now strict anchor below tal issuer r kind octets accepted valid free is.
    let x = context (g.V.Verifier.verifies verifier) now strict in
    let asked = g.R.RevocationSource.asks source x in
    one_more x asked anchor below tal issuer kind octets r accepted
    (record { begins = whole_means IsCertificate r.cert octets is; below = valid; unrevoked = free })
