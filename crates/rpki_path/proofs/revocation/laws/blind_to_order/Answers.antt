use Rattle.rpki_cert.specs.Verification.{context}
use Rattle.rpki_path.proofs.SameLists.{checks_there, unrevoked_alike}
use Rattle.rpki_path.proofs.revocation.laws.blind_to_order.Goals as goal

pub returns-clause-checks : goal.returns-clause-checks
returns-clause-checks g c = λ v now strict names lists others issuer cert e same.
    checks_there names (context (g.V.Verifier.verifies v) now strict) issuer cert lists others same e

pub returns-clause-unrevoked : goal.returns-clause-unrevoked
returns-clause-unrevoked g c = λ v now strict names lists others issuer cert same. unrevoked_alike names
    (context (g.V.Verifier.verifies v) now strict) issuer cert lists others same
