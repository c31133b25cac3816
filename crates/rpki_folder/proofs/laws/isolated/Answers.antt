use Rattle.std.specs.Prelude.{false}
use Rattle.rpki_cert.specs.Verification.{context}
use Rattle.rpki_folder.proofs.IsolatedPaths.{anchors_alike, leads_alike, unrevoked_alike}
use Rattle.rpki_folder.proofs.laws.isolated.Goals as goal

pub returns-clause-paths : goal.returns-clause-paths
returns-clause-paths g c = λ verifier now strict names keys old new adds p free.
    leads_alike names (context (g.V.Verifier.verifies verifier) now strict) keys old new adds p free

pub returns-clause-revocation : goal.returns-clause-revocation
returns-clause-revocation g c = λ verifier now strict names keys old new adds issuer own cert. unrevoked_alike names
    (context (g.V.Verifier.verifies verifier) now strict) keys old new adds issuer own cert

pub returns-clause-anchors : goal.returns-clause-anchors
returns-clause-anchors g c = λ verifier now strict keys old new adds cert own meets verified.
    anchors_alike false (context (g.V.Verifier.verifies verifier) now strict) keys old new adds cert own meets
    verified
