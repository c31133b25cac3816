use Rattle.rpki_cert.specs.Verification.{context}
use Rattle.rpki_isolation.proofs.IsolatedAnchors.{anchors_same}
use Rattle.rpki_isolation.proofs.ChosenAnchors.{chosen_same}
use Rattle.rpki_isolation.proofs.laws.isolated_anchors.Goals as goal

pub returns-clause-valid : goal.returns-clause-valid
returns-clause-valid g c = λ verifier now strict names keys old new adds t own cert.
    anchors_same (context (g.V.Verifier.verifies verifier) now strict) names t c.unambiguous.ensures.certificate keys own old new adds cert

pub returns-clause-chosen : goal.returns-clause-chosen
returns-clause-chosen g c = λ verifier now strict names keys old new adds t own place other here there.
    chosen_same (context (g.V.Verifier.verifies verifier) now strict) names t c.unambiguous.ensures.certificate
    c.unambiguous.ensures.data keys own old new adds place other here there
