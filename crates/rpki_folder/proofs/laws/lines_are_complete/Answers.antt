use Rattle.rpki_cert.specs.Verification.{context}
use Rattle.rpki_folder.proofs.KeptWalkSteps.{complete_lines}
use Rattle.rpki_folder.proofs.laws.lines_are_complete.Goals as goal

pub returns : goal.returns
returns g c = λ verifier now strict names t f depth steps anchor firsts lines limits ended top above place.
    complete_lines (context (g.V.Verifier.verifies verifier) now strict) names t f depth steps anchor firsts lines
    limits ended c.unambiguous.ensures.certificate top above place
