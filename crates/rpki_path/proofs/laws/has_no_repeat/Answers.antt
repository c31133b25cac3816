use Rattle.rpki_cert.specs.Verification.{context}
use Rattle.rpki_path.proofs.UnrepeatedPaths.{unrepeated}
use Rattle.rpki_path.proofs.laws.has_no_repeat.Goals as goal

pub returns : goal.returns
returns g c = λ verifier source now strict names p by_entity walkable.
    let x = context (g.V.Verifier.verifies verifier) now strict in
    let asked = g.R.RevocationSource.asks source x in
    let r = unrepeated x asked names by_entity p walkable in
    (r.path, r.walkable, r.no_repeat, r.shortened)
