use Rattle.rpki_cert.specs.Verification.{context}
use Rattle.rpki_folder.specs.declared.walk_error.WalkError.{WalkError}
use Rattle.rpki_folder.proofs.CircleFree.{none_lost}
use Rattle.rpki_folder.proofs.laws.nothing_is_lost.Goals as goal

pub returns : goal.returns
returns g c = λ verifier source now strict names t anchor certs depth steps ended ts kind place above by_entity tells says other covers way.
    let x = context (g.V.Verifier.verifies verifier) now strict in
    none_lost x (g.R.RevocationSource.asks source x) names t anchor certs place kind
    c.unambiguous.ensures.certificate by_entity says other {E = WalkError} depth steps ended ts tells above
    covers way
