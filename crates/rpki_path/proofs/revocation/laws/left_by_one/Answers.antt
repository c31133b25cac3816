use Rattle.rpki_cert.specs.Verification.{context}
use Rattle.rpki_path.proofs.AskedNamedList.{left_by_asked}
use Rattle.rpki_path.proofs.revocation.laws.left_by_one.Goals as goal

pub returns : goal.returns
returns g c = λ v now strict names lists issuer cert h.
    left_by_asked names (context (g.V.Verifier.verifies v) now strict) lists issuer cert h
