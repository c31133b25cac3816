use Rattle.rpki_cert.specs.Verification.{context}
use Rattle.rpki_issuing.proofs.Accepted.{answers_for}
use Rattle.rpki_issuing.proofs.laws.current_list_answers.Goals as goal

pub returns : goal.returns
returns g c = λ verifier now strict issuer list current.
    answers_for (context (g.V.Verifier.verifies verifier) now strict) issuer list current
