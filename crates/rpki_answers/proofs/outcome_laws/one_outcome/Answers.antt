use Rattle.rpki_keys.specs.RsaSignatures.{IsSignedByRsa}
use Rattle.rpki_cert.specs.Verification.{context}
use Rattle.rpki_answers.proofs.SingleOutcomes.{one_outcome}
use Rattle.rpki_answers.proofs.outcome_laws.one_outcome.Goals as goal

pub returns : goal.returns
returns c = λ task not now strict d files lists one other a b.
    one_outcome (context IsSignedByRsa now strict) d files lists (c.one_answer.ensures now strict d files lists) task not one other a b
