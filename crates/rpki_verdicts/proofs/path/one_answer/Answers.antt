use Rattle.rpki_keys.specs.RsaSignatures.{IsSignedByRsa}
use Rattle.rpki_cert.specs.Verification.{context}
use Rattle.rpki_verdicts.proofs.OneVerdict.{never_both}
use Rattle.rpki_verdicts.proofs.path.one_answer.Goals as goal

pub returns : goal.returns
returns c = λ now strict d files lists judged fault a b. never_both c.unambiguous.ensures.certificate
    c.unambiguous-2.ensures.list (context IsSignedByRsa now strict) d files lists judged fault a b
