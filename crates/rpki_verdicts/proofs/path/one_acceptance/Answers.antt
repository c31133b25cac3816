use Rattle.rpki_keys.specs.RsaSignatures.{IsSignedByRsa}
use Rattle.rpki_cert.specs.Verification.{context}
use Rattle.rpki_verdicts.proofs.OneVerdict.{ever_same}
use Rattle.rpki_verdicts.proofs.path.one_acceptance.Goals as goal

pub returns : goal.returns
returns c = λ now strict d files lists judged other a b. ever_same c.unambiguous.ensures.certificate
    c.unambiguous-2.ensures.list (context IsSignedByRsa now strict) d files lists judged other a b
