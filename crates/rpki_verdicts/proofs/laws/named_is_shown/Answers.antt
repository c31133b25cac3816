use Rattle.rpki_cert.specs.Certificates.{IsCertificate}
use Rattle.rpki_cert.specs.Verification.{context}
use Rattle.rpki_keys.specs.RsaSignatures.{IsSignedByRsa}
use Rattle.rpki_der.proofs.Formats.{one_meant}
use Rattle.rpki_verdicts.proofs.NamedShown.{shows_named}
use Rattle.rpki_verdicts.proofs.laws.named_is_shown.Goals as goal

pub returns : goal.returns
returns c = λ q.
    let law = c.unambiguous.ensures.certificate in
    shows_named law (λ a b octets m n. one_meant IsCertificate law a b octets m n) (context IsSignedByRsa q.at q.strict) q
