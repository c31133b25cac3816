use Rattle.std.proofs.Common.{◌∷◌}
use Rattle.rpki_keys.specs.RsaSignatures.{IsSignedByRsa}
use Rattle.rpki_cert.specs.Verification.{context}
use Rattle.rpki_verdicts.proofs.UnrevokedFiles.{accepted_unrevoked}
use Rattle.rpki_verdicts.proofs.path.accepted_are_unrevoked.Goals as goal

pub returns : goal.returns
returns c = λ now strict d files lists list judged v.
    accepted_unrevoked d.names (context IsSignedByRsa now strict) (list ∷ lists) v.0 v.1 files v.2.0 judged v.2.1 v.2.2.accepted
