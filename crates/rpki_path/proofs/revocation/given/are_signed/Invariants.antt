use Rattle.std.proofs.Common.{take}
use Rattle.rpki_cert.specs.Verification.{IsSignedBy}
use Rattle.rpki_path.specs.AskedLists.{IsForBelow}
use Rattle.rpki_path.specs.AskedLists.Steps.{EachHas}
use Rattle.rpki_path.proofs.revocation.given.are_signed.Given as goal

abbrev pub invariant-loop-list : goal.invariant-loop-list
invariant-loop-list g l = EachHas (IsForBelow l.names l.issuer.cert.fields l.cert)
    (λ one. IsSignedBy (g.V.Verifier.verifies l.verifier) l.issuer.cert.fields.key one.list.signed_data)
    (take l.list-index l.lists)
