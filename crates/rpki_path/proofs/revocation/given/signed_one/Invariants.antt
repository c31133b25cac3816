use Rattle.std.proofs.Common.{take}
use Rattle.rpki_cert.specs.Verification.{IsSignedBy}
use Rattle.rpki_path.specs.AskedLists.{IsFor, HaveNone}
use Rattle.rpki_path.proofs.revocation.given.signed_one.Given as goal

abbrev pub invariant-loop-list : goal.invariant-loop-list
invariant-loop-list g l =
    HaveNone (λ one. IsFor l.cert one × IsSignedBy (g.V.Verifier.verifies l.verifier) l.issuer.cert.fields.key
    one.list.signed_data) (take l.list-index l.lists)
