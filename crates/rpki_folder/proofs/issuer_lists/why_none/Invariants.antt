use Rattle.std.specs.Prelude.{Contains}
use Rattle.std.proofs.Common.{map, take}
use Rattle.rpki_cert.specs.Verification.{IsSignedBy}
use Rattle.rpki_crl.specs.Lists.{CrlState}
use Rattle.rpki_folder.proofs.issuer_lists.why_none.Given as goal

abbrev pub invariant-loop-list : goal.invariant-loop-list
invariant-loop-list g l = (list : CrlState) → Contains (map (λ r. r.now) (take l.list-index l.named)) list →
    IsSignedBy (g.V.Verifier.verifies l.verifier) l.issuer.cert.fields.key list.list.signed_data
