use Rattle.std.specs.Prelude.{Contains}
use Rattle.std.proofs.Common.{take}
use Rattle.rpki_cert.specs.Verification.{IsSignedBy}
use Rattle.rpki_crl.specs.Lists.{CrlState}
use Rattle.rpki_folder.proofs.ListPlaces.{lists_at}
use Rattle.rpki_folder.proofs.issuer_lists.has_signed.Given as goal

abbrev pub invariant-loop-place : goal.invariant-loop-place
invariant-loop-place g l = (list : CrlState) → Contains (lists_at l.lists (take l.place-index l.places)) list →
    IsSignedBy (g.V.Verifier.verifies l.verifier) l.issuer.cert.fields.key list.list.signed_data → ⊥
