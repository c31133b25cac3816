use Rattle.std.proofs.Common.{map, take}
use Rattle.rpki_folder.specs.IssuerLists.{ArePicked, HasName}
use Rattle.rpki_folder.proofs.ListPlaces.{lists_at}
use Rattle.rpki_folder.proofs.issuer_lists.named_lists.Given as goal

abbrev pub invariant-loop-place : goal.invariant-loop-place
invariant-loop-place l = ArePicked (HasName l.names l.issuer.cert.fields)
    (lists_at l.lists (take l.place-index l.places)) (map (λ r. r.now) l.named.items)
