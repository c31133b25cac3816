use Rattle.std.proofs.Common.{map, take}
use Rattle.rpki_folder.specs.IssuerLists.{ArePicked, IsCurrent}
use Rattle.rpki_folder.proofs.issuer_lists.current_lists.Given as goal

abbrev pub invariant-loop-list : goal.invariant-loop-list
invariant-loop-list g l = ArePicked (IsCurrent (g.V.Verifier.verifies l.verifier) l.now l.issuer.cert.fields)
    (map (λ r. r.now) (take l.list-index l.named)) (map (λ r. r.now) l.kept.items)
