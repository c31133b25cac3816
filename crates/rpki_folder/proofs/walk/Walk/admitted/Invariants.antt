use Rattle.std.proofs.Common.{take}
use Rattle.rpki_folder.specs.IssuerLists.{ArePicked}
use Rattle.rpki_folder.proofs.walk.Walk.admitted.Given as goal

abbrev pub invariant-loop-place : goal.invariant-loop-place
invariant-loop-place g l = ArePicked (g.A.Admission.admits l.self.admission.now l.above)
    (take l.place-index l.places) l.those.items
