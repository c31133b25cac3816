use Rattle.std.specs.List.{AllByRecursion}
use Rattle.std.proofs.Common.{List, ◌++◌, take}
use Rattle.rpki_cert.specs.Verification.{context}
use Rattle.rpki_path.specs.AskedLists.{by_named_lists}
use Rattle.rpki_folder.specs.Walks.{Told, IsNamedUnder}
use Rattle.rpki_folder.specs.Walks.Steps.{AreChildrenAmong, IsOther, IsToldOf}
use Rattle.rpki_folder.proofs.walk.Walk.children.Given as goal

abbrev pub invariant-loop-place : goal.invariant-loop-place
invariant-loop-place g l =
    let w = l.self in
    let verifies = g.V.Verifier.verifies w.verifier.now in
    let x = context verifies w.at w.strict in
    let certs = w.folder.now.certs in
    ((v : _) (ts : List Told) → g.W.Visitor.became v ts l.fn.visitor →
    (more : List Told) × g.W.Visitor.became v (ts ++ more) l.visitor
    × AllByRecursion (IsToldOf x (by_named_lists w.names x w.folder.now.lists) l.issuer certs l.above
    (IsOther verifies w.names (g.A.Admission.admits w.admission.now) l.issuer.cert certs l.above)) more)
    × AreChildrenAmong verifies (λ p. IsNamedUnder w.names l.issuer.cert certs p) l.issuer.cert certs
    (take l.place-index l.places) l.children.items
