use Rattle.std.specs.List.{AllByRecursion}
use Rattle.std.specs.Prelude.{Contains}
use Rattle.std.proofs.Common.{◌≡◌, List, ◌++◌, length, take}
use Rattle.rpki_cert.specs.Verification.{context}
use Rattle.rpki_path.specs.AskedLists.{by_named_lists}
use Rattle.rpki_folder.specs.Walks.{Told}
use Rattle.rpki_folder.specs.Walks.Steps.{AreJudged, IsToldOf}
use Rattle.rpki_folder.proofs.walk.Walk.judge_children.Given as goal

abbrev pub invariant-loop-place : goal.invariant-loop-place
invariant-loop-place g l =
    let w = l.self in
    let x = context (g.V.Verifier.verifies w.verifier.now) w.at w.strict in
    let asked = by_named_lists w.names x w.folder.now.lists in
    let certs = w.folder.now.certs in
    (v : _) (ts : List Told) → g.W.Visitor.became v ts l.fn.visitor →
    (more : List Told) × g.W.Visitor.became v (ts ++ more) l.visitor
    × (length more ≡ l.place-index)
    × AllByRecursion (IsToldOf x asked l.issuer certs l.above (λ p. Contains l.children p)) more
    × AreJudged x asked l.issuer certs l.above (take l.place-index l.children) l.cas.items more
