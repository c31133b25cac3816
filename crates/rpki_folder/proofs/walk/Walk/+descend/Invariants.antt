use Rattle.std.specs.Prelude.{Ok}
use Rattle.std.specs.declared.alloc.AllocError.{AllocError}
use Rattle.std.proofs.Common.{◌≡◌, ◌+◌, ◌*◌, List, ◌++◌, take}
use Rattle.rpki_cert.specs.Verification.{context}
use Rattle.rpki_path.specs.AskedLists.{by_named_lists}
use Rattle.rpki_folder.specs.IssuerTables.{AreIssuersKept}
use Rattle.rpki_folder.specs.Walks.{Told, IsLookedAt}
use Rattle.rpki_folder.specs.Walks.Steps.{WalksBelowEach}
use Rattle.rpki_folder.specs.ReachedLimits.Steps.{KeepsBelowEach}
use Rattle.rpki_folder.proofs.walk.Walk.+descend.Given as goal

abbrev pub decreases-descend : goal.decreases-descend
decreases-descend g l = 2 * l.depth

abbrev pub decreases-each_below : goal.decreases-each_below
decreases-each_below g l = 2 * l.depth + 1

abbrev pub invariant-each_below-loop-ca : goal.invariant-each_below-loop-ca
invariant-each_below-loop-ca g l =
    let w = l.self in
    let x = context (g.V.Verifier.verifies w.verifier.now) w.at w.strict in
    let above = l.fn.trail.above.items in
    (l.trail.above.items ≡ above)
    × AreIssuersKept w.names x w.folder.now l.issuers
    × ((v : _) (ts : List Told) → g.W.Visitor.became v ts l.fn.visitor →
    (more : List Told) × g.W.Visitor.became v (ts ++ more) l.visitor
    × WalksBelowEach {E = AllocError} x (by_named_lists w.names x w.folder.now.lists)
    (IsLookedAt w.names (g.A.Admission.admits w.admission.now) l.top.cert w.folder.now.certs)
    w.folder.now.certs above l.depth l.share.steps (take l.ca-index l.cas) (Ok l.ended) more)
    × KeepsBelowEach x (by_named_lists w.names x w.folder.now.lists)
    (IsLookedAt w.names (g.A.Admission.admits w.admission.now) l.top.cert w.folder.now.certs)
    w.folder.now.certs above l.depth l.share (take l.ca-index l.cas) l.fn.trail.limits l.trail.limits l.ended
