use Rattle.rpki_cert.specs.Verification.{context}
use Rattle.rpki_path.specs.AskedLists.{by_named_lists}
use Rattle.rpki_folder.specs.FoundAnchors.Steps.{IsFoundAmong}
use Rattle.rpki_folder.proofs.walk.Walk.find_anchor.Given as goal

-- those so far were tried
abbrev pub invariant-loop-place : goal.invariant-loop-place
invariant-loop-place g l =
    let w = l.self in
    let x = context (g.V.Verifier.verifies w.verifier.now) w.at w.strict in
    IsFoundAmong x (by_named_lists w.names x w.folder.now.lists) w.names l.tal w.folder.now.certs l.place l.found
