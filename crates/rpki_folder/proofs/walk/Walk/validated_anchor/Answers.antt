use Rattle.std.proofs.Common.{rules, ◌≡◌, [], Err, rc_value}
use Rattle.rpki_cert.specs.Verification.{context}
use Rattle.rpki_path.specs.AskedLists.{by_named_lists}
use Rattle.rpki_path.specs.LocatedPaths.{BeginsWithAnchor}
use Rattle.rpki_path.proofs.LocatedPaths.{anchor_fault}
use Rattle.rpki_folder.proofs.StepAnswers.{anchor_leads, anchor_wrong}
use Rattle.rpki_folder.proofs.walk.Walk.validated_anchor.Goals as goal

pub returns-in_err-test_anchor-clause-fault : goal.returns-in_err-test_anchor-clause-fault
returns-in_err-test_anchor-clause-fault g c =
    let w = c.args.self.now in
    let x = context (g.V.Verifier.verifies w.verifier.now) w.at w.strict in
    let e = c.in_err-test_anchor.field-0.0 in
    let same : c.from_residual.result ≡ Err e = search rules in
    rw same (anchor_fault x (by_named_lists w.names x w.folder.now.lists) [] c.args.tal.now.tal c.args.anchor.now e
    c.in_err-test_anchor.ensures.fault)

pub returns-clause-ok : goal.returns-clause-ok
returns-clause-ok g c =
    let w = c.args.self.now in
    let x = context (g.V.Verifier.verifies w.verifier.now) w.at w.strict in
    let t = c.args.tal.now in
    let anchor = c.args.anchor.now in
    let begins : BeginsWithAnchor t.tal anchor = search rules in
    let name : rc_value c.in_ok-name.name ≡ t.name = rw c.in_ok-name.ensures.ok at c.name_of.ensures.ok in
    anchor_leads x (by_named_lists w.names x w.folder.now.lists) t anchor c.unambiguous.ensures.certificate begins
    (rc_value c.in_ok-name.name) name c.at_top-2.result c.trust_anchor.result c.at_top-2.ensures.ok
    c.trust_anchor.ensures.ok

pub returns-clause-fault : goal.returns-clause-fault
returns-clause-fault g c =
    let w = c.args.self.now in
    let x = context (g.V.Verifier.verifies w.verifier.now) w.at w.strict in
    let t = c.args.tal.now in
    let anchor = c.args.anchor.now in
    let begins : BeginsWithAnchor t.tal anchor = search rules in
    anchor_wrong x (by_named_lists w.names x w.folder.now.lists) t anchor c.unambiguous.ensures.certificate begins
    c.at_top-2.result c.trust_anchor.result c.at_top-2.ensures.err c.trust_anchor.ensures.fault
