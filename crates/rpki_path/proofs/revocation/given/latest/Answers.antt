use Rattle.std.specs.Prelude.{List, Some, option_copied}
use Rattle.std.proofs.Common.{take, refl, sym, subst}
use Rattle.std.proofs.lemmas.Bool.{both_ways}
use Rattle.rpki_crl.specs.Lists.{CrlState}
use Rattle.rpki_path.specs.AskedLists.{IsEligibleNamed}
use Rattle.rpki_path.specs.AskedLists.Steps.{IsLatestIfAny}
use Rattle.rpki_path.proofs.LatestLists.{gone_over, kept_next, kept_same}
use Rattle.rpki_path.proofs.revocation.given.latest.Goals as goal

pub loop-list-preserved-then-not-is_next : goal.loop-list-preserved-then-not-is_next
loop-list-preserved-then-not-is_next g c =
    let fits = IsEligibleNamed c.args.names (g.V.Verifier.verifies c.args.verifier.now) c.args.now
    c.args.issuer.now.cert.fields c.args.cert.now in
    let lists = c.args.lists.now in
    let i = c.loop-list.list-index in
    let list = c.list-item.result in
    let kept = option_copied c.loop-list.kept in
    subst (λ (seen : List CrlState). IsLatestIfAny fits c.args.cert.now seen kept)
    (sym (gone_over lists i list c.loop-list-test.true c.list-item.is))
    (kept_same fits c.args.cert.now (take i lists) kept list c.loop-list.invariant
    (λ is. both_ways c.is_next.result c.if-not-is_next.true (c.is_next.ensures.1 is)))

pub loop-list-preserved : goal.loop-list-preserved
loop-list-preserved g c =
    let fits = IsEligibleNamed c.args.names (g.V.Verifier.verifies c.args.verifier.now) c.args.now
    c.args.issuer.now.cert.fields c.args.cert.now in
    let lists = c.args.lists.now in
    let i = c.loop-list.list-index in
    let list = c.list-item.result in
    let is = c.if-not-is_next.ensures.0 refl in
    subst (λ (seen : List CrlState). IsLatestIfAny fits c.args.cert.now seen (Some list))
    (sym (gone_over lists i list c.loop-list-test.true c.list-item.is))
    (kept_next fits c.args.cert.now (take i lists) (option_copied c.loop-list.kept) list c.loop-list.invariant is.0
    is.1)
