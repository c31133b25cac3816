use Rattle.std.specs.Prelude.{List, Some, option_copied}
use Rattle.std.proofs.Common.{◌≡◌, ◌+◌, suc, map, take, refl, sym, ap, subst, arith}
use Rattle.std.proofs.lemmas.Bool.{both_ways}
use Rattle.std.proofs.lemmas.List.{take_all}
use Rattle.rpki_crl.proofs.Loops.{taken_more}
use Rattle.rpki_crl.specs.Lists.{CrlState}
use Rattle.rpki_path.specs.AskedLists.Steps.{IsLatestIfAny}
use Rattle.rpki_path.proofs.LatestLists.{kept_next, kept_same}
use Rattle.rpki_folder.proofs.issuer_lists.latest.Goals as goal

pub loop-list-preserved-then-not-goes_first : goal.loop-list-preserved-then-not-goes_first
loop-list-preserved-then-not-goes_first c =
    let lists = c.args.lists.now in
    let i = c.loop-list.list-index in
    let list = c.list-item.result in
    let kept = option_copied c.loop-list.kept in
    let next : i + 1 ≡ suc i = omega arith in
    let gone = taken_more (λ r. r.now) lists i (i + 1) list next c.loop-list-test.true c.list-item.is in
    subst (λ (seen : List CrlState). IsLatestIfAny (λ _. Unit {0}) c.args.cert.now seen kept) (sym gone)
    (kept_same (λ _. Unit {0}) c.args.cert.now (map (λ r. r.now) (take i lists)) kept list.now c.loop-list.invariant
    (λ is. both_ways c.goes_first.result c.if-not-goes_first.true (c.goes_first.ensures.1 is.1)))

pub loop-list-preserved : goal.loop-list-preserved
loop-list-preserved c =
    let lists = c.args.lists.now in
    let i = c.loop-list.list-index in
    let list = c.list-item.result in
    let next : i + 1 ≡ suc i = omega arith in
    let gone = taken_more (λ r. r.now) lists i (i + 1) list next c.loop-list-test.true c.list-item.is in
    subst (λ (seen : List CrlState). IsLatestIfAny (λ _. Unit {0}) c.args.cert.now seen (Some list.now)) (sym gone)
    (kept_next (λ _. Unit {0}) c.args.cert.now (map (λ r. r.now) (take i lists)) (option_copied c.loop-list.kept)
    list.now c.loop-list.invariant tt (c.if-not-goes_first.ensures.0 refl))

pub returns : goal.returns
returns c =
    let all = ap (λ rs. map (λ r. r.now) rs)
    (take_all c.loop-list.list-index c.args.lists.now c.loop-list-test.false) in
    subst (λ (seen : List CrlState). IsLatestIfAny (λ _. Unit {0}) c.args.cert.now seen
    (option_copied c.loop-list.kept)) all c.loop-list.invariant
