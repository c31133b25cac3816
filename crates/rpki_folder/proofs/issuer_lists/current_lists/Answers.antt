use Rattle.std.proofs.Common.{◌≡◌, ◌+◌, suc, List, [], ◌∷◌, ◌++◌, map, take, refl, sym, ap, subst, ◌∙◌, arith}
use Rattle.std.proofs.lemmas.Bool.{both_ways}
use Rattle.std.proofs.lemmas.List.{map-append, take_all}
use Rattle.rpki_crl.proofs.Loops.{taken_more}
use Rattle.rpki_crl.specs.Lists.{CrlState}
use Rattle.rpki_folder.specs.IssuerLists.{ArePicked, IsCurrent}
use Rattle.rpki_folder.proofs.PickedLists.{picked_more, picked_same}
use Rattle.rpki_folder.proofs.issuer_lists.current_lists.Goals as goal

pub loop-list-preserved-then-not-is_current : goal.loop-list-preserved-then-not-is_current
loop-list-preserved-then-not-is_current g c =
    let lists = c.args.named.now in
    let i = c.loop-list.list-index in
    let list = c.list-item.result in
    let current = IsCurrent (g.V.Verifier.verifies c.args.verifier.now) c.args.now c.args.issuer.now.cert.fields in
    let kept = map (λ r. r.now) c.loop-list.kept.items in
    let next : i + 1 ≡ suc i = omega arith in
    let more = taken_more (λ r. r.now) lists i (i + 1) list next c.loop-list-test.true c.list-item.is in
    subst (λ (ls : List CrlState). ArePicked current ls kept) (sym more)
    (picked_same current (map (λ r. r.now) (take i lists)) kept list.now c.loop-list.invariant
    (λ is. both_ways c.is_current.result c.if-not-is_current.true (c.is_current.ensures.1 is)))

pub loop-list-preserved : goal.loop-list-preserved
loop-list-preserved g c =
    let lists = c.args.named.now in
    let i = c.loop-list.list-index in
    let list = c.list-item.result in
    let current = IsCurrent (g.V.Verifier.verifies c.args.verifier.now) c.args.now c.args.issuer.now.cert.fields in
    let old = c.loop-list.kept.items in
    let kept = map (λ r. r.now) old in
    let next : i + 1 ≡ suc i = omega arith in
    let more = taken_more (λ r. r.now) lists i (i + 1) list next c.loop-list-test.true c.list-item.is in
    let longer = ap (λ rs. map (λ r. r.now) rs) c.in_ok-push.ensures.items ∙ map-append (λ r. r.now) old (list ∷ []) in
    subst (λ (ls : List CrlState). ArePicked current ls (map (λ r. r.now) c.push.new.self.items)) (sym more)
    (subst (λ (ks : List CrlState). ArePicked current (map (λ r. r.now) (take i lists) ++ list.now ∷ []) ks)
    (sym longer)
    (picked_more current (map (λ r. r.now) (take i lists)) kept list.now c.loop-list.invariant
    (c.if-not-is_current.ensures.0 refl)))

pub returns : goal.returns
returns g c =
    let current = IsCurrent (g.V.Verifier.verifies c.args.verifier.now) c.args.now c.args.issuer.now.cert.fields in
    let all = ap (λ rs. map (λ r. r.now) rs)
    (take_all c.loop-list.list-index c.args.named.now c.loop-list-test.false) in
    subst (λ (ls : List CrlState). ArePicked current ls (map (λ r. r.now) c.loop-list.kept.items)) all
    c.loop-list.invariant
