use Rattle.std.proofs.Common.{rules, arith, ◌≡◌, ◌≤◌, ◌++◌, List, ℕ, [], ap, subst, sym, ◌∙◌, get_or}
use Rattle.std.proofs.lemmas.List.{get_or_read}
use Rattle.rpki_cert.specs.Rearranging.{written}
use Rattle.rpki_cert.specs.declared.extra.Extra.{Extra}
use Rattle.rpki_cert.proofs.Orders.{all_get}
use Rattle.rpki_cert.proofs.SequencesBuilt.{passed_on_long}
use Rattle.rpki_cert.proofs.SequencesMade.{added_starts, added_goes_on, long_at}
use Rattle.rpki_cert.proofs.elements.gathered.Goals as goal

pub loop-extra-init : goal.loop-extra-init
loop-extra-init c = added_starts _ _ _ (search rules)

pub returns-in_err-push-clause-too_long : goal.returns-in_err-push-clause-too_long
returns-in_err-push-clause-too_long c =
    passed_on_long _ c.from_residual-in_err-push.result _ c.from_residual-in_err-push.ensures.1
    (λ long. long_at c.args.extras.now c.loop-extra.extra-index c.extra-item.result (omega arith)
    c.extra-item.is (c.in_err-push.ensures.too_long long))

pub loop-extra-preserved : goal.loop-extra-preserved
loop-extra-preserved c =
    let x = c.extra-item.result in
    let IsLow : Extra → Type 0 = λ y. y.at ≤ c.args.count in
    let low : x.at ≤ c.args.count =
    subst IsLow (sym c.extra-item.is)
    (all_get IsLow c.args.extras.now c.loop-extra.extra-index x (omega arith) c.requires) in
    let read : c.index_mut-place.result.now ≡ get_or c.loop-extra.places.items x.at c.index_mut-place.result.now = search rules in
    let old : c.index_mut-place.result.now ≡ get_or c.loop-extra.places.items x.at [] =
    get_or_read c.loop-extra.places.items x.at c.index_mut-place.result.now
    (omega (arith, low, c.loop-extra.invariant.as_many)) read [] in
    added_goes_on _ _ _ _ x c.push.new.self (omega arith) c.extra-item.is (omega (arith, low))
    c.in_ok-push.ensures.valid (c.in_ok-push.ensures.ok ∙ ap (λ (s : List ℕ). s ++ written x) old)
    c.loop-extra.invariant
