use Rattle.std.proofs.Common.{ℕ, List, [], ◌∷◌, ◌++◌, take, get_or, sym, subst}
use Rattle.std.proofs.lemmas.Bool.{both_ways}
use Rattle.std.proofs.lemmas.List.{take_more, take_all}
use Rattle.rpki_folder.specs.IssuerLists.{ArePicked}
use Rattle.rpki_folder.proofs.PickedLists.{picked_more, picked_same}
use Rattle.rpki_folder.proofs.walk.Walk.admitted.Goals as goal

pub loop-place-preserved-then-not-is_admitted : goal.loop-place-preserved-then-not-is_admitted
loop-place-preserved-then-not-is_admitted g c =
    let places = c.args.places.now in
    let i = c.loop-place.place-index in
    let P = g.A.Admission.admits c.args.self.now.admission.now c.args.above.now in
    let those = c.loop-place.those.items in
    subst (λ (l : List ℕ). ArePicked P l those) (sym (take_more places i 0 c.loop-place-test.true))
    (picked_same P (take i places) those (get_or places i 0) c.loop-place.invariant
    (λ p. both_ways c.is_admitted.result c.if-not-is_admitted.true (c.is_admitted.ensures.1 p)))

pub loop-place-preserved : goal.loop-place-preserved
loop-place-preserved g c =
    let places = c.args.places.now in
    let i = c.loop-place.place-index in
    let P = g.A.Admission.admits c.args.self.now.admission.now c.args.above.now in
    let those = c.loop-place.those.items in
    let place = get_or places i 0 in
    subst (λ (l : List ℕ). ArePicked P l c.push.new.self.items) (sym (take_more places i 0 c.loop-place-test.true))
    (subst (λ (l : List ℕ). ArePicked P (take i places ++ place ∷ []) l) (sym c.in_ok-push.ensures.items)
    (picked_more P (take i places) those place c.loop-place.invariant
    (c.is_admitted.ensures.0 c.if-not-is_admitted.false)))

pub returns : goal.returns
returns g c =
    let P = g.A.Admission.admits c.args.self.now.admission.now c.args.above.now in
    subst (λ (l : List ℕ). ArePicked P l c.loop-place.those.items)
    (take_all c.loop-place.place-index c.args.places.now c.loop-place-test.false) c.loop-place.invariant
