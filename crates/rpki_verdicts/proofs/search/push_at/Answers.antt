use Rattle.std.proofs.Common.{◌≡◌, ◌++◌, List, ℕ, map, take, sym, subst}
use Rattle.std.proofs.lemmas.List.{append-nil, take_all, take_more}
use Rattle.rpki_verdicts.specs.Searches.{files_at}
use Rattle.rpki_verdicts.proofs.SearchSteps.{files_more}
use Rattle.rpki_verdicts.proofs.search.push_at.Goals as goal

pub loop-place-init : goal.loop-place-init
loop-place-init c = sym (append-nil (map (λ f. f.now) c.args.path.now.items))

pub loop-place-preserved : goal.loop-place-preserved
loop-place-preserved c =
    let certs = map (λ f. f.now) c.args.certs.now in
    let places = c.args.places.now in
    let i = c.loop-place.place-index in
    let before = map (λ f. f.now) c.args.path.now.items in
    let new = map (λ f. f.now) c.push_one.new.path.items in
    subst (λ (l : List ℕ). new ≡ before ++ files_at certs l) (sym (take_more places i _ c.loop-place-test.true))
    (files_more certs before (map (λ f. f.now) c.loop-place.path.items) new (take i places) _ c.loop-place.invariant
    c.in_ok-push_one.ensures)

pub returns : goal.returns
returns c =
    let certs = map (λ f. f.now) c.args.certs.now in
    let places = c.args.places.now in
    let before = map (λ f. f.now) c.args.path.now.items in
    subst (λ (l : List ℕ). map (λ f. f.now) c.loop-place.path.items ≡ before ++ files_at certs l)
    (take_all c.loop-place.place-index places c.loop-place-test.false) c.loop-place.invariant
