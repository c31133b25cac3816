use Rattle.std.specs.Prelude.{Option, None, Some, IsSome}
use Rattle.std.specs.BTreeMap.{BTreeMap, get}
use Rattle.std.specs.Cmp.Lexicographic.{slice_cmp}
use Rattle.std.specs.Global.{Vec}
use Rattle.std.specs.Ordering.{nat_cmp}
use Rattle.std.proofs.Common.{◌≡◌, ℕ, List, [], ◌∷◌, ◌++◌, refl, ap, subst, ◌∙◌}
use Rattle.rpki_folder.specs.KeyTables.{places_in, with_place}
use Rattle.rpki_folder.proofs.KeyTableSteps.{listed, Sets, place_added, place_kept, on_err}
use Rattle.rpki_folder.proofs.keys.KeyTable.add.Goals as goal

pub returns-in_err-push-clause-err : goal.returns-in_err-push-clause-err
returns-in_err-push-clause-err c =
    let m = c.args.self.now.places in
    let w = c.push.new.self in
    let key = c.as_octets.result.now in
    let found : Some c.in-Some.places.now ≡ get (slice_cmp nat_cmp) m key = c.in-Some.ensures.value in
    let some : IsSome (get (slice_cmp nat_cmp) m key) = subst (λ (o : Option (Vec ℕ)). IsSome o) found refl in
    on_err c.from_residual.result
    (place_kept m (c.get_mut.follows.lender w) key w ((c.get_mut.follows.holds w).3 some).0
    (c.in_err-push.ensures.items ∙ ap listed found))

pub returns-in-Some-clause-ok : goal.returns-in-Some-clause-ok
returns-in-Some-clause-ok c =
    let m = c.args.self.now.places in
    let w = c.push.new.self in
    let n = c.get_mut.follows.lender w in
    let key = c.as_octets.result.now in
    let found : Some c.in-Some.places.now ≡ get (slice_cmp nat_cmp) m key = c.in-Some.ensures.value in
    let some : IsSome (get (slice_cmp nat_cmp) m key) = subst (λ (o : Option (Vec ℕ)). IsSome o) found refl in
    let items : w.items ≡ places_in m key ++ c.args.place ∷ [] = c.in_ok-push.ensures.items ∙
    ap (λ (o : Option (Vec ℕ)). listed o ++ c.args.place ∷ []) found in
    subst (λ (q : List ℕ). (k : List ℕ) → places_in n k ≡ with_place q c.args.place k (places_in m k))
    c.as_octets.ensures.same
    (place_added m n key w c.args.place ((c.get_mut.follows.holds w).3 some).0 items)

pub returns-in-Ok-clause-ok : goal.returns-in-Ok-clause-ok
returns-in-Ok-clause-ok c =
    let m = c.args.self.now.places in
    let n = c.insert.new.self in
    let w = c.push-2.new.self in
    let key = c.args.key.now in
    let none : None ≡ get (slice_cmp nat_cmp) m c.as_octets.result.now =
    rw c.in_default.is at c.get_mut.ensures.value in
    let empty : [] ≡ places_in m key = ap listed none ∙ ap (λ (k : List ℕ). places_in m k) c.as_octets.ensures.same in
    let items : w.items ≡ places_in m key ++ c.args.place ∷ [] = c.in_ok-push-2.ensures.items ∙
    ap (λ (l : List ℕ). l ++ c.args.place ∷ []) (c.new-places.ensures.items ∙ empty) in
    let there : Sets c.get_mut.follows.lender-at-none n c.as_octets-2.result.now w = c.in-Ok.ensures.updates.0 in
    let sets : Sets m n key w = subst (λ (k : List ℕ). Sets m n k w) c.as_octets-2.ensures.same
    (subst (λ (b : BTreeMap (List ℕ) (Vec ℕ)). Sets b n c.as_octets-2.result.now w)
    c.get_mut.follows.holds-at-none there) in
    place_added m n key w c.args.place sets items
