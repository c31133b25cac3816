use Rattle.std.specs.Prelude.{Option, None, Some, IsSome}
use Rattle.std.specs.BTreeMap.{BTreeMap, get}
use Rattle.std.specs.Cmp.Lexicographic.{slice_cmp}
use Rattle.std.specs.Global.{Vec}
use Rattle.std.specs.Ordering.{nat_cmp}
use Rattle.std.proofs.Common.{◌≡◌, ℕ, List, [], ◌∷◌, ◌++◌, refl, ap, subst, ◌∙◌}
use Rattle.rpki_folder.specs.KeyTables.{places_in}
use Rattle.rpki_folder.proofs.KeyTableSteps.{listed, Sets, place_added}
use Rattle.rpki_folder.proofs.names.NameTable.add.Goals as goal

pub returns-in-Some : goal.returns-in-Some
returns-in-Some c =
    let m = c.args.self.now.places in
    let w = c.push-added.new.self in
    let n = c.get_mut.follows.lender w in
    let key = c.args.name in
    let found : Some c.in-Some.places.now ≡ get (slice_cmp nat_cmp) m key = c.in-Some.ensures.value in
    let some : IsSome (get (slice_cmp nat_cmp) m key) = subst (λ (o : Option (Vec ℕ)). IsSome o) found refl in
    let items : w.items ≡ places_in m key ++ c.args.place ∷ [] = c.in_ok-added.ensures.items ∙
    ap (λ (o : Option (Vec ℕ)). listed o ++ c.args.place ∷ []) found in
    place_added m n key w c.args.place ((c.get_mut.follows.holds w).3 some).0 items

pub returns-in-Ok : goal.returns-in-Ok
returns-in-Ok c =
    let m = c.args.self.now.places in
    let n = c.insert.new.self in
    let w = c.push-added-2.new.self in
    let key = c.args.name in
    let none : None ≡ get (slice_cmp nat_cmp) m key = rw c.in_default.is at c.get_mut.ensures.value in
    let empty : [] ≡ places_in m key = ap listed none in
    let step = c.in_ok-name.ensures.ok in
    let pushed : w.items ≡ c.new-places.result.items ++ c.args.place ∷ [] = rw step.1 at c.push-added-2.ensures.items in
    let items : w.items ≡ places_in m key ++ c.args.place ∷ [] =
    pushed ∙ ap (λ (l : List ℕ). l ++ c.args.place ∷ []) (c.new-places.ensures.items ∙ empty) in
    let there : Sets c.get_mut.follows.lender-at-none n c.in_ok-name.name w = c.in-Ok.ensures.updates.0 in
    let sets : Sets m n key w = subst (λ (k : List ℕ). Sets m n k w) step.0
    (subst (λ (b : BTreeMap (List ℕ) (Vec ℕ)). Sets b n c.in_ok-name.name w) c.get_mut.follows.holds-at-none
    there) in
    place_added m n key w c.args.place sets items
