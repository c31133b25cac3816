use Rattle.std.specs.Prelude.{None, Some}
use Rattle.std.specs.BTreeMap.{get}
use Rattle.std.specs.Cmp.Lexicographic.{slice_cmp}
use Rattle.std.specs.Ordering.{nat_cmp}
use Rattle.std.proofs.Common.{rules, ◌≡◌, ℕ, List, [], ◌∷◌, ◌++◌, length, map, sym, ap, subst, ◌∙◌, arith}
use Rattle.std.proofs.lemmas.List.{length-map}
use Rattle.rpki_folder.specs.FirstPlaces.{first_from}
use Rattle.rpki_folder.proofs.FirstSteps.{each_pushed, found_still, first_still, found_more, first_now}
use Rattle.rpki_folder.proofs.firsts.Firsts.add.Goals as goal

pub returns-in_ok-push-in-Some : goal.returns-in_ok-push-in-Some
returns-in_ok-push-in-Some c = λ strings are.
    let m = c.args.self.now.places in
    let s = c.args.octets in
    let first = c.in-Some.first in
    let has : get (slice_cmp nat_cmp) m s ≡ Some first = search rules in
    let was : first_from 0 strings s ≡ Some first = sym (are.found s) ∙ has in
    record {
      found = found_still strings s m m are.found first was;
      each = subst (λ (l : List ℕ). map (λ (place : ℕ). Some place) l ≡ map (first_from 0 (strings ++ s ∷ []))
          (strings ++ s ∷ [])) (sym c.in_ok-push-in-Some.ensures.items)
          (each_pushed strings s c.args.self.now.firsts.items first are.each
          (first_still strings s m m are.found first was));
    }

pub returns-in_ok-push-in-None : goal.returns-in_ok-push-in-None
returns-in_ok-push-in-None c = λ strings are.
    let m = c.args.self.now.places in
    let n = c.insert.new.self in
    let s = c.args.octets in
    let firsts = c.args.self.now.firsts in
    let place = c.len-place.result in
    let has : get (slice_cmp nat_cmp) m s ≡ None = search rules in
    let was : first_from 0 strings s ≡ None = sym (are.found s) ∙ has in
    let last : place ≡ length strings =
    omega (
      arith,
      c.len-place.ensures,
      firsts.ok.0,
      ap length are.each,
      length-map firsts.items (λ (p : ℕ). Some p),
      length-map strings (first_from 0 strings),
    ) in
    let sets = c.in_ok-insert-in-None.ensures.updates.0 in
    record {
      found = found_more strings s m n are.found place last was sets;
      each = subst (λ (l : List ℕ). map (λ (p : ℕ). Some p) l ≡ map (first_from 0 (strings ++ s ∷ []))
          (strings ++ s ∷ [])) (sym c.in_ok-push-in-None.ensures.items)
          (each_pushed strings s firsts.items place are.each (first_now strings s m n are.found place last was sets));
    }
