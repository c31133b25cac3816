use Rattle.std.specs.Prelude.{All}
use Rattle.std.proofs.Common.{◌≡◌, ◌∙◌, ◌<◌, ◌++◌, ◌∷◌, [], List, arith, length, map, sym, ap, subst, take}
use Rattle.std.proofs.lemmas.Bool.{false≢true}
use Rattle.std.proofs.lemmas.List.{map-append}
use Rattle.std.proofs.lemmas.List.Elements.{All-push}
use Rattle.rpki_cert.specs.Verification.{context}
use Rattle.rpki_keys.specs.RsaSignatures.{IsSignedByRsa}
use Rattle.rpki_path.proofs.LatestLists.{gone_over}
use Rattle.rpki_verdicts.specs.GivenLocators.{LocatorFields}
use Rattle.rpki_verdicts.specs.TreeParts.{AreFirstOfKeys, IsOfNewKey, IsPartOf}
use Rattle.rpki_verdicts.specs.Trees.{asked_of}
use Rattle.rpki_verdicts.specs.declared.parts.TreePart.{TreePart}
use Rattle.rpki_verdicts.proofs.FirstOfKeys.{keys_more, keys_same}
use Rattle.rpki_verdicts.proofs.parts.parts_of.Goals as goal
use Rattle.rpki_verdicts.proofs.parts.parts_of.Goals.{then-is_of_new_key+in_ok-part_of+in_ok-push, else-is_of_new_key}

-- one part more
with_part : (old new : List TreePart) (part : TreePart) (seen : List LocatorFields) (l : LocatorFields) →
    new ≡ old ++ part ∷ [] → part.locator.now ≡ l → AreFirstOfKeys [] seen (map (λ part. part.locator.now) old) →
    IsOfNewKey seen l → AreFirstOfKeys [] (seen ++ l ∷ []) (map (λ part. part.locator.now) new)
with_part old new part seen l is locator_is are fresh =
    let same : map (λ part. part.locator.now) new ≡ map (λ part. part.locator.now) old ++ l ∷ [] =
    ap (λ (ps : List TreePart). map (λ part. part.locator.now) ps) is
    ∙ map-append (λ part. part.locator.now) old (part ∷ [])
    ∙ ap (λ (m : LocatorFields). map (λ part. part.locator.now) old ++ m ∷ []) locator_is in
    subst (λ (ls : List LocatorFields). AreFirstOfKeys [] (seen ++ l ∷ []) ls) (sym same)
    (keys_more [] seen (map (λ part. part.locator.now) old) l are fresh)

pub loop-place-preserved : goal.loop-place-preserved
loop-place-preserved c =
    let q = c.args.question.now in
    let x = context IsSignedByRsa q.at q.strict in
    let locators = q.locators.now in
    let i = c.loop-place.place in
    let l = c.locator-item.result in
    let old = c.loop-place.parts.items in
    let low : i < length locators = omega arith in
    let seen = sym (gone_over locators i l low c.locator-item.is) in
    elim c.if-is_of_new_key.branch [
      | then-is_of_new_key+in_ok-part_of+in_ok-push w ↦
          let part = w.in_ok-part_of.field-0 in
          let new = c.if-is_of_new_key.parts.items in
          let is : new ≡ old ++ part ∷ [] = ap (λ v. v.items) w.parts-is ∙ w.in_ok-push.ensures.items in
          let fresh : IsOfNewKey (take i locators) l = c.is_of_new_key.ensures.0 w.if-is_of_new_key.true in
          record {
            locators =
                subst (λ (ls : List LocatorFields). AreFirstOfKeys [] ls (map (λ part. part.locator.now) new)) seen
                (with_part old new part (take i locators) l is w.in_ok-part_of.ensures.locator c.loop-place.invariant.locators fresh);
            parts =
                subst (λ (ps : List TreePart). All (IsPartOf x (asked_of q)) ps) (sym is)
                (All-push (IsPartOf x (asked_of q)) old part c.loop-place.invariant.parts w.in_ok-part_of.ensures.part);
          }
      | else-is_of_new_key w ↦
          let is : c.if-is_of_new_key.parts.items ≡ old = ap (λ v. v.items) w.parts-is in
          let stale : IsOfNewKey (take i locators) l →
          ⊥ = λ fresh. false≢true (sym w.if-is_of_new_key.false ∙ c.is_of_new_key.ensures.1 fresh) in
          record {
            locators =
                subst (λ (ls : List LocatorFields). AreFirstOfKeys [] ls
                (map (λ part. part.locator.now) c.if-is_of_new_key.parts.items)) seen
                (subst (λ (ps : List TreePart). AreFirstOfKeys [] (take i locators ++ l ∷ []) (map (λ part. part.locator.now) ps)) (sym is)
                (keys_same [] (take i locators) (map (λ part. part.locator.now) old) l c.loop-place.invariant.locators stale));
            parts = subst (λ (ps : List TreePart). All (IsPartOf x (asked_of q)) ps) (sym is) c.loop-place.invariant.parts;
          }
    ]
