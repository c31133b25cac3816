-- The first locators of their keys, one locator more.
use Rattle.std.proofs.Common.{List, [], ◌∷◌, ◌++◌, inl, inr, refl, sym, ap, subst}
use Rattle.std.proofs.lemmas.List.{append-nil, append_assoc}
use Rattle.rpki_verdicts.specs.GivenLocators.{LocatorFields}
use Rattle.rpki_verdicts.specs.TreeParts.{AreFirstOfKeys, IsOfNewKey}

-- one that is of no new key adds none
pub keys_same : (before locators firsts : List LocatorFields) (l : LocatorFields) →
    AreFirstOfKeys before locators firsts → (IsOfNewKey (before ++ locators) l → ⊥) →
    AreFirstOfKeys before (locators ++ l ∷ []) firsts
keys_same before [] firsts l are old = inl (subst (λ (o : List LocatorFields). IsOfNewKey o l → ⊥) (append-nil before) old, are)
keys_same before (m ∷ locators) firsts l (inl are) old =
    inl (
      are.0,
      keys_same (before ++ m ∷ []) locators firsts l are.1
          (subst (λ (o : List LocatorFields). IsOfNewKey o l → ⊥) (sym (append_assoc before (m ∷ []) locators)) old),
    )
keys_same before (m ∷ locators) firsts l (inr are) old =
    inr (
      are.0,
      are.1,
      keys_same (before ++ m ∷ []) locators are.0 l are.2
          (subst (λ (o : List LocatorFields). IsOfNewKey o l → ⊥) (sym (append_assoc before (m ∷ []) locators)) old),
      are.3,
    )

-- one of a new key is the last of them
pub keys_more : (before locators firsts : List LocatorFields) (l : LocatorFields) →
    AreFirstOfKeys before locators firsts → IsOfNewKey (before ++ locators) l →
    AreFirstOfKeys before (locators ++ l ∷ []) (firsts ++ l ∷ [])
keys_more before [] firsts l are new =
    inr (
      [],
      subst (λ (o : List LocatorFields). IsOfNewKey o l) (append-nil before) new,
      refl,
      ap (λ (o : List LocatorFields). o ++ l ∷ []) are,
    )
keys_more before (m ∷ locators) firsts l (inl are) new =
    inl (
      are.0,
      keys_more (before ++ m ∷ []) locators firsts l are.1
          (subst (λ (o : List LocatorFields). IsOfNewKey o l) (sym (append_assoc before (m ∷ []) locators)) new),
    )
keys_more before (m ∷ locators) firsts l (inr are) new =
    inr (
      are.0 ++ l ∷ [],
      are.1,
      keys_more (before ++ m ∷ []) locators are.0 l are.2
          (subst (λ (o : List LocatorFields). IsOfNewKey o l) (sym (append_assoc before (m ∷ []) locators)) new),
      ap (λ (o : List LocatorFields). o ++ l ∷ []) are.3,
    )
