-- What stands in the two tags of the field of extensions.
use Rattle.std.specs.Prelude.{◌↔◌, Bool, false, IsTrue, MatchOption, Option, Some, None}
use Rattle.std.proofs.Common.{◌≡◌, ℕ, List, refl, sym, subst}
use Rattle.std.proofs.lemmas.Bool.{false≢true}
use Rattle.rpki_der.specs.Encoding.{Means}
use Rattle.rpki_der.specs.Place.{Place, remaining}
use Rattle.rpki_der.specs.Tags.{SEQUENCE}
use Rattle.rpki_der.specs.Values.{IsEnc}
use Rattle.rpki_files.specs.NamedFaults.{ExtensionsAre}
use Rattle.rpki_files.specs.StopPlaces.{extensions_tag}
use Rattle.rpki_files.proofs.FlawReads.{one_content}

-- what was found, or that nothing is there
abbrev pub FindsElements : Bool → List ℕ → Option Place → Type 0
FindsElements is_list octets found =
    MatchOption found ((content : List ℕ) → ExtensionsAre is_list (λ e. e ≡ content) octets → ⊥)
    (λ elements. ExtensionsAre is_list (λ e. e ≡ remaining elements) octets)

module _ (is_list : Bool) (octets : List ℕ) (tag : ℕ) (tag_is : tag ≡ extensions_tag is_list) where
  -- the first tag isn't there
  pub untagged : ((content : List ℕ) → Means (IsEnc tag) content octets → ⊥) → FindsElements is_list octets None
  untagged none = λ content has. none has.0 (subst (λ (t : ℕ). Means (IsEnc t) has.0 octets) (sym tag_is) has.1)

  -- it is, and the second one tells
  pub tagged_with : (tagged : List ℕ) → Means (IsEnc tag) tagged octets → (found : Option Place)
      → MatchOption found ((content : List ℕ) → Means (IsEnc SEQUENCE) content tagged → ⊥)
      (λ inside. Means (IsEnc SEQUENCE) (remaining inside) tagged)
      → FindsElements is_list octets found
  tagged_with tagged opens (Some inside) means =
      (tagged, subst (λ (t : ℕ). Means (IsEnc t) tagged octets) tag_is opens, (remaining inside, means, refl))
  tagged_with tagged opens None none = λ content has.
      let here = subst (λ (t : ℕ). Means (IsEnc t) tagged octets) tag_is opens in
      none has.2.0 (subst (λ (o : List ℕ). Means (IsEnc SEQUENCE) has.2.0 o)
      (one_content (extensions_tag is_list) has.0 tagged octets has.1 here) has.2.1)

module _ (is_list : Bool) (Are : List ℕ → Type 0) (octets : List ℕ) where
  -- a test of what stands there
  pub elements_are : (elements : List ℕ) (holds : Bool) → ExtensionsAre is_list (λ e. e ≡ elements) octets →
      IsTrue holds ↔ Are elements → IsTrue holds ↔ ExtensionsAre is_list Are octets
  elements_are elements holds has says = (
    (λ yes. (has.0, has.1, (has.2.0, has.2.1, subst Are (sym has.2.2) (says.0 yes)))),
    (λ are.
        let tagged = one_content (extensions_tag is_list) are.0 has.0 octets are.1 has.1 in
        let same = one_content SEQUENCE are.2.0 has.2.0 has.0
        (subst (λ (o : List ℕ). Means (IsEnc SEQUENCE) are.2.0 o) tagged are.2.1) has.2.1 in
        says.1 (subst Are has.2.2 (subst Are same are.2.2))),
  )

  -- nothing stands there
  pub none_are : ((content : List ℕ) → ExtensionsAre is_list (λ e. e ≡ content) octets → ⊥) →
      IsTrue false ↔ ExtensionsAre is_list Are octets
  none_are none = ((λ no. absurd (false≢true no)), (λ are. absurd (none are.2.0 (are.0, are.1, (are.2.0, are.2.1, refl)))))
