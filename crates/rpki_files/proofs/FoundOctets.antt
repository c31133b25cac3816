-- Octets in which a value was found, with so many behind it.
use Rattle.std.specs.Prelude.{IsTrue, MatchOption, Option, Some, None, is_some}
use Rattle.std.proofs.Common.{◌≡◌, ◌↔◌, ◌+◌, ℕ, inr, List, [], ◌++◌, length, length-append, refl, sym, ap, subst, ◌∙◌, arith}
use Rattle.std.proofs.lemmas.Bool.{false≢true}
use Rattle.std.proofs.lemmas.List.{append-nil, nil_from_length}
use Rattle.rpki_der.specs.Encoding.{Means}
use Rattle.rpki_der.specs.Values.{IsUnambiguous}
use Rattle.rpki_crl.specs.Lists.{CrlState, IsCertificateList}
use Rattle.rpki_files.specs.Contents.{BeginsBefore, BeginsWithList, IsContent, IsFront, IsList}
use Rattle.rpki_files.specs.declared.bare.Front.TheVariants as front
use Rattle.rpki_files.specs.declared.contents.Content.{Content}
use Rattle.rpki_files.specs.declared.contents.Content.TheVariants as content

-- what they begin with, with nothing behind it, they are
pub found_whole : {V : Type 0} (encodes : V → List ℕ → Type 0) (octets : List ℕ) (v : V) (left : ℕ) →
    BeginsBefore encodes octets v left → left ≡ 0 → encodes v octets
found_whole encodes octets v left (rest, begins, behind) none =
    let same : octets ≡ begins.text = begins.parts ∙ ap (λ (r : List ℕ). begins.text ++ r)
    (nil_from_length rest (sym behind ∙ none)) ∙ append-nil begins.text in
    subst (λ (o : List ℕ). encodes v o) (sym same) begins.encoded

-- with something behind it, they are of none
pub found_part : {V : Type 0} (encodes : V → List ℕ → Type 0) → IsUnambiguous encodes →
    (octets : List ℕ) (v : V) (left : ℕ) → BeginsBefore encodes octets v left → (left ≡ 0 → ⊥) → (w : V) →
    encodes w octets → ⊥
found_part encodes one octets v left (rest, begins, behind) some w h =
    let text : begins.text ≡ octets =
    (one v w begins.text octets rest [] begins.encoded h (sym begins.parts ∙ sym (append-nil octets))).1 in
    let all : length octets ≡ length begins.text + length rest = ap (λ (o : List ℕ). length o) begins.parts ∙
    length-append begins.text rest in
    let same : length begins.text ≡ length octets = ap (λ (o : List ℕ). length o) text in
    some (omega arith)

-- where nothing was found, they are of none
pub found_none : {V : Type 0} (encodes : V → List ℕ → Type 0) (octets : List ℕ) →
    ((y : V) → Means encodes y octets → ⊥) → (w : V) → encodes w octets → ⊥
found_none encodes octets none w h = none w ([], record { text = octets; encoded = h; parts = sym (append-nil octets) })

-- whether some were found is whether there are some
pub some_or_none : {X P : Type 0} {Is : X → Type 0} (o : Option X) → MatchOption o (P → ⊥) Is → ((x : X) → Is x → P) →
    IsTrue (is_some o) ↔ P
some_or_none (Some x) h there = ((λ yes. there x h), (λ p. refl))
some_or_none None h there = ((λ no. absurd (false≢true no)), (λ p. absurd (h p)))

-- octets that are a list begin with one
begins_with : (octets : List ℕ) → IsList octets → BeginsWithList octets
begins_with octets is = (is.0, ([], record { text = octets; encoded = is.1; parts = sym (append-nil octets) }))

-- octets that are a list are kept as one
pub kept_list : (octets : List ℕ) (c : Content) → IsContent octets c → IsList octets → IsFront octets front.List
kept_list octets (content.Certificate c left) is list = absurd (is.1 (begins_with octets list))
kept_list octets (content.List l left) is list = (list, is.1)
kept_list octets (content.Neither fault) is list = absurd (is.1 (inr (begins_with octets list)))

module _ (octets : List ℕ) where
  -- octets that begin with a list before others are none
  pub part_of_list : IsUnambiguous IsCertificateList → (l : CrlState) (left : ℕ) →
      IsContent octets (content.List l left) → (left ≡ 0 → ⊥) → IsList octets → ⊥
  part_of_list one l left is some list = found_part IsCertificateList one octets l.list left is.0 some list.0 list.1

  -- nor are those that begin with none
  pub no_list_read : (c : Content) → IsContent octets c → ((l : CrlState) (left : ℕ) → c ≡ content.List l left → ⊥) → IsList octets → ⊥
  no_list_read (content.Certificate c left) is not list = is.1 (begins_with octets list)
  no_list_read (content.List l left) is not list = not l left refl
  no_list_read (content.Neither fault) is not list = is.1 (inr (begins_with octets list))
