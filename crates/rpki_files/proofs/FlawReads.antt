-- Flaws inside a value that is read, or that isn't there.
use Rattle.std.specs.Prelude.{Ok, Err}
use Rattle.std.proofs.Common.{◌≡◌, ℕ, List, ◌∷◌, ◌++◌, Option, None, subst, sym, ap, ◌∙◌}
use Rattle.rpki_der.specs.Encoding.{Begins, Means}
use Rattle.rpki_der.specs.declared.error.DecodeError.{DecodeError}
use Rattle.rpki_der.specs.Place.{Place, ReadsFrontBy, remaining}
use Rattle.rpki_der.specs.Values.{IsEnc}
use Rattle.rpki_der.proofs.Choices.{enc_begins}
use Rattle.rpki_der.proofs.Formats.{unambiguous, one_meant, of_enc, same_enc}
use Rattle.rpki_files.specs.Flaws.{Encloses, IsFirstTrue}
use Rattle.rpki_files.proofs.FirstTrue.{first_so, none_true}

-- octets begin with one value of an identifier octet at most
pub one_content : (tag : ℕ) (c d octets : List ℕ) → Means (IsEnc tag) c octets → Means (IsEnc tag) d octets → c ≡ d
one_content tag c d octets m n =
    one_meant (IsEnc tag)
    (unambiguous (IsEnc tag) (record { value = λ v b e. of_enc e; one = λ v w b p q. (same_enc p q).1 })) c d
    octets m n

-- the identifier octet is the first one
pub first_octet : (tag : ℕ) (content octets : List ℕ) → Means (IsEnc tag) content octets → (rest : List ℕ) × (octets ≡ tag ∷ rest)
first_octet tag content octets (rest, b) =
    let begins = enc_begins tag content b.text b.encoded in
    (begins.0 ++ rest, b.parts ∙ ap (λ (l : List ℕ). l ++ rest) begins.1)

module _ {X : Type 0} (tag : ℕ) (Is : X → List ℕ → Type 0) (xs : List X) (old at next : Place) (same : old ≡ at) where
  -- a value with this identifier octet was read
  pub first_inside : (inner : Place) (o : Option X) → ReadsFrontBy remaining (IsEnc tag) old (Ok inner) next
      → IsFirstTrue (λ x. Is x (remaining inner)) xs o → IsFirstTrue (λ x. Encloses tag (Is x) (remaining at)) xs o
  first_inside inner o read is =
      let means : Means (IsEnc tag) (remaining inner) (remaining at) =
      subst (λ (p : Place). Means (IsEnc tag) (remaining inner) (remaining p)) same (remaining next, read) in
      first_so (λ x. Is x (remaining inner)) (λ x. Encloses tag (Is x) (remaining at)) xs o
      (λ x p. (remaining inner, means, p))
      (λ x p. subst (Is x) (one_content tag p.0 (remaining inner) (remaining at) p.1 means) p.2) is

  -- none is there
  pub none_inside : (e : DecodeError) → ReadsFrontBy {X = Place} remaining (IsEnc tag) old (Err e) next →
      IsFirstTrue (λ x. Encloses tag (Is x) (remaining at)) xs None
  none_inside e read =
      none_true (λ x. Encloses tag (Is x) (remaining at)) xs
      (λ x p. read.1 p.0 p.1.0 (subst (λ (a : Place). Begins (IsEnc tag) (remaining a) p.0 p.1.0) (sym same) p.1.1))

-- no value stands where none with the first octet does
pub none_whole : (identifier : ℕ) (octets : List ℕ) → (rest : List ℕ) × (octets ≡ identifier ∷ rest) →
    ((content rest : List ℕ) → Begins (IsEnc identifier) octets content rest → ⊥)
    → (tag : ℕ) (content : List ℕ) → Means (IsEnc tag) content octets → ⊥
none_whole identifier octets first none tag content means =
    let there = first_octet tag content octets means in
    let both : tag ∷ there.0 ≡ identifier ∷ first.0 = sym there.1 ∙ first.1 in
    let same : tag ≡ identifier = cc in
    none content means.0 (subst (λ (t : ℕ). Begins (IsEnc t) octets content means.0) same means.1)
