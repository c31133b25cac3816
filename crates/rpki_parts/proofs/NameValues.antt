-- A Name is written as its definition says.
use Rattle.std.specs.Prelude.{map, codes}
use Rattle.std.proofs.Common.{◌≡◌, ◌<◌, ℕ, List, [], ◌∷◌, ◌++◌, length, Option, Some, refl, sym, ap, ◌∙◌, arith}
use Rattle.std.proofs.lemmas.List.{append-nil}
use Rattle.rpki_der.specs.Sequences.{AreEncodings}
use Rattle.rpki_der.specs.Sequences.Reading.{sequence_of, Shrinks}
use Rattle.rpki_der.specs.Skipping.{levels}
use Rattle.rpki_der.specs.Tags.{SEQUENCE, SET}
use Rattle.rpki_der.specs.Values.Reading.{value_at}
use Rattle.rpki_der.proofs.Choices.{content_shrinks}
use Rattle.rpki_der.proofs.IdentifierReads.{oid_reads}
use Rattle.rpki_der.proofs.Octets.{some}
use Rattle.rpki_der.proofs.Sequences.{sequence_steps}
use Rattle.rpki_der.proofs.ValueReads.{value_again}
use Rattle.rpki_parts.specs.Names.{Attribute, IsName, attribute_format, name_format, rdn_sequence_format}
use Rattle.rpki_parts.specs.Names.{relative_distinguished_name_format}
use Rattle.rpki_parts.specs.NameTexts.{attribute_text, attribute_value_at, name_text, name_values_at, part_text, part_values_at, separated}
use Rattle.rpki_parts.specs.NameTexts.Reading.{values_in, written_name, written_part}
use Rattle.rpki_parts.proofs.NameForms.{set_shrinks}
use Rattle.rpki_parts.proofs.NameTexts.{attribute_value_shrinks, one_value}

-- two ways to read values, and what is written of them
module _ {Y Z : Type 0} (read : List ℕ → Option (Y × List ℕ)) (walk : List ℕ → Option (Z × List ℕ))
    (text_of : Y → List ℕ) (written : Z → List ℕ) where
  -- a text is read in both ways, and the same is written
  abbrev IsSame : List ℕ → Type 0
  IsSame text = (y : Y) × (z : Z) × ((rest : List ℕ) → read (text ++ rest) ≡ Some (y, rest)) ×
      ((rest : List ℕ) → walk (text ++ rest) ≡ Some (z, rest)) × (written z ≡ text_of y)

  -- and so are such texts one after the other
  all_same : {X : Type 0} (S : X → List ℕ → Type 0) → Shrinks read → Shrinks walk →
      ((x : X) (text : List ℕ) → S x text → IsSame text) → (xs : List X) (octets : List ℕ) →
      AreEncodings S xs octets
      → (ys : List Y) × (sequence_of read octets ≡ Some ys) × (map written (values_in walk octets) ≡ map text_of ys)
  unfolding sequence_of values_in
  all_same S less shorter same [] octets e = ([], rw e refl, rw e refl)
  all_same S less shorter same (x ∷ xs) octets (a, b, s, more, e) =
      let (y, z, reads, walks, is) = same x a s in
      let (ys, later, texts) = all_same S less shorter same xs b more in
      let first : read octets ≡ some {A = Y × List ℕ} (y, b) = rw e (reads b) in
      let some_left : length b < length octets = less octets y b first in
      let all : sequence_of read octets ≡ some (y ∷ ys) = sequence_steps read less octets (omega arith) ∙ rw (first, later) refl in
      (y ∷ ys, all, ap (map written) (one_value walk shorter octets z b (rw e (walks b))) ∙ rw (is, texts) refl)

-- an attribute
attribute_same : (a : Attribute) (text : List ℕ) → (attribute_format levels).encodes a text →
    IsSame attribute_value_at attribute_value_at attribute_text attribute_text text
unfolding attribute_format attribute_value_at
attribute_same a text (c, (id, value, id_is, value_is, e), enc) =
    let read : (rest : List ℕ) →
    attribute_value_at (text ++ rest) ≡ some {A = (List ℕ × List ℕ) × List ℕ} ((a.type_id, value), rest) =
    λ rest. rw (value_again SEQUENCE c text rest enc, e, oid_reads.again a.type_id id value id_is) refl in
    ((a.type_id, value), (a.type_id, value), read, read, refl)

part_values_shrink : Shrinks part_values_at
unfolding part_values_at
part_values_shrink = content_shrinks SET (sequence_of attribute_value_at)

-- a part
part_same : (xs : List Attribute) (text : List ℕ) → (relative_distinguished_name_format levels).encodes xs text →
    IsSame part_values_at (value_at SET) part_text written_part text
unfolding relative_distinguished_name_format part_values_at
part_same xs text (c, (are, some_are), set) =
    let (ys, reads, texts) = all_same attribute_value_at attribute_value_at attribute_text attribute_text
    (attribute_format levels).encodes attribute_value_shrinks attribute_value_shrinks attribute_same xs c are in (
      ys,
      c,
      λ rest. rw (value_again SET c text rest set, reads) refl,
      λ rest. value_again SET c text rest set,
      ap (separated [] (codes "+")) texts,
    )

-- a Name is written as its definition says
pub name_is_written : (octets : List ℕ) → IsName octets octets → written_name octets ≡ name_text octets
unfolding name_format rdn_sequence_format name_values_at
name_is_written octets ((parts, (c, are, enc)), kept) =
    let (ys, reads, texts) = all_same part_values_at (value_at SET) part_text written_part
    (relative_distinguished_name_format levels).encodes part_values_shrink set_shrinks part_same parts c are in
    let whole : value_at SEQUENCE octets ≡ some {A = List ℕ × List ℕ} (c, []) =
    ap (value_at SEQUENCE) (sym (append-nil octets)) ∙ value_again SEQUENCE c octets [] enc in
    rw (whole, reads, texts) refl
