-- A Name under one bound of depth is one under a greater bound; and the one without parts.
use Rattle.std.proofs.Common.{ℕ, ◌≤◌, List, [], ◌∷◌, refl, arith}
use Rattle.rpki_der.specs.Sequences.{AreEncodings}
use Rattle.rpki_der.specs.Skipping.{levels}
use Rattle.rpki_der.specs.Tags.{SEQUENCE}
use Rattle.rpki_der.specs.Values.{enc, length_octets}
use Rattle.rpki_der.proofs.SkippingDepths.{deeper}
use Rattle.rpki_parts.specs.Names.{Attribute, IsName, IsNameWithin, attribute_format, name_format}
use Rattle.rpki_parts.specs.Names.{rdn_sequence_format, relative_distinguished_name_format}
use Rattle.rpki_parts.proofs.NameReads.{parts_alone}

-- what encodes values in one way encodes them in a wider way too
pub more_sequences : {V : Type 0} (S T : V → List ℕ → Type 0) → ((v : V) (b : List ℕ) → S v b → T v b) →
    (vs : List V) (b : List ℕ) → AreEncodings S vs b → AreEncodings T vs b
more_sequences S T f [] b h = h
more_sequences S T f (v ∷ vs) b h = (h.0, h.1, f v h.0 h.2, more_sequences S T f vs h.1 h.3, h.4)

module _ (d e : ℕ) (le : d ≤ e) where
  deeper_attribute : (a : Attribute) (b : List ℕ) → (attribute_format d).encodes a b → (attribute_format e).encodes a b
  unfolding attribute_format
  deeper_attribute a b (c, (id, value, id_is, (content, value_is, skippable), parts), enc) =
      (c, (id, value, id_is, (content, value_is, deeper d e value le skippable), parts), enc)

  deeper_part : (xs : List Attribute) (b : List ℕ) → (relative_distinguished_name_format d).encodes xs b →
      (relative_distinguished_name_format e).encodes xs b
  unfolding relative_distinguished_name_format
  deeper_part xs b (c, (are, some_are), set) = (
    c,
    (
      more_sequences (attribute_format d).encodes (attribute_format e).encodes deeper_attribute xs c are,
      some_are,
    ),
    set,
  )

  -- a Name under one bound of depth is one under a greater bound
  pub deeper_name : (name b : List ℕ) → IsNameWithin d name b → IsNameWithin e name b
  unfolding name_format rdn_sequence_format
  deeper_name name b ((parts, (c, are, sequence)), kept) = (
    (
      parts,
      (
        c,
        more_sequences (relative_distinguished_name_format d).encodes
            (relative_distinguished_name_format e).encodes deeper_part parts c are,
        sequence,
      ),
    ),
    kept,
  )

-- a Name without parts
pub empty_name : IsName (SEQUENCE ∷ 0 ∷ []) (SEQUENCE ∷ 0 ∷ [])
unfolding name_format rdn_sequence_format enc length_octets
empty_name = (([], (parts_alone levels).law.made [] tt (omega arith)), refl)
