-- The formats of names are lawful, and what that says of octets that are kept as a Name.
use Rattle.std.specs.Prelude.{is_some, Bool}
use Rattle.std.proofs.Common.{◌≡◌, ℕ, ◌+◌, ◌≤◌, zero, suc, true, false, List, [], ◌∷◌, ◌++◌, length, Option, Some}
use Rattle.std.proofs.Common.{None, refl, sym, ap, subst, ◌∙◌, arith}
use Rattle.rpki_der.specs.Values.{AreOctets, enc, IsEnc, IsValue}
use Rattle.rpki_der.specs.Sequences.Reading.{sequence_of, Shrinks}
use Rattle.rpki_der.specs.Skipping.{levels, IsSkippableWithin}
use Rattle.rpki_der.specs.Skipping.Reading.{skip_within}
use Rattle.rpki_der.specs.Encoding.{Begins}
use Rattle.rpki_der.specs.Formats.{IsLawful, Follows, Starts}
use Rattle.rpki_der.specs.Choices.{whole}
use Rattle.rpki_der.specs.Reading.{Reads, ReadsWhole, at_end}
use Rattle.rpki_der.specs.Values.Reading.{◌>>=◌, value_at}
use Rattle.rpki_der.specs.Tags.{SEQUENCE, SET}
use Rattle.rpki_der.proofs.Octets.{bind_some, some, both_are, nothing}
use Rattle.rpki_der.proofs.FormatAnswers.{IsAlone, alone_reads, format_laws}
use Rattle.rpki_der.proofs.FormatChoices.{kept_lawful}
use Rattle.rpki_der.proofs.FormatLaws.{some_lawful, list_lawful}
use Rattle.rpki_der.proofs.ValueReads.{value_reads}
use Rattle.rpki_der.proofs.SkippingReads.{within_reads, begins_tag}
use Rattle.rpki_der.proofs.SkippingSteps.{within_shrinks}
use Rattle.rpki_der.proofs.Readings.{before, whole_reads}
use Rattle.rpki_parts.specs.Names.{Attribute, IsName, IsNameWithin, attribute_format, is_name, name_format}
use Rattle.rpki_parts.specs.Names.{rdn_sequence_format, relative_distinguished_name_format, skipped_value, tag_within}

-- ---- a value that is skipped, by its identifier octet

skippable_value : (depth : ℕ) (b : List ℕ) → IsSkippableWithin depth b → IsValue b
unfolding IsSkippableWithin
skippable_value zero b s = s.0
skippable_value (suc depth) b s = s.0

module _ (depth : ℕ) where
  tag_again : (tag : ℕ) (bytes tail rest : List ℕ) → bytes ≡ tag ∷ tail → skip_within depth bytes ≡ some {A = Unit {0} × List ℕ} (tt, rest)
      → tag_within depth bytes ≡ some {A = ℕ × List ℕ} (tag, rest)
  tag_again tag [] tail rest e s = absurd cc
  tag_again tag (t ∷ bytes) tail rest e s = let same : t ≡ tag = cc in rw (s, same) refl

  tag_takes : (octets : List ℕ) (tag : ℕ) (rest : List ℕ) → AreOctets octets →
      tag_within depth octets ≡ some {A = ℕ × List ℕ} (tag, rest) →
      Begins (skipped_value depth).encodes octets tag rest
  tag_takes [] tag rest fits e = nothing (tag, rest) e
  tag_takes (t ∷ bytes) tag rest fits e =
      let a = bind_some (skip_within depth (t ∷ bytes)) (λ v. some {A = ℕ × List ℕ} (t, v.1)) (tag, rest) e in
      let g = both_are (t, a.0.1) (tag, rest) a.2 in
      let one = (within_reads depth).takes (t ∷ bytes) a.0.0 a.0.1 fits a.1 in
      let v = skippable_value depth one.text one.encoded in
      let (tail, begins) = begins_tag v.tag v.content one.text a.0.1 v.enc in
      let parts = one.parts in
      let is : v.tag ≡ tag = cc in
      record {
        text = one.text;
        encoded = (v.content, subst (λ (x : ℕ). IsEnc x v.content one.text) is v.enc, one.encoded);
        parts = parts ∙ ap (λ (x : List ℕ). one.text ++ x) g.1;
      }

  tag_shorter : (octets : List ℕ) (tag : ℕ) (rest : List ℕ) → tag_within depth octets ≡ Some (tag, rest) → 1 + length rest ≤ length octets
  tag_shorter [] tag rest e = nothing (tag, rest) e
  tag_shorter (t ∷ bytes) tag rest e =
      let a = bind_some (skip_within depth (t ∷ bytes)) (λ v. some {A = ℕ × List ℕ} (t, v.1)) (tag, rest) e in
      omega (arith, ap length (both_are (t, a.0.1) (tag, rest) a.2).1, within_shrinks depth (t ∷ bytes) a.0.0 a.0.1 a.1)

  tag_starts : (tag : ℕ) (text : List ℕ) → (skipped_value depth).encodes tag text → Starts None 1 text
  unfolding enc
  tag_starts tag [] s = absurd (omega (arith, ap length s.1.is))
  tag_starts tag (n ∷ text) s = refl

  skipped_lawful : IsLawful (skipped_value depth)
  skipped_lawful = record {
    reads = before (Follows []) (tag_within depth) (skipped_value depth).encodes (record {
      takes = tag_takes;
      again = λ tag text rest s. let b = begins_tag tag s.0 text rest s.1 in
          tag_again tag (text ++ rest) b.0 rest b.1 ((within_reads depth).again tt text rest s.2);
    });
    starts = tag_starts;
    shorter = tag_shorter;
    octets = λ tag fits. absurd fits;
    made = λ tag fits. absurd fits;
  }

  -- ---- names

  -- anything may follow an AttributeTypeAndValue
  pub attribute_alone : IsAlone (attribute_format depth)
  unfolding attribute_format
  attribute_alone = record { law = search (format_laws, skipped_lawful); none = refl }

  -- anything may follow a RelativeDistinguishedName
  pub part_alone : IsAlone (relative_distinguished_name_format depth)
  unfolding relative_distinguished_name_format attribute_format
  part_alone = record {
    law = some_lawful SET (attribute_format depth) (omega arith) (omega arith) refl (omega arith)
        attribute_alone.law;
    none = refl;
  }

  -- anything may follow an RDNSequence
  pub parts_alone : IsAlone (rdn_sequence_format depth)
  unfolding rdn_sequence_format relative_distinguished_name_format
  parts_alone = record {
    law = list_lawful SEQUENCE (relative_distinguished_name_format depth) (omega arith)
        (omega arith) refl (omega arith) part_alone.law;
    none = refl;
  }

  -- anything may follow a Name
  pub name_alone : IsAlone (name_format depth)
  unfolding name_format rdn_sequence_format
  name_alone = record {
    law = kept_lawful (rdn_sequence_format depth) refl
        (λ parts text s. record { tag = SEQUENCE; content = s.0; enc = s.2 }) parts_alone.law;
    none = refl;
  }

-- reading an AttributeTypeAndValue uses octets up
pub attribute_shrinks : Shrinks (attribute_format levels).read
unfolding attribute_format
attribute_shrinks octets a rest e = omega (arith, (attribute_alone levels).law.shorter octets a rest e)

-- reading a RelativeDistinguishedName uses octets up
pub part_shrinks : Shrinks (relative_distinguished_name_format levels).read
unfolding relative_distinguished_name_format
part_shrinks octets xs rest e = omega (arith, (part_alone levels).law.shorter octets xs rest e)

-- what is there where a test says so
pub one_of : {X : Type 0} (o : Option X) → is_some o ≡ true → (x : X) × (o ≡ Some x)
one_of (Some x) e = (x, refl)
one_of None e = absurd cc

-- a Name is a SEQUENCE, kept as it stands
pub record NameSequence (name b : List ℕ) : Type 0 where
  pub content : List ℕ
  pub sequence : IsEnc SEQUENCE content b
  pub kept : name ≡ b

-- what a Name is, whatever its parts are
pub name_sequence : (depth : ℕ) {name b : List ℕ} → IsNameWithin depth name b → NameSequence name b
unfolding name_format rdn_sequence_format
name_sequence depth ((parts, (content, are, sequence)), kept) = record { content = content; sequence = sequence; kept = kept }

parts_read : ReadsWhole (whole (rdn_sequence_format levels).read) (rdn_sequence_format levels).encodes
parts_read = whole_reads (rdn_sequence_format levels).read (rdn_sequence_format levels).encodes
    (alone_reads (rdn_sequence_format levels) (parts_alone levels))

-- octets that pass the test are a name
pub name_is : (octets : List ℕ) → AreOctets octets → is_name octets ≡ true → IsName octets octets
unfolding name_format
name_is octets fits e = let p = one_of (whole (rdn_sequence_format levels).read octets) e in
    ((p.0, parts_read.takes octets p.0 fits p.1), refl)

-- a Name passes the test
pub is_name_again : (parts : List (List Attribute)) (octets : List ℕ) →
    (rdn_sequence_format levels).encodes parts octets → is_name octets ≡ true
is_name_again parts octets s = ap is_some (parts_read.again parts octets s)

-- a Name is read as it is encoded
pub name_reads : Reads (name_format levels).read IsName
name_reads = alone_reads (name_format levels) (name_alone levels)

-- no name stands where no SEQUENCE does
pub name_none : (bytes : List ℕ) → AreOctets bytes → value_at SEQUENCE bytes ≡ None → (name_format levels).read bytes ≡ None
name_none bytes fits e = none_of ((name_format levels).read bytes) refl
  where
    none_of : (o : Option (List ℕ × List ℕ)) → (name_format levels).read bytes ≡ o → o ≡ None
    none_of None h = refl
    none_of (Some v) h =
        let b = name_reads.takes bytes v.0 v.1 fits h in
        let t = name_sequence levels b.encoded in
        let one : value_at SEQUENCE bytes ≡ some {A = List ℕ × List ℕ} (t.content, v.1) =
        ap (value_at SEQUENCE) b.parts ∙ (value_reads SEQUENCE).again t.content b.text v.1 t.sequence in
        nothing (t.content, v.1) (sym e ∙ one)

-- ---- the test, step by step

-- octets without a SEQUENCE in front are no Name
pub no_sequence : (octets : List ℕ) → value_at SEQUENCE octets ≡ None → is_name octets ≡ false
unfolding rdn_sequence_format
no_sequence octets e = rw e refl

-- whether something was read, and nothing stands behind it
abbrev tested : {X : Type 0} → Option X → List ℕ → Bool
tested {X} o rest = is_some ((o >>= λ x. some {A = X × List ℕ} (x, rest)) >>= λ p. at_end p.1 p.0)

-- a SEQUENCE is a Name where nothing stands behind it and its content is a sequence of parts
pub name_ends : (octets c rest : List ℕ) → value_at SEQUENCE octets ≡ some {A = List ℕ × List ℕ} (c, rest)
    → (rest ≡ [] → is_name octets ≡ is_some (sequence_of (relative_distinguished_name_format levels).read c)) ×
    ((rest ≡ [] → ⊥) → is_name octets ≡ false)
unfolding rdn_sequence_format
name_ends octets c rest e = rw e (by_rest (sequence_of (relative_distinguished_name_format levels).read c) rest)
  where
    by_rest : {X : Type 0} (o : Option X) (rest : List ℕ) →
        (rest ≡ [] → tested o rest ≡ is_some o) × ((rest ≡ [] → ⊥) → tested o rest ≡ false)
    by_rest (Some x) [] = (λ e. refl, λ n. absurd (n refl))
    by_rest (Some x) (b ∷ rest) = (λ e. absurd cc, λ n. refl)
    by_rest None rest = (λ e. refl, λ n. refl)
