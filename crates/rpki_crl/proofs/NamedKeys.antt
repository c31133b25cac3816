-- The key that a list's head names: each list has a head that names its own, octets name one at most,
-- and which octets name none.
use Rattle.std.proofs.Common.{◌≡◌, ◌≢◌, ◌++◌, ℕ, List, [], Option, Some, None, refl, sym, ap, subst, ◌∙◌, arith}
use Rattle.std.specs.Prelude.{option_map}
use Rattle.std.proofs.lemmas.List.{append-nil, append_cancel_left}
use Rattle.rpki_der.specs.Encoding.{Begins}
use Rattle.rpki_der.specs.Formats.{any_octets}
use Rattle.rpki_der.specs.Reading.{Inside, Optional}
use Rattle.rpki_der.specs.Skipping.{levels}
use Rattle.rpki_der.specs.Tags.{SEQUENCE}
use Rattle.rpki_der.specs.Values.{IsEnc, IsUnambiguous}
use Rattle.rpki_der.proofs.FormatAnswers.{alone_means}
use Rattle.rpki_der.proofs.FormatLaws.{any_octets_lawful}
use Rattle.rpki_parts.proofs.SignedFormats.{signed_parts}
use Rattle.rpki_crl.specs.ListHeads.{NamesKey, head_format}
use Rattle.rpki_crl.specs.Lists.{CrlFields, ListFields, IsCertificateList, IsTbsCertList}
use Rattle.rpki_crl.specs.Lists.{certificate_list_content_format, certificate_list_format, list_content_format}
use Rattle.rpki_crl.specs.Lists.{list_format}
use Rattle.rpki_crl.specs.RevokedEntries.{AreKept, Revoked, revoked_format}
use Rattle.rpki_crl.proofs.ListFormats.{head_alone}

-- ---- a list has a head

skipped : (o : Option Revoked) (text : List ℕ) → Optional (Inside SEQUENCE AreKept) o text →
    Optional (IsEnc SEQUENCE) (option_map (λ r. r.octets) o) text
skipped None text h = h
skipped (Some r) text (content, are, enc) = subst (λ (c : List ℕ). IsEnc SEQUENCE c text) (sym are.1) enc

abbrev head_of : ListFields Revoked → Option (List ℕ) → ListFields (Option (List ℕ))
head_of f octets = record {
  algorithm = f.algorithm;
  issuer = f.issuer;
  this_update = f.this_update;
  next_update =
      f.next_update;
  revoked = octets;
  extensions = f.extensions;
}

tbs_head : (f : ListFields Revoked) (b : List ℕ) → IsTbsCertList f b →
    (octets : Option (List ℕ)) × (head_format levels).encodes (head_of f octets) b
unfolding list_format list_content_format head_format revoked_format
tbs_head f b (
  content,
  (
    version,
    _,
    version_is,
    (
      algorithm,
      _,
      algorithm_is,
      (
        issuer,
        _,
        issuer_is,
        (this, _, this_is, (next, _, next_is, (entries, extensions, entries_are, extensions_are, six), five), four),
        three,
      ),
      two,
    ),
    one,
  ),
  encoded,
) = (
  option_map (λ r. r.octets) entries_are.0,
  (
    content,
    (
      version,
      _,
      version_is,
      (
        algorithm,
        _,
        algorithm_is,
        (
          issuer,
          _,
          issuer_is,
          (
            this,
            _,
            this_is,
            (
              next,
              _,
              next_is,
              (entries, extensions, skipped entries_are.0 entries entries_are.1, extensions_are, six),
              five,
            ),
            four,
          ),
          three,
        ),
        two,
      ),
      one,
    ),
    encoded,
  ),
)

-- a list has a head that names its issuer's key
pub list_names : (l : CrlFields) (octets : List ℕ) → IsCertificateList l octets →
    NamesKey l.fields.extensions.authority_key_identifier octets
unfolding certificate_list_format certificate_list_content_format
list_names l octets (content, (same, (signed_is, fields_are)), encoded) =
    let (kept, head) = tbs_head l.fields l.signed_data.message fields_are in (
      head_of l.fields kept,
      (
        content,
        (
          _,
          record {
            text = l.signed_data.message;
            encoded = head;
            parts =
                (signed_parts l.signed_data content signed_is).is;
          },
        ),
        encoded,
      ),
      refl,
    )

-- ---- octets have one head at most

one_sequence : IsUnambiguous (IsEnc SEQUENCE)
one_sequence = alone_means (any_octets SEQUENCE) (record { law = any_octets_lawful SEQUENCE (omega arith) (omega arith); none = refl })

content_is_one : (c d octets : List ℕ) → IsEnc SEQUENCE c octets → IsEnc SEQUENCE d octets → c ≡ d
content_is_one c d octets p q = (one_sequence c d octets octets [] [] p q refl).0

-- the key that octets name is one
pub one_key : (k j octets : List ℕ) → NamesKey k octets → NamesKey j octets → k ≡ j
one_key k j octets (g, (c, (rest, b), p), k_is) (h, (d, (tail, e), q), j_is) =
    let same = content_is_one c d octets p q in
    let heads : g ≡ h = (alone_means (head_format levels) (head_alone levels) g h b.text e.text rest tail b.encoded
    e.encoded (sym b.parts ∙ same ∙ e.parts)).0 in
    sym k_is ∙ ap (λ (f : ListFields (Option (List ℕ))). f.extensions.authority_key_identifier) heads ∙ j_is

-- ---- octets that name none

-- a SEQUENCE with nothing behind it is all of the octets
pub whole_sequence : (octets content rest : List ℕ) → Begins (IsEnc SEQUENCE) octets content rest → rest ≡ [] →
    IsEnc SEQUENCE content octets
whole_sequence octets content rest b none =
    let same : octets ≡ b.text = b.parts ∙ ap (λ (r : List ℕ). b.text ++ r) none ∙ append-nil b.text in
    subst (λ (o : List ℕ). IsEnc SEQUENCE content o) (sym same) b.encoded

module _ (octets key : List ℕ) (names : NamesKey key octets) where
  at_once : Begins (IsEnc SEQUENCE) octets names.1.0 []
  at_once = record { text = octets; encoded = names.1.2; parts = sym (append-nil octets) }

  -- no SEQUENCE is there
  pub no_sequence : ((content rest : List ℕ) → Begins (IsEnc SEQUENCE) octets content rest → ⊥) → ⊥
  no_sequence none = none names.1.0 [] at_once

  -- something stands behind it
  pub more_behind : (content rest : List ℕ) → Begins (IsEnc SEQUENCE) octets content rest → rest ≢ [] → ⊥
  more_behind content rest b some =
      let texts : b.text ≡ octets =
      (one_sequence content names.1.0 b.text octets rest [] b.encoded names.1.2
      (sym b.parts ∙ sym (append-nil octets))).1 in
      some (sym (append_cancel_left octets [] rest (append-nil octets ∙ b.parts ∙ ap (λ (t : List ℕ). t ++ rest) texts)))

  -- no head is in it
  pub no_head : (content : List ℕ) → IsEnc SEQUENCE content octets →
      ((h : ListFields (Option (List ℕ))) (rest : List ℕ) → Begins (head_format levels).encodes content h rest →
      ⊥) → ⊥
  no_head content enc none =
      let same = content_is_one names.1.0 content octets names.1.2 enc in
      none names.0 names.1.1.0 (subst (λ (c : List ℕ). Begins (head_format levels).encodes c names.0 names.1.1.0) same names.1.1.1)
