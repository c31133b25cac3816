-- Where the parts of a certificate stand in its octets.
use Rattle.std.proofs.Common.{◌≡◌, ◌≤◌, ◌<◌, ◌+◌, ◌-◌, ℕ, List, [], ◌∷◌, ◌++◌, length, drop, get_or, slice_range}
use Rattle.std.proofs.Common.{refl, sym, ap, subst, ◌∙◌, append_assoc, arith}
use Rattle.std.proofs.lemmas.List.{drop_all, drop_more}
use Rattle.std.proofs.lemmas.List.Edits.{length-between}
use Rattle.rpki_der.specs.Encoding.{Begins, Means}
use Rattle.rpki_der.specs.Place.{Place, MovesOn, remaining}
use Rattle.rpki_der.specs.Skipping.{levels}
use Rattle.rpki_der.specs.Tags.{BIT_STRING, CONTEXT_CONSTRUCTED, INTEGER, SEQUENCE}
use Rattle.rpki_der.specs.Values.{IsEnc, enc, length_octets}
use Rattle.rpki_der.proofs.Places.{cut}
use Rattle.rpki_der.proofs.Values.{one_enc}
use Rattle.rpki_parts.specs.Algorithms.{algorithm_format}
use Rattle.rpki_parts.specs.Keys.{IsPublicKey, public_key_format}
use Rattle.rpki_parts.specs.Names.{name_format, rdn_sequence_format}
use Rattle.rpki_parts.specs.Validities.{validity_format}
use Rattle.rpki_parts.proofs.PartFormats.{whole_bits_are}
use Rattle.rpki_parts.proofs.SignedFormats.{SignedParts, signed_parts}
use Rattle.rpki_cert.specs.Certificates.{CertFields, IsCertificate, TbsFields, certificate_content_format}
use Rattle.rpki_cert.specs.Certificates.{tbs_content_format, tbs_format, version_format}
use Rattle.rpki_c.specs.Contents.{StandInFront}
use Rattle.rpki_c.specs.Writing.{IsPartAt}

-- ---- values that stand next

-- a cursor stays, or goes on twice
pub stays : (at : Place) → MovesOn at at
stays at = record { source = refl; to = refl; from = omega arith }

pub twice : (old mid new : Place) → MovesOn old mid → MovesOn mid new → MovesOn old new
twice old mid new p q = record { source = q.source ∙ p.source; to = q.to ∙ p.to; from = omega (arith, p.from, q.from) }

-- octets begin with one value of a tag
pub same_value : (tag : ℕ) (octets content after inner rest : List ℕ) → Begins (IsEnc tag) octets content after →
    Begins (IsEnc tag) octets inner rest → (content ≡ inner) × (after ≡ rest)
same_value tag octets content after inner rest b d =
    let e : enc tag content ++ after ≡ enc tag inner ++ rest =
    ap (λ (t : List ℕ). t ++ after) (sym b.encoded.is) ∙ sym b.parts ∙ d.parts ∙
    ap (λ (t : List ℕ). t ++ rest) d.encoded.is in
    let r = one_enc tag tag content inner after rest e in
    (r.1, r.2)

-- behind the first of these values stand the others
abbrev pub IsLeft : List ℕ → ℕ → Place → Place → Type 0
IsLeft tags i old now = (rest : List ℕ) → StandInFront tags rest (remaining old)
    → StandInFront (drop i tags) rest (remaining now)

module _ (tags : List ℕ) (i d : ℕ) (old now : Place) (below : i < length tags) (left : IsLeft tags i old now) where
  next_left : (rest : List ℕ) → StandInFront tags rest (remaining old)
      → StandInFront (get_or tags i d ∷ drop (i + 1) tags) rest (remaining now)
  next_left rest stand =
      subst (λ (ts : List ℕ). StandInFront ts rest (remaining now)) (drop_more tags i d below) (left rest stand)

  -- the next was read
  pub one_less : (next : Place) (inner : List ℕ) →
      Begins (IsEnc (get_or tags i d)) (remaining now) inner (remaining next) → IsLeft tags (i + 1) old next
  one_less next inner read rest stand =
      let (content, after, there, more) = next_left rest stand in
      let same = same_value (get_or tags i d) (remaining now) content after inner (remaining next) there read in
      subst (λ (t : List ℕ). StandInFront (drop (i + 1) tags) rest t) same.1 more

  -- it isn't there
  pub none_next : ((inner after : List ℕ) → Begins (IsEnc (get_or tags i d)) (remaining now) inner after → ⊥) →
      (rest : List ℕ) → StandInFront tags rest (remaining old) → ⊥
  none_next none rest stand = let (content, after, there, more) = next_left rest stand in none content after there

-- none are left
pub none_left : (tags : List ℕ) (i : ℕ) (old now : Place) → length tags ≤ i → IsLeft tags i old now →
    (rest : List ℕ) → StandInFront tags rest (remaining old) → remaining now ≡ rest
none_left tags i old now whole left rest stand =
    subst (λ (ts : List ℕ). StandInFront ts rest (remaining now)) (drop_all i tags whole) (left rest stand)

-- ---- parts of a source

-- what stands first in the octets that are left, and what stands last
pub front_at : (at : Place) (octets front back : List ℕ) → at.source ≡ octets → at.from ≤ at.to →
    at.to ≤ length at.source → remaining at ≡ front ++ back → IsPartAt octets at.from (length front) front
front_at at octets front back source order within is =
    let c = cut at.source at.from at.to front back order within is in
    subst (λ (s : List ℕ). IsPartAt s at.from (length front) front) source (omega (arith, c.fits, within), c.front)

pub back_at : (at : Place) (octets front back : List ℕ) → at.source ≡ octets → at.from ≤ at.to →
    at.to ≤ length at.source → remaining at ≡ front ++ back →
    (length back ≤ at.to) × IsPartAt octets (at.to - length back) (length back) back
back_at at octets front back source order within is =
    let c = cut at.source at.from at.to front back order within is in
    let begin : at.to - length back ≡ at.from + length front = omega (arith, c.fits) in
    let end : at.to - length back + length back ≡ at.to = omega (arith, c.fits) in (
      omega (arith, c.fits),
      subst (λ (s : List ℕ). IsPartAt s (at.to - length back) (length back) back) source (
        omega (arith, end, within),
        subst (λ (n : ℕ). slice_range at.source (at.to - length back) n ≡ back) (sym end)
            (subst (λ (n : ℕ). slice_range at.source n at.to ≡ back) (sym begin) c.back),
      ),
    )

-- what a cursor went over
pub span_at : (old new : Place) (octets text : List ℕ) → old.source ≡ octets → old.from ≤ old.to →
    old.to ≤ length old.source → new.from ≤ new.to → MovesOn old new → remaining old ≡ text ++ remaining new →
    IsPartAt octets old.from (new.from - old.from) text
span_at old new octets text source order within later moves is =
    let c = cut old.source old.from old.to text (remaining new) order within is in
    let same : length new.source ≡ length old.source = ap length moves.source in
    let inside : new.to ≤ length new.source = omega (arith, same, moves.to, within) in
    let long : length (remaining new) ≡ new.to - new.from = length-between new.source new.from new.to inside in
    let count : length text ≡ new.from - old.from = omega (arith, c.fits, long, moves.to, later) in
    subst (λ (n : ℕ). IsPartAt octets old.from n text) count
    (front_at old octets text (remaining new) source order within is)

-- ---- a certificate

-- the tags before the key
abbrev pub before_key : List ℕ
before_key = CONTEXT_CONSTRUCTED 0 ∷ INTEGER ∷ SEQUENCE ∷ SEQUENCE ∷ SEQUENCE ∷ SEQUENCE ∷ []

one_stands : (tags rest after : List ℕ) {tag : ℕ} {octets content text : List ℕ} → IsEnc tag content text →
    octets ≡ text ++ after → StandInFront tags rest after → StandInFront (tag ∷ tags) rest octets
one_stands tags rest after {tag} {octets} {content} {text} is parts more =
    (content, after, record { text = text; encoded = is; parts = parts }, more)

-- behind them stands the key
has_key : (f : TbsFields) (content : List ℕ) → (tbs_content_format levels).encodes f content →
    (rest : List ℕ) × StandInFront before_key rest content × Means IsPublicKey f.key rest
unfolding tbs_content_format version_format algorithm_format name_format rdn_sequence_format validity_format
has_key f content v =
    let s = v.3 in
    let g = s.3 in
    let n = g.3 in
    let d = n.3 in
    let u = d.3 in
    let k = u.3 in (
      u.1,
      one_stands (drop 1 before_key) u.1 _ v.2.2 v.4 (one_stands (drop 2 before_key) u.1 _ s.2.number.enc s.4
          (one_stands (drop 3 before_key) u.1 _ g.2.2 g.4 (one_stands (drop 4 before_key) u.1 _ n.2.0.1.2 n.4
          (one_stands (drop 5 before_key) u.1 _ d.2.2 d.4 (one_stands [] u.1 _ u.2.0.1.2 u.4 refl))))),
      (k.1, record { text = k.0; encoded = k.2; parts = k.4 }),
    )

-- which is a SEQUENCE
pub key_begins : (f : TbsFields) (rest : List ℕ) (key : Means IsPublicKey f.key rest) →
    (content : List ℕ) × Begins (IsEnc SEQUENCE) rest content key.0
unfolding public_key_format
key_begins f rest (behind, key) =
    (key.encoded.0, record { text = key.text; encoded = key.encoded.2; parts = key.parts })

-- bits stand last in their value
bits_end : (bits text : List ℕ) → IsEnc BIT_STRING (0 ∷ bits) text → (front : List ℕ) × (text ≡ front ++ bits)
unfolding enc
bits_end bits text is = (
  BIT_STRING ∷ (length_octets (length (0 ∷ bits)) ++ 0 ∷ []),
  is.is ∙ ap (λ (t : List ℕ). BIT_STRING ∷ t) (sym (append_assoc (length_octets (length (0 ∷ bits))) (0 ∷ []) bits)),
)

module _ (octets : List ℕ) (c : CertFields) (means : Means IsCertificate c octets) where
  abbrev pub content : List ℕ
  content = means.1.encoded.0

  outer_begins : Begins (IsEnc SEQUENCE) octets content means.0
  outer_begins = record { text = means.1.text; encoded = means.1.encoded.2; parts = means.1.parts }

  pub parts : SignedParts c.signed_data content × (tbs_format levels).encodes c.fields c.signed_data.message
  unfolding certificate_content_format
  parts = (signed_parts c.signed_data content means.1.encoded.1.0, means.1.encoded.1.1)

  -- in the SEQUENCE of the certificate stands that of what is signed
  module _ (whole : Place) (all : remaining whole ≡ octets) where
    pub outer_there : Begins (IsEnc SEQUENCE) (remaining whole) content means.0
    outer_there = subst (λ (o : List ℕ). Begins (IsEnc SEQUENCE) o content means.0) (sym all) outer_begins

    module _ (inner after : Place)
        (read : Begins (IsEnc SEQUENCE) (remaining whole) (remaining inner) (remaining after))
      where
        inner_is : remaining inner ≡ content
        inner_is = (same_value SEQUENCE (remaining whole) (remaining inner) (remaining after) content means.0 read
            outer_there).0

        pub message_there :
            Begins (IsEnc SEQUENCE) (remaining inner) parts.1.0 (parts.0.algorithm ++ parts.0.signature)
        message_there = record {
          text = c.signed_data.message;
          encoded = parts.1.2;
          parts = inner_is ∙ parts.0.is;
        }

        -- the fields, and behind some of them the key
        pub key_there : (fields next : Place) →
            Begins (IsEnc SEQUENCE) (remaining inner) (remaining fields) (remaining next) →
            (rest : List ℕ) × StandInFront before_key rest (remaining fields) × Means IsPublicKey c.fields.key rest
        key_there fields next fields_read =
            let same = same_value SEQUENCE (remaining inner) (remaining fields) (remaining next) parts.1.0
            (parts.0.algorithm ++ parts.0.signature) fields_read message_there in
            has_key c.fields (remaining fields)
            (subst (λ (o : List ℕ). (tbs_content_format levels).encodes c.fields o) (sym same.0) parts.1.1)

        module _ (source : inner.source ≡ octets) (order : inner.from ≤ inner.to)
            (within : inner.to ≤ length inner.source)
          where
            pub message_at : IsPartAt octets inner.from (length c.signed_data.message) c.signed_data.message
            message_at = front_at inner octets c.signed_data.message
                (parts.0.algorithm ++ parts.0.signature) source order
                within (inner_is ∙ parts.0.is)

            pub signature_at : (length c.signed_data.signature.value ≤ inner.to)
                × IsPartAt octets (inner.to - length c.signed_data.signature.value)
                (length c.signed_data.signature.value) c.signed_data.signature.value
            signature_at =
                let bits = c.signed_data.signature.value in
                let end = bits_end bits parts.0.signature
                (whole_bits_are bits parts.0.signature parts.0.signature_is) in
                let is : remaining inner ≡ (c.signed_data.message ++ (parts.0.algorithm ++ end.0)) ++ bits =
                inner_is ∙ parts.0.is ∙ ap (λ (t : List ℕ). c.signed_data.message ++ (parts.0.algorithm ++ t)) end.1
                ∙ ap (λ (t : List ℕ). c.signed_data.message ++ t) (sym (append_assoc parts.0.algorithm end.0 bits))
                ∙ sym (append_assoc c.signed_data.message (parts.0.algorithm ++ end.0) bits) in
                back_at inner octets (c.signed_data.message ++ (parts.0.algorithm ++ end.0)) bits source order within is
