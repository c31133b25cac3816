-- The formats of the parts of certificates are lawful.
use Rattle.std.proofs.Common.{◌≡◌, ◌<◌, ◌≤◌, ◌^◌, ◌+◌, ◌%◌, ℕ, Bool, true, false, cond, List, [], ◌∷◌, ◌++◌, length}
use Rattle.std.proofs.Common.{eqb, Some, None, refl, ap, subst, ◌∙◌, arith}
use Rattle.std.proofs.lemmas.Bool.{eqb-true}
use Rattle.rpki_der.specs.BasicFormats.{bit_string, null_format, object_identifier}
use Rattle.rpki_der.specs.FormatChoices.{defined_by, image}
use Rattle.rpki_der.specs.Formats.{Fields, Format, Follows, IsLawful, SEQUENCE_WITH, any_octets, fields, only, then, when, ◌∶◌, ◌⨟◌}
use Rattle.rpki_der.specs.Primitives.{IsNull}
use Rattle.rpki_der.specs.Reading.{Optional}
use Rattle.rpki_der.specs.Tags.{BIT_STRING, NULL, OBJECT_IDENTIFIER, OCTET_STRING, SEQUENCE}
use Rattle.rpki_der.specs.Times.{IsMoment}
use Rattle.rpki_der.specs.Values.{AreOctets, IsEnc, IsValue, enc}
use Rattle.rpki_der.proofs.BasicFormats.{bit_string_lawful, null_lawful, object_identifier_lawful}
use Rattle.rpki_der.proofs.FormatAnswers.{IsAlone, format_laws, after_alone, sequence_lawful}
use Rattle.rpki_der.proofs.FormatChoices.{defined_by_lawful, image_lawful, such_that_lawful}
use Rattle.rpki_der.proofs.FormatLaws.{any_octets_lawful, fields_lawful, only_lawful, present_lawful, tagged_lawful, then_lawful}
use Rattle.rpki_der.proofs.Formats.{of_enc}
use Rattle.rpki_der.proofs.IdentifierReads.{oid_takes}
use Rattle.rpki_der.proofs.Octets.{if_some}
use Rattle.rpki_der.proofs.ValueWritten.{enc_longer}
use Rattle.rpki_der.proofs.WrittenOctets.{literal}
use Rattle.rpki_parts.specs.Algorithms.{Algorithm, IsSignatureAlgorithm, algorithm, algorithm_format, null_or_none, sha256_with_rsa}
use Rattle.rpki_parts.specs.Keys.{KeyFields, IsPublicKey, id_ec_public_key, identifier_of, key, key_algorithm_format}
use Rattle.rpki_parts.specs.Keys.{key_identifier_format, kind_of, parameters_of, prime256v1, public_key_format}
use Rattle.rpki_parts.specs.Keys.{rsa_encryption, twenty_octets, whole_bits_format}
use Rattle.rpki_parts.specs.Validities.{ValidityFields, IsValidity, validity_format}
use Rattle.rpki_parts.specs.declared.key.PublicKeyFormat.{PublicKeyFormat}
use Rattle.rpki_parts.specs.declared.key.PublicKeyFormat.TheVariants.{Rsa, EcdsaP256}
use Rattle.rpki_parts.proofs.Lengths.{bits_longer}

-- anything may follow a Validity
pub validity_alone : IsAlone validity_format
unfolding validity_format
validity_alone = record { law = search format_laws; none = refl }

-- a Validity is one value
pub validity_value : (v : ValidityFields) (text : List ℕ) → IsValidity v text → IsValue text
unfolding validity_format
validity_value v text (content, times, encoded) = of_enc encoded

-- a Validity of moments can be written
pub validity_fits : (v : ValidityFields) → IsMoment v.not_before → IsMoment v.not_after → validity_format.fits v
unfolding validity_format
validity_fits v before after = (before, after)

-- ---- the algorithm of a signature

-- anything may follow an AlgorithmIdentifier
pub algorithm_alone : IsAlone algorithm_format
unfolding algorithm_format
algorithm_alone = record { law = search format_laws; none = refl }

-- an AlgorithmIdentifier is one value
pub algorithm_value : (a : Algorithm) (text : List ℕ) → IsSignatureAlgorithm a text → IsValue text
unfolding algorithm_format
algorithm_value a text (content, parts, encoded) = of_enc encoded

null_fits : (has_null : Bool) → null_or_none.fits has_null
null_fits true = tt
null_fits false = tt

-- each algorithm can be written
pub algorithm_fits : (a : Algorithm) → algorithm_format.fits a
unfolding algorithm_format
algorithm_fits a = ((oid_takes sha256_with_rsa refl, literal sha256_with_rsa refl), null_fits a.has_null)

null_is : (has_null : Bool) (text : List ℕ) → Optional IsNull (when has_null) text → text ≡ null_or_none.written has_null
null_is true text n = n
null_is false text n = n

-- an algorithm has one encoding
pub algorithm_is : (a : Algorithm) (text : List ℕ) → IsSignatureAlgorithm a text → text ≡ algorithm a
unfolding algorithm_format
algorithm_is a text (content, (identifier, parameters, is, null, whole), encoded) =
    let id = enc OBJECT_IDENTIFIER sha256_with_rsa in
    encoded.is ∙ ap (enc SEQUENCE)
    (whole ∙ ap (λ (x : List ℕ). x ++ parameters) is.enc.is ∙
    ap (λ (x : List ℕ). id ++ x) (null_is a.has_null parameters null))

-- ---- keys

parameters_lawful : (kind : PublicKeyFormat) → IsLawful (parameters_of kind)
parameters_lawful Rsa = image_lawful (λ has_null. Some Rsa) (λ kind. true) null_or_none
    (present_lawful NULL null_format refl refl (omega arith) null_lawful)
parameters_lawful EcdsaP256 = image_lawful (λ u. Some EcdsaP256) (λ kind. tt) (only prime256v1 object_identifier)
    (only_lawful prime256v1 object_identifier object_identifier_lawful)

before_parameters : (kind : PublicKeyFormat) (rest : List ℕ) → Follows (NULL ∷ []) rest → Follows (parameters_of kind).shut rest
before_parameters Rsa rest h = h
before_parameters EcdsaP256 [] h = tt
before_parameters EcdsaP256 (n ∷ rest) h = refl

-- anything may follow an AlgorithmIdentifier of a key
pub key_algorithm_alone : IsAlone key_algorithm_format
unfolding key_algorithm_format
key_algorithm_alone = record {
  law =
      let kinds = image kind_of identifier_of object_identifier in
      tagged_lawful SEQUENCE (defined_by kinds (λ kind. kind) (NULL ∷ []) parameters_of) (omega arith) (omega arith)
      (defined_by_lawful kinds (λ kind. kind) (NULL ∷ []) parameters_of refl (omega arith) before_parameters
      (image_lawful kind_of identifier_of object_identifier object_identifier_lawful) parameters_lawful);
  none = refl;
}

-- each kind of keys can be written
pub key_algorithm_fits : (kind : PublicKeyFormat) → key_algorithm_format.fits kind
unfolding key_algorithm_format
key_algorithm_fits Rsa = ((refl, (oid_takes rsa_encryption refl, literal rsa_encryption refl)), (refl, tt))
key_algorithm_fits EcdsaP256 = (
  (refl, (oid_takes id_ec_public_key refl, literal id_ec_public_key refl)),
  (refl, (oid_takes prime256v1 refl, literal prime256v1 refl)),
)

-- anything may follow a BIT STRING without unused bits
pub whole_bits_alone : IsAlone whole_bits_format
unfolding whole_bits_format
whole_bits_alone = record {
  law = image_lawful (λ v. cond (eqb v.0 0) (Some v.1) None) (λ bits. (0, bits)) bit_string
      bit_string_lawful;
  none = refl;
}

-- it has the octets behind a count of 0
pub whole_bits_are : (bits text : List ℕ) → whole_bits_format.encodes bits text → IsEnc BIT_STRING (0 ∷ bits) text
unfolding whole_bits_format
whole_bits_are bits text (v, s, e) =
    let g = if_some (eqb v.0 0) v.1 bits e in
    let none = eqb-true v.0 0 g.0 in
    let is = g.1 in
    let same : v.0 ∷ v.1 ≡ 0 ∷ bits = cc in
    subst (λ (x : List ℕ). IsEnc BIT_STRING x text) same s.enc

-- octets that fit can be written so
pub whole_bits_fits : (bits : List ℕ) → AreOctets bits → length bits + 1 < 2 ^ 32 → whole_bits_format.fits bits
unfolding whole_bits_format
whole_bits_fits bits octets short =
    let s : IsEnc BIT_STRING (0 ∷ bits) (enc BIT_STRING (0 ∷ bits)) =
    record {
      octet = omega arith;
      low_tag = omega arith;
      octets = (omega arith, octets);
      short =
          omega arith;
      is = refl;
    } in
    (refl, record { enc = s; few = omega arith; none = λ e. refl; zero_bits = omega arith })

-- anything may follow a SubjectPublicKeyInfo
pub public_key_alone : IsAlone public_key_format
unfolding public_key_format
public_key_alone = record {
  law = sequence_lawful (λ x. record { format = x.0; bits = x.1 })
      ((λ k. k.format) ∶ key_algorithm_format ⨟ (λ k. k.bits) ∶ whole_bits_format) (λ x. refl) (λ k. refl)
      (after_alone key_algorithm_format whole_bits_format key_algorithm_alone whole_bits_alone.law);
  none = refl;
}

-- a SubjectPublicKeyInfo is one value
pub public_key_value : (k : KeyFields) (text : List ℕ) → IsPublicKey k text → IsValue text
unfolding public_key_format
public_key_value k text (content, parts, encoded) = of_enc encoded

-- a key that is short can be written
pub public_key_fits : (k : KeyFields) → AreOctets k.bits → length (key k) < 2 ^ 32 → public_key_format.fits k
unfolding public_key_format whole_bits_format
public_key_fits k octets short =
    let front = key_algorithm_format.written k.format in (
      key_algorithm_fits k.format,
      whole_bits_fits k.bits octets
          (omega (arith, bits_longer front k.bits, enc_longer SEQUENCE (front ++ enc BIT_STRING (0 ∷ k.bits)))),
    )

-- what stands inside a SubjectPublicKeyInfo isn't longer than it
pub public_key_longer : (k : KeyFields) → length (public_key_format.inside k) ≤ length (key k)
unfolding public_key_format
public_key_longer k = enc_longer SEQUENCE (public_key_format.inside k)

-- 20 octets in a value
pub twenty_lawful : (tag : ℕ) → tag < 256 → tag % 32 < 31 → IsLawful (twenty_octets tag)
twenty_lawful tag below low = such_that_lawful (λ id. eqb (length id) 20) (any_octets tag) (any_octets_lawful tag below low)

-- anything may follow a KeyIdentifier
pub key_identifier_alone : IsAlone key_identifier_format
unfolding key_identifier_format
key_identifier_alone = record { law = twenty_lawful OCTET_STRING (omega arith) (omega arith); none = refl }
