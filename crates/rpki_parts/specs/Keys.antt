-- Public keys and their identifiers (RFC 7935 3, RFC 8608 3, RFC 5480 2.1, RFC 5280 4.1.2.7, RFC
-- 6487 4.8.2).
use Rattle.std.specs.Prelude.{ℕ, nat_eq, bytes_eq, List, [], ◌∷◌, if◌then◌else◌, length, Option, Some, None, true}
use Rattle.sha1.specs.Sha1.{sha1}
use Rattle.rpki_der.specs.BasicFormats.{bit_string, object_identifier}
use Rattle.rpki_der.specs.FormatChoices.{defined_by, image, such_that}
use Rattle.rpki_der.specs.Formats.{Format, SEQUENCE_WITH, any_octets, only, tagged, ◌∶◌, ◌⨟◌}
use Rattle.rpki_der.specs.Tags.{NULL, OCTET_STRING, SEQUENCE}
use Rattle.rpki_parts.specs.Algorithms.{null_or_none}
use Rattle.rpki_parts.specs.declared.key.PublicKeyFormat.{PublicKeyFormat}
use Rattle.rpki_parts.specs.declared.key.PublicKeyFormat.TheVariants.{Rsa, EcdsaP256}

-- rsaEncryption: 1.2.840.113549.1.1.1 (RFC 8017 A.1)
abbrev pub rsa_encryption : List ℕ
rsa_encryption = 0x2A ∷ 0x86 ∷ 0x48 ∷ 0x86 ∷ 0xF7 ∷ 0x0D ∷ 0x01 ∷ 0x01 ∷ 0x01 ∷ []

-- id-ecPublicKey: 1.2.840.10045.2.1 (RFC 5480 2.1.1)
abbrev pub id_ec_public_key : List ℕ
id_ec_public_key = 0x2A ∷ 0x86 ∷ 0x48 ∷ 0xCE ∷ 0x3D ∷ 0x02 ∷ 0x01 ∷ []

-- secp256r1, the curve P-256: 1.2.840.10045.3.1.7 (RFC 5480 2.1.1.1)
abbrev pub prime256v1 : List ℕ
prime256v1 = 0x2A ∷ 0x86 ∷ 0x48 ∷ 0xCE ∷ 0x3D ∷ 0x03 ∷ 0x01 ∷ 0x07 ∷ []

-- the identifier of a kind of keys
abbrev pub identifier_of : PublicKeyFormat → List ℕ
identifier_of Rsa = rsa_encryption
identifier_of EcdsaP256 = id_ec_public_key

-- the kind of keys with this identifier, if any
abbrev pub kind_of : List ℕ → Option PublicKeyFormat
kind_of id = if bytes_eq id rsa_encryption then Some Rsa else if bytes_eq id id_ec_public_key then Some EcdsaP256 else None

-- the parameters of a kind of keys: NULL, which may be left out (own), or the namedCurve P-256
abbrev pub parameters_of : PublicKeyFormat → Format PublicKeyFormat
parameters_of Rsa = image (λ has_null. Some Rsa) (λ kind. true) null_or_none
parameters_of EcdsaP256 = image (λ u. Some EcdsaP256) (λ kind. tt) (only prime256v1 object_identifier)

-- AlgorithmIdentifier ::= SEQUENCE {
--   algorithm OBJECT IDENTIFIER, parameters ANY DEFINED BY algorithm OPTIONAL }
-- restricted to rsaEncryption with NULL, which may be left out (own), and to id-ecPublicKey with
-- the namedCurve P-256
unfoldable pub key_algorithm_format : Format PublicKeyFormat
key_algorithm_format = tagged SEQUENCE (defined_by (image kind_of identifier_of object_identifier) (λ kind. kind) (NULL ∷ []) parameters_of)

-- BIT STRING without unused bits, as its octets
unfoldable pub whole_bits_format : Format (List ℕ)
whole_bits_format = image (λ v. if nat_eq v.0 0 then Some v.1 else None) (λ bits. (0, bits)) bit_string

-- what a contract sees of a PublicKey
pub record KeyFields : Type 0 where
  pub format : PublicKeyFormat
  pub bits : List ℕ

-- SubjectPublicKeyInfo ::= SEQUENCE {
--   algorithm AlgorithmIdentifier, subjectPublicKey BIT STRING }   (RFC 5280 4.1)
-- the BIT STRING has no unused bits, and what its octets say isn't tested: an RSA key may be of any
-- length and exponent (own)
unfoldable pub public_key_format : Format KeyFields
public_key_format = SEQUENCE_WITH (λ x. record { format = x.0; bits = x.1 })
    ((λ k. k.format) ∶ key_algorithm_format
    ⨟ (λ k. k.bits) ∶ whole_bits_format)

-- the key identifier: SHA-1 of the BIT STRING's octets without the count of unused bits
abbrev pub key_identifier : KeyFields → List ℕ
key_identifier k = sha1 k.bits

-- 20 octets in a value of this tag: a SHA-1 digest (RFC 6487 4.8.2)
abbrev pub twenty_octets : ℕ → Format (List ℕ)
twenty_octets tag = such_that (λ id. nat_eq (length id) 20) (any_octets tag)

-- KeyIdentifier ::= OCTET STRING   (RFC 5280 4.2.1.1)
-- restricted to 20 octets (RFC 6487 4.8.2)
unfoldable pub key_identifier_format : Format (List ℕ)
key_identifier_format = twenty_octets OCTET_STRING

-- a SubjectPublicKeyInfo is encoded so
abbrev pub IsPublicKey : KeyFields → List ℕ → Type 0
IsPublicKey = public_key_format.encodes

-- the encoding of a SubjectPublicKeyInfo
abbrev pub key : KeyFields → List ℕ
key = public_key_format.written
