-- Certificate revocation lists (RFC 5280 5.1, RFC 6487 5).
use Rattle.std.specs.Bool.{beq}
use Rattle.std.specs.Prelude.{◌≡◌, ℕ, ◌^◌, ◌<◌, Bool, List, [], ◌∷◌, length}
use Rattle.rpki_der.specs.BasicFormats.{time_format}
use Rattle.rpki_der.specs.FormatChoices.{such_that}
use Rattle.rpki_der.specs.Formats.{Format, any_octets, fields, only, part, tagged, ◌∶◌, ◌⨟◌}
use Rattle.rpki_der.specs.Skipping.{levels}
use Rattle.rpki_der.specs.Tags.{CONTEXT_CONSTRUCTED, INTEGER, SEQUENCE}
use Rattle.rpki_der.specs.Times.{Moment, IsMoment}
use Rattle.rpki_der.specs.Values.{AreOctets}
use Rattle.rpki_der.specs.Writers.{Part}
use Rattle.rpki_parts.specs.Algorithms.{Algorithm, algorithm_format}
use Rattle.rpki_parts.specs.Names.{IsName, name_format}
use Rattle.rpki_parts.specs.SignedDatas.{SignedFields, signed, signed_content}
use Rattle.rpki_ext.specs.ExtensionKinds.{HasTwentyOctets}
use Rattle.rpki_crl.specs.ListExtensions.{ListExtensions, list_extensions_format}
use Rattle.rpki_crl.specs.RevokedEntries.{Revoked, AreEntries, revoked_format}
pub mod Lending

-- what a contract sees of a TbsCertList, with its entries in the form of C
pub record ListFields (C : Type 0) : Type 0 where
  pub algorithm : Algorithm
  pub issuer : List ℕ
  pub this_update : Moment
  pub next_update : Moment
  pub revoked : C
  pub extensions : ListExtensions

-- Version ::= INTEGER { v1(0), v2(1), v3(2) }   (RFC 5280 5.1): v2
unfoldable pub version_2 : Format (Unit {0})
version_2 = only (1 ∷ []) (any_octets INTEGER)

-- crlExtensions [0] EXPLICIT Extensions
abbrev pub tagged_extensions_format : Format ListExtensions
tagged_extensions_format = tagged (CONTEXT_CONSTRUCTED 0) list_extensions_format

-- the content of TBSCertList ::= SEQUENCE {   (RFC 5280 5.1)
--   version Version OPTIONAL, signature AlgorithmIdentifier, issuer Name,
--   thisUpdate Time, nextUpdate Time OPTIONAL,
--   revokedCertificates SEQUENCE OF SEQUENCE { .. } OPTIONAL,
--   crlExtensions [0] EXPLICIT Extensions OPTIONAL }
-- restricted to v2 with nextUpdate and crlExtensions (RFC 5280 5.1.2.5, RFC 6487 5), with
-- revokedCertificates in this format
abbrev pub content_with : {C : Type 0} → Format C → ℕ → Format (ListFields C)
content_with entries depth = fields
    (λ x. record {
      algorithm = x.1.0;
      issuer = x.1.1.0;
      this_update = x.1.1.1.0;
      next_update = x.1.1.1.1.0;
      revoked =
          x.1.1.1.1.1.0;
      extensions = x.1.1.1.1.1.1;
    })
    ((λ f. tt) ∶ version_2
    ⨟ (λ f. f.algorithm) ∶ algorithm_format
    ⨟ (λ f. f.issuer) ∶ name_format depth
    ⨟ (λ f. f.this_update) ∶ time_format
    ⨟ (λ f. f.next_update) ∶ time_format
    ⨟ (λ f. f.revoked) ∶ entries
    ⨟ (λ f. f.extensions) ∶ tagged_extensions_format)

-- the content of TBSCertList, with its entries
unfoldable pub list_content_format : ℕ → Format (ListFields Revoked)
list_content_format = content_with revoked_format

-- TBSCertList
unfoldable pub list_format : ℕ → Format (ListFields Revoked)
list_format depth = tagged SEQUENCE (list_content_format depth)

-- the fields of a list, and the signed data as they were read or made
pub record CrlFields : Type 0 where
  pub fields : ListFields Revoked
  pub signed_data : SignedFields

-- whether the inner and the outer algorithm are equal
abbrev pub has_one_algorithm : CrlFields → Bool
has_one_algorithm r = beq r.fields.algorithm.has_null r.signed_data.signature.algorithm.has_null

-- the content of CertificateList ::= SEQUENCE {   (RFC 5280 5.1)
--   tbsCertList TBSCertList, signatureAlgorithm AlgorithmIdentifier, signatureValue BIT STRING }
-- the inner and the outer algorithm are equal (RFC 5280 5.1.1.2)
unfoldable pub certificate_list_content_format : ℕ → Format CrlFields
certificate_list_content_format depth = such_that has_one_algorithm
    (fields (λ x. record { fields = x.0; signed_data = x.1 }) ((λ r. (r.fields, r.signed_data)) ∶ signed (list_format depth)))

-- CertificateList
unfoldable pub certificate_list_format : ℕ → Format CrlFields
certificate_list_format depth = tagged SEQUENCE (certificate_list_content_format depth)

-- what a contract sees of a Crl: a list, and whether its serials stand in a table too
pub record CrlState : Type 0 where
  pub list : CrlFields
  pub is_cached : Bool

-- ---- they are encoded so

-- under this bound of depth
abbrev pub IsTbsCertListWithin : ℕ → ListFields Revoked → List ℕ → Type 0
IsTbsCertListWithin depth = (list_format depth).encodes

abbrev pub IsCertificateListWithin : ℕ → CrlFields → List ℕ → Type 0
IsCertificateListWithin depth = (certificate_list_format depth).encodes

-- and under the one that readers keep
abbrev pub IsTbsCertList : ListFields Revoked → List ℕ → Type 0
IsTbsCertList = IsTbsCertListWithin levels

abbrev pub IsCertificateList : CrlFields → List ℕ → Type 0
IsCertificateList = IsCertificateListWithin levels

-- ---- what is written

-- the encodings of a list's extensions inside their two tags
abbrev pub tagged_list_extensions : ListExtensions → List ℕ
tagged_list_extensions = tagged_extensions_format.written

-- the encoding of a TBSCertList's fields, and what stands inside its SEQUENCE
abbrev pub list_part : ListFields Revoked → Part
list_part = part (list_format levels)

abbrev pub list_content : ListFields Revoked → List ℕ
list_content = (list_content_format levels).written

abbrev pub list_encoding : ListFields Revoked → List ℕ
list_encoding = (list_format levels).written

-- the fields have values that can be encoded, and what is encoded isn't too long
pub record ListFits (f : ListFields Revoked) : Type 0 where
  pub issuer_is : IsName f.issuer f.issuer
  pub this_update_is : IsMoment f.this_update
  pub next_update_is : IsMoment f.next_update
  pub entries_are : AreEntries f.revoked.entries f.revoked.octets
  pub identifier_is : HasTwentyOctets f.extensions.authority_key_identifier
  pub number_is : f.extensions.crl_number < 2 ^ 160
  pub short : length (list_content f) < 2 ^ 32

-- a list whose signed octets are the encoding of its fields, which was signed under the algorithm
-- that it names, and which isn't too long
pub record IsMadeList (r : CrlFields) : Type 0 where
  pub message_is : r.signed_data.message ≡ list_encoding r.fields
  pub fields_are : ListFits r.fields
  pub same_algorithm : r.fields.algorithm ≡ r.signed_data.signature.algorithm
  pub signature_is : AreOctets r.signed_data.signature.value
  pub short : length (signed_content r.signed_data) < 2 ^ 32
