-- What a certificate says beside the fields that readers keep.
use Rattle.std.specs.Borrow.{Bor}
use Rattle.std.specs.List.{flat_map}
use Rattle.std.specs.Option.{option_copied}
use Rattle.std.specs.Prelude.{◌≡◌, ℕ, Bool, false, List, [], ◌∷◌, Option, Some, None, if◌then◌else◌, bytes_eq}
use Rattle.rpki_ext.specs.CertificateExtensions.{ExtensionFields}
use Rattle.rpki_cert.specs.Certificates.{CertFields, IsCertificate}
use Rattle.rpki_der.specs.Encoding.{Means}
use Rattle.rpki_ext.specs.ExtensionKinds.{authority_information_access, certificate_policies, crl_distribution_points}
use Rattle.rpki_ext.specs.ExtensionKinds.{known, subject_information_access}
use Rattle.rpki_der.specs.Extensions.{Extension}
use Rattle.rpki_der.specs.Identifiers.{pkix}
use Rattle.rpki_ext.specs.Kinds.{is_of}
use Rattle.rpki_parts.specs.NameTexts.Reading.{values_in}
use Rattle.rpki_ext.specs.SubjectAccess.{Access}
use Rattle.rpki_der.specs.Tags.{CONTEXT, CONTEXT_CONSTRUCTED, OBJECT_IDENTIFIER, SEQUENCE}
use Rattle.rpki_der.specs.Values.Reading.{◌>>=◌, value_at}
use Rattle.rpki_text.specs.Notes.{HaveExtensions}
use Rattle.rpki_text.specs.Qualifiers.{id_qt_cps}
use Rattle.rpki_text.specs.declared.notes.fact.Fact.{Fact}
use Rattle.rpki_text.specs.declared.notes.fact.FactKind.{FactKind}
use Rattle.rpki_text.specs.declared.notes.fact.FactKind.TheVariants as fact
use Rattle.rpki_text.specs.declared.notes.facts.Source.{Source}
use Rattle.rpki_text.specs.declared.notes.facts.Source.TheVariants as source

-- what contracts see of a Fact
pub record FactFields : Type 0 where
  pub kind : FactKind
  pub octets : List ℕ

abbrev pub fact_view : Fact → FactFields
fact_view f = record { kind = f.kind; octets = f.octets.now }

-- ---- the statement of practices

-- [UNIVERSAL 22] (X.680 8.6)
abbrev pub IA5_STRING : ℕ
IA5_STRING = 0x16

-- the URI of a qualifier, where that is a statement of practices
abbrev pub uri_by : List ℕ → List ℕ → Option (List ℕ)
uri_by kind uri = if bytes_eq kind id_qt_cps then Some uri else None

-- the URI of the statement of practices, where it is the first qualifier of the first policy
--   certificatePolicies ::= SEQUENCE SIZE (1..MAX) OF PolicyInformation   (RFC 5280 4.2.1.4)
--   PolicyInformation ::= SEQUENCE { policyIdentifier CertPolicyId,
--     policyQualifiers SEQUENCE SIZE (1..MAX) OF PolicyQualifierInfo OPTIONAL }
--   PolicyQualifierInfo ::= SEQUENCE { policyQualifierId PolicyQualifierId, qualifier ANY }
--   CPSuri ::= IA5String
unfoldable pub statement_at : List ℕ → Option (List ℕ)
statement_at content = do
  policies ← value_at SEQUENCE content
  policy ← value_at SEQUENCE policies.0
  identifier ← value_at OBJECT_IDENTIFIER policy.0
  qualifiers ← value_at SEQUENCE identifier.1
  qualifier ← value_at SEQUENCE qualifiers.0
  kind ← value_at OBJECT_IDENTIFIER qualifier.0
  uri ← value_at IA5_STRING kind.1
  uri_by kind.0 uri.0

-- ---- URIs beside the one that is kept

-- uniformResourceIdentifier [6], of GeneralName (RFC 5280 4.2.1.6)
abbrev pub URI : ℕ
URI = CONTEXT 6

-- whether it is the URI that is kept
abbrev pub is_kept : Option (List ℕ) → List ℕ → Bool
is_kept None uri = false
is_kept (Some kept) uri = bytes_eq uri kept

-- a fact of this kind
abbrev pub one_fact : FactKind → List ℕ → List FactFields
one_fact kind octets = record { kind = kind; octets = octets } ∷ []

-- a URI, where it isn't the one that is kept
abbrev pub further_if : FactKind → Option (List ℕ) → List ℕ → List FactFields
further_if kind kept uri = if is_kept kept uri then [] else one_fact kind uri

-- of names, one after the other
abbrev pub further_names : FactKind → Option (List ℕ) → List ℕ → List FactFields
further_names kind kept names = flat_map (further_if kind kept) (values_in (value_at URI) names)

-- of names, where there are any
abbrev pub further_names_if : FactKind → Option (List ℕ) → Option (List ℕ) → List FactFields
further_names_if kind kept None = []
further_names_if kind kept (Some names) = further_names kind kept names

-- the names of the distribution point (RFC 5280 4.2.1.13, RFC 6487 4.8.6)
--   CRLDistributionPoints ::= SEQUENCE SIZE (1..MAX) OF DistributionPoint
--   DistributionPoint ::= SEQUENCE { distributionPoint [0] DistributionPointName OPTIONAL, .. }
--   DistributionPointName ::= CHOICE { fullName [0] GeneralNames, .. }
unfoldable pub point_names : List ℕ → Option (List ℕ)
point_names content = do
  points ← value_at SEQUENCE content
  point ← value_at SEQUENCE points.0
  name ← value_at (CONTEXT_CONSTRUCTED 0) point.0
  names ← value_at (CONTEXT_CONSTRUCTED 0) name.0
  Some names.0

-- the names behind the method of the description (RFC 5280 4.2.2.1, RFC 6487 4.8.7)
--   AuthorityInfoAccessSyntax ::= SEQUENCE SIZE (1..MAX) OF AccessDescription
--   AccessDescription ::= SEQUENCE {
--     accessMethod OBJECT IDENTIFIER, accessLocation GeneralName }
unfoldable pub issuer_names : List ℕ → Option (List ℕ)
issuer_names content = do
  descriptions ← value_at SEQUENCE content
  description ← value_at SEQUENCE descriptions.0
  method ← value_at OBJECT_IDENTIFIER description.0
  Some method.1

-- of an accessMethod that readers know: of which kind its further URIs are, and the URI that is
-- kept (RFC 6487 4.8.8, RFC 8182 3.2)
abbrev pub kept_by : Access → List ℕ → Option (FactKind × Option (List ℕ))
kept_by access method =
    if bytes_eq method (pkix 0x30 0x05) then Some (fact.FurtherRepository, access.ca_repository)
    else if bytes_eq method (pkix 0x30 0x0A) then Some (fact.FurtherManifest, access.rpki_manifest)
    else if bytes_eq method (pkix 0x30 0x0B) then Some (fact.FurtherObject, access.signed_object)
    else if bytes_eq method (pkix 0x30 0x0D) then Some (fact.FurtherNotify, access.rpki_notify)
    else None

-- what the code hands out of that
abbrev pub kept_view : FactKind × Option (Bor (List ℕ)) → FactKind × Option (List ℕ)
kept_view kept = (kept.0, option_copied kept.1)

-- the URI that stands first
abbrev pub further_at : FactKind → Option (List ℕ) → Option (List ℕ × List ℕ) → List FactFields
further_at kind kept None = []
further_at kind kept (Some uri) = further_if kind kept uri.0

-- the location behind a method that is known; an unknown method itself, and its URI
abbrev pub location_facts : Option (FactKind × Option (List ℕ)) → List ℕ → List ℕ → List FactFields
location_facts (Some (kind, kept)) method location = further_at kind kept (value_at URI location)
location_facts None method location =
    record { kind = fact.UnknownMethod; octets = method } ∷ further_at fact.MethodUri None (value_at URI location)

-- a description: a method and a location
abbrev pub method_facts : Access → Option (List ℕ × List ℕ) → List FactFields
method_facts access None = []
method_facts access (Some method) = location_facts (kept_by access method.0) method.0 method.1

abbrev pub description_facts : Access → List ℕ → List FactFields
description_facts access description = method_facts access (value_at OBJECT_IDENTIFIER description)

-- descriptions, one after the other
abbrev pub descriptions_facts : Access → List ℕ → List FactFields
descriptions_facts access descriptions = flat_map (description_facts access) (values_in (value_at SEQUENCE) descriptions)

-- those of a sequence (RFC 5280 4.2.2.2)
--   SubjectInfoAccessSyntax ::= SEQUENCE SIZE (1..MAX) OF AccessDescription
abbrev pub access_facts : Access → Option (List ℕ × List ℕ) → List FactFields
access_facts access None = []
access_facts access (Some descriptions) = descriptions_facts access descriptions.0

-- ---- facts

-- the statement of practices, where there is one
abbrev pub statement_facts : Option (List ℕ) → List FactFields
statement_facts None = []
statement_facts (Some uri) = one_fact fact.PracticeStatement uri

-- what is looked at in an extension with this identifier
abbrev pub source_of : List ℕ → Source
source_of identifier =
    if bytes_eq identifier certificate_policies.identifier then source.Policies
    else if bytes_eq identifier crl_distribution_points.identifier then source.DistributionPoints
    else if bytes_eq identifier authority_information_access.identifier then source.AuthorityAccess
    else if bytes_eq identifier subject_information_access.identifier then source.SubjectAccess
    else source.Other

-- what the content of an extension of a known kind says beside these fields
abbrev pub known_facts : ExtensionFields → Source → List ℕ → List FactFields
known_facts f source.Policies content = statement_facts (statement_at content)
known_facts f source.DistributionPoints content =
    further_names_if fact.FurtherList f.crl_uri (point_names content)
known_facts f source.AuthorityAccess content =
    further_names_if fact.FurtherIssuer f.ca_issuer (issuer_names content)
known_facts f source.SubjectAccess content = access_facts f.access (value_at SEQUENCE content)
known_facts f source.Other content = []

-- what an extension says; one of another kind, that it is there
abbrev pub facts_in : ExtensionFields → Extension → List FactFields
facts_in f x =
    if is_of known x then known_facts f (source_of x.identifier) x.content
    else one_fact fact.UnknownExtension x.identifier

-- what extensions say beside these fields, in their order
abbrev pub facts_of : ExtensionFields → List Extension → List FactFields
facts_of f xs = flat_map (facts_in f) xs

-- what the extensions of the certificate say that the octets begin with, beside its fields
pub record AreFacts (octets : List ℕ) (facts : List FactFields) : Type 0 where
  pub certificate : CertFields
  pub extensions : List Extension
  pub begins : Means IsCertificate certificate octets
  pub extensions_are : HaveExtensions extensions octets
  pub are : facts ≡ facts_of certificate.fields.extensions extensions
