-- Faults: a table, where each has one line with its number, its name in the library, what the
-- library prints of it, and for a person what it means and the section that it breaks. The hundreds
-- of a number say what the fault is about; no number gets another meaning (own).
use Prim.Native.String.{String}
use Rattle.std.specs.Prelude.{◌≡◌, ℕ, ◌/◌, ◌==◌, if◌then◌else◌, List, [], ◌∷◌, Option, Some, None, codes, bytes_eq, find, slice_get}
use Rattle.std.specs.Option.{option_or}
use Rattle.rpki_der.specs.ErrorNames.{decode_error_name}
use Rattle.rpki_der.specs.declared.error.Field.{Field}
use Rattle.rpki_der.specs.declared.error.Field.TheVariants as field
use Rattle.rpki_der.specs.declared.error.DecodeError.{DecodeError}
use Rattle.rpki_ext.specs.Inspection.{inspection_error_name}
use Rattle.rpki_ext.specs.declared.inspection.InspectionError.{InspectionError}
use Rattle.rpki_cert.specs.Verification.{verification_error_name}
use Rattle.rpki_cert.specs.declared.verification_error.VerificationError.{VerificationError}
use Rattle.rpki_crl.specs.Revocation.{revocation_error_name}
use Rattle.rpki_crl.specs.declared.revocation_error.RevocationError.{RevocationError}
use Rattle.rpki_keys.specs.TalErrors.{tal_error_name}
use Rattle.rpki_keys.specs.declared.tal.tal_error.TalError.{TalError}
use Rattle.rpki_files.specs.declared.faults.Fault.{Fault}
use Rattle.rpki_files.specs.declared.faults.FaultKind.{FaultKind}
use Rattle.rpki_files.specs.declared.faults.FaultKind.TheVariants as kind
use Rattle.rpki_files.specs.declared.faults.Part.{Part}

-- ---- the table

-- a fault; what is printed of it may have the name of a part of a certificate or list between two
-- texts, and it may be a part's section that it breaks, which isn't in its line
pub record FaultFields : Type 0 where
  pub number : ℕ
  pub name : List ℕ
  pub before : List ℕ
  pub behind : List ℕ
  pub says : List ℕ
  pub section : List ℕ

-- what a contract sees of a fault
abbrev pub fault_fields : Fault → FaultFields
fault_fields it =
    record {
      number = it.number;
      name = it.name.now;
      before = it.before.now;
      behind = it.behind.now;
      says = it.says.now;
      section = it.section.now;
    }

-- one that speaks of a part: the part's number is added to this one
abbrev pub part_fault : ℕ → String → String → String → String → String → FaultFields
part_fault number name before behind says section =
    record {
      number = number;
      name = codes name;
      before = codes before;
      behind = codes behind;
      says = codes says;
      section = codes section;
    }

-- one that speaks of none
abbrev pub fault : ℕ → String → String → String → String → FaultFields
fault number name text says section = part_fault number name text "" says section

-- one for which no sentence stands here
abbrev pub unsaid : ℕ → String → String → FaultFields
unsaid number name text = fault number name text "" ""

-- What is printed has no identifier that a fault names.

-- those of no kind
unfoldable pub general_faults : List FaultFields
general_faults =
    unsaid 0 "None" "no fault" ∷
    fault 1 "Memory" "out of memory" "out of memory" "no section" ∷
    unsaid 2 "BadCall" "lengths or numbers of the call don't fit" ∷ []

-- why octets can't be read; what is said of them is said of a certificate
unfoldable pub reading_faults : List FaultFields
reading_faults =
    fault 100 "Truncated" "truncated value"
    "it doesn't begin with a certificate of the profile" "RFC 6487 4" ∷
    fault 101 "BadLength" "bad length"
    "it doesn't begin with a certificate of the profile" "RFC 6487 4, own rules" ∷
    fault 102 "BadTag" "unexpected identifier"
    "it doesn't begin with a certificate of the profile" "RFC 6487 4, own rules" ∷
    fault 103 "BadValue" "bad value"
    "it doesn't begin with a certificate of the profile" "RFC 6487 4, own rules" ∷
    fault 104 "Trailing" "trailing octets"
    "it doesn't begin with a certificate of the profile" "RFC 6487 4, own rules" ∷
    fault 105 "TooDeep" "values nested too deep" "its values are nested too deep" "own rule" ∷
    fault 106 "AlgorithmMismatch" "signature algorithm mismatch"
    "it doesn't begin with a certificate of the profile" "RFC 6487 4" ∷
    fault 107 "UnexpectedCritical" "unexpected critical extension"
    "an unknown extension is critical" "RFC 6487 4.8" ∷
    fault 108 "InvalidExtension" "invalid extension"
    "it doesn't begin with a certificate of the profile" "RFC 6487 4" ∷
    part_fault 120 "Missing" "missing " "" "an extension that must be there is missing" "" ∷
    part_fault 140 "Duplicate" "duplicate " "" "an extension appears twice" "RFC 5280 4.2" ∷
    part_fault 160 "Critical" "" " is critical" "an extension that must not be critical is" "" ∷
    part_fault 180 "NotCritical" "" " is not critical"
    "an extension that must be critical isn't" "" ∷
    part_fault 200 "WrongResources" "wrong identifier of " ""
    "the resources are in extensions that its policy doesn't use" "RFC 8360 4.2" ∷ []

-- why a certificate doesn't meet its profile
unfoldable pub inspection_faults : List FaultFields
inspection_faults =
    fault 300 "AlgorithmMismatch" "signature algorithm mismatch"
    "the signature algorithm in the to-be-signed part isn't that of the signature" "RFC 5280 4.1.1.2" ∷
    fault 301 "Issuer" "invalid issuer"
    "the issuer's name isn't a CommonName, with a serialNumber at most, in PrintableStrings" "RFC 6487 4.4" ∷
    fault 302 "Subject" "invalid subject"
    "the subject's name isn't a CommonName, with a serialNumber at most, in PrintableStrings" "RFC 6487 4.5" ∷
    fault 303 "KeyAlgorithm" "invalid key algorithm"
    "the key must be RSA, or on P-256 for a router" "RFC 6487 4.7" ∷
    fault 304 "SubjectKeyIdentifier" "subject key identifier mismatch"
    "the subject key identifier isn't the SHA-1 hash of the key" "RFC 6487 4.8.2" ∷
    fault 305 "ExtendedKeyUsagePresent" "extended key usage present"
    "Extended Key Usage must be absent" "RFC 6487 4.8.5" ∷
    fault 306 "CaFlagFalse" "CA flag is false"
    "Basic Constraints don't say that it is a CA" "RFC 6487 4.8.1, RFC 5280 4.2.1.9" ∷
    fault 307 "MissingBasicConstraints" "missing basic constraints"
    "Basic Constraints are missing" "RFC 6487 4.8.1" ∷
    fault 308 "KeyUsage" "wrong key usage"
    "the key usage must be keyCertSign and cRLSign for a CA, digitalSignature for others" "RFC 6487 4.8.4" ∷
    fault 309 "MissingCaRepository" "missing CA repository"
    "the URI of the repository is missing" "RFC 6487 4.8.8.1" ∷
    fault 310 "MissingManifest" "missing manifest"
    "the URI of the manifest is missing" "RFC 6487 4.8.8.1" ∷
    fault 311 "ManifestNotChild" "manifest not directly below the repository"
    "the manifest isn't directly in the repository's directory" "own rule" ∷
    fault 312 "SignedObjectPresent" "signed object present"
    "the URI of a signed object must be absent" "own rule" ∷
    fault 313 "AuthorityKeyIdentifier" "authority key identifier mismatch"
    "the authority key identifier of a trust anchor isn't its own key's" "RFC 6487 4.8.3" ∷
    fault 314 "CrlUriPresent" "CRL URI present"
    "the URI of a CRL must be absent" "RFC 6487 4.8.6" ∷
    fault 315 "CaIssuerPresent" "CA issuer present"
    "the URI of the issuer's certificate must be absent" "RFC 6487 4.8.7" ∷
    fault 316 "MissingCrlUri" "missing CRL URI"
    "the URI of the issuer's CRL is missing" "RFC 6487 4.8.6" ∷
    fault 317 "BasicConstraintsPresent" "basic constraints present"
    "Basic Constraints must be absent" "RFC 6487 4.8.1" ∷
    fault 318 "CaRepositoryPresent" "CA repository present"
    "the URI of a repository must be absent" "RFC 6487 4.8.8.2" ∷
    fault 319 "ManifestPresent" "manifest present"
    "the URI of a manifest must be absent" "RFC 6487 4.8.8.2" ∷
    fault 320 "MissingSignedObject" "missing signed object"
    "the URI of the signed object is missing" "RFC 6487 4.8.8.2" ∷
    fault 321 "MissingExtendedKeyUsage" "missing extended key usage"
    "Extended Key Usage is missing" "RFC 8209 3.1.3.2" ∷
    fault 322 "MissingRouterPurpose" "missing router purpose"
    "Extended Key Usage doesn't name the purpose of routers" "RFC 8209 3.1.3.2" ∷
    fault 323 "SubjectInformationPresent" "subject information access present"
    "Subject Information Access must be absent" "RFC 8209 3.1.3.3" ∷
    fault 324 "IpResourcesPresent" "IP resources present"
    "IP resources must be absent" "RFC 8209 3.1.3.4" ∷
    fault 325 "MissingAsResources" "missing AS resources"
    "AS resources are missing" "RFC 8209 3.1.3.5" ∷
    fault 326 "InheritedAsResources" "inherited AS resources"
    "AS resources must not be inherited" "RFC 8209 3.1.3.5" ∷ []

-- why a certificate isn't that of its issuer, at this moment
unfoldable pub verification_faults : List FaultFields
verification_faults =
    fault 400 "NotYetValid" "certificate not yet valid" "it isn't valid yet" "RFC 6487 4.6" ∷
    fault 401 "Expired" "certificate expired" "it has expired" "RFC 6487 4.6" ∷
    fault 402 "InheritedV4" "inherited IPv4 resources"
    "a trust anchor inherits IPv4 addresses" "RFC 8630 2.3" ∷
    fault 403 "InheritedV6" "inherited IPv6 resources"
    "a trust anchor inherits IPv6 addresses" "RFC 8630 2.3" ∷
    fault 404 "InheritedAs" "inherited AS resources"
    "a trust anchor inherits AS numbers" "RFC 8630 2.3" ∷
    fault 405 "MissingKeyId" "missing authority key identifier"
    "the authority key identifier is missing" "RFC 6487 4.8.3" ∷
    fault 406 "WrongKeyId" "wrong authority key identifier"
    "the authority key identifier isn't that of the certificate above" "RFC 6487 4.8.3" ∷
    fault 407 "MissingIssuerUri" "missing URI of the issuer's certificate"
    "the URI of the issuer's certificate is missing" "RFC 6487 4.8.7" ∷
    fault 408 "BadSignature" "bad signature"
    "the signature doesn't verify with the issuer's key" "RFC 6487 7.2" ∷
    fault 409 "OverclaimV4" "overclaimed IPv4 resources"
    "it lists IPv4 addresses that its issuer doesn't hold" "RFC 6487 7.2" ∷
    fault 410 "OverclaimV6" "overclaimed IPv6 resources"
    "it lists IPv6 addresses that its issuer doesn't hold" "RFC 6487 7.2" ∷
    fault 411 "OverclaimAs" "overclaimed AS resources"
    "it lists AS numbers that its issuer doesn't hold" "RFC 6487 7.2" ∷ []

-- why a certificate isn't shown to be unrevoked
unfoldable pub revocation_faults : List FaultFields
revocation_faults =
    fault 500 "NoCrl" "missing revocation list"
    "its issuer's CRL isn't among those given" "RFC 6487 7.2" ∷
    fault 501 "WrongKeyId" "wrong authority key identifier of the revocation list"
    "the authority key identifier of the CRL isn't its issuer's" "RFC 6487 5" ∷
    fault 502 "BadSignature" "bad signature of the revocation list"
    "the signature of its issuer's CRL doesn't verify with the issuer's key" "RFC 6487 5" ∷
    fault 503 "Stale" "stale revocation list"
    "its issuer's CRL isn't current" "RFC 5280 5.1.2.4, 5.1.2.5" ∷
    fault 504 "Revoked" "certificate revoked" "its issuer has revoked it" "RFC 6487 7.2" ∷
    fault 505 "WrongIssuer" "wrong issuer of the revocation list"
    "the CRL that its issuer's key signed names another issuer" "RFC 5280 6.3.3" ∷ []

-- why a path's names, its trust anchor or its last key aren't those that are asked
unfoldable pub path_faults : List FaultFields
path_faults =
    fault 600 "OtherName" "the issuer isn't the subject of the certificate above"
    "its issuer isn't the subject of the certificate above" "RFC 6487 7.2" ∷
    fault 601 "OtherKey" "the trust anchor's key isn't the locator's"
    "its key is that of no TAL that was given" "RFC 8630 3" ∷
    fault 602 "NoResources" "the trust anchor lists no resources"
    "it lists no IP address and no AS number" "RFC 8630 2.3" ∷
    fault 603 "BadKey" "the last certificate's key isn't one that the RPKI uses"
    "its key isn't one that the RPKI uses" "RFC 7935 3, RFC 8608 3.1" ∷ []

-- why a file isn't a locator
unfoldable pub locator_faults : List FaultFields
locator_faults =
    fault 700 "NoText" "not UTF-8 text" "the TAL isn't UTF-8" "RFC 8630 2.2" ∷
    fault 701 "BadUri" "bad URI"
    "a line of the TAL's URIs isn't an rsync or https URI" "RFC 8630 2.2, own rules" ∷
    fault 702 "NoUri" "no URI" "the TAL has no URI" "RFC 8630 2.2" ∷
    fault 703 "NoKey" "no key" "no empty line follows the TAL's URIs" "RFC 8630 2.2" ∷
    fault 704 "BadKey" "bad key"
    "what follows the TAL's empty line isn't a key in base64" "RFC 8630 2.2, own rules" ∷ []

-- why no certificate and no list is issued
unfoldable pub issuing_faults : List FaultFields
issuing_faults =
    unsaid 800 "NoKey" "no public key" ∷
    unsaid 801 "UnusedKey" "a key that the RPKI doesn't use" ∷
    unsaid 802 "BadUri" "bad URI" ∷
    unsaid 803 "NoName" "the subject would have no name" ∷
    unsaid 804 "Unwritable" "fields of no certificate" ∷
    unsaid 805 "TooLong" "content too long" ∷
    unsaid 806 "NotToSign" "not what is to be signed" ∷
    unsaid 807 "OtherOctets" "not the octets that are prepared of the fields" ∷
    unsaid 808 "OtherList" "the previous list isn't one that the issuer signed" ∷
    unsaid 809 "Number" "the number isn't greater" ∷
    unsaid 810 "LongNumber" "the number is too long" ∷
    unsaid 811 "UpdateOrder" "the next update is before this one" ∷ []

abbrev pub table_of : FaultKind → List FaultFields
table_of kind.General = general_faults
table_of kind.Reading = reading_faults
table_of kind.Inspection = inspection_faults
table_of kind.Verification = verification_faults
table_of kind.Revocation = revocation_faults
table_of kind.Path = path_faults
table_of kind.Locator = locator_faults
table_of kind.Issuing = issuing_faults

-- a part of a certificate or list, and the section that asks for it
pub record PartFields : Type 0 where
  pub name : List ℕ
  pub section : List ℕ

-- what a contract sees of a part
abbrev pub part_fields : Part → PartFields
part_fields it = record { name = it.name.now; section = it.section.now }

abbrev pub section_part : String → String → PartFields
section_part name section = record { name = codes name; section = codes section }

-- all parts, by their numbers
unfoldable pub part_table : List PartFields
part_table =
    section_part "BasicConstraints" "RFC 6487 4.8.1" ∷
    section_part "SubjectKeyIdentifier" "RFC 6487 4.8.2" ∷
    section_part "AuthorityKeyIdentifier" "RFC 6487 4.8.3" ∷
    section_part "KeyUsage" "RFC 6487 4.8.4" ∷
    section_part "ExtendedKeyUsage" "RFC 6487 4.8.5" ∷
    section_part "CrlDistributionPoints" "RFC 6487 4.8.6" ∷
    section_part "AuthorityInformationAccess" "RFC 6487 4.8.7" ∷
    section_part "SubjectInformationAccess" "RFC 6487 4.8.8" ∷
    section_part "CertificatePolicies" "RFC 6487 4.8.9" ∷
    section_part "IpResources" "RFC 6487 4.8.10" ∷
    section_part "AsResources" "RFC 6487 4.8.11" ∷
    section_part "Resources" "RFC 6487 4.8.10" ∷
    section_part "CrlNumber" "RFC 6487 5" ∷ []

-- ---- from a fault to its line

-- the fault, or that there is none
abbrev pub or_no_fault : Option FaultFields → FaultFields
or_no_fault None = unsaid 0 "None" "no fault"
or_no_fault (Some it) = it

-- the first among these that has this name
abbrev pub first_named : List ℕ → List FaultFields → Option FaultFields
first_named name faults = find (λ (it : FaultFields). bytes_eq it.name name) faults

-- the fault of the kind that has this name; one of no kind comes first
unfoldable pub fault_named : FaultKind → List ℕ → FaultFields
fault_named of name =
    or_no_fault (option_or (first_named name general_faults) (first_named name (table_of of)))

-- of a fault of reading
abbrev pub reading_fault : DecodeError → FaultFields
reading_fault e = fault_named kind.Reading (decode_error_name e)

-- of a fault of inspection
abbrev pub inspection_fault : InspectionError → FaultFields
inspection_fault e = fault_named kind.Inspection (inspection_error_name e)

-- of a fault of verification
abbrev pub verification_fault : VerificationError → FaultFields
verification_fault e = fault_named kind.Verification (verification_error_name e)

-- of a fault of revocation
abbrev pub revocation_fault : RevocationError → FaultFields
revocation_fault e = fault_named kind.Revocation (revocation_error_name e)

-- of a fault of a locator
abbrev pub locator_fault : TalError → FaultFields
locator_fault e = fault_named kind.Locator (tal_error_name e)

-- the part's number, which is its place in the table
abbrev pub field_number : Field → ℕ
field_number field.BasicConstraints = 0
field_number field.SubjectKeyIdentifier = 1
field_number field.AuthorityKeyIdentifier = 2
field_number field.KeyUsage = 3
field_number field.ExtendedKeyUsage = 4
field_number field.CrlDistributionPoints = 5
field_number field.AuthorityInformationAccess = 6
field_number field.SubjectInformationAccess = 7
field_number field.CertificatePolicies = 8
field_number field.IpResources = 9
field_number field.AsResources = 10
field_number field.Resources = 11
field_number field.CrlNumber = 12

-- ---- from a number to its line

-- the kind of a fault with so many hundreds
abbrev pub kind_of_hundreds : ℕ → FaultKind
kind_of_hundreds hundreds =
    if hundreds == 1 then kind.Reading
    else if hundreds == 2 then kind.Reading
    else if hundreds == 3 then kind.Inspection
    else if hundreds == 4 then kind.Verification
    else if hundreds == 5 then kind.Revocation
    else if hundreds == 6 then kind.Path
    else if hundreds == 7 then kind.Locator
    else if hundreds == 8 then kind.Issuing
    else kind.General

-- the fault that has the number, and None where none has it
abbrev pub fault_numbered : ℕ → Option FaultFields
fault_numbered number =
    find (λ (it : FaultFields). it.number == number) (table_of (kind_of_hundreds (number / 100)))

abbrev pub part_numbered : ℕ → Option PartFields
part_numbered number = slice_get part_table number

-- the section of a part
abbrev pub section_in : Option PartFields → List ℕ
section_in None = []
section_in (Some it) = it.section

-- it is a fault with this name, and the one that is found by its number
pub record IsNumberedFault (name : List ℕ) (it : FaultFields) : Type 0 where
  pub name_is : it.name ≡ name
  pub numbered : fault_numbered it.number ≡ Some it
