-- What is taken of a certificate although a standard forbids it.
use Rattle.std.specs.List.{count_by, list_any}
use Rattle.std.specs.Prelude.{◌≡◌, ◌≢◌, ◌≤◌, ◌<◌, ◌^◌, ◌⊎◌, ◌&&◌, ◌||◌, nat_eq, nat_le, ℕ, Bool, List, [], ◌∷◌, take}
use Rattle.std.specs.Prelude.{codes, not, true, false, Option, Some, None, IsNone, IsSome, bytes_eq, option_map}
use Rattle.std.specs.Prelude.{if◌then◌else◌}
use Rattle.std.specs.Str.{str_eq_ignore_ascii_case}
use Rattle.rpki_blocks.specs.Addresses.{ip_addr_blocks}
use Rattle.rpki_ext.specs.CertificateExtensions.{ExtensionFields}
use Rattle.rpki_cert.specs.Certificates.{CertFields, IsCertificate, TbsFields}
use Rattle.rpki_der.specs.Encoding.{Means}
use Rattle.rpki_ext.specs.ExtensionKinds.{as_resources, certificate_policies, ip_resources, known, subject_information_access}
use Rattle.rpki_der.specs.Extensions.{Extension, IsExtension}
use Rattle.rpki_der.specs.Identifiers.{pkix}
use Rattle.rpki_ext.specs.Kinds.{identifiers, identifiers_by_mode, is_of}
use Rattle.rpki_ext.specs.declared.key_usage.KeyUsage.TheVariants.{Ee}
use Rattle.rpki_parts.specs.NameForms.{IsRpkiName}
use Rattle.rpki_parts.specs.Validities.{ValidityFields}
use Rattle.rpki_der.specs.Sequences.{AreEncodings}
use Rattle.rpki_blocks.specs.Systems.{written_as}
use Rattle.rpki_blocks.specs.Unions.{text_of}
use Rattle.rpki_der.specs.Tags.{BOOLEAN, CONTEXT, CONTEXT_CONSTRUCTED, GENERALIZED_TIME, INTEGER, OBJECT_IDENTIFIER}
use Rattle.rpki_der.specs.Tags.{PRINTABLE_STRING, SEQUENCE, SET, UTC_TIME}
use Rattle.rpki_der.specs.Times.{Moment}
use Rattle.rpki_der.specs.Values.{IsValue}
use Rattle.rpki_der.specs.Values.Reading.{◌>>=◌, value_at}
use Rattle.rpki_parts.specs.NameTexts.Reading.{values_in}
use Rattle.rpki_files.specs.PolicyPresence.{HasExtensions}
use Rattle.rpki_text.specs.Qualifiers.{id_qt_cps}
use Rattle.rpki_text.specs.declared.notes.access.Method.{Method}
use Rattle.rpki_text.specs.declared.notes.access.Method.TheVariants as methods
use Rattle.rpki_text.specs.declared.notes.note.Note.{Note}
use Rattle.rpki_text.specs.declared.notes.note.Note.TheVariants as note

-- ---- the extensions of a certificate, as they stand

-- these extensions stand in the octets, where those of a certificate do
abbrev pub HaveExtensions : List Extension → List ℕ → Type 0
HaveExtensions xs octets = (elements : List ℕ) × HasExtensions elements octets × AreEncodings IsExtension xs elements

-- one of them has one of these identifiers, and the property
abbrev pub HaveOne : List (List ℕ) → (Extension → Type 0) → List Extension → Type 0
HaveOne ids P [] = ⊥
HaveOne ids P (x ∷ xs) = ((is_of ids x ≡ true) × P x) ⊎ HaveOne ids P xs

-- the content of the extension isn't the one that is written
abbrev pub IsOtherThan : List ℕ → Extension → Type 0
IsOtherThan written x = x.content ≢ written

-- the extension isn't critical
abbrev pub IsNotCritical : Extension → Type 0
IsNotCritical x = x.critical ≡ false

-- octets that aren't one value stand in the OCTET STRING
abbrev pub IsNotOneValue : Extension → Type 0
IsNotOneValue x = IsValue x.content → ⊥

-- ---- Subject Information Access

-- the descriptions in a content, each by what its SEQUENCE has (RFC 5280 4.2.2.2)
--   SubjectInfoAccessSyntax ::= SEQUENCE SIZE (1..MAX) OF AccessDescription
--   AccessDescription ::= SEQUENCE {
--     accessMethod OBJECT IDENTIFIER, accessLocation GeneralName }
abbrev pub descriptions_by : Option (List ℕ × List ℕ) → List (List ℕ)
descriptions_by None = []
descriptions_by (Some whole) = values_in (value_at SEQUENCE) whole.0

abbrev pub descriptions_in : List ℕ → List (List ℕ)
descriptions_in content = descriptions_by (value_at SEQUENCE content)

-- whether an accessMethod is this one; those that are known are in RFC 6487 4.8.8 and RFC 8182 3.2
abbrev pub is_method : Method → List ℕ → Bool
is_method methods.SignedObject id = bytes_eq id (pkix 0x30 0x0B)
is_method methods.RpkiNotify id = bytes_eq id (pkix 0x30 0x0D)
is_method methods.NotifyElsewhere id = bytes_eq id (pkix 0x30 0x0D)
is_method methods.Unknown id =
    not (list_any (λ known. bytes_eq id known) (pkix 0x30 0x05 ∷ pkix 0x30 0x0A ∷ pkix 0x30 0x0B ∷ pkix 0x30 0x0D ∷ []))

-- whether a URI has another scheme than https (RFC 9110 4.2.2), which is written in any case (RFC
-- 3986 3.1)
abbrev pub is_elsewhere : List ℕ → Bool
is_elsewhere uri = not (str_eq_ignore_ascii_case (take 8 uri) (codes "https://"))

-- uniformResourceIdentifier [6], of GeneralName (RFC 5280 4.2.1.6)
abbrev pub uri_elsewhere : Option (List ℕ × List ℕ) → Bool
uri_elsewhere None = false
uri_elsewhere (Some uri) = is_elsewhere uri.0

-- whether an accessLocation is one that is asked for with the method
abbrev pub suits_method : Method → List ℕ → Bool
suits_method methods.NotifyElsewhere location = uri_elsewhere (value_at (CONTEXT 6) location)
suits_method _ location = true

-- the method, where there is one, and the location behind it
abbrev pub method_is : Method → Option (List ℕ × List ℕ) → Bool
method_is method None = false
method_is method (Some id) = is_method method id.0 && suits_method method id.1

abbrev pub has_method : Method → List ℕ → Bool
has_method method description = method_is method (value_at OBJECT_IDENTIFIER description)

-- so many descriptions of the extension have this method, or more
abbrev pub HasAtLeast : ℕ → Method → Extension → Type 0
HasAtLeast times method x = times ≤ count_by (has_method method) (descriptions_in x.content)

-- ---- Certificate Policies

-- the qualifiers of the policy
--   certificatePolicies ::= SEQUENCE SIZE (1..MAX) OF PolicyInformation   (RFC 5280 4.2.1.4)
--   PolicyInformation ::= SEQUENCE { policyIdentifier CertPolicyId,
--     policyQualifiers SEQUENCE SIZE (1..MAX) OF PolicyQualifierInfo OPTIONAL }
unfoldable pub qualifiers_at : List ℕ → Option (List ℕ)
qualifiers_at content = do
  policies ← value_at SEQUENCE content
  policy ← value_at SEQUENCE policies.0
  identifier ← value_at OBJECT_IDENTIFIER policy.0
  qualifiers ← value_at SEQUENCE identifier.1
  Some qualifiers.0

-- what stands behind the first of them, which is a statement of practices
--   PolicyQualifierInfo ::= SEQUENCE { policyQualifierId PolicyQualifierId, qualifier ANY }
unfoldable pub behind_statement : List ℕ → Option (List ℕ)
behind_statement qualifiers = do
  qualifier ← value_at SEQUENCE qualifiers
  kind ← value_at OBJECT_IDENTIFIER qualifier.0
  if bytes_eq kind.0 id_qt_cps then Some qualifier.1 else None

-- no octets
abbrev pub IsEnd : Option (List ℕ) → Type 0
IsEnd None = ⊥
IsEnd (Some rest) = rest ≡ []

-- qualifiers that are there are others than one statement of practices (RFC 7318 2)
abbrev pub AreOthers : Option (List ℕ) → Type 0
AreOthers None = ⊥
AreOthers (Some qualifiers) = IsEnd (behind_statement qualifiers) → ⊥

abbrev pub HasOtherQualifiers : Extension → Type 0
HasOtherQualifiers x = AreOthers (qualifiers_at x.content)

-- ---- the canonical forms of RFC 3779

-- IPAddrBlocks: families in ascending order, their blocks sorted and merged, prefixes where there
-- are any, and no bit that is left out (RFC 3779 2.2.3)
abbrev pub canonical_addresses : ExtensionFields → List ℕ
canonical_addresses x = text_of (ip_addr_blocks x.v4_resources x.v6_resources)

-- ASIdentifiers: blocks sorted and merged, and single numbers as such (RFC 3779 3.2.3)
abbrev pub canonical_systems : ExtensionFields → List ℕ
canonical_systems x = text_of (written_as x.as_resources)

-- ---- fields as they are encoded

-- what the issuer's Name in the octets of a certificate has, and what follows it
--   Certificate ::= SEQUENCE { tbsCertificate TBSCertificate, .. }   (RFC 5280 4.1)
--   TBSCertificate ::= SEQUENCE { version [0] .., serialNumber INTEGER,
--     signature AlgorithmIdentifier, issuer Name, validity Validity, subject Name, .. }
unfoldable pub issuer_at : List ℕ → Option (List ℕ × List ℕ)
issuer_at octets = do
  whole ← value_at SEQUENCE octets
  data_is ← value_at SEQUENCE whole.0
  version ← value_at (CONTEXT_CONSTRUCTED 0) data_is.0
  serial ← value_at INTEGER version.1
  algorithm ← value_at SEQUENCE serial.1
  value_at SEQUENCE algorithm.1

-- what the Validity has, and what follows it
unfoldable pub validity_at : List ℕ → Option (List ℕ × List ℕ)
validity_at octets = do
  issuer ← issuer_at octets
  value_at SEQUENCE issuer.1

-- what the subject's Name has, and what follows it
unfoldable pub subject_at : List ℕ → Option (List ℕ × List ℕ)
subject_at octets = do
  validity ← validity_at octets
  value_at SEQUENCE validity.1

-- ---- times

-- a time that a UTCTime says too is a GeneralizedTime (RFC 5280 4.1.2.5)
abbrev pub IsOtherForm : Moment → List ℕ → Type 0
IsOtherForm time octets = IsSome (value_at GENERALIZED_TIME octets) × (1950 ≤ time.year) × (time.year < 2050)

-- what stands behind the first of two times, of which one of the two forms was read
--   Validity ::= SEQUENCE { notBefore Time, notAfter Time }
--   Time ::= CHOICE { utcTime UTCTime, generalTime GeneralizedTime }
abbrev pub behind_time : Option (List ℕ × List ℕ) → Option (List ℕ × List ℕ) → Option (List ℕ)
behind_time (Some utc) general = Some utc.1
behind_time None general = option_map (λ v. v.1) general

abbrev pub not_after_at : List ℕ → Option (List ℕ)
not_after_at times = behind_time (value_at UTC_TIME times) (value_at GENERALIZED_TIME times)

-- the time that stands there, if there is one
abbrev pub IsOtherFormAt : Moment → Option (List ℕ) → Type 0
IsOtherFormAt time None = ⊥
IsOtherFormAt time (Some octets) = IsOtherForm time octets

-- one of the two times
abbrev pub HaveOtherForm : ValidityFields → Option (List ℕ × List ℕ) → Type 0
HaveOtherForm v None = ⊥
HaveOtherForm v (Some times) = IsOtherForm v.not_before times.0 ⊎ IsOtherFormAt v.not_after (not_after_at times.0)

-- ---- characters of names

-- whether a PrintableString may have the character: a letter, a digit, or one of eleven others
-- (X.680 41.4)
abbrev pub is_between : ℕ → ℕ → ℕ → Bool
is_between c first last = nat_le first c && nat_le c last

abbrev pub is_printable : ℕ → Bool
is_printable c =
    is_between c 0x41 0x5A || (is_between c 0x61 0x7A || (is_between c 0x30 0x39
    || list_any (λ other. nat_eq c other) (codes " '()+,-./:=?")))

-- the PrintableString in an attribute, by what that has
--   AttributeTypeAndValue ::= SEQUENCE { type AttributeType, value AttributeValue }
--   (RFC 5280 4.1.2.4)
unfoldable pub printable_at : List ℕ → Option (List ℕ)
printable_at attribute = do
  kind ← value_at OBJECT_IDENTIFIER attribute
  string ← value_at PRINTABLE_STRING kind.1
  Some string.0

-- whether a string has another character
abbrev pub is_misprinted : Option (List ℕ) → Bool
is_misprinted None = false
is_misprinted (Some string) = list_any (λ c. not (is_printable c)) string

abbrev pub is_misprinted_attribute : List ℕ → Bool
is_misprinted_attribute attribute = is_misprinted (printable_at attribute)

-- whether a part of a name has such a string, by what that has
--   RelativeDistinguishedName ::= SET SIZE (1..MAX) OF AttributeTypeAndValue   (RFC 5280 4.1.2.4)
abbrev pub is_misprinted_part : List ℕ → Bool
is_misprinted_part part = list_any is_misprinted_attribute (values_in (value_at SEQUENCE) part)

-- whether a name has one, if there is a name
--   RDNSequence ::= SEQUENCE OF RelativeDistinguishedName   (RFC 5280 4.1.2.4)
abbrev pub is_misprinted_name : Option (List ℕ × List ℕ) → Bool
is_misprinted_name None = false
is_misprinted_name (Some name) = list_any is_misprinted_part (values_in (value_at SET) name.0)

-- the issuer's name or the subject's has one
abbrev pub HasOtherCharacters : List ℕ → Type 0
HasOtherCharacters octets =
    (is_misprinted_name (issuer_at octets) ≡ true) ⊎ (is_misprinted_name (subject_at octets) ≡ true)

-- ---- flags

-- what the flag of an extension has, if it is stated, by what the extension has
--   Extension ::= SEQUENCE { extnID OBJECT IDENTIFIER, critical BOOLEAN DEFAULT FALSE, .. }
--   (RFC 5280 4.1)
unfoldable pub flag_at : List ℕ → Option (List ℕ)
flag_at extension = do
  identifier ← value_at OBJECT_IDENTIFIER extension
  flag ← value_at BOOLEAN identifier.1
  Some flag.0

-- whether that is FALSE (X.690 8.2.2)
abbrev pub is_false : Option (List ℕ) → Bool
is_false None = false
is_false (Some flag) = bytes_eq flag (0 ∷ [])

abbrev pub states_false : List ℕ → Bool
states_false extension = is_false (flag_at extension)

-- one of the extensions of a certificate states FALSE, the default of its flag (X.690 11.5)
abbrev pub StatesFalse : List ℕ → Type 0
StatesFalse octets =
    (elements : List ℕ) × HasExtensions elements octets
    × (list_any states_false (values_in (value_at SEQUENCE) elements) ≡ true)

-- ---- extensions that are there twice

-- an extension has the identifier of one before it, or one of these
abbrev pub HaveAgain : List (List ℕ) → List Extension → Type 0
HaveAgain before [] = ⊥
HaveAgain before (x ∷ xs) =
    (list_any (λ id. bytes_eq id x.identifier) before ≡ true) ⊎ HaveAgain (x.identifier ∷ before) xs

-- ---- fields

-- the issuer's name isn't one CommonName, with one serialNumber at most, in PrintableStrings (RFC
-- 6487 4.4)
abbrev pub HasOtherIssuer : TbsFields → Type 0
HasOtherIssuer f = IsRpkiName true f.issuer → ⊥

-- nor is the subject's (RFC 6487 4.5); a router's may be a UTF8String (RFC 8209 3.1.1)
abbrev pub HasOtherSubject : TbsFields → Type 0
HasOtherSubject f = IsNone f.extensions.extended_key_usage × (IsRpkiName true f.subject → ⊥)

-- an end entity has an access method beside signedObject (RFC 6487 4.8.8.2): rpkiNotify (RFC 8182
-- 3.2)
abbrev pub IsEndEntityWithNotify : TbsFields → Type 0
IsEndEntityWithNotify f = (f.extensions.key_usage ≡ Ee) × IsSome f.extensions.access.rpki_notify

-- an end entity has an unknown access method, or two signedObjects (RFC 6487 4.8.8.2)
abbrev pub HasOtherAccess : ℕ → Method → TbsFields → List Extension → Type 0
HasOtherAccess times method f xs =
    (f.extensions.key_usage ≡ Ee) × HaveOne (identifiers subject_information_access) (HasAtLeast times method) xs

-- rpkiNotify is there, and none has an https URI (RFC 8182 3.2)
abbrev pub HasOtherNotify : TbsFields → List Extension → Type 0
HasOtherNotify f xs =
    IsNone f.extensions.access.rpki_notify
    × HaveOne (identifiers subject_information_access) (HasAtLeast 1 methods.RpkiNotify) xs

-- rpkiNotify has an https URI, and another rpkiNotify one of another scheme (RFC 8182 3.2)
abbrev pub HasFurtherNotify : TbsFields → List Extension → Type 0
HasFurtherNotify f xs =
    IsSome f.extensions.access.rpki_notify
    × HaveOne (identifiers subject_information_access) (HasAtLeast 1 methods.NotifyElsewhere) xs

-- ---- the notes

-- a certificate of these octets, fields and extensions breaks the rule of the note
abbrev pub Breaks : Note → List ℕ → TbsFields → List Extension → Type 0
Breaks note.SerialZero octets f xs = f.serial ≡ 0
Breaks note.SerialLong octets f xs = 2 ^ 159 ≤ f.serial
Breaks note.IssuerForm octets f xs = HasOtherIssuer f
Breaks note.TimeForm octets f xs = HaveOtherForm f.validity (validity_at octets)
Breaks note.SubjectForm octets f xs = HasOtherSubject f
Breaks note.NameCharacters octets f xs = HasOtherCharacters octets
Breaks note.EndEntityNotify octets f xs = IsEndEntityWithNotify f
Breaks note.EndEntityMethod octets f xs = HasOtherAccess 1 methods.Unknown f xs
Breaks note.EndEntityObjects octets f xs = HasOtherAccess 2 methods.SignedObject f xs
Breaks note.NotifyForm octets f xs = HasOtherNotify f xs
Breaks note.NotifyScheme octets f xs = HasFurtherNotify f xs
Breaks note.QualifierForm octets f xs = HaveOne (identifiers certificate_policies) HasOtherQualifiers xs
Breaks note.IpNotCritical octets f xs = HaveOne (identifiers_by_mode ip_resources) IsNotCritical xs
Breaks note.AsNotCritical octets f xs = HaveOne (identifiers_by_mode as_resources) IsNotCritical xs
Breaks note.IpForm octets f xs = HaveOne (identifiers_by_mode ip_resources) (IsOtherThan (canonical_addresses f.extensions)) xs
Breaks note.AsForm octets f xs = HaveOne (identifiers_by_mode as_resources) (IsOtherThan (canonical_systems f.extensions)) xs
Breaks note.BytesAfterValue octets f xs = HaveOne known IsNotOneValue xs
Breaks note.FlagForm octets f xs = StatesFalse octets
Breaks note.ExtensionTwice octets f xs = HaveAgain [] xs

-- the octets begin with a certificate that breaks the rule of the note
pub record IsNoteOf (octets : List ℕ) (n : Note) : Type 0 where
  pub certificate : CertFields
  pub extensions : List Extension
  pub begins : Means IsCertificate certificate octets
  pub extensions_are : HaveExtensions extensions octets
  pub breaks : Breaks n octets certificate.fields extensions

-- ys are those of the xs that have the property, in their order
abbrev pub AreThose : {X : Type 0} → (X → Type 0) → List X → List X → Type 0
AreThose P [] ys = ys ≡ []
AreThose {X} P (x ∷ xs) ys =
    (P x × ((rest : List X) × (ys ≡ x ∷ rest) × AreThose P xs rest)) ⊎ ((P x → ⊥) × AreThose P xs ys)

-- every note, in the order in which they are told
abbrev pub every_note : List Note
every_note =
    note.SerialZero ∷ note.SerialLong ∷ note.IssuerForm ∷ note.TimeForm ∷ note.SubjectForm
    ∷ note.NameCharacters ∷ note.EndEntityNotify ∷ note.EndEntityMethod ∷ note.EndEntityObjects
    ∷ note.NotifyForm ∷ note.NotifyScheme ∷ note.QualifierForm ∷ note.IpNotCritical ∷ note.AsNotCritical
    ∷ note.IpForm ∷ note.AsForm ∷ note.BytesAfterValue ∷ note.FlagForm ∷ note.ExtensionTwice ∷ []

-- exactly the notes of the octets, in that order
unfoldable pub AreNotes : List ℕ → List Note → Type 0
AreNotes octets notes = AreThose (IsNoteOf octets) every_note notes
