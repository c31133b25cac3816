-- The sorts of files that are often given for certificates or lists, each by what its octets begin
-- with. Which sorts these are is the project's own choice.
use Rattle.std.specs.Prelude.{◌≡◌, ◌⊎◌, ℕ, IsTrue, List, [], ◌∷◌, Option, Some, None}
use Rattle.rpki_der.specs.Encoding.{Begins}
use Rattle.rpki_der.specs.Tags.{BIT_STRING, INTEGER, OBJECT_IDENTIFIER, OCTET_STRING, SEQUENCE, SET}
use Rattle.rpki_der.specs.Values.{IsEnc}
use Rattle.rpki_files.specs.Contents.{BeginsWithEither}
use Rattle.rpki_files.specs.LocatorFiles.{looks_like_locator}
use Rattle.rpki_files.specs.PemFiles.{IsBareBase64, IsDamagedPem, IsSeveralPem, IsUnendedPem}
use Rattle.rpki_files.specs.PolicyPresence.{IsOtherCertificate}
use Rattle.rpki_files.specs.declared.sorts.ContentType.{ContentType}
use Rattle.rpki_files.specs.declared.sorts.ContentType.TheVariants as of
use Rattle.rpki_files.specs.declared.sorts.Sort.{Sort}
use Rattle.rpki_files.specs.declared.sorts.Sort.TheVariants as sort
use Rattle.rpki_files.specs.declared.sorts.Turn.{Turn}
use Rattle.rpki_files.specs.declared.sorts.Turn.TheVariants.{Over, Into, Named}
pub mod Reading

-- ---- values of DER, one behind the other or one inside the other

-- the content of the OBJECT IDENTIFIER of a type: id-signedData 1.2.840.113549.1.7.2 (RFC 5652
-- 5.1), and below 1.2.840.113549.1.9.16.1 id-ct-routeOriginAuthz 24 (RFC 9582 3),
-- id-ct-rpkiManifest 26 (RFC 9286 4.1) and id-ct-rpkiGhostbusters 35 (RFC 6493 5)
abbrev pub type_octets : ContentType → List ℕ
type_octets of.SignedData = 0x2A ∷ 0x86 ∷ 0x48 ∷ 0x86 ∷ 0xF7 ∷ 0x0D ∷ 0x01 ∷ 0x07 ∷ 0x02 ∷ []
type_octets of.Roa = 0x2A ∷ 0x86 ∷ 0x48 ∷ 0x86 ∷ 0xF7 ∷ 0x0D ∷ 0x01 ∷ 0x09 ∷ 0x10 ∷ 0x01 ∷ 0x18 ∷ []
type_octets of.Manifest = 0x2A ∷ 0x86 ∷ 0x48 ∷ 0x86 ∷ 0xF7 ∷ 0x0D ∷ 0x01 ∷ 0x09 ∷ 0x10 ∷ 0x01 ∷ 0x1A ∷ []
type_octets of.Ghostbusters = 0x2A ∷ 0x86 ∷ 0x48 ∷ 0x86 ∷ 0xF7 ∷ 0x0D ∷ 0x01 ∷ 0x09 ∷ 0x10 ∷ 0x01 ∷ 0x23 ∷ []

-- values stand at the front of the octets: over one, into one, or over an OBJECT IDENTIFIER of a
-- type
abbrev pub BeginSo : List Turn → List ℕ → Type 0
BeginSo [] octets = Unit {0}
BeginSo (Over tag ∷ turns) octets =
    (content : List ℕ) × (rest : List ℕ) × Begins (IsEnc tag) octets content rest × BeginSo turns rest
BeginSo (Into tag ∷ turns) octets =
    (content : List ℕ) × (rest : List ℕ) × Begins (IsEnc tag) octets content rest × BeginSo turns content
BeginSo (Named type ∷ turns) octets =
    (rest : List ℕ) × Begins (IsEnc OBJECT_IDENTIFIER) octets (type_octets type) rest × BeginSo turns rest

-- ContentInfo ::= SEQUENCE { contentType ContentType, content [0] EXPLICIT ANY DEFINED BY
-- contentType } (RFC 5652 3), of SignedData ::= SEQUENCE { version CMSVersion, digestAlgorithms
-- SET, encapContentInfo EncapsulatedContentInfo, .. }, EncapsulatedContentInfo ::= SEQUENCE {
-- eContentType ContentType, .. } (5.1, 5.2)
abbrev pub inside_signed_data : Turn → List Turn
inside_signed_data turn =
    Into SEQUENCE ∷ Named of.SignedData ∷ Into 0xA0 ∷ Into SEQUENCE ∷ Over INTEGER ∷ Over SET ∷ Into SEQUENCE ∷ turn ∷ []

-- OneAsymmetricKey ::= SEQUENCE { version INTEGER, privateKeyAlgorithm SEQUENCE, privateKey OCTET
-- STRING, .. } (RFC 5958 2)
abbrev pub private_key : List Turn
private_key = Into SEQUENCE ∷ Over INTEGER ∷ Over SEQUENCE ∷ Over OCTET_STRING ∷ []

-- RSAPrivateKey ::= SEQUENCE { version, modulus, publicExponent, privateExponent, prime1, prime2,
-- exponent1, exponent2, coefficient INTEGER, .. } (RFC 8017 A.1.2)
abbrev pub rsa_private_key : List Turn
rsa_private_key =
    Into SEQUENCE ∷ Over INTEGER ∷ Over INTEGER ∷ Over INTEGER ∷ Over INTEGER ∷ Over INTEGER ∷ Over INTEGER
    ∷ Over INTEGER ∷ Over INTEGER ∷ Over INTEGER ∷ []

-- ECPrivateKey ::= SEQUENCE { version INTEGER, privateKey OCTET STRING, .. } (RFC 5915 3)
abbrev pub curve_private_key : List Turn
curve_private_key = Into SEQUENCE ∷ Over INTEGER ∷ Over OCTET_STRING ∷ []

-- SubjectPublicKeyInfo ::= SEQUENCE { algorithm SEQUENCE, subjectPublicKey BIT STRING } (RFC 5280
-- 4.1)
abbrev pub public_key : List Turn
public_key = Into SEQUENCE ∷ Over SEQUENCE ∷ Over BIT_STRING ∷ []

-- CertificationRequest ::= SEQUENCE { certificationRequestInfo SEQUENCE { version INTEGER, subject
-- SEQUENCE, subjectPKInfo SEQUENCE, attributes [0] IMPLICIT SET OF }, .. } (RFC 2986 4.1, 4.2)
abbrev pub request : List Turn
request = Into SEQUENCE ∷ Into SEQUENCE ∷ Over INTEGER ∷ Over SEQUENCE ∷ Over SEQUENCE ∷ Over 0xA0 ∷ []

-- Certificate ::= SEQUENCE { tbsCertificate SEQUENCE { version [0] EXPLICIT INTEGER DEFAULT v1,
-- serialNumber INTEGER, signature SEQUENCE, issuer SEQUENCE, validity SEQUENCE, subject SEQUENCE,
-- subjectPublicKeyInfo SEQUENCE, .. }, .. } (RFC 5280 4.1): without a version
abbrev pub version_1 : List Turn
version_1 =
    Into SEQUENCE ∷ Into SEQUENCE ∷ Over INTEGER ∷ Over SEQUENCE ∷ Over SEQUENCE ∷ Over SEQUENCE ∷ Over SEQUENCE
    ∷ Over SEQUENCE ∷ []

-- ---- the sorts

-- the octets are a file of the sort
abbrev pub IsOfSort : Sort → List ℕ → Type 0
IsOfSort sort.Empty octets = octets ≡ []
IsOfSort sort.Base64 octets = IsBareBase64 octets
IsOfSort sort.SeveralPem octets = IsSeveralPem octets
IsOfSort sort.UnendedPem octets = IsUnendedPem octets
IsOfSort sort.DamagedPem octets = IsDamagedPem octets
IsOfSort sort.Locator octets = IsTrue (looks_like_locator octets)
IsOfSort sort.Roa octets = BeginSo (inside_signed_data (Named of.Roa)) octets
IsOfSort sort.Manifest octets = BeginSo (inside_signed_data (Named of.Manifest)) octets
IsOfSort sort.Ghostbusters octets = BeginSo (inside_signed_data (Named of.Ghostbusters)) octets
IsOfSort sort.SignedData octets = BeginSo (inside_signed_data (Over OBJECT_IDENTIFIER)) octets
IsOfSort sort.PrivateKey octets = BeginSo private_key octets
IsOfSort sort.RsaPrivateKey octets = BeginSo rsa_private_key octets
IsOfSort sort.CurvePrivateKey octets = BeginSo curve_private_key octets
IsOfSort sort.PublicKey octets = BeginSo public_key octets
IsOfSort sort.Request octets = BeginSo request octets
IsOfSort sort.Version1 octets = BeginSo version_1 octets
IsOfSort sort.OtherCertificate octets = IsOtherCertificate octets

-- every sort, in the order in which they are looked for
abbrev pub every_sort : List Sort
every_sort =
    sort.Empty ∷ sort.Base64 ∷ sort.SeveralPem ∷ sort.UnendedPem ∷ sort.DamagedPem ∷ sort.Locator ∷ sort.Roa
    ∷ sort.Manifest ∷ sort.Ghostbusters ∷ sort.SignedData ∷ sort.PrivateKey ∷ sort.RsaPrivateKey ∷ sort.CurvePrivateKey
    ∷ sort.PublicKey ∷ sort.Request ∷ sort.Version1 ∷ sort.OtherCertificate ∷ []

-- the first of the xs that has the property, if one has it
abbrev pub IsFirstHaving : {X : Type 0} → (X → Type 0) → List X → Option X → Type 0
IsFirstHaving P [] found = found ≡ None
IsFirstHaving P (x ∷ xs) found = (P x × (found ≡ Some x)) ⊎ ((P x → ⊥) × IsFirstHaving P xs found)

-- the sort of the octets: the first one that they are of, if they are of one
unfoldable pub IsSortOf : List ℕ → Option Sort → Type 0
IsSortOf octets found = IsFirstHaving (λ s. IsOfSort s octets) every_sort found

-- what is told: the sort of octets that begin with neither a certificate nor a list
abbrev pub IsToldSort : List ℕ → Option Sort → Type 0
IsToldSort octets found =
    (BeginsWithEither octets × (found ≡ None)) ⊎ ((BeginsWithEither octets → ⊥) × IsSortOf octets found)
