-- The profiles of certificates (RFC 6487 4, RFC 8209 3.1; the order in which the conditions are
-- tested is own).
use Rattle.std.specs.Prelude.{ℕ, List, [], codes, ◌∷◌, ◌≡◌, ◌≢◌, Bool, false, Some, IsSome, IsNone, IfSome}
use Rattle.std.specs.List.{AllByRecursion}
use Rattle.rpki_blocks.specs.Resources.{missing, inherit}
use Rattle.rpki_parts.specs.Conditions.{IsFirstFalse}
use Rattle.rpki_parts.specs.Keys.{key_identifier}
use Rattle.rpki_parts.specs.NameForms.{IsRpkiName, IsRouterName}
use Rattle.rpki_parts.specs.Uris.{HasParent}
use Rattle.rpki_parts.specs.declared.key.PublicKeyFormat.TheVariants.{Rsa, EcdsaP256}
use Rattle.rpki_ext.specs.RouterPurposes.{HasRouterPurpose}
use Rattle.rpki_ext.specs.declared.inspection.InspectionError.{InspectionError}
use Rattle.rpki_ext.specs.declared.inspection.InspectionError.TheVariants as fault
use Rattle.rpki_ext.specs.declared.key_usage.KeyUsage.TheVariants.{Ca, Ee}
use Rattle.rpki_ext.specs.SubjectAccess.{Access}
use Rattle.rpki_ext.specs.CertificateExtensions.{ExtensionFields}
use Rattle.rpki_cert.specs.Certificates.{TbsFields, CertFields}
use Rattle.rpki_cert.specs.declared.inspect.Kind.{Kind}
use Rattle.rpki_cert.specs.declared.inspect.Kind.TheVariants.{Anchor, Authority, EndEntity, Detached, Router}

-- ---- what a kind asks of the parts that each certificate has

-- the key is an RSA key (RFC 7935 3; own: of any length and exponent), of a router a P-256 key (RFC
-- 8608 3)
abbrev pub HasKeyFor : Kind → TbsFields → Type 0
HasKeyFor Router f = f.key.format ≡ EcdsaP256
HasKeyFor _ f = f.key.format ≡ Rsa

-- the subject's name (RFC 6487 4.5, RFC 8209 3.1.1)
abbrev pub HasSubjectFor : Kind → Bool → TbsFields → Type 0
HasSubjectFor Router strict f = IsRouterName f.subject
HasSubjectFor _ strict f = IsRpkiName strict f.subject

-- keyCertSign and cRLSign for CAs, digitalSignature for others (RFC 6487 4.8.4)
abbrev pub HasUsageFor : Kind → ExtensionFields → Type 0
HasUsageFor Anchor x = x.key_usage ≡ Ca
HasUsageFor Authority x = x.key_usage ≡ Ca
HasUsageFor _ x = x.key_usage ≡ Ee

-- where both are there, the manifest's parent is the repository (own)
abbrev pub HasManifestWithin : Access → Type 0
HasManifestWithin a = IfSome a.rpki_manifest (λ manifest. IfSome a.ca_repository (λ repository. HasParent manifest repository))

-- none of the four URIs is there (RFC 8209 3.1.3.3; own: an extension that gives nothing counts as
-- absent)
abbrev pub HasNoAccess : Access → Type 0
HasNoAccess a = IsNone a.ca_repository × IsNone a.rpki_manifest × IsNone a.signed_object × IsNone a.rpki_notify

-- ---- the conditions, each the absence of the fault that is named after it

-- IpResourcesPresent is the fault of RFC 8209 3.1.3.4; own: an extension that gives nothing counts
-- as absent
abbrev pub Lacks : Kind → Bool → CertFields → InspectionError → Type 0
Lacks kind strict c fault.AlgorithmMismatch = c.fields.algorithm ≡ c.signed_data.signature.algorithm
Lacks kind strict c fault.Issuer = IsRpkiName strict c.fields.issuer
Lacks kind strict c fault.Subject = HasSubjectFor kind strict c.fields
Lacks kind strict c fault.KeyAlgorithm = HasKeyFor kind c.fields
Lacks kind strict c fault.SubjectKeyIdentifier = c.fields.extensions.subject_key_identifier ≡ key_identifier c.fields.key
Lacks kind strict c fault.ExtendedKeyUsagePresent = IsNone c.fields.extensions.extended_key_usage
Lacks kind strict c fault.CaFlagFalse = c.fields.extensions.basic_ca ≢ Some false
Lacks kind strict c fault.MissingBasicConstraints = IsSome c.fields.extensions.basic_ca
Lacks kind strict c fault.KeyUsage = HasUsageFor kind c.fields.extensions
Lacks kind strict c fault.MissingCaRepository = IsSome c.fields.extensions.access.ca_repository
Lacks kind strict c fault.MissingManifest = IsSome c.fields.extensions.access.rpki_manifest
Lacks kind strict c fault.ManifestNotChild = HasManifestWithin c.fields.extensions.access
Lacks kind strict c fault.SignedObjectPresent = IsNone c.fields.extensions.access.signed_object
Lacks kind strict c fault.AuthorityKeyIdentifier = IfSome c.fields.extensions.authority_key_identifier
    (λ id. id ≡ c.fields.extensions.subject_key_identifier)
Lacks kind strict c fault.CrlUriPresent = IsNone c.fields.extensions.crl_uri
Lacks kind strict c fault.CaIssuerPresent = IsNone c.fields.extensions.ca_issuer
Lacks kind strict c fault.MissingCrlUri = IsSome c.fields.extensions.crl_uri
Lacks kind strict c fault.BasicConstraintsPresent = IsNone c.fields.extensions.basic_ca
Lacks kind strict c fault.CaRepositoryPresent = IsNone c.fields.extensions.access.ca_repository
Lacks kind strict c fault.ManifestPresent = IsNone c.fields.extensions.access.rpki_manifest
Lacks kind strict c fault.MissingSignedObject = IsSome c.fields.extensions.access.signed_object
Lacks kind strict c fault.MissingExtendedKeyUsage = IsSome c.fields.extensions.extended_key_usage
Lacks kind strict c fault.MissingRouterPurpose = IfSome c.fields.extensions.extended_key_usage HasRouterPurpose
Lacks kind strict c fault.SubjectInformationPresent = HasNoAccess c.fields.extensions.access
Lacks kind strict c fault.IpResourcesPresent = (c.fields.extensions.v4_resources ≡ missing) × (c.fields.extensions.v6_resources ≡ missing)
Lacks kind strict c fault.MissingAsResources = c.fields.extensions.as_resources ≢ missing
Lacks kind strict c fault.InheritedAsResources = c.fields.extensions.as_resources ≢ inherit

-- ---- the kinds: their faults, in the order in which they are tested

-- own: in the certificate of an end entity rpkiNotify may stand, and a detached one needs no
-- signedObject (RFC 6487 4.8.8.2)
abbrev pub faults : Kind → List InspectionError
faults Anchor =
    fault.AlgorithmMismatch ∷ fault.Issuer ∷ fault.Subject ∷ fault.KeyAlgorithm ∷ fault.SubjectKeyIdentifier
    ∷ fault.ExtendedKeyUsagePresent ∷ fault.CaFlagFalse ∷ fault.MissingBasicConstraints ∷ fault.KeyUsage
    ∷ fault.MissingCaRepository ∷ fault.MissingManifest ∷ fault.ManifestNotChild ∷ fault.SignedObjectPresent
    ∷ fault.AuthorityKeyIdentifier ∷ fault.CrlUriPresent ∷ fault.CaIssuerPresent ∷ []
faults Authority =
    fault.AlgorithmMismatch ∷ fault.Issuer ∷ fault.Subject ∷ fault.KeyAlgorithm ∷ fault.SubjectKeyIdentifier
    ∷ fault.ExtendedKeyUsagePresent ∷ fault.CaFlagFalse ∷ fault.MissingBasicConstraints ∷ fault.KeyUsage
    ∷ fault.MissingCaRepository ∷ fault.MissingManifest ∷ fault.ManifestNotChild ∷ fault.SignedObjectPresent ∷ fault.MissingCrlUri
    ∷ []
faults EndEntity =
    fault.AlgorithmMismatch ∷ fault.Issuer ∷ fault.Subject ∷ fault.KeyAlgorithm ∷ fault.SubjectKeyIdentifier
    ∷ fault.ExtendedKeyUsagePresent ∷ fault.MissingCrlUri ∷ fault.BasicConstraintsPresent ∷ fault.KeyUsage
    ∷ fault.CaRepositoryPresent ∷ fault.ManifestPresent ∷ fault.MissingSignedObject ∷ []
faults Detached =
    fault.AlgorithmMismatch ∷ fault.Issuer ∷ fault.Subject ∷ fault.KeyAlgorithm ∷ fault.SubjectKeyIdentifier
    ∷ fault.ExtendedKeyUsagePresent ∷ fault.MissingCrlUri ∷ fault.BasicConstraintsPresent ∷ fault.KeyUsage
    ∷ fault.CaRepositoryPresent ∷ fault.ManifestPresent ∷ []
faults Router =
    fault.AlgorithmMismatch ∷ fault.Issuer ∷ fault.Subject ∷ fault.KeyAlgorithm ∷ fault.BasicConstraintsPresent
    ∷ fault.SubjectKeyIdentifier ∷ fault.KeyUsage ∷ fault.MissingExtendedKeyUsage ∷ fault.MissingRouterPurpose
    ∷ fault.MissingCrlUri ∷ fault.SubjectInformationPresent ∷ fault.IpResourcesPresent ∷ fault.MissingAsResources
    ∷ fault.InheritedAsResources ∷ []

-- the certificate has none of the faults of its kind
abbrev pub MeetsProfile : Kind → Bool → CertFields → Type 0
MeetsProfile kind strict c = AllByRecursion (Lacks kind strict c) (faults kind)

-- the first that it has
abbrev pub IsFirstFault : Kind → Bool → CertFields → InspectionError → Type 0
IsFirstFault kind strict c f = IsFirstFalse (Lacks kind strict c) (faults kind) f

-- an end entity whose object is named is an end entity
abbrev pub group : Kind → Kind
group EndEntity = Detached
group kind = kind

-- what is printed of a kind
abbrev pub kind_text : Kind → List ℕ
kind_text Anchor = codes "trust anchor"
kind_text Authority = codes "certification authority"
kind_text EndEntity = codes "end entity"
kind_text Detached = codes "detached end entity"
kind_text Router = codes "router"
