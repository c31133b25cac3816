-- The kinds of extensions that certificates and lists know, by their identifiers.
use Rattle.std.specs.Prelude.{◌≡◌, ◌⊎◌, ℕ, Bool, true, false, if◌then◌else◌, List, [], ◌∷◌, ◌++◌, bytes_eq, codes}
use Rattle.std.specs.Prelude.{Option, Some, None, Result, Ok, Err}
use Rattle.rpki_blocks.specs.Addresses.{IsIPAddrBlocks}
use Rattle.rpki_der.specs.declared.error.DecodeError.{DecodeError}
use Rattle.rpki_der.specs.declared.error.Field.{Field}
use Rattle.rpki_der.specs.declared.error.Field.TheVariants as field
use Rattle.rpki_der.specs.Encoding.{Means}
use Rattle.rpki_ext.specs.ExtensionKinds.{basic_constraints, subject_key_identifier, authority_key_identifier}
use Rattle.rpki_ext.specs.ExtensionKinds.{key_usage, extended_key_usage, crl_distribution_points}
use Rattle.rpki_ext.specs.ExtensionKinds.{authority_information_access, subject_information_access}
use Rattle.rpki_ext.specs.ExtensionKinds.{certificate_policies, ip_resources, as_resources, crl_number}
use Rattle.rpki_ext.specs.Kinds.{Flag, IsFlagFor, required}
use Rattle.rpki_blocks.specs.declared.overclaim.Overclaim.TheVariants.{Refuse, Trim}
use Rattle.rpki_der.specs.Place.{Rejects}
use Rattle.rpki_blocks.specs.Systems.{IsASIdentifiers}
use Rattle.rpki_files.specs.declared.kinds.Kind.{Kind}
use Rattle.rpki_files.specs.declared.kinds.Kind.TheVariants as known

-- the kind that stands beside an identifier, or another one where it stands nowhere
abbrev pub kind_among : List (List ℕ × Kind) → Kind → List ℕ → Kind
kind_among [] other id = other
kind_among (named ∷ more) other id = if bytes_eq id named.0 then named.1 else kind_among more other id

-- kinds that speak of the key and its use
abbrev pub key_kinds : List (List ℕ × Kind)
key_kinds =
    (basic_constraints.identifier, known.BasicConstraints)
    ∷ (subject_key_identifier.identifier, known.SubjectKeyIdentifier)
    ∷ (authority_key_identifier.identifier, known.AuthorityKeyIdentifier)
    ∷ (key_usage.identifier, known.KeyUsage)
    ∷ (extended_key_usage.identifier, known.ExtendedKeyUsage)
    ∷ []

-- kinds that say where something is, and under which policy
abbrev pub place_kinds : List (List ℕ × Kind)
place_kinds =
    (crl_distribution_points.identifier, known.CrlDistributionPoints)
    ∷ (authority_information_access.identifier, known.AuthorityInformationAccess)
    ∷ (subject_information_access.identifier, known.SubjectInformationAccess)
    ∷ (certificate_policies.identifier, known.CertificatePolicies)
    ∷ []

-- kinds of resources, which have two identifiers each (RFC 8360 4.2)
abbrev pub resource_kinds : List (List ℕ × Kind)
resource_kinds =
    ((ip_resources Refuse).identifier, known.IpResources)
    ∷ ((ip_resources Trim).identifier, known.IpResources)
    ∷ ((as_resources Refuse).identifier, known.AsResources)
    ∷ ((as_resources Trim).identifier, known.AsResources)
    ∷ []

-- the kinds of a certificate
abbrev pub known_in_certificates : List (List ℕ × Kind)
known_in_certificates = key_kinds ++ (place_kinds ++ resource_kinds)

-- the kinds of a list
abbrev pub known_in_lists : List (List ℕ × Kind)
known_in_lists =
    (authority_key_identifier.identifier, known.AuthorityKeyIdentifier)
    ∷ (crl_number.identifier, known.CrlNumber)
    ∷ []

-- the kind that an identifier names, in a list or in a certificate
abbrev pub known_kind : Bool → List ℕ → Kind
known_kind is_list id =
    if is_list then kind_among known_in_lists known.NoList id
    else kind_among known_in_certificates known.Unknown id

-- the flag that extensions of a kind have in a certificate; an unknown one may not be critical
abbrev pub certificate_flag : Kind → Flag
certificate_flag known.BasicConstraints = basic_constraints.flag
certificate_flag known.SubjectKeyIdentifier = subject_key_identifier.flag
certificate_flag known.AuthorityKeyIdentifier = authority_key_identifier.flag
certificate_flag known.KeyUsage = key_usage.flag
certificate_flag known.ExtendedKeyUsage = extended_key_usage.flag
certificate_flag known.CrlDistributionPoints = crl_distribution_points.flag
certificate_flag known.AuthorityInformationAccess = authority_information_access.flag
certificate_flag known.SubjectInformationAccess = subject_information_access.flag
certificate_flag known.CertificatePolicies = certificate_policies.flag
certificate_flag known.IpResources = (ip_resources Refuse).flag
certificate_flag known.AsResources = (as_resources Refuse).flag
certificate_flag known.CrlNumber = required false
certificate_flag known.Unknown = required false
certificate_flag known.NoList = required false

-- the flag is one that an extension of the kind may have: in a list it isn't tested (own)
abbrev pub MayHaveFlag : Bool → Kind → Bool → Type 0
MayHaveFlag true kind critical = Unit {0}
MayHaveFlag false kind critical = IsFlagFor (certificate_flag kind) critical

-- the content begins with a value
abbrev pub HasValue : {V : Type 0} → (V → List ℕ → Type 0) → List ℕ → Type 0
HasValue {V} encodes content = (v : V) × Means encodes v content

-- the content is one that extensions of the kind have; of those that aren't known it is any, and
-- those that lists may not have have none
abbrev pub HasContent : Kind → List ℕ → Type 0
HasContent known.BasicConstraints content = HasValue basic_constraints.format.encodes content
HasContent known.SubjectKeyIdentifier content = HasValue subject_key_identifier.format.encodes content
HasContent known.AuthorityKeyIdentifier content = HasValue authority_key_identifier.format.encodes content
HasContent known.KeyUsage content = HasValue key_usage.format.encodes content
HasContent known.ExtendedKeyUsage content = HasValue extended_key_usage.format.encodes content
HasContent known.CrlDistributionPoints content = HasValue crl_distribution_points.format.encodes content
HasContent known.AuthorityInformationAccess content = HasValue authority_information_access.format.encodes content
HasContent known.SubjectInformationAccess content = HasValue subject_information_access.format.encodes content
HasContent known.CertificatePolicies content = HasValue certificate_policies.format.encodes content
HasContent known.IpResources content = HasValue IsIPAddrBlocks content
HasContent known.AsResources content = HasValue IsASIdentifiers content
HasContent known.CrlNumber content = HasValue crl_number.format.encodes content
HasContent known.Unknown content = Unit {0}
HasContent known.NoList content = ⊥

-- the answer on P: Ok where it holds, and an error where it doesn't, or where memory ran out
abbrev pub SaysWhether : {X : Type 0} → Result X DecodeError → Type 0 → Type 0
SaysWhether (Ok x) P = P
SaysWhether (Err e) P = Rejects e (¬ P)

-- what faults call the extensions of a kind, if they name it
abbrev pub called : Kind → Option Field
called known.BasicConstraints = Some field.BasicConstraints
called known.SubjectKeyIdentifier = Some field.SubjectKeyIdentifier
called known.AuthorityKeyIdentifier = Some field.AuthorityKeyIdentifier
called known.KeyUsage = Some field.KeyUsage
called known.ExtendedKeyUsage = Some field.ExtendedKeyUsage
called known.CrlDistributionPoints = Some field.CrlDistributionPoints
called known.AuthorityInformationAccess = Some field.AuthorityInformationAccess
called known.SubjectInformationAccess = Some field.SubjectInformationAccess
called known.CertificatePolicies = Some field.CertificatePolicies
called known.IpResources = Some field.IpResources
called known.AsResources = Some field.AsResources
called known.CrlNumber = Some field.CrlNumber
called known.Unknown = None
called known.NoList = None

-- a fault names extensions of this kind: as resources both kinds of them
abbrev pub NamesKind : Field → Kind → Type 0
NamesKind field.Resources k = (k ≡ known.IpResources) ⊎ (k ≡ known.AsResources)
NamesKind f k = called k ≡ Some f

-- the name of a kind (RFC 6487 4.8, 5)
abbrev pub kind_name : Kind → List ℕ
kind_name known.BasicConstraints = codes "Basic Constraints"
kind_name known.SubjectKeyIdentifier = codes "Subject Key Identifier"
kind_name known.AuthorityKeyIdentifier = codes "Authority Key Identifier"
kind_name known.KeyUsage = codes "Key Usage"
kind_name known.ExtendedKeyUsage = codes "Extended Key Usage"
kind_name known.CrlDistributionPoints = codes "CRL Distribution Points"
kind_name known.AuthorityInformationAccess = codes "Authority Information Access"
kind_name known.SubjectInformationAccess = codes "Subject Information Access"
kind_name known.CertificatePolicies = codes "Certificate Policies"
kind_name known.IpResources = codes "IP Resources"
kind_name known.AsResources = codes "AS Resources"
kind_name known.CrlNumber = codes "CRL Number"
kind_name known.Unknown = codes "an unknown extension"
kind_name known.NoList = codes "an unknown extension"

-- what is wanted of an extension of a kind, with the section that asks it; in lists no flag is
abbrev pub kind_wanted : Kind → List ℕ
kind_wanted known.BasicConstraints = codes "critical, that it is a CA, and no path length (RFC 6487 4.8.1)"
kind_wanted known.SubjectKeyIdentifier = codes "not critical, 20 bytes (RFC 6487 4.8.2)"
kind_wanted known.AuthorityKeyIdentifier =
    codes "not critical, a key identifier of 20 bytes alone (RFC 6487 4.8.3)"
kind_wanted known.KeyUsage =
    codes "critical, keyCertSign with cRLSign, or digitalSignature (RFC 6487 4.8.4)"
kind_wanted known.ExtendedKeyUsage = codes "not critical, purposes (RFC 6487 4.8.5)"
kind_wanted known.CrlDistributionPoints =
    codes "not critical, one point with one rsync URI of a CRL (RFC 6487 4.8.6; own: only one)"
kind_wanted known.AuthorityInformationAccess =
    codes "not critical, one rsync URI of the issuer's certificate (RFC 6487 4.8.7; own: only one)"
kind_wanted known.SubjectInformationAccess =
    codes "not critical, rsync URIs, and https for rpkiNotify (RFC 6487 4.8.8)"
kind_wanted known.CertificatePolicies = codes "critical, the policy of the RPKI alone (RFC 6487 4.8.9)"
kind_wanted known.IpResources = codes "addresses by family, or inherit (RFC 3779 2.2.3)"
kind_wanted known.AsResources = codes "AS numbers, or inherit (RFC 3779 3.2.3)"
kind_wanted known.CrlNumber = codes "an INTEGER that isn't negative (RFC 5280 5.2.3)"
kind_wanted known.Unknown = codes "not critical (RFC 6487 4.8)"
kind_wanted known.NoList = codes "of a CRL, Authority Key Identifier and CRL Number alone (RFC 6487 5)"
