-- The extensions of a certificate (RFC 5280 4.2, RFC 6487 4.8; the order in which they are written
-- is own).
use Rattle.std.specs.Prelude.{unwrap_or, ℕ, Bool, ◌||◌, not, true, false, if◌then◌else◌, List, Option, None, Some}
use Rattle.std.specs.Prelude.{is_some, ◌≡◌, ◌≢◌, ◌⊎◌, ◌-◌, map, ◌^◌, IfSome, bytes_eq}
use Rattle.std.specs.List.{AllByRecursion, concat}
use Rattle.rpki_der.specs.Sequences.{AreEncodings}
use Rattle.rpki_der.specs.Extensions.{IsExtension, Extension, OptionalExtension, extension_format, text}
use Rattle.rpki_der.specs.Folding.{Fold, side_by_side, each_fold, over}
use Rattle.rpki_der.specs.Skipping.{levels}
use Rattle.rpki_der.specs.Values.Reading.{◌>>=◌}
use Rattle.rpki_der.specs.Writers.{Part}
use Rattle.rpki_der.specs.declared.error.DecodeError.{DecodeError}
use Rattle.rpki_der.specs.declared.error.DecodeError.TheVariants.{Missing, WrongResources}
use Rattle.rpki_der.specs.declared.error.Field.{Field}
use Rattle.rpki_der.specs.declared.error.Field.TheVariants as field
use Rattle.rpki_blocks.specs.declared.overclaim.Overclaim.{Overclaim}
use Rattle.rpki_blocks.specs.declared.overclaim.Overclaim.TheVariants.{Refuse, Trim}
use Rattle.rpki_blocks.specs.Resources.{Resources, missing, IsResources}
use Rattle.rpki_blocks.specs.Addresses.{Ip, addresses}
use Rattle.rpki_parts.specs.Uris.{IsRsync}
use Rattle.rpki_ext.specs.ExtensionKinds.{certificate_kinds_within, certificate_kinds, known, basic_constraints}
use Rattle.rpki_ext.specs.ExtensionKinds.{subject_key_identifier, authority_key_identifier, key_usage}
use Rattle.rpki_ext.specs.ExtensionKinds.{extended_key_usage, crl_distribution_points, authority_information_access}
use Rattle.rpki_ext.specs.ExtensionKinds.{subject_information_access, certificate_policies, ip_resources}
use Rattle.rpki_ext.specs.ExtensionKinds.{as_resources, ArePurposes, HasTwentyOctets}
use Rattle.rpki_ext.specs.ResourceKinds.{are_there, has_addresses}
use Rattle.rpki_ext.specs.SubjectAccess.{Access, HasUris, has_uri}
use Rattle.rpki_ext.specs.Kinds.{Flag, ExtensionKind, is_of, tested, kept_if, extension_for}
use Rattle.rpki_ext.specs.KindTables.{Values, ◌⨾◌, GiveEach, Sights, table_fold, parts_of}
use Rattle.rpki_ext.specs.declared.key_usage.KeyUsage.{KeyUsage as Usage}
use Rattle.rpki_ext.specs.declared.extensions.Named.{Named}
use Rattle.rpki_ext.specs.declared.extensions.Named.TheVariants.{BasicConstraints, SubjectKeyIdentifier}
use Rattle.rpki_ext.specs.declared.extensions.Named.TheVariants.{AuthorityKeyIdentifier, KeyUsage, ExtendedKeyUsage}
use Rattle.rpki_ext.specs.declared.extensions.Named.TheVariants.{CrlDistributionPoints, AuthorityInformationAccess}
use Rattle.rpki_ext.specs.declared.extensions.Named.TheVariants.{SubjectInformationAccess, CertificatePolicies}
use Rattle.rpki_ext.specs.declared.extensions.Named.TheVariants.{IpResources, AsResources}
use Rattle.rpki_ext.specs.declared.extensions.ReadExtensions.{ReadExtensions}
use Rattle.rpki_ext.specs.CertificateExtensions.Views.{ip_of}
pub mod Views

-- what the extensions of a certificate give
pub record ExtensionFields : Type 0 where
  pub basic_ca : Option Bool
  pub subject_key_identifier : List ℕ
  pub authority_key_identifier : Option (List ℕ)
  pub key_usage : Usage
  pub extended_key_usage : Option (List ℕ)
  pub crl_uri : Option (List ℕ)
  pub ca_issuer : Option (List ℕ)
  pub access : Access
  pub overclaim : Overclaim
  pub v4_resources : Resources
  pub v6_resources : Resources
  pub as_resources : Resources

-- no URI of any method
abbrev pub no_access : Access
no_access = record { ca_repository = None; rpki_manifest = None; signed_object = None; rpki_notify = None }

-- the addresses of a certificate without the extension
abbrev pub no_addresses : Ip
no_addresses = addresses None

-- nothing that may be left out, and no resources
abbrev pub bare : List ℕ → Usage → Overclaim → ExtensionFields
bare identifier usage overclaim = record {
  basic_ca = None;
  subject_key_identifier = identifier;
  authority_key_identifier = None;
  key_usage = usage;
  extended_key_usage = None;
  crl_uri = None;
  ca_issuer = None;
  access = no_access;
  overclaim = overclaim;
  v4_resources = missing;
  v6_resources = missing;
  as_resources = missing;
}

-- The value of each kind, in the order of the table: of URIs of Subject Information Access,
-- addresses and AS numbers the one that is there
abbrev pub values : ExtensionFields → Option Access → Option Ip → Option Resources → Values certificate_kinds
values f access ip numbers =
    f.basic_ca
    ⨾ Some f.subject_key_identifier
    ⨾ f.authority_key_identifier
    ⨾ Some f.key_usage
    ⨾ f.extended_key_usage
    ⨾ f.crl_uri
    ⨾ f.ca_issuer
    ⨾ access
    ⨾ Some f.overclaim
    ⨾ (f.overclaim, ip)
    ⨾ (f.overclaim, numbers)
    ⨾ tt

-- Extensions ::= SEQUENCE SIZE (1..MAX) OF Extension   (RFC 5280 4.1)
-- The extensions give these fields: at most one of each known kind, whatever their order, and none
-- of an unknown kind is critical (RFC 5280 4.2, RFC 6487 4.8); an unknown one that isn't critical
-- may stand twice (own). The subject's key identifier, key usage, policy and one of the two
-- resource extensions must be there. Resources stand under the identifiers of the policy's mode
-- (RFC 8360 4.2).
pub record GiveFieldsWithin (depth : ℕ) (xs : List Extension) (f : ExtensionFields) : Type 0 where
  pub passed_over : AllByRecursion (λ x. is_of known x ≡ false → x.critical ≡ false) xs
  pub access : Option Access
  pub ip : Option Ip
  pub numbers : Option Resources
  pub each_is : GiveEach (certificate_kinds_within depth) xs (values f access ip numbers)
  pub access_is : f.access ≡ unwrap_or access no_access
  pub v4_is : f.v4_resources ≡ (unwrap_or ip no_addresses).v4
  pub v6_is : f.v6_resources ≡ (unwrap_or ip no_addresses).v6
  pub as_is : f.as_resources ≡ unwrap_or numbers missing
  pub some_resources : (ip ≢ None) ⊎ (numbers ≢ None)

-- the extensions give these fields, under the bound of depth that readers keep
abbrev pub GiveFields : List Extension → ExtensionFields → Type 0
GiveFields = GiveFieldsWithin levels

-- the octets are a sequence of extensions that give these fields
abbrev pub AreExtensions : ExtensionFields → List ℕ → Type 0
AreExtensions f elements = (xs : List Extension) × AreEncodings IsExtension xs elements × GiveFields xs f

-- ---- what is written

-- what is written of each kind: URIs and resources where there are some
abbrev pub values_of : ExtensionFields → Values certificate_kinds
values_of x = values x (kept_if has_uri x.access)
    (kept_if has_addresses (record { v4 = x.v4_resources; v6 = x.v6_resources })) (kept_if are_there x.as_resources)

-- in the order of the table
abbrev pub parts : ExtensionFields → List OptionalExtension
parts x = parts_of certificate_kinds (values_of x)

-- the encodings of the extensions that are written of fields, one after the other
unfoldable pub extensions : ExtensionFields → List ℕ
extensions x = concat (map text (parts x))

-- the sequence, which stands in one SEQUENCE as its content
abbrev pub sequence_part : ExtensionFields → Part
sequence_part x = record { written = extensions x; inside = extensions x }

-- the values can be written
pub record ExtensionsFit (x : ExtensionFields) : Type 0 where
  pub subject_key_identifier_is : HasTwentyOctets x.subject_key_identifier
  pub authority_key_identifier_is : IfSome x.authority_key_identifier HasTwentyOctets
  pub extended_key_usage_is : IfSome x.extended_key_usage ArePurposes
  pub crl_uri_is : IfSome x.crl_uri IsRsync
  pub ca_issuer_is : IfSome x.ca_issuer IsRsync
  pub access_is : HasUris x.access
  pub v4_is : IsResources (2 ^ 128 - 1) x.v4_resources
  pub v6_is : IsResources (2 ^ 128 - 1) x.v6_resources
  pub as_is : IsResources (2 ^ 32 - 1) x.as_resources

-- at least one kind of resources is there
abbrev pub HasResources : ExtensionFields → Type 0
HasResources x = (x.v4_resources ≢ missing) ⊎ ((x.v6_resources ≢ missing) ⊎ (x.as_resources ≢ missing))

-- addresses are there, listed or inherited
abbrev pub HasIpResources : ExtensionFields → Type 0
HasIpResources x = (x.v4_resources ≢ missing) ⊎ (x.v6_resources ≢ missing)

-- no other key than the subject's is named as the one that signs
abbrev pub NamesNoOtherKey : ExtensionFields → Type 0
NamesNoOtherKey x = (x.authority_key_identifier ≡ None) ⊎ (x.authority_key_identifier ≡ Some x.subject_key_identifier)

-- ==== how they are read and written: what follows only computes

-- ---- kinds

-- what kinds have whatever their values
pub record Heading : Type 0 where
  pub identifier : List ℕ
  pub flag : Flag

abbrev heading : {V : Type 0} → ExtensionKind V → Heading
heading kind = record { identifier = kind.identifier; flag = kind.flag }

-- what the kind has, whatever its values
abbrev pub heading_of : Named → Heading
heading_of BasicConstraints = heading basic_constraints
heading_of SubjectKeyIdentifier = heading subject_key_identifier
heading_of AuthorityKeyIdentifier = heading authority_key_identifier
heading_of KeyUsage = heading key_usage
heading_of ExtendedKeyUsage = heading extended_key_usage
heading_of CrlDistributionPoints = heading crl_distribution_points
heading_of AuthorityInformationAccess = heading authority_information_access
heading_of SubjectInformationAccess = heading subject_information_access
heading_of CertificatePolicies = heading certificate_policies
heading_of (IpResources mode) = heading (ip_resources mode)
heading_of (AsResources mode) = heading (as_resources mode)

-- the kind that an identifier names, or none
abbrev pub Names : List ℕ → Option Named → Type 0
Names id (Some kind) = id ≡ (heading_of kind).identifier
Names id None = AllByRecursion (λ a. bytes_eq id a ≡ false) known

-- the flag that the kind must have, where it is tested
abbrev pub wanted : Named → Option Bool
wanted kind = tested (heading_of kind).flag

-- the flag is the one that is wanted, where it is tested
abbrev pub HasFlag : Option Bool → Bool → Type 0
HasFlag None critical = Unit {0}
HasFlag (Some wanted) critical = critical ≡ wanted

-- what errors call it
abbrev pub field_of : Named → Field
field_of BasicConstraints = field.BasicConstraints
field_of SubjectKeyIdentifier = field.SubjectKeyIdentifier
field_of AuthorityKeyIdentifier = field.AuthorityKeyIdentifier
field_of KeyUsage = field.KeyUsage
field_of ExtendedKeyUsage = field.ExtendedKeyUsage
field_of CrlDistributionPoints = field.CrlDistributionPoints
field_of AuthorityInformationAccess = field.AuthorityInformationAccess
field_of SubjectInformationAccess = field.SubjectInformationAccess
field_of CertificatePolicies = field.CertificatePolicies
field_of (IpResources mode) = field.IpResources
field_of (AsResources mode) = field.AsResources

-- what is written of a kind
abbrev pub part_for : ExtensionFields → Named → OptionalExtension
part_for x BasicConstraints = extension_for basic_constraints x.basic_ca
part_for x SubjectKeyIdentifier = extension_for subject_key_identifier (Some x.subject_key_identifier)
part_for x AuthorityKeyIdentifier = extension_for authority_key_identifier x.authority_key_identifier
part_for x KeyUsage = extension_for key_usage (Some x.key_usage)
part_for x ExtendedKeyUsage = extension_for extended_key_usage x.extended_key_usage
part_for x CrlDistributionPoints = extension_for crl_distribution_points x.crl_uri
part_for x AuthorityInformationAccess = extension_for authority_information_access x.ca_issuer
part_for x SubjectInformationAccess = extension_for subject_information_access (kept_if has_uri x.access)
part_for x CertificatePolicies = extension_for certificate_policies (Some x.overclaim)
part_for x (IpResources mode) =
    extension_for (ip_resources mode) (kept_if has_addresses (record { v4 = x.v4_resources; v6 = x.v6_resources }))
part_for x (AsResources mode) = extension_for (as_resources mode) (kept_if are_there x.as_resources)

-- ---- what was seen so far

-- known, or not critical
abbrev pub may_stand : Extension → Bool
may_stand x = is_of known x || not x.critical

-- what was seen so far of each kind
abbrev pub State : Type 0
State = Unit {0} × Sights certificate_kinds

-- one step a kind, side by side
abbrev pub all_kinds : Fold Extension State
all_kinds = side_by_side (each_fold may_stand) (table_fold certificate_kinds)

-- what was seen so far, as the walk has it
abbrev pub state_of : ReadExtensions → State
state_of s = (
  tt,
  (
    s.basic_ca,
    (
      s.subject_key_identifier,
      (
        s.authority_key_identifier,
        (
          s.key_usage,
          (
            s.extended_key_usage,
            (s.crl_uri, (s.ca_issuer, (s.access, (s.overclaim, (ip_of s.ip_resources, (s.as_resources, tt)))))),
          ),
        ),
      ),
    ),
  ),
)

-- whether one of this kind was seen
abbrev pub is_seen : ReadExtensions → Named → Bool
is_seen s BasicConstraints = is_some s.basic_ca
is_seen s SubjectKeyIdentifier = is_some s.subject_key_identifier
is_seen s AuthorityKeyIdentifier = is_some s.authority_key_identifier
is_seen s KeyUsage = is_some s.key_usage
is_seen s ExtendedKeyUsage = is_some s.extended_key_usage
is_seen s CrlDistributionPoints = is_some s.crl_uri
is_seen s AuthorityInformationAccess = is_some s.ca_issuer
is_seen s SubjectInformationAccess = is_some s.access
is_seen s CertificatePolicies = is_some s.overclaim
is_seen s (IpResources mode) = is_some (ip_of s.ip_resources)
is_seen s (AsResources mode) = is_some s.as_resources

-- ---- what that gives

-- whether two modes are equal
abbrev pub same_mode : Overclaim → Overclaim → Bool
same_mode Refuse Refuse = true
same_mode Refuse Trim = false
same_mode Trim Refuse = false
same_mode Trim Trim = true

-- what stands under this mode
abbrev pub under : {V : Type 0} → Overclaim → Option (Overclaim × V) → Option (Option V)
under mode None = Some None
under mode (Some v) = if same_mode v.0 mode then Some (Some v.1) else None

-- what the resources of a certificate are
pub record ListedFields : Type 0 where
  pub overclaim : Overclaim
  pub v4_resources : Resources
  pub v6_resources : Resources
  pub as_resources : Resources

-- the resources of a certificate under this mode
abbrev pub listed_under : Overclaim → Option Ip → Option Resources → ListedFields
listed_under mode ip numbers = record {
  overclaim = mode;
  v4_resources = (unwrap_or ip no_addresses).v4;
  v6_resources = (unwrap_or ip no_addresses).v6;
  as_resources = unwrap_or numbers missing;
}

-- some resources are there, under the policy's mode
abbrev pub agreed : Option Overclaim → Option (Overclaim × Ip) → Option (Overclaim × Resources) → Option ListedFields
agreed overclaim ip numbers =
    if is_some ip || is_some numbers
    then (overclaim >>= λ mode. under mode ip >>= λ i. under mode numbers >>= λ n. Some (listed_under mode i n))
    else None

-- whether these resources, if they are there, stand under the policy's mode
abbrev pub is_under : {V : Type 0} → Option Overclaim → Option (Overclaim × V) → Bool
is_under overclaim None = true
is_under None (Some v) = false
is_under (Some mode) (Some v) = same_mode v.0 mode

-- what errors name where they don't agree: the addresses, if those are wrong, else the AS numbers
abbrev pub disagreement : Option Overclaim → Option (Overclaim × Ip) → Option (Overclaim × Resources) → DecodeError
disagreement overclaim ip numbers = if is_some ip || is_some numbers then WrongResources
    (if is_under overclaim ip then field.AsResources else field.IpResources) else Missing field.Resources

-- what must be there is there, and the modes agree
abbrev pub completed : State → Option ExtensionFields
completed (
  _,
  (
    basic_ca,
    (
      subject,
      (
        authority,
        (usage, (purposes, (crl_uri, (ca_issuer, (access, (overclaim, (ip, (numbers, _)))))))),
      ),
    ),
  ),
) = do
  l ← agreed overclaim ip numbers
  key ← subject
  use_for ← usage
  Some (record {
    basic_ca = basic_ca;
    subject_key_identifier = key;
    authority_key_identifier = authority;
    key_usage = use_for;
    extended_key_usage = purposes;
    crl_uri = crl_uri;
    ca_issuer = ca_issuer;
    access = unwrap_or access no_access;
    overclaim = l.overclaim;
    v4_resources = l.v4_resources;
    v6_resources = l.v6_resources;
    as_resources = l.as_resources;
  })

-- reads the extensions of a certificate as the fields that they give
unfoldable pub extensions_of : List ℕ → Option ExtensionFields
extensions_of octets = over extension_format.read all_kinds.step all_kinds.start octets >>= completed
