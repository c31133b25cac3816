-- Whether octets that are built as a certificate is have Certificate Policies, be it one of the
-- profile or not, Extended Key Usage, or an extension that only certificates of the RPKI have.
use Rattle.std.specs.Prelude.{◌≡◌, ◌⊎◌, ℕ, false, List, [], ◌∷◌}
use Rattle.rpki_der.specs.Encoding.{Begins, Means}
use Rattle.rpki_der.specs.Extensions.{Extension, IsExtension}
use Rattle.rpki_ext.specs.ExtensionKinds.{as_resources, certificate_policies, ip_resources}
use Rattle.rpki_blocks.specs.declared.overclaim.Overclaim.{Overclaim}
use Rattle.rpki_blocks.specs.declared.overclaim.Overclaim.TheVariants.{Refuse, Trim}
use Rattle.rpki_der.specs.declared.error.Field.{Field}
use Rattle.rpki_der.specs.declared.error.Field.TheVariants as field
use Rattle.rpki_der.specs.Reading.{Inside}
use Rattle.rpki_der.specs.Sequences.{AreEncodings}
use Rattle.rpki_der.specs.Tags.{INTEGER, SEQUENCE}
use Rattle.rpki_der.specs.Values.{IsEnc}
use Rattle.rpki_files.specs.KnownKinds.{HasContent, NamesKind, known_kind}
use Rattle.rpki_files.specs.declared.kinds.Kind.TheVariants as known
use Rattle.rpki_files.specs.declared.policies.Wanted.{Wanted}
use Rattle.rpki_files.specs.declared.policies.Wanted.TheVariants.{Named, OfRpki, Policies, Policy, Resources}
pub mod Reading

-- the identifiers that resources have (RFC 3779 2.2.1, 3.2.1, RFC 8360 4.2)
abbrev pub resource_identifiers : List (List ℕ)
resource_identifiers =
    (ip_resources Refuse).identifier ∷ (as_resources Refuse).identifier ∷ (ip_resources Trim).identifier
    ∷ (as_resources Trim).identifier ∷ []

-- it is one of these
abbrev pub IsOneOf : List (List ℕ) → List ℕ → Type 0
IsOneOf [] id = ⊥
IsOneOf (one ∷ more) id = (id ≡ one) ⊎ IsOneOf more id

-- the identifier of the resources that faults call so, under the policy of this mode (RFC 8360 4.2)
abbrev pub IsOfMode : Field → Overclaim → List ℕ → Type 0
IsOfMode field.IpResources mode id = id ≡ (ip_resources mode).identifier
IsOfMode field.AsResources mode id = id ≡ (as_resources mode).identifier
IsOfMode f mode id = ⊥

-- an extension with this identifier and this content is one that is looked for: Certificate
-- Policies (RFC 5280 4.2.1.4); resources or the one policy that a certificate of the RPKI has (RFC
-- 6487 4.8.9, 4.8.10, 4.8.11); one of a kind that a fault names; resources or the policy of a mode
abbrev pub IsWanted : Wanted → List ℕ → List ℕ → Type 0
IsWanted Policies id content = id ≡ certificate_policies.identifier
IsWanted OfRpki id content =
    IsOneOf resource_identifiers id
    ⊎ ((id ≡ certificate_policies.identifier) × HasContent known.CertificatePolicies content)
IsWanted (Named f is_list) id content = NamesKind f (known_kind is_list id)
IsWanted (Resources f mode) id content = IsOfMode f mode id
IsWanted (Policy mode) id content =
    (id ≡ certificate_policies.identifier) × Means certificate_policies.format.encodes mode content

-- one of the extensions is one that is looked for
abbrev pub IsAmongExtensions : Wanted → List Extension → Type 0
IsAmongExtensions wanted [] = ⊥
IsAmongExtensions wanted (x ∷ xs) = IsWanted wanted x.identifier x.content ⊎ IsAmongExtensions wanted xs

-- extensions stand at the front of the octets, one of which is one that is looked for
abbrev pub BeginsWithOne : Wanted → List ℕ → Type 0
BeginsWithOne wanted octets = (xs : List Extension) × Means (AreEncodings IsExtension) xs octets × IsAmongExtensions wanted xs

-- values with these identifier octets stand at the front, and the rest behind them
abbrev pub StandBefore : List ℕ → List ℕ → List ℕ → Type 0
StandBefore [] rest octets = octets ≡ rest
StandBefore (tag ∷ tags) rest octets =
    (content : List ℕ) × (more : List ℕ) × Begins (IsEnc tag) octets content more × StandBefore tags rest more

-- of a certificate's fields before its extensions: version, serial number, signature algorithm,
-- issuer, validity, subject and key (RFC 5280 4.1)
abbrev pub tags_before : List ℕ
tags_before = 0xA0 ∷ INTEGER ∷ SEQUENCE ∷ SEQUENCE ∷ SEQUENCE ∷ SEQUENCE ∷ SEQUENCE ∷ []

-- the elements stand where the extensions of a certificate do: in the outer SEQUENCE, in the first
-- SEQUENCE in it, behind the other fields, in a SEQUENCE inside [3] (RFC 5280 4.1)
pub record HasExtensions (elements octets : List ℕ) : Type 0 where
  pub whole : List ℕ
  pub data_is : List ℕ
  pub rest : List ℕ
  pub begins : Means (IsEnc SEQUENCE) whole octets
  pub data_begins : Means (IsEnc SEQUENCE) data_is whole
  pub fields_before : StandBefore tags_before rest data_is
  pub elements_begin : Means (Inside 0xA3 (IsEnc SEQUENCE)) elements rest

-- one of its extensions has the identifier of Certificate Policies (RFC 6487 4.8.9)
abbrev pub HasPolicies : List ℕ → Type 0
HasPolicies octets = (elements : List ℕ) × HasExtensions elements octets × BeginsWithOne Policies elements

-- one of its extensions has the identifier of Extended Key Usage (RFC 6487 4.8.5)
abbrev pub HasPurposes : List ℕ → Type 0
HasPurposes octets =
    (elements : List ℕ) × HasExtensions elements octets
    × BeginsWithOne (Named field.ExtendedKeyUsage false) elements

-- the octets are extensions, and nothing else
abbrev pub AreAnyExtensions : List ℕ → Type 0
AreAnyExtensions octets = (xs : List Extension) × AreEncodings IsExtension xs octets

-- the octets are extensions, and nothing else, of which none is one that is looked for
abbrev pub Lack : Wanted → List ℕ → Type 0
Lack wanted elements = AreAnyExtensions elements × (BeginsWithOne wanted elements → ⊥)

-- none of its extensions, which are all well formed, is one that only certificates of the RPKI have
abbrev pub IsOtherCertificate : List ℕ → Type 0
IsOtherCertificate octets =
    (elements : List ℕ) × HasExtensions elements octets × Lack OfRpki elements
