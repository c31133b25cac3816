-- What a fault of reading that names a kind of extension, or an identifier, says of the place where
-- reading stops.
use Rattle.std.specs.Prelude.{◌≡◌, ℕ, Bool, true, false, List, Some}
use Rattle.rpki_der.specs.declared.error.DecodeError.{DecodeError}
use Rattle.rpki_der.specs.declared.error.DecodeError.TheVariants as decoding
use Rattle.rpki_der.specs.declared.error.Field.{Field}
use Rattle.rpki_der.specs.Encoding.{Means}
use Rattle.rpki_der.specs.Extensions.{Extension, IsExtension}
use Rattle.rpki_der.specs.Tags.{SEQUENCE}
use Rattle.rpki_blocks.specs.declared.overclaim.Overclaim.{Overclaim}
use Rattle.rpki_files.specs.Flaws.{Encloses}
use Rattle.rpki_files.specs.KnownKinds.{MayHaveFlag, called, known_kind}
use Rattle.rpki_files.specs.PolicyPresence.{BeginsWithOne, Lack}
use Rattle.rpki_files.specs.StopPlaces.{extensions_tag}
use Rattle.rpki_files.specs.declared.policies.Wanted.TheVariants.{Named, Policy, Resources}
use Rattle.rpki_files.specs.declared.expected.Part.{Part}
use Rattle.rpki_files.specs.declared.expected.Part.TheVariants as part
use Rattle.rpki_files.specs.declared.kinds.Kind.{Kind}
use Rattle.rpki_files.specs.declared.kinds.Kind.TheVariants as known

-- the part is an extension of the kind that faults call so, which may not stand as it stands
abbrev pub IsOfField : Part → Field → Type 0
IsOfField p f = (k : Kind) × (p ≡ part.Kind k) × (called k ≡ Some f)

-- it is one behind another one of that kind
abbrev pub IsSecondOf : Part → Field → Type 0
IsSecondOf p f = (k : Kind) × (p ≡ part.Second k) × (called k ≡ Some f)

-- the octets begin with an extension of whose identifier and flag this holds
abbrev pub FirstIs : (List ℕ → Bool → Type 0) → List ℕ → Type 0
FirstIs Is octets = (x : Extension) × Means IsExtension x octets × Is x.identifier x.critical

-- the flag is this one, which the kind with this identifier may not have
abbrev pub IsOtherFlag : Bool → Bool → List ℕ → Bool → Type 0
IsOtherFlag is_list this identifier critical =
    (critical ≡ this) × (MayHaveFlag is_list (known_kind is_list identifier) critical → ⊥)

-- this holds of what stands where extensions do, in the two tags of their field, with which the
-- octets begin (RFC 5280 4.1, 5.1)
abbrev pub ExtensionsAre : Bool → (List ℕ → Type 0) → List ℕ → Type 0
ExtensionsAre is_list Are octets = Encloses (extensions_tag is_list) (Encloses SEQUENCE Are) octets

-- resources that faults call so are there, under the identifier that the policy of a mode asks for,
-- and that policy isn't (RFC 8360 4.2)
abbrev pub HasOtherMode : Field → List ℕ → Type 0
HasOtherMode f elements =
    (mode : Overclaim) × BeginsWithOne (Resources f mode) elements × Lack (Policy mode) elements

-- what a fault names is true of the part at which reading stops, and of the octets from there on
-- (RFC 5280 4.2, 5.1.1.2; RFC 6487 4.8, 5). Of faults that name nothing, nothing is said
abbrev pub NamesTruly : Bool → Part → List ℕ → DecodeError → Type 0
NamesTruly is_list p octets (decoding.Duplicate f) = IsSecondOf p f
NamesTruly is_list p octets (decoding.Critical f) = IsOfField p f × FirstIs (IsOtherFlag is_list true) octets
NamesTruly is_list p octets (decoding.NotCritical f) = IsOfField p f × FirstIs (IsOtherFlag is_list false) octets
NamesTruly is_list p octets (decoding.UnexpectedCritical id) =
    (p ≡ part.Kind known.Unknown) × FirstIs (λ identifier critical. (identifier ≡ id) × (critical ≡ true)) octets
NamesTruly is_list p octets (decoding.InvalidExtension id) =
    (p ≡ part.Kind known.NoList) × FirstIs (λ identifier _. identifier ≡ id) octets
NamesTruly is_list p octets (decoding.Missing f) =
    (p ≡ part.Extensions) × ExtensionsAre is_list (Lack (Named f is_list)) octets
NamesTruly is_list p octets (decoding.WrongResources f) =
    (p ≡ part.Extensions) × ExtensionsAre is_list (HasOtherMode f) octets
NamesTruly is_list p octets decoding.AlgorithmMismatch = p ≡ part.OtherAlgorithm
NamesTruly is_list p octets other = Unit {0}
