-- What the walk over the extensions asks of each.
use Rattle.std.specs.List.{list_any}
use Rattle.std.specs.Prelude.{◌≡◌, ◌⊎◌, ℕ, Bool, List, [], bytes_eq}
use Rattle.rpki_ext.specs.ExtensionKinds.{as_resources, certificate_policies, ip_resources, known, subject_information_access}
use Rattle.rpki_der.specs.Extensions.{Extension, IsExtension}
use Rattle.rpki_ext.specs.Kinds.{identifiers, identifiers_by_mode}
use Rattle.rpki_text.specs.Notes.{HasAtLeast, HasOtherQualifiers, IsNotCritical, IsNotOneValue, IsOtherThan}
use Rattle.rpki_text.specs.declared.notes.finding.Kinds.{Kinds}
use Rattle.rpki_text.specs.declared.notes.finding.Kinds.TheVariants.{Addresses, Systems, Known, Access, Policies}
use Rattle.rpki_text.specs.declared.notes.finding.Fault.{Fault}
use Rattle.rpki_text.specs.declared.notes.finding.Fault.TheVariants.{NotCritical, OtherContent, NotOneValue, AtLeast, OtherQualifiers}

-- the identifiers of the kinds
abbrev pub sought_names : Kinds → List (List ℕ)
sought_names Addresses = identifiers_by_mode ip_resources
sought_names Systems = identifiers_by_mode as_resources
sought_names Known = known
sought_names Access = identifiers subject_information_access
sought_names Policies = identifiers certificate_policies

-- whether this is one of them
abbrev pub is_named : Kinds → List ℕ → Bool
is_named kinds identifier = list_any (λ id. bytes_eq identifier id) (sought_names kinds)

-- an extension has the fault, where this content is written of it
abbrev pub HasFault : Fault → List ℕ → Extension → Type 0
HasFault NotCritical written = IsNotCritical
HasFault OtherContent written = IsOtherThan written
HasFault NotOneValue written = IsNotOneValue
HasFault (AtLeast times method) written = HasAtLeast times method
HasFault OtherQualifiers written = HasOtherQualifiers

-- the octets are an extension, or there are none
abbrev pub IsExtensionOrNone : List ℕ → Type 0
IsExtensionOrNone octets = (octets ≡ []) ⊎ ((x : Extension) × IsExtension x octets)

-- the content of that extension, or no octets
pub record IsContentOf (octets content : List ℕ) : Type 0 where
  pub none : octets ≡ [] → content ≡ []
  pub is : (x : Extension) → IsExtension x octets → content ≡ x.content

-- the octets are an extension with this content, or there are none where there is none
pub record IsExtensionOf (content octets : List ℕ) : Type 0 where
  pub extension : IsExtensionOrNone octets
  pub content_is : (found : List ℕ) → IsContentOf octets found → found ≡ content
