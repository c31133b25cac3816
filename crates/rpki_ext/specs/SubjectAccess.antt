-- Subject Information Access (RFC 5280 4.2.2.2, RFC 6487 4.8.8, RFC 8182 3.2).
use Rattle.std.specs.Prelude.{ℕ, Bool, List, ◌≢◌, ◌∷◌, [], Option, Some, None, ◌≡◌, ◌++◌, ◌||◌, IfSome, bytes_eq}
use Rattle.std.specs.Prelude.{if◌then◌else◌, false, true, is_some}
use Rattle.std.specs.List.{flat_map}
use Rattle.std.specs.Borrow.{Bor}
use Rattle.std.specs.Option.{option_copied}
use Rattle.rpki_der.specs.FormatChoices.{primitive}
use Rattle.rpki_der.specs.Formats.{AreSome, Format}
use Rattle.rpki_der.specs.Tags.{SEQUENCE}
use Rattle.rpki_der.specs.Identifiers.{pkix}
use Rattle.rpki_der.specs.Skipping.{levels}
use Rattle.rpki_der.specs.Skipping.Reading.{skip_all_of}
use Rattle.rpki_der.specs.Folding.{Fold, side_by_side, first_fold, over}
use Rattle.rpki_der.specs.Sequences.{IsFirstOf}
use Rattle.rpki_der.specs.Reading.{at_end}
use Rattle.rpki_der.specs.Values.Reading.{◌>>=◌}
use Rattle.rpki_der.specs.Place.{Place, remaining}
use Rattle.rpki_parts.specs.Uris.{IsRsync, IsHttps}
use Rattle.rpki_ext.specs.declared.subject_access.AccessMethod.{AccessMethod}
use Rattle.rpki_ext.specs.declared.subject_access.AccessMethod.TheVariants.{CaRepository, RpkiManifest, SignedObject, RpkiNotify}
use Rattle.rpki_ext.specs.Contents.{AreSkippableWithin, SEQUENCE_BY}
use Rattle.rpki_ext.specs.GeneralNames.{uri_format, https_of, rsync_of}
use Rattle.rpki_ext.specs.Kinds.{ExtensionKind, required}

-- the accessMethods that are known (RFC 6487 4.8.8, RFC 8182 3.2)
abbrev pub method_identifier : AccessMethod → List ℕ
method_identifier CaRepository = pkix 0x30 0x05
method_identifier RpkiManifest = pkix 0x30 0x0A
method_identifier SignedObject = pkix 0x30 0x0B
method_identifier RpkiNotify = pkix 0x30 0x0D

-- what is kept of an AccessDescription: its method and URI, where the method is known
abbrev pub Description : Type 0
Description = Option (AccessMethod × List ℕ)

-- behind a known method one uniformResourceIdentifier, and behind another one any skippable values
-- (own)
abbrev pub IsLocationWithin : ℕ → List ℕ → Description → List ℕ → Type 0
IsLocationWithin depth id (Some (method, uri)) name = (id ≡ method_identifier method) × uri_format.encodes uri name
IsLocationWithin depth id None rest = ((known : AccessMethod) → id ≢ method_identifier known) × AreSkippableWithin depth rest

-- the known method that an identifier names
abbrev pub method_of : List ℕ → Option AccessMethod
method_of id =
    if bytes_eq id (method_identifier CaRepository) then Some CaRepository
    else if bytes_eq id (method_identifier RpkiManifest) then Some RpkiManifest
    else if bytes_eq id (method_identifier SignedObject) then Some SignedObject
    else if bytes_eq id (method_identifier RpkiNotify) then Some RpkiNotify
    else None

-- what stands behind a known method, or behind another one
abbrev pub location_by : Option AccessMethod → List ℕ → Option Description
location_by (Some method) name = uri_format.read name >>= λ uri. at_end uri.1 (Some (method, uri.0))
location_by None rest = skip_all_of rest >>= λ u. Some None

-- the method that an identifier names, with the URI behind it; nothing of an unknown method
abbrev pub location_of : List ℕ → List ℕ → Option Description
location_of id rest = location_by (method_of id) rest

-- a known method with a text for the URI can be written
abbrev pub IsDescription : Description → Type 0
IsDescription (Some (method, uri)) = uri_format.fits uri
IsDescription None = ⊥

-- its identifier
abbrev pub written_method : Description → List ℕ
written_method (Some (method, uri)) = method_identifier method
written_method None = []

-- its name
abbrev pub written_uri : Description → List ℕ
written_uri (Some (method, uri)) = uri_format.written uri
written_uri None = []

-- AccessDescription ::= SEQUENCE {   (RFC 5280 4.2.2.1)
--   accessMethod OBJECT IDENTIFIER, accessLocation GeneralName }
-- restricted to a known method with one uniformResourceIdentifier, or another method, of which
-- nothing is kept. What is skipped stands at most so deep
unfoldable pub description_format : ℕ → Format Description
description_format depth = SEQUENCE_BY location_of (IsLocationWithin depth) IsDescription written_method written_uri

-- the description has this method, and its name reads as the URI
abbrev pub HasUri : AccessMethod → (List ℕ → Type 0) → Description → List ℕ → Type 0
HasUri method IsUri d uri = (d ≡ Some (method, uri)) × IsUri uri

-- the URIs of the four methods
pub record Access : Type 0 where
  pub ca_repository : Option (List ℕ)
  pub rpki_manifest : Option (List ℕ)
  pub signed_object : Option (List ℕ)
  pub rpki_notify : Option (List ℕ)

-- of each method the URI of the first description that has one (own)
pub record GiveAccess (a : Access) (ds : List Description) : Type 0 where
  pub repository : IsFirstOf (HasUri CaRepository IsRsync) a.ca_repository ds
  pub manifest : IsFirstOf (HasUri RpkiManifest IsRsync) a.rpki_manifest ds
  pub object : IsFirstOf (HasUri SignedObject IsRsync) a.signed_object ds
  pub notify : IsFirstOf (HasUri RpkiNotify IsHttps) a.rpki_notify ds

-- descriptions one after the other, at least one, and what they give
abbrev pub AreDescriptionsWithin : ℕ → Access → List ℕ → Type 0
AreDescriptionsWithin depth a c = (ds : List Description) × AreSome (description_format depth).encodes ds c × GiveAccess a ds

-- ---- what is written

-- whether there is a URI
abbrev pub has_uri : Access → Bool
has_uri a = is_some a.ca_repository || (is_some a.rpki_manifest || (is_some a.signed_object || is_some a.rpki_notify))

-- the description of a method's URI, where there is one
abbrev pub description_if : AccessMethod → Option (List ℕ) → List Description
description_if method None = []
description_if method (Some uri) = Some (method, uri) ∷ []

-- the descriptions of the URIs that are there
abbrev pub descriptions : Access → List Description
descriptions a =
    description_if CaRepository a.ca_repository
    ++ (description_if RpkiManifest a.rpki_manifest
    ++ (description_if SignedObject a.signed_object ++ description_if RpkiNotify a.rpki_notify))

-- what is written of descriptions, one after the other
abbrev pub written_all : List Description → List ℕ
written_all ds = flat_map (description_format levels).written ds

-- each URI that is there is an rsync URI, of rpkiNotify an https URI (RFC 8182 3.2)
pub record HasUris (a : Access) : Type 0 where
  pub ca_repository_is : IfSome a.ca_repository IsRsync
  pub rpki_manifest_is : IfSome a.rpki_manifest IsRsync
  pub signed_object_is : IfSome a.signed_object IsRsync
  pub rpki_notify_is : IfSome a.rpki_notify IsHttps

-- ---- how it is read

-- the URI of a description, if it has this method and reads as one
abbrev pub uri_under : AccessMethod → (List ℕ → Option (List ℕ)) → Description → Option (List ℕ)
uri_under method uri_of None = None
uri_under method uri_of (Some (found, text)) = if bytes_eq (method_identifier found) (method_identifier method) then uri_of text else None

-- the URIs of the four methods, as the walk gathers them
abbrev pub Uris : Type 0
Uris = Option (List ℕ) × (Option (List ℕ) × (Option (List ℕ) × Option (List ℕ)))

-- the walk over AccessDescriptions: of each method the first URI
abbrev pub access_fold : Fold Description Uris
access_fold =
    side_by_side (first_fold (uri_under CaRepository rsync_of) (HasUri CaRepository IsRsync))
    (side_by_side (first_fold (uri_under RpkiManifest rsync_of) (HasUri RpkiManifest IsRsync))
    (side_by_side (first_fold (uri_under SignedObject rsync_of) (HasUri SignedObject IsRsync))
    (first_fold (uri_under RpkiNotify https_of) (HasUri RpkiNotify IsHttps))))

-- the four URIs, in the form that the walk gathers them
abbrev pub uris_of : Access → Uris
uris_of a = (a.ca_repository, (a.rpki_manifest, (a.signed_object, a.rpki_notify)))

-- the four URIs that the walk has gathered
abbrev pub access_made : Uris → Access
access_made u = record { ca_repository = u.0; rpki_manifest = u.1.0; signed_object = u.1.1.0; rpki_notify = u.1.1.1 }

-- at least one description, and nothing else
abbrev pub access_of : List ℕ → Option Access
access_of [] = None
access_of (b ∷ c) = over (description_format levels).read access_fold.step access_fold.start (b ∷ c) >>= λ uris. Some (access_made uris)

-- SubjectInfoAccessSyntax ::= SEQUENCE SIZE (1..MAX) OF AccessDescription   (RFC 5280 4.2.2.2)
-- What is skipped stands at most so deep; for other depths than `levels` only what is encoded is
-- used
unfoldable pub subject_information_access_format : ℕ → Format Access
subject_information_access_format depth = primitive SEQUENCE access_of (AreDescriptionsWithin depth)
    (λ a. HasUris a × (has_uri a ≡ true)) (λ a. written_all (descriptions a))

-- ---- the kind

-- id-pe-subjectInfoAccess, not critical, under this bound of depth
abbrev pub subject_information_access_within : ℕ → ExtensionKind Access
subject_information_access_within depth =
    record { identifier = pkix 0x01 0x0B; flag = required false; format = subject_information_access_format depth }

-- under the bound of depth that readers keep
abbrev pub subject_information_access : ExtensionKind Access
subject_information_access = subject_information_access_within levels

-- ---- what contracts see

-- what the code hands out of a description
abbrev pub description_view : Option (AccessMethod × Place) → Description
description_view None = None
description_view (Some (method, text)) = Some (method, remaining text)

-- the URIs that are there, behind references
abbrev pub access_behind : Option (Bor (List ℕ)) → Option (Bor (List ℕ)) → Option (Bor (List ℕ)) → Option (Bor (List ℕ)) → Access
access_behind repository manifest object notify = record {
  ca_repository = option_copied repository;
  rpki_manifest = option_copied manifest;
  signed_object = option_copied object;
  rpki_notify = option_copied notify;
}
