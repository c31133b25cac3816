-- Valid paths whose trust anchor is a locator's: the first certificate has the locator's key (RFC
-- 8630 3), and its set of numbers isn't empty (RFC 8630 2.3).
use Rattle.std.specs.Prelude.{◌≡◌, ◌≢◌, ℕ, Bool, List, Result, Ok, Err, codes}
use Rattle.rpki_ext.specs.Kinds.{Means}
use Rattle.rpki_cert.specs.Certificates.{CertFields, IsCertificate}
use Rattle.rpki_cert.specs.Verification.{Context, ResourceFields}
use Rattle.rpki_path.specs.Asking.{RevocationChecks}
use Rattle.rpki_keys.specs.Locators.{IsLocator, NamedTal, TalFields}
use Rattle.rpki_path.specs.declared.located.LocatedError.{LocatedError}
use Rattle.rpki_path.specs.declared.located.LocatedError.TheVariants.{OtherKey, NoResources, Path as path}
use Rattle.rpki_path.specs.declared.path_fault.PathFault.TheVariants.{Memory}
use Rattle.rpki_path.specs.Paths.{Path, Candidate, NumberKind, Lists, IsPathOf, IsValidPath, HasHeld, UnlessMemory}
use Rattle.rpki_path.specs.Paths.{IsFault}
use Rattle.rpki_path.specs.Paths.Steps.{IsUnread}

-- ---- keys

-- the octets begin with a certificate that has the locator's key
pub record BeginsWithKey (t : TalFields) (octets : List ℕ) : Type 0 where
  pub cert : CertFields
  pub begins : Means IsCertificate cert octets
  pub key_is : cert.fields.key ≡ t.key

-- the octets begin with a certificate that has another key
pub record BeginsWithOtherKey (t : TalFields) (octets : List ℕ) : Type 0 where
  pub cert : CertFields
  pub begins : Means IsCertificate cert octets
  pub key_differs : cert.fields.key ≢ t.key

-- the file is a locator, and the trust anchor's octets begin with a certificate that has its key
pub record IsLocatorOf (strict : Bool) (anchor file : List ℕ) : Type 0 where
  pub locator : TalFields
  pub locator_is : IsLocator strict locator file
  pub begins : BeginsWithKey locator anchor

-- ---- trust anchors

-- the certificate lists an IP address or an AS number
abbrev pub ListsSome : CertFields → Type 0
ListsSome c = (k : NumberKind) × (n : ℕ) × Lists c k n

-- the octets begin with a certificate that does
pub record BeginsWithNumbers (octets : List ℕ) : Type 0 where
  pub cert : CertFields
  pub begins : Means IsCertificate cert octets
  pub lists : ListsSome cert

-- the octets begin with a certificate that doesn't
pub record BeginsWithNoNumber (octets : List ℕ) : Type 0 where
  pub cert : CertFields
  pub begins : Means IsCertificate cert octets
  pub lists_none : ListsSome cert → ⊥

-- the octets begin with a certificate that can be the locator's trust anchor
abbrev pub BeginsWithAnchor : TalFields → List ℕ → Type 0
BeginsWithAnchor t octets = BeginsWithKey t octets × BeginsWithNumbers octets

-- why they don't
abbrev pub IsAnchorFault : TalFields → List ℕ → LocatedError → Type 0
IsAnchorFault t octets OtherKey = BeginsWithOtherKey t octets
IsAnchorFault t octets NoResources = BeginsWithKey t octets × BeginsWithNoNumber octets
IsAnchorFault t octets (path e) = (e.index ≡ 0) × IsUnread octets e.fault

-- ---- paths

-- a valid path whose trust anchor has the locator's key, and lists a number
pub record IsValidFrom (x : Context) (asked : RevocationChecks)
    (t : TalFields) (p : Path) : Type 0 where
  pub is_valid : IsValidPath x asked p
  pub key_is : p.anchor.fields.key ≡ t.key
  pub lists : ListsSome p.anchor

-- the strings are such a path, and the result is what its last member holds, with the locator's
-- name
pub record IsAcceptedFrom (x : Context) (asked : RevocationChecks) (t : NamedTal)
    (anchor : List ℕ) (below : List Candidate) (r : ResourceFields) : Type 0 where
  pub path : Path
  pub path_of : IsPathOf anchor below path
  pub is_valid : IsValidFrom x asked t.tal path
  pub held : HasHeld path t.name r

-- the strings are no such path
abbrev pub IsNoPathFrom : Context → RevocationChecks → TalFields → List ℕ → List Candidate → Type 0
IsNoPathFrom x asked t anchor below =
    (p : Path) → IsPathOf anchor below p → IsValidFrom x asked t p → ⊥

-- what `out of memory` may stand in place of
abbrev pub UnlessRanOut : LocatedError → Type 0 → Type 0
UnlessRanOut OtherKey P = P
UnlessRanOut NoResources P = P
UnlessRanOut (path e) P = UnlessMemory e.fault P

-- Ok exactly where the strings are such a path, unless it runs out of memory
abbrev pub ValidatesFrom : Context → RevocationChecks → NamedTal → List ℕ → List Candidate
    → Result ResourceFields LocatedError → Type 0
ValidatesFrom x asked t anchor below (Ok r) = IsAcceptedFrom x asked t anchor below r
ValidatesFrom x asked t anchor below (Err e) =
    UnlessRanOut e (IsNoPathFrom x asked t.tal anchor below)

-- what an error says: that the trust anchor has another key, or lists no number; or what is wrong
-- of the string at an index, where that isn't so
abbrev pub IsLocatedFault : Context → RevocationChecks → TalFields → List ℕ → List Candidate
    → LocatedError → Type 0
IsLocatedFault x asked t anchor below OtherKey = BeginsWithOtherKey t anchor
IsLocatedFault x asked t anchor below NoResources =
    BeginsWithKey t anchor × BeginsWithNoNumber anchor
IsLocatedFault x asked t anchor below (path e) =
    IsFault x asked anchor below e
    × UnlessMemory e.fault
    ((BeginsWithOtherKey t anchor → ⊥) × (BeginsWithNoNumber anchor → ⊥))

-- ---- names

-- the error's name
abbrev pub located_error_name : LocatedError → List ℕ
located_error_name OtherKey = codes "OtherKey"
located_error_name NoResources = codes "NoResources"
located_error_name (path e) = codes "Path"

-- the error is that memory ran out
abbrev pub IsOutOfMemory : LocatedError → Type 0
IsOutOfMemory OtherKey = ⊥
IsOutOfMemory NoResources = ⊥
IsOutOfMemory (path e) = e.fault ≡ Memory
