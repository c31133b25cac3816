-- Valid paths: what they are, and which numbers their members hold (RFC 6487 7.2, RFC 8360 4.2.4.4;
-- own: whoever is asked for revocation is the caller's to choose, and the chaining of names the
-- caller's to ask, by NameChains).
use Rattle.std.specs.Prelude.{◌≡◌, ◌≢◌, ◌↔◌, ◌⊎◌, ◌+◌, ◌-◌, ◌^◌, ◌<◌, ◌≤◌, ℕ, List, [], ◌∷◌, ◌++◌, length, map}
use Rattle.std.specs.Prelude.{slice_index_or, Option, Some, None, Result, Ok, Err}
use Rattle.std.specs.List.{AllByRecursion, AllZip}
use Rattle.rpki_der.specs.declared.error.DecodeError.TheVariants as decoding
use Rattle.rpki_blocks.specs.Sets.{Has}
use Rattle.rpki_blocks.specs.Resources.{Resources, inherit}
use Rattle.rpki_blocks.specs.IssuedSets.{IsListed}
use Rattle.rpki_parts.specs.Conditions.{IsFirstFalse}
use Rattle.rpki_ext.specs.Kinds.{Means}
use Rattle.rpki_cert.specs.Certificates.{TbsFields, CertFields, IsCertificate}
use Rattle.rpki_cert.specs.Profiles.{MeetsProfile}
use Rattle.rpki_cert.specs.Validation.{IsInvalid}
use Rattle.rpki_cert.specs.Verification.{Context, Held, Check, TrustAnchorCheck, trust_anchor_checks, issued_checks}
use Rattle.rpki_cert.specs.Verification.{IsVerified, ResourceFields}
use Rattle.rpki_cert.specs.declared.inspect.Kind.{Kind}
use Rattle.rpki_cert.specs.declared.inspect.Kind.TheVariants.{Anchor, Authority, EndEntity, Detached}
use Rattle.rpki_cert.specs.declared.validation_error.ValidationError.{ValidationError}
use Rattle.rpki_cert.specs.declared.validation_error.ValidationError.TheVariants.{Inspection, Verification}
use Rattle.rpki_cert.specs.declared.verification_error.VerificationError.{VerificationError}
use Rattle.rpki_crl.specs.Revocation.{revocation_checks}
use Rattle.rpki_crl.specs.declared.revocation_error.RevocationError.{RevocationError}
use Rattle.rpki_path.specs.Asking.{RevocationChecks, IsUnrevokedBy}
use Rattle.rpki_path.specs.declared.path_fault.PathFault.{PathFault}
use Rattle.rpki_path.specs.declared.path_fault.PathFault.TheVariants.{Decode, Inspect, Verify, Revocation, Memory}
use Rattle.rpki_path.specs.declared.path_fault.PathError.{PathError}
use Rattle.rpki_path.specs.declared.validating.Leaf.{Leaf}
use Rattle.rpki_path.specs.declared.validating.Leaf.TheVariants.{Ee, DetachedEe}
pub mod Steps

-- ---- members

-- a certificate below the trust anchor, with the kind that it has to be of
pub record Member : Type 0 where
  pub kind : Kind
  pub cert : CertFields

-- the trust anchor, and the members below it, from the top down
pub record Path : Type 0 where
  pub anchor : CertFields
  pub below : List Member

abbrev pub member : Kind → CertFields → Member
member kind cert = record { kind = kind; cert = cert }

-- the path with this member below its last
abbrev pub longer : Path → Member → Path
longer p m = record { anchor = p.anchor; below = p.below ++ m ∷ [] }

-- the place of the last member; the trust anchor is at place 0
abbrev pub last : Path → ℕ
last p = length p.below

-- the certificate at place i
abbrev pub certificate_at : Path → ℕ → CertFields
certificate_at p i = slice_index_or (p.anchor ∷ map (λ m. m.cert) p.below) i p.anchor

-- ---- what they hold

-- which numbers are asked for: IPv4 addresses, IPv6 addresses or AS numbers
pub data NumberKind : Type 0 where
  v4_addresses v6_addresses system_numbers : NumberKind

-- the certificate's resources of this kind of numbers
abbrev pub kind_resources : NumberKind → CertFields → Resources
kind_resources v4_addresses c = c.fields.extensions.v4_resources
kind_resources v6_addresses c = c.fields.extensions.v6_resources
kind_resources system_numbers c = c.fields.extensions.as_resources

-- the certificate lists the number itself
abbrev pub Lists : CertFields → NumberKind → ℕ → Type 0
Lists c k n = IsListed n (kind_resources k c)

-- the certificate inherits its numbers of this kind
abbrev pub Inherits : CertFields → NumberKind → Type 0
Inherits c k = kind_resources k c ≡ inherit

-- lists n or inherits
abbrev pub PassesOn : CertFields → NumberKind → ℕ → Type 0
PassesOn c k n = Lists c k n ⊎ Inherits c k

-- the trust anchor lists n, and every later member down to place i lists n or inherits
pub record Holds (p : Path) (i : ℕ) (k : NumberKind) (n : ℕ) : Type 0 where
  pub listed : Lists p.anchor k n
  pub passed_on : (j : ℕ) → 1 ≤ j → j ≤ i → PassesOn (certificate_at p j) k n

-- the numbers that the member at place i holds
abbrev pub HeldAt : Path → ℕ → Held
HeldAt p i = record {
  v4 = Holds p i v4_addresses;
  v6 = Holds p i v6_addresses;
  as_numbers = Holds p i system_numbers;
}

-- ---- valid paths

-- the checks of a certificate that the member at place i issued
abbrev pub CheckBelow : Context → Path → ℕ → CertFields → VerificationError → Type 0
CheckBelow x p i c = Check x (certificate_at p i).fields (HeldAt p i) c

-- the checks of revocation of a certificate that the member at place i issued
abbrev pub AskedBelow : RevocationChecks → Path → ℕ → CertFields → RevocationError → Type 0
AskedBelow asked p i = asked (certificate_at p i).fields

-- every member meets the profile of its kind, the trust anchor's checks are true of itself, and
-- those of each later member under the one above it; none of the later members is revoked, by who
-- is asked
pub record IsValidPath (x : Context) (asked : RevocationChecks) (p : Path) : Type 0 where
  pub anchor_meets : MeetsProfile Anchor x.strict p.anchor
  pub members_meet : AllByRecursion (λ m. MeetsProfile m.kind x.strict m.cert) p.below
  pub anchor_verified : IsVerified (TrustAnchorCheck x p.anchor) trust_anchor_checks
  pub members_verified : (i : ℕ) → i < last p
      → IsVerified (CheckBelow x p i (certificate_at p (i + 1))) issued_checks
  pub members_unrevoked : (i : ℕ) → i < last p
      → IsUnrevokedBy asked (certificate_at p i).fields (certificate_at p (i + 1))

-- ---- strings

-- a string that has to begin with a certificate of a kind
pub record Candidate : Type 0 where
  pub kind : Kind
  pub octets : List ℕ

-- the string of a member of this kind
abbrev pub candidate : Kind → List ℕ → Candidate
candidate kind octets = record { kind = kind; octets = octets }

-- the string of the leaf, if there is one
abbrev pub leaf_candidates : Option Leaf → List Candidate
leaf_candidates None = []
leaf_candidates (Some (Ee octets)) = candidate EndEntity octets ∷ []
leaf_candidates (Some (DetachedEe octets)) = candidate Detached octets ∷ []

-- below the trust anchor: CAs, and then at most one leaf
abbrev pub candidates : List (List ℕ) → Option Leaf → List Candidate
candidates authorities leaf = map (candidate Authority) authorities ++ leaf_candidates leaf

-- the string begins with the member, which is of the kind that is asked for; what follows it is
-- ignored
pub record IsMember (m : Member) (s : Candidate) : Type 0 where
  pub kind_is : m.kind ≡ s.kind
  pub begins : Means IsCertificate m.cert s.octets

-- each of the strings begins with the member at its place
pub record IsPathOf (anchor : List ℕ) (below : List Candidate) (p : Path) : Type 0 where
  pub anchor_begins : Means IsCertificate p.anchor anchor
  pub members : AllZip IsMember p.below below

-- ---- answers

-- the last member, what it holds, and the locator that the path begins with
pub record HasHeld (p : Path) (tal : List ℕ) (r : ResourceFields) : Type 0 where
  pub cert_is : r.cert ≡ certificate_at p (last p)
  pub v4_is : (n : ℕ) → Has r.v4 n ↔ Holds p (last p) v4_addresses n
  pub v6_is : (n : ℕ) → Has r.v6 n ↔ Holds p (last p) v6_addresses n
  pub as_is : (n : ℕ) → Has r.as_numbers n ↔ Holds p (last p) system_numbers n
  pub tal_is : r.tal ≡ tal

-- the strings are a valid path, and the result is what its last member holds
pub record IsAccepted (x : Context) (asked : RevocationChecks) (anchor : List ℕ)
    (below : List Candidate) (tal : List ℕ) (r : ResourceFields) : Type 0 where
  pub path : Path
  pub path_of : IsPathOf anchor below path
  pub is_valid : IsValidPath x asked path
  pub held : HasHeld path tal r

-- the strings are not a valid path
abbrev pub IsNoValidPath : Context → RevocationChecks → List ℕ → List Candidate → Type 0
IsNoValidPath x asked anchor below =
    (p : Path) → IsPathOf anchor below p → IsValidPath x asked p → ⊥

-- what `out of memory` may stand in place of
abbrev pub UnlessMemory : PathFault → Type 0 → Type 0
UnlessMemory Memory P = Unit {0}
UnlessMemory _ P = P

-- Ok exactly where the strings are a valid path, with what its last member holds, unless it runs
-- out of memory
abbrev pub Validates : Context → RevocationChecks → List ℕ → List Candidate → List ℕ
    → Result ResourceFields PathError → Type 0
Validates x asked anchor below tal (Ok r) = IsAccepted x asked anchor below tal r
Validates x asked anchor below tal (Err e) =
    UnlessMemory e.fault (IsNoValidPath x asked anchor below)

-- what is asked of a certificate: its kind, with the profile, the checks that are verified, and
-- then those of revocation
pub record Demand : Type 1 where
  pub kind : Kind
  pub check : CertFields → VerificationError → Type 0
  pub checks : List VerificationError
  pub asked_check : CertFields → RevocationError → Type 0

-- of a trust anchor, for which nobody is asked
abbrev pub trust_anchor_demand : Context → Demand
trust_anchor_demand x = record {
  kind = Anchor;
  check = TrustAnchorCheck x;
  checks = trust_anchor_checks;
  asked_check = λ c e. Unit {0};
}

-- of a member of this kind below the member at place i
abbrev pub demand_below : Context → RevocationChecks → Path → ℕ → Kind → Demand
demand_below x asked p i kind = record {
  kind = kind;
  check = CheckBelow x p i;
  checks = issued_checks;
  asked_check = AskedBelow asked p i;
}

-- the string begins with a certificate, which isn't valid as one of the kind, and this is why
abbrev pub BeginsInvalid : Context → Demand → List ℕ → ValidationError → Type 0
BeginsInvalid x d octets e =
    (c : CertFields) × Means IsCertificate c octets
    × IsInvalid d.kind x.strict c (IsFirstFalse (d.check c) d.checks) e

-- the string begins with a certificate, which is valid, and this is the first of its checks of
-- revocation that isn't true
pub record BeginsRevoked (x : Context) (d : Demand)
    (octets : List ℕ) (e : RevocationError) : Type 0 where
  pub cert : CertFields
  pub begins : Means IsCertificate cert octets
  pub meets : MeetsProfile d.kind x.strict cert
  pub verified : IsVerified (d.check cert) d.checks
  pub first : IsFirstFalse (d.asked_check cert) revocation_checks e

-- what a fault says of a string of which this is asked
abbrev pub Finds : Context → Demand → List ℕ → PathFault → Type 0
Finds x d octets (Decode e) =
    (e ≢ decoding.Memory) × ((c : CertFields) → Means IsCertificate c octets → ⊥)
Finds x d octets (Inspect e) = BeginsInvalid x d octets (Inspection e)
Finds x d octets (Verify e) = BeginsInvalid x d octets (Verification e)
Finds x d octets (Revocation e) = BeginsRevoked x d octets e
Finds x d octets Memory = Unit {0}

-- the error is one of the trust anchor
pub record IsFaultOfTrustAnchor (x : Context) (anchor : List ℕ) (e : PathError) : Type 0 where
  pub index_is : e.index ≡ 0
  pub fault_is : Finds x (trust_anchor_demand x) anchor e.fault

-- the members before the index are a valid path, and the error is one of the string there
pub record IsFaultBelow (x : Context) (asked : RevocationChecks)
    (anchor : List ℕ) (below : List Candidate) (e : PathError) : Type 0 where
  pub before : List Candidate
  pub there : Candidate
  pub after : List Candidate
  pub parts : below ≡ before ++ there ∷ after
  pub path : Path
  pub path_of : IsPathOf anchor before path
  pub is_valid : IsValidPath x asked path
  pub index_is : e.index ≡ length before + 1
  pub fault_is : Finds x (demand_below x asked path (last path) there.kind) there.octets e.fault

-- the error says what is wrong of the string at its index
abbrev pub IsFault : Context → RevocationChecks → List ℕ → List Candidate → PathError → Type 0
IsFault x asked anchor below e =
    IsFaultOfTrustAnchor x anchor e ⊎ IsFaultBelow x asked anchor below e

-- the fault isn't one of revocation
abbrev pub IsUnasked : PathFault → Type 0
IsUnasked (Revocation e) = ⊥
IsUnasked _ = Unit {0}

-- ---- more numbers

-- the greatest number of this kind
abbrev pub greatest_number : NumberKind → ℕ
greatest_number v4_addresses = 2 ^ 128 - 1
greatest_number v6_addresses = 2 ^ 128 - 1
greatest_number system_numbers = 2 ^ 32 - 1

-- of two paths of one length the trust anchor of the second lists what that of the first lists, and
-- each later member of the second lists or inherits what the one of the first at its place lists or
-- inherits
pub record PassesMore (p q : Path) : Type 0 where
  pub same_length : last p ≡ last q
  pub anchor_lists : (k : NumberKind) (n : ℕ)
      → n ≤ greatest_number k → Lists p.anchor k n → Lists q.anchor k n
  pub later_pass : (j : ℕ) → 1 ≤ j → j ≤ last p → (k : NumberKind) (n : ℕ) → n ≤ greatest_number k
      → PassesOn (certificate_at p j) k n → PassesOn (certificate_at q j) k n
