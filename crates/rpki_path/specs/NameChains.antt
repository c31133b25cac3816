-- Names that chain down a path (RFC 6487 7.2, the first condition; RFC 5280 6.1 (a), 6.1.3 (a)
-- (4)). Names are compared octet by octet (own). Equal octets are equal names by RFC 5280 7.1; the
-- converse isn't so, since letters of either case are one there, and spaces at the ends and of
-- several one beside the other don't count.
use Rattle.std.specs.Prelude.{◌≡◌, ◌⊎◌, ◌+◌, ◌<◌, ℕ, List, [], ◌∷◌, ◌++◌, length, Option, Some, None, Result, Ok, Err}
use Rattle.rpki_ext.specs.Kinds.{Means}
use Rattle.rpki_cert.specs.Certificates.{CertFields, IsCertificate}
use Rattle.rpki_cert.specs.declared.inspect.Kind.TheVariants.{Router}
use Rattle.rpki_path.specs.declared.path_fault.PathError.{PathError}
use Rattle.rpki_path.specs.GivenPaths.{PathStrings}
use Rattle.rpki_path.specs.Paths.{Path, last, certificate_at, Candidate, candidate, IsPathOf}
use Rattle.rpki_path.specs.Paths.Steps.{IsUnread}
pub mod Steps

-- the certificate's issuer is the subject of the one above it
abbrev pub IsNamedBelow : CertFields → CertFields → Type 0
IsNamedBelow above c = c.fields.issuer ≡ above.fields.subject

-- its own two names are one, as those of a trust anchor, which issued itself (RFC 8630 2.3, RFC
-- 5280 3.2)
abbrev pub IsSelfNamed : CertFields → Type 0
IsSelfNamed c = IsNamedBelow c c

-- the trust anchor's two names are one, and each later member's issuer is the subject of the member
-- above it
pub record NamesChain (p : Path) : Type 0 where
  pub anchor_named : IsSelfNamed p.anchor
  pub members_named : (i : ℕ) → i < last p
      → IsNamedBelow (certificate_at p i) (certificate_at p (i + 1))

-- ---- strings

-- the router's string, if there is one
abbrev pub router_candidates : Option (List ℕ) → List Candidate
router_candidates None = []
router_candidates (Some octets) = candidate Router octets ∷ []

-- all strings below the trust anchor's: the members', and then the router's
abbrev pub strings_below : PathStrings → List Candidate
strings_below g = g.below ++ router_candidates g.router

-- each of the strings begins with the member of a path at its place
abbrev pub BeginPath : PathStrings → Type 0
BeginPath g = (p : Path) × IsPathOf g.anchor (strings_below g) p

-- the strings begin with a path whose names chain
pub record BeginChained (anchor : List ℕ) (below : List Candidate) : Type 0 where
  pub path : Path
  pub path_of : IsPathOf anchor below path
  pub chain : NamesChain path

-- the strings above this place begin with a path whose names chain, and this is found of the string
-- there below the last member of that path
pub record IsFoundBelow (Found : CertFields → List ℕ → Type 0)
    (anchor : List ℕ) (below : List Candidate) (place : ℕ) : Type 0 where
  pub before : List Candidate
  pub there : Candidate
  pub after : List Candidate
  pub parts : below ≡ before ++ there ∷ after
  pub above : BeginChained anchor before
  pub place_is : place ≡ length before + 1
  pub found : Found (certificate_at above.path (last above.path)) there.octets

-- the trust anchor's string begins with a certificate of two names
abbrev pub BeginsTwoNamed : List ℕ → Type 0
BeginsTwoNamed anchor = (c : CertFields) × Means IsCertificate c anchor × (IsSelfNamed c → ⊥)

-- the string begins with a certificate whose issuer isn't the subject of the one above it
abbrev pub BeginsForeign : CertFields → List ℕ → Type 0
BeginsForeign above octets =
    (c : CertFields) × Means IsCertificate c octets × (IsNamedBelow above c → ⊥)

-- the member at this place is the first whose names don't chain
abbrev pub IsUnchained : List ℕ → List Candidate → ℕ → Type 0
IsUnchained anchor below place =
    ((place ≡ 0) × BeginsTwoNamed anchor) ⊎ IsFoundBelow BeginsForeign anchor below place

-- the names of the strings above the error's index chain, and this is why no certificate is read
-- there
abbrev pub IsUnreadBelow : List ℕ → List Candidate → PathError → Type 0
IsUnreadBelow anchor below e =
    ((e.index ≡ 0) × IsUnread anchor e.fault)
    ⊎ IsFoundBelow (λ above octets. IsUnread octets e.fault) anchor below e.index

-- what is answered of the names of these strings: that they chain, the first place where they
-- don't, or the first one where no certificate is read
abbrev pub TellsNames : PathStrings → Result (Option ℕ) PathError → Type 0
TellsNames g (Ok None) = BeginChained g.anchor (strings_below g)
TellsNames g (Ok (Some place)) = IsUnchained g.anchor (strings_below g) place
TellsNames g (Err e) = IsUnreadBelow g.anchor (strings_below g) e
