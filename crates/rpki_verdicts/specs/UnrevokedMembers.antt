-- What the lists that were given say of the members of an accepted path (RFC 6487 7.2).
use Rattle.std.specs.Prelude.{Bool, List, [], ◌∷◌, ℕ, Any}
use Rattle.rpki_der.specs.Encoding.{Means}
use Rattle.rpki_cert.specs.Certificates.{CertFields, IsCertificate}
use Rattle.rpki_crl.specs.Lists.{CrlFields, IsCertificateList}
use Rattle.rpki_path.specs.AskedLists.{LeavesUnrevoked}
use Rattle.rpki_cert.specs.Verification.{Context}

-- one of the files is the list
abbrev pub IsGivenAmong : List (List ℕ) → CrlFields → Type 0
IsGivenAmong files l = Any (λ octets. IsCertificateList l octets) files

-- Of the octets of a member, below those of its issuer: a list that was given names the issuer's
-- key and is signed by it, has the issuer's name if names are asked, is current, and doesn't have
-- the member's serial number.
pub record IsUnrevokedBelow (names : Bool) (x : Context) (lists : List (List ℕ))
    (above octets : List ℕ) : Type 0 where
  pub issuer : CertFields
  pub issuer_begins : Means IsCertificate issuer above
  pub member : CertFields
  pub member_begins : Means IsCertificate member octets
  pub list : CrlFields
  pub is_given : IsGivenAmong lists list
  pub unrevoked : LeavesUnrevoked names x issuer.fields member list

-- of each of these, below the one before it, and of the first below these octets
abbrev pub AreUnrevokedBelow : Bool → Context → List (List ℕ) → List ℕ → List (List ℕ) → Type 0
AreUnrevokedBelow names x lists above [] = Unit {0}
AreUnrevokedBelow names x lists above (octets ∷ more) =
    IsUnrevokedBelow names x lists above octets × AreUnrevokedBelow names x lists octets more

-- of each file of a path but that of the trust anchor
abbrev pub AreUnrevoked : Bool → Context → List (List ℕ) → List (List ℕ) → Type 0
AreUnrevoked names x lists [] = Unit {0}
AreUnrevoked names x lists (anchor ∷ below) = AreUnrevokedBelow names x lists anchor below
