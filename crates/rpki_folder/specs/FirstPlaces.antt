-- The first places of strings that were added one after the other, and so of the certificates of a
-- folder (own).
use Rattle.std.specs.Prelude.{◌≡◌, ◌+◌, ℕ, List, [], ◌∷◌, ◌++◌, Option, None, Some, if◌then◌else◌, bytes_eq, map}
use Rattle.std.specs.Prelude.{slice_index_or}
use Rattle.std.specs.List.{AllZip}
use Rattle.std.specs.Ordering.{nat_cmp}
use Rattle.std.specs.Cmp.Lexicographic.{slice_cmp}
use Rattle.std.specs.BTreeMap.{get}
use Rattle.rpki_cert.specs.Certificates.{CertFields, IsCertificate}
use Rattle.rpki_folder.specs.declared.firsts.Firsts.{Firsts}

-- if the first of the strings stands at this place: the place of the first that is this one
abbrev pub first_from : ℕ → List (List ℕ) → List ℕ → Option ℕ
first_from place [] octets = None
first_from place (s ∷ strings) octets =
    if bytes_eq s octets then Some place else first_from (place + 1) strings octets

-- the table has the first places of these strings
pub record AreFirsts (strings : List (List ℕ)) (table : Firsts) : Type 0 where
  pub found : (octets : List ℕ)
      → get (slice_cmp nat_cmp) table.places octets ≡ first_from 0 strings octets
  pub each : map (λ place. Some place) table.firsts.items ≡ map (first_from 0 strings) strings

-- the octets begin with a certificate, and these are its own
abbrev pub IsCertificateOctets : List ℕ → List ℕ → Type 0
IsCertificateOctets octets own =
    (c : CertFields) × IsCertificate c own × ((rest : List ℕ) × (octets ≡ own ++ rest))

-- the table has the first place of each of the certificates with which these octets begin
abbrev pub AreFirstsIn : List (List ℕ) → Firsts → Type 0
AreFirstsIn certs table =
    (own : List (List ℕ)) × AllZip IsCertificateOctets certs own × AreFirsts own table

-- the place that the table has for this one
abbrev pub first_place_of : Firsts → ℕ → ℕ
first_place_of table place = slice_index_or table.firsts.items place place

-- the table has this place for itself: there each certificate is let in once
abbrev pub IsFirstIn : Firsts → List ℕ → ℕ → Type 0
IsFirstIn table above place = first_place_of table place ≡ place
