-- A table of first places lets in each certificate at one place.
use Rattle.std.proofs.Common.{◌≡◌, ◌<◌, ◌≤◌, ℕ, List, sym, subst, ◌∙◌, inl, inr, arith}
use Rattle.rpki_der.specs.Values.{IsUnambiguous, enc}
use Rattle.rpki_der.proofs.Formats.{one_meant}
use Rattle.rpki_ext.specs.Kinds.{Means}
use Rattle.rpki_parts.specs.SignedDatas.{signed_data}
use Rattle.rpki_cert.specs.Certificates.{CertFields, IsCertificate}
use Rattle.rpki_cert.proofs.CertificateFormats.{certificate_is}
use Rattle.rpki_folder.specs.FirstPlaces.{AreFirstsIn, first_place_of}
use Rattle.rpki_folder.specs.Folders.{string_at, IsFirst, IsFirstPlaceOf}
use Rattle.rpki_folder.specs.Walks.{StandsAt}
use Rattle.rpki_folder.specs.declared.firsts.Firsts.{Firsts}
use Rattle.rpki_folder.proofs.Descent.{less-or-not, there as inside_at}
use Rattle.rpki_folder.proofs.FirstSteps.{is_first_of}

-- a certificate has one first place
one_first : (certs : List (List ℕ)) (c : CertFields) (one other : ℕ) → StandsAt certs one c → StandsAt certs other c →
    IsFirst certs one → IsFirst certs other → one ≡ other
one_first certs c one other here there first_one first_other = elim (less-or-not one other) [
  | inl low ↦ absurd (first_other one low (c, there, here))
  | inr high ↦ elim (less-or-not other one) [
    | inl low ↦ absurd (first_one other low (c, here, there))
    | inr low ↦ omega (arith, high, low)
  ]
]

octets_kept : (c : CertFields) (octets : List ℕ) → IsCertificate c octets → octets ≡ signed_data c.signed_data
unfolding enc
octets_kept c octets is = certificate_is c octets is

module _ (law : IsUnambiguous IsCertificate) (certs : List (List ℕ)) (table : Firsts) (are : AreFirstsIn certs table) (c : CertFields) where
  first_is : (place : ℕ) → StandsAt certs place c → IsFirstPlaceOf certs place (first_place_of table place)
  first_is place stands = is_first_of law octets_kept certs table are place (inside_at certs c place stands)

  -- the certificate stands at the first place
  pub stands_first : (place : ℕ) → StandsAt certs place c → StandsAt certs (first_place_of table place) c
  stands_first place stands =
      let one = (first_is place stands).one in
      let same : one.0 ≡ c = one_meant IsCertificate law one.0 c (string_at certs place) one.1 stands in
      subst (λ (d : CertFields). StandsAt certs (first_place_of table place) d) same one.2

  -- which is its own first
  pub first_itself : (place : ℕ) → StandsAt certs place c → first_place_of table (first_place_of table place) ≡ first_place_of table place
  first_itself place stands =
      let first = first_place_of table place in
      let there = stands_first place stands in
      one_first certs c (first_place_of table first) first (stands_first first there) there (first_is first there).is_first
      (first_is place stands).is_first

  -- and the only one
  pub first_once : (place other : ℕ) → StandsAt certs place c → StandsAt certs other c →
      first_place_of table place ≡ place → first_place_of table other ≡ other → place ≡ other
  first_once place other here there is other_is =
      sym is
      ∙ one_first certs c (first_place_of table place) (first_place_of table other) (stands_first place here)
      (stands_first other there) (first_is place here).is_first (first_is other there).is_first
      ∙ other_is
