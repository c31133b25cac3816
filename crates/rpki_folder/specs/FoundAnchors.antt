-- Which certificate of a folder is the trust anchor of a locator (RFC 8630 3; own: which of several).
use Rattle.std.specs.Cmp.Lexicographic.{slice_cmp}
use Rattle.std.specs.List.{AllByRecursion}
use Rattle.std.specs.Ordering.{nat_cmp, ordering_then}
use Rattle.std.specs.declared.cmp.Ordering.{Ordering}
use Rattle.std.specs.declared.cmp.Ordering.TheVariants.{Less}
use Rattle.std.specs.Prelude.{◌≡◌, ◌≢◌, ◌<◌, ℕ, Bool, List, [], ◌∷◌, length, Any}
use Rattle.rpki_der.specs.Times.{second_number}
use Rattle.rpki_cert.specs.Certificates.{CertFields}
use Rattle.rpki_cert.specs.Verification.{Context}
use Rattle.rpki_keys.specs.Locators.{NamedTal}
use Rattle.rpki_path.specs.Asking.{RevocationChecks}
use Rattle.rpki_path.specs.LocatedPaths.{BeginsWithKey}
use Rattle.rpki_folder.specs.Folders.{string_at}
use Rattle.rpki_folder.specs.Walks.{IsValidAnchor, IsWhyNone, LeadsTo, StandsAt, at_anchor}
use Rattle.rpki_folder.specs.declared.anchors.FoundAnchor.{FoundAnchor}
use Rattle.rpki_folder.specs.declared.anchors.FoundAnchor.TheVariants.{Valid, Wrong}
use Rattle.rpki_folder.specs.declared.anchors.WrongCandidate.{WrongCandidate}
use Rattle.rpki_folder.specs.declared.walk_error.WalkError.{WalkError}
use Rattle.rpki_folder.specs.declared.walk_error.WalkError.TheVariants.{Memory}
pub mod Steps

-- how two certificates stand as trust anchors of a key (own): that with the later notAfter is the
-- greater one, then that with the later notBefore, then that with the greater signed octets, and then
-- that with the greater signature
abbrev pub anchor_order : CertFields → CertFields → Ordering
anchor_order c d =
    let ends = nat_cmp (second_number c.fields.validity.not_after)
    (second_number d.fields.validity.not_after) in
    let begins = nat_cmp (second_number c.fields.validity.not_before)
    (second_number d.fields.validity.not_before) in
    let messages = slice_cmp nat_cmp c.signed_data.message d.signed_data.message in
    ordering_then (ordering_then (ordering_then ends begins) messages)
    (slice_cmp nat_cmp c.signed_data.signature.value d.signed_data.signature.value)

-- the certificate at a place has the locator's key, and is valid as its trust anchor
pub record IsValidAt (x : Context) (asked : RevocationChecks) (names : Bool) (t : NamedTal)
    (certs : List (List ℕ)) (place : ℕ) (c : CertFields) : Type 0 where
  pub inside : place < length certs
  pub stands : StandsAt certs place c
  pub is_valid : IsValidAnchor x asked names t (string_at certs place)

-- the trust anchor stands at this place: a valid one, and no other valid one is greater, wherever
-- it stands
pub record IsAnchorAt (x : Context) (asked : RevocationChecks) (names : Bool) (t : NamedTal)
    (certs : List (List ℕ)) (place : ℕ) : Type 0 where
  pub cert : CertFields
  pub valid : IsValidAt x asked names t certs place cert
  pub greatest : (k : ℕ) (d : CertFields) → IsValidAt x asked names t certs k d
      → anchor_order cert d ≡ Less → ⊥

-- no certificate is a valid trust anchor of the locator
abbrev pub HasNoValid : Context → RevocationChecks → Bool → NamedTal → List (List ℕ) → Type 0
HasNoValid x asked names t certs =
    (place : ℕ) (c : CertFields) → IsValidAt x asked names t certs place c → ⊥

-- the octets begin with a certificate of the locator's key, and this is wrong with it as the trust
-- anchor
pub record IsWrongAnchor (x : Context) (asked : RevocationChecks) (names : Bool) (t : NamedTal)
    (octets : List ℕ) (error : WalkError) : Type 0 where
  pub has_key : BeginsWithKey t.tal octets
  pub no_memory : error ≢ Memory
  pub why : IsWhyNone x asked names t octets error

-- the places ascend
abbrev pub HaveAscendingPlaces : List WrongCandidate → Type 0
HaveAscendingPlaces [] = Unit {0}
HaveAscendingPlaces (w ∷ more) = AllByRecursion (λ v. w.place < v.place) more × HaveAscendingPlaces more

-- of the first n certificates these have the locator's key, each with what is wrong with it as the
-- trust anchor, in their order
pub record AreWrongAnchors (x : Context) (asked : RevocationChecks) (names : Bool) (t : NamedTal)
    (certs : List (List ℕ)) (n : ℕ) (wrong : List WrongCandidate) : Type 0 where
  pub inside : AllByRecursion (λ w. w.place < n) wrong
  pub each : AllByRecursion (λ w. IsWrongAnchor x asked names t (string_at certs w.place) w.error) wrong
  pub all : (place : ℕ) → place < n → BeginsWithKey t.tal (string_at certs place)
      → Any (λ w. w.place ≡ place) wrong
  pub ascending : HaveAscendingPlaces wrong

-- what is found: where the trust anchor stands, and what it holds; or that none is valid, and what
-- is wrong with each certificate that has the locator's key
abbrev pub IsFound : Context → RevocationChecks → Bool → NamedTal → List (List ℕ) → FoundAnchor → Type 0
IsFound x asked names t certs (Valid place r) =
    LeadsTo x asked (at_anchor t (string_at certs place)) [] r × IsAnchorAt x asked names t certs place
IsFound x asked names t certs (Wrong wrong) =
    AreWrongAnchors x asked names t certs (length certs) wrong.items × HasNoValid x asked names t certs
