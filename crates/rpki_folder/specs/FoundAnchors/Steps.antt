-- What is found of certificates as trust anchors, one after the other.
use Rattle.std.specs.declared.cmp.Ordering.TheVariants.{Less}
use Rattle.std.specs.Prelude.{◌≡◌, ◌⊎◌, ◌<◌, ℕ, Bool, IsTrue, List, [], ◌∷◌, ◌++◌}
use Rattle.std.specs.Global.{Vec}
use Rattle.rpki_cert.specs.Certificates.{CertFields}
use Rattle.rpki_cert.specs.Verification.{Context}
use Rattle.rpki_keys.specs.Locators.{NamedTal}
use Rattle.rpki_path.specs.Asking.{RevocationChecks}
use Rattle.rpki_path.specs.LocatedPaths.{BeginsWithKey}
use Rattle.rpki_path.specs.NameChains.{IsSelfNamed}
use Rattle.rpki_folder.specs.Folders.{string_at}
use Rattle.rpki_folder.specs.FoundAnchors.{AreWrongAnchors, IsValidAt, IsWrongAnchor, anchor_order}
use Rattle.rpki_folder.specs.Walks.{LeadsTo, at_anchor}
use Rattle.rpki_folder.specs.declared.anchors.FoundAnchor.{FoundAnchor}
use Rattle.rpki_folder.specs.declared.anchors.FoundAnchor.TheVariants as found
use Rattle.rpki_folder.specs.declared.anchors.Tried.{Tried}
use Rattle.rpki_folder.specs.declared.anchors.Tried.TheVariants.{OtherKey, Valid, Wrong}
use Rattle.rpki_folder.specs.declared.anchors.WrongCandidate.{WrongCandidate}

-- what is found of the octets of a certificate: it has another key than the locator; it is a valid
-- trust anchor, and holds this; or it is wrong so
abbrev pub IsTried : Context → RevocationChecks → Bool → NamedTal → List ℕ → Tried → Type 0
IsTried x asked names t octets OtherKey = BeginsWithKey t.tal octets → ⊥
IsTried x asked names t octets (Valid r) =
    LeadsTo x asked (at_anchor t octets) [] r × (IsTrue names → IsSelfNamed r.cert)
IsTried x asked names t octets (Wrong error) = IsWrongAnchor x asked names t octets error

-- what is kept of what was found before, once this was found of the certificate at a place
abbrev pub IsKeptFound : FoundAnchor → ℕ → Tried → FoundAnchor → Type 0
IsKeptFound old place OtherKey new = new ≡ old
IsKeptFound (found.Valid k r) place (Wrong error) new = new ≡ found.Valid k r
IsKeptFound (found.Wrong wrong) place (Wrong error) new =
    (more : Vec WrongCandidate) × (new ≡ found.Wrong more)
    × (more.items ≡ wrong.items ++ record { place = place; error = error } ∷ [])
IsKeptFound (found.Valid k s) place (Valid r) new =
    ((anchor_order s.cert r.cert ≡ Less) × (new ≡ found.Valid place r))
    ⊎ ((anchor_order s.cert r.cert ≡ Less → ⊥) × (new ≡ found.Valid k s))
IsKeptFound (found.Wrong wrong) place (Valid r) new = new ≡ found.Valid place r

-- of the first n certificates this is a valid trust anchor, and no valid one is greater; or none is
-- valid, and this is wrong with those that have the locator's key
abbrev pub IsFoundAmong : Context → RevocationChecks → Bool → NamedTal → List (List ℕ) → ℕ
    → FoundAnchor → Type 0
IsFoundAmong x asked names t certs n (found.Valid place r) =
    LeadsTo x asked (at_anchor t (string_at certs place)) [] r
    × IsValidAt x asked names t certs place r.cert
    × ((k : ℕ) (c : CertFields) → k < n → IsValidAt x asked names t certs k c
    → anchor_order r.cert c ≡ Less → ⊥)
IsFoundAmong x asked names t certs n (found.Wrong wrong) =
    AreWrongAnchors x asked names t certs n wrong.items
    × ((k : ℕ) (c : CertFields) → k < n → IsValidAt x asked names t certs k c → ⊥)
