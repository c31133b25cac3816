-- Searches for a valid path to one certificate of a folder.
use Rattle.std.specs.Prelude.{◌≡◌, ◌+◌, ℕ, Bool, List, [], ◌∷◌, ◌++◌, length, Option, None, Some, Ok, IsOk}
use Rattle.std.specs.List.{AllByRecursion}
use Rattle.std.proofs.Common.{sym, subst}
use Rattle.rpki_ext.specs.Kinds.{Means}
use Rattle.rpki_cert.specs.Certificates.{CertFields, IsCertificate}
use Rattle.rpki_cert.specs.Verification.{Context}
use Rattle.rpki_keys.specs.Locators.{NamedTal}
use Rattle.rpki_path.specs.Asking.{RevocationChecks}
use Rattle.rpki_folder.specs.Folders.{string_at, cas_at}
use Rattle.rpki_folder.specs.KeptLines.{IsToldBy}
use Rattle.rpki_folder.specs.Walks.{at_anchor, IsRightOf, IsReached, Told, TellsFrom, Covers, AreAdmitted, IsLookedAt}
use Rattle.rpki_folder.specs.declared.walk_error.WalkError.{WalkError}
use Rattle.rpki_folder.specs.declared.find.Found.{Found}
use Rattle.rpki_folder.specs.declared.find.FoundPath.{FoundPath}
use Rattle.rpki_folder.specs.declared.find.Found.TheVariants.{Valid, NotFound}

-- what was found of the certificate at the place among these verdicts: one that accepts it, or none
abbrev pub IsSought : ℕ → List Told → Option FoundPath → Type 0
IsSought place ts None = AllByRecursion (λ t. t.place ≡ place → IsOk t.verdict → ⊥) ts
IsSought place ts (Some path) = IsToldBy ts place path

-- what a search for the certificate at the place found, below the locator's trust anchor with these
-- octets: a valid path that leads to it, by certificates that are looked at, and what it holds; or
-- that none does that was looked at, by a walk that ended so
abbrev pub IsFound : Context → RevocationChecks → Bool → (List ℕ → ℕ → Type 0) → NamedTal → List ℕ
    → List (List ℕ) → ℕ → ℕ → ℕ → Found → Type 0
IsFound x asked names admits t anchor certs depth steps place (Valid path) =
    let above = path.above.items in
    IsRightOf x asked (at_anchor t anchor) (cas_at certs above) (string_at certs place)
    (Ok path.judged)
    × ((top : CertFields) → Means IsCertificate top anchor
    → AreAdmitted (IsLookedAt names admits top certs) [] (above ++ place ∷ []))
IsFound x asked names admits t anchor certs depth steps place (NotFound ended) =
    ((top : CertFields) (above : List ℕ) → Means IsCertificate top anchor
    → Covers ended depth (length above + 1)
    → AreAdmitted (IsLookedAt names admits top certs) [] (above ++ place ∷ [])
    → IsReached x asked (at_anchor t anchor) certs above place → ⊥)
    × ((told : List Told)
    × TellsFrom {E = WalkError} x asked names admits t anchor certs depth steps (Ok ended) told)

-- at the beginning none was found
pub sought_begins : (place : ℕ) (found : Option FoundPath) → found ≡ None → IsSought place [] found
sought_begins place found none = subst (λ (f : Option FoundPath). IsSought place [] f) (sym none) tt
