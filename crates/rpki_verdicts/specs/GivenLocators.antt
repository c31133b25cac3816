-- Files that are given as locators, and whether a trust anchor is one's (RFC 8630 3).
use Rattle.std.specs.Prelude.{◌≡◌, ◌<◌, ℕ, Bool, Any, IsOkAnd, List, [], ◌∷◌, map, slice_get, Option, Some, None, Result, Ok}
use Rattle.rpki_parts.specs.Keys.{KeyFields}
use Rattle.rpki_path.specs.LocatedPaths.{BeginsWithKey, BeginsWithNumbers, IsLocatorOf}
use Rattle.rpki_keys.specs.Locators.{NamedTal}
use Rattle.rpki_keys.specs.declared.tal.tal_error.TalError.{TalError}
use Rattle.rpki_files.specs.Files.{FileFields, contents}
use Rattle.rpki_files.specs.LocatorFiles.{IsReadAs}

-- ---- files

-- a file that is given as a locator, and what was read of it
pub record LocatorFields : Type 0 where
  pub file : FileFields
  pub read : Result NamedTal TalError

-- the files
abbrev pub locator_files : List LocatorFields → List FileFields
locator_files locators = map (λ l. l.file) locators

-- the octets of each
abbrev pub locator_octets : List LocatorFields → List (List ℕ)
locator_octets locators = contents (locator_files locators)

-- this was read of the file
abbrev pub IsRead : Bool → LocatorFields → Type 0
IsRead strict l = IsReadAs strict l.file.octets l.read

-- the file was read as a locator of this key
abbrev pub HasKeyRead : KeyFields → LocatorFields → Type 0
HasKeyRead key l = IsOkAnd l.read (λ t. key ≡ t.tal.key)

-- this was read of one of them, which is a locator of the key
abbrev pub HasTalRead : List LocatorFields → KeyFields → NamedTal → Type 0
HasTalRead locators key t = Any (λ l. l.read ≡ Ok t) locators × (key ≡ t.tal.key)

-- ---- the trust anchor

-- the file begins with a certificate that has the key of one of the locators, of which this was
-- read (RFC 8630 3)
abbrev pub IsAnchorOf : List LocatorFields → NamedTal → FileFields → Type 0
IsAnchorOf locators t file = Any (λ l. l.read ≡ Ok t) locators × BeginsWithKey t.tal file.octets

abbrev pub HasLocator : List LocatorFields → FileFields → Type 0
HasLocator locators file = (t : NamedTal) × IsAnchorOf locators t file

-- one of the files is the trust anchor's locator; where none is given, that isn't asked
abbrev pub IsLocated : Bool → List (List ℕ) → List ℕ → Type 0
IsLocated strict [] anchor = Unit {0}
IsLocated strict (file ∷ files) anchor = Any (IsLocatorOf strict anchor) (file ∷ files)

-- if a locator is given, the trust anchor lists a number (RFC 8630 2.3)
abbrev pub HasNumbersIf : List (List ℕ) → List ℕ → Type 0
HasNumbersIf [] anchor = Unit {0}
HasNumbersIf (file ∷ files) anchor = BeginsWithNumbers anchor

-- the first of which this holds stands at this place; or it holds of none
abbrev pub IsFirstThat : {X : Type 0} → (X → Type 0) → List X → Option ℕ → Type 0
IsFirstThat Holds xs None = Any Holds xs → ⊥
IsFirstThat {X} Holds xs (Some place) =
    (x : X) × (slice_get xs place ≡ Some x) × Holds x
    × ((k : ℕ) → k < place → (earlier : X) → slice_get xs k ≡ Some earlier → Holds earlier → ⊥)

-- this was read of the first of them that was read as a locator of the key
abbrev pub IsFirstTalRead : List LocatorFields → KeyFields → NamedTal → Type 0
IsFirstTalRead locators key t =
    (place : ℕ) × IsFirstThat (HasKeyRead key) locators (Some place)
    × ((l : LocatorFields) × (slice_get locators place ≡ Some l) × (l.read ≡ Ok t))
