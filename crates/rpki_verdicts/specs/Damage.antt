-- Files among others that damage a cache: those that nothing can be asked of (own; how a name ends: RFC
-- 6481 2.2).
use Rattle.std.specs.List.{ends_with}
use Rattle.std.specs.Prelude.{◌≡◌, ◌⊎◌, ◌+◌, ◌&&◌, ◌||◌, ℕ, Bool, not, IsTrue, List, [], ◌∷◌, codes, nat_eq}
use Rattle.rpki_files.specs.Contents.{BeginsWithCertificate, IsList}
use Rattle.rpki_files.specs.Files.{FileFields}
use Rattle.rpki_files.specs.LocatorFiles.{looks_like_locator}

-- the file begins with no certificate, and is no list
abbrev pub IsNeither : FileFields → Type 0
IsNeither file = (BeginsWithCertificate file.octets → ⊥) × (IsList file.octets → ⊥)

-- it has the name of a list
abbrev pub is_list_name : List ℕ → Bool
is_list_name name = ends_with nat_eq name (codes ".crl")

-- a file that has the name of a list and is none
abbrev pub IsBrokenList : FileFields → Type 0
IsBrokenList file = IsNeither file × IsTrue (is_list_name file.name)

-- it has the name of a signed object (IANA, RPKI Repository Name Schemes)
abbrev pub is_object_name : List ℕ → Bool
is_object_name name =
    ends_with nat_eq name (codes ".roa") || (ends_with nat_eq name (codes ".mft")
    || (ends_with nat_eq name (codes ".gbr") || (ends_with nat_eq name (codes ".asa")
    || (ends_with nat_eq name (codes ".tak") || (ends_with nat_eq name (codes ".sig")
    || ends_with nat_eq name (codes ".spl"))))))

-- it has the name of a file that isn't read here: of a list that is none, or of a signed object
abbrev pub is_named_apart : List ℕ → Bool
is_named_apart name = is_list_name name || is_object_name name

-- another one that is neither, has no such name, and doesn't look like a locator
abbrev pub IsUnknownFile : FileFields → Type 0
IsUnknownFile file =
    IsNeither file × IsTrue (not (is_named_apart file.name) && not (looks_like_locator file.octets))

-- so many of the files are such
abbrev pub AreSoMany : (FileFields → Type 0) → List FileFields → ℕ → Type 0
AreSoMany Is [] n = n ≡ 0
AreSoMany Is (file ∷ files) n =
    ((Is file → ⊥) × AreSoMany Is files n)
    ⊎ ((more : ℕ) × Is file × AreSoMany Is files more × (n ≡ more + 1))
