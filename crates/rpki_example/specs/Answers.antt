-- What an answer about a path says.
use Rattle.std.specs.Prelude.{◌↔◌, ℕ, Bool, List, Result, Ok, Err, None, IsTrue}
use Rattle.rpki.specs.Paths.{Path, last, candidates, IsPathOf, IsValidPath, IsNoValidPath, Holds, system_numbers, UnlessMemory}
use Rattle.rpki.specs.PathError.{PathError}
use Rattle.rpki.specs.Asking.{RevocationChecks}
use Rattle.rpki.specs.Verification.{Context}

-- the strings are a valid path, no member of which is revoked by who is asked, and the answer tells
-- whether its last member holds the AS number
pub record IsHeld (x : Context) (asked : RevocationChecks) (anchor : List ℕ) (cas : List (List ℕ)) (asn : ℕ) (answer : Bool) : Type 0 where
  pub path : Path
  pub path_of : IsPathOf anchor (candidates cas None) path
  pub is_valid : IsValidPath x asked path
  pub held : IsTrue answer ↔ Holds path (last path) system_numbers asn

-- an error, that the strings are no such path, unless it ran out of memory
abbrev pub TellsHeld : Context → RevocationChecks → List ℕ → List (List ℕ) → ℕ → Result Bool PathError → Type 0
TellsHeld x asked anchor cas asn (Ok answer) = IsHeld x asked anchor cas asn answer
TellsHeld x asked anchor cas asn (Err e) = UnlessMemory e.fault (IsNoValidPath x asked anchor (candidates cas None))
