-- The named path to a certificate, beside a line that has others (own): of the paths that a walk finds a
-- line keeps the first eight, and in which order a walk finds them is up to whoever writes certificates
-- into the cache.
use Rattle.std.specs.BTreeMap.{BTreeMap, get}
use Rattle.std.specs.Ordering.{nat_cmp}
use Rattle.std.specs.Prelude.{◌≡◌, ◌⊎◌, ◌<◌, ℕ, List, length, slice_get, Option, Some, IsSome}
use Rattle.rpki_files.specs.Files.{FileFields}
use Rattle.rpki_folder.specs.KeptLines.{IsToldBy}
use Rattle.rpki_folder.specs.Walks.{IsTold, Told}
use Rattle.rpki_folder.specs.declared.find.FoundPath.{FoundPath}
use Rattle.rpki_folder.specs.declared.firsts.Firsts.{Firsts}
use Rattle.rpki_folder.specs.declared.lines.AcceptedPaths.{AcceptedPaths}
use Rattle.rpki_folder.specs.declared.lines.Line.{Line}
use Rattle.rpki_folder.specs.declared.lines.Line.TheVariants.{Accepted}
use Rattle.rpki_verdicts.specs.ShownPaths.{IsNamedPath}
pub mod Steps

-- the line has a path
abbrev pub HasSome : Option Line → Type 0
HasSome line = (paths : AcceptedPaths) × (line ≡ Some (Accepted paths))

-- its first path leads down by these CAs
abbrev pub HasFirst : Option Line → List ℕ → Type 0
HasFirst line above =
    (paths : AcceptedPaths) × (line ≡ Some (Accepted paths)) × (paths.first.above.items ≡ above)

-- Beside the lines that are kept of verdicts on these certificates, a path is kept to some of them. It is a
-- named one, by which a verdict accepted the certificate; and there is one wherever a verdict accepted the
-- certificate by a named path, unless that is the first of the line
pub record AreNamedPaths (certs : List FileFields) (firsts : Firsts) (anchor : ℕ) (told : List Told)
    (lines : List Line) (paths : BTreeMap ℕ FoundPath) : Type 0 where
  pub only : (place : ℕ) (path : FoundPath) → get nat_cmp paths place ≡ Some path
      → IsToldBy told place path × IsNamedPath certs firsts anchor place path.above.items
  pub all : (place : ℕ) (above : List ℕ) → place < length lines → IsTold told above place
      → IsNamedPath certs firsts anchor place above
      → HasFirst (slice_get lines place) above ⊎ IsSome (get nat_cmp paths place)
