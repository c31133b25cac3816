-- What the steps give by which named paths are kept.
use Rattle.std.specs.BTreeMap.{get}
use Rattle.std.specs.Ordering.{nat_cmp}
use Rattle.std.specs.Prelude.{◌≡◌, ℕ, List, [], map, refl, slice_get, unwrap_or, MatchOption, Option, None, IsSome}
use Rattle.std.specs.Global.{Vec}
use Rattle.rpki_files.specs.Files.{FileFields}
use Rattle.rpki_folder.specs.KeptLines.{AreLines, BecameLines}
use Rattle.rpki_folder.specs.Walks.{Told}
use Rattle.rpki_folder.specs.declared.find.FoundPath.{FoundPath}
use Rattle.rpki_path.specs.declared.judging.Judged.{Judged}
use Rattle.rpki_verdicts.specs.NamedPaths.{AreNamedPaths, HasSome}
use Rattle.rpki_verdicts.specs.ShownPaths.{NamesIssuerAt, IsNamedPath, placed}
use Rattle.rpki_verdicts.specs.declared.named_paths.NamedLines.{NamedLines}
use Rattle.rpki_verdicts.specs.declared.named_paths.NameRule.{NameRule}

-- ---- names

-- for each of the certificates the place of the file that it names
abbrev pub AreNames : List FileFields → List (Option ℕ) → Type 0
AreNames certs names = (place : ℕ) → NamesIssuerAt certs place (unwrap_or (slice_get names place) None)

-- the certificates of a rule, under their names below the directory that is named
abbrev pub certs_in : NameRule → List FileFields
certs_in rule = map (λ file. placed rule.root.now file.now) rule.certs.now

-- the names, where they are known, are right
abbrev pub AreRight : NameRule → Option (Vec (Option ℕ)) → Type 0
AreRight rule names = MatchOption names (Unit {0}) (λ known. AreNames (certs_in rule) known.items)

-- the path by these CAs is the named one
abbrev pub IsNamedHere : NameRule → ℕ → List ℕ → Type 0
IsNamedHere rule place above = IsNamedPath (certs_in rule) rule.firsts.now rule.anchor place above

-- ---- one verdict

-- the path of a verdict is to be kept: it is the named one, and none is kept
pub record IsChosen (lines : NamedLines) (above : List ℕ) (place : ℕ) (judged : Judged) (path : FoundPath)
    : Type 0 where
  pub above_is : path.above.items ≡ above
  pub judged_is : path.judged ≡ judged
  pub named : IsNamedHere lines.rule place above
  pub none : get nat_cmp lines.paths place ≡ None

-- it isn't: if it is the named one, the line has no path, or one is kept
abbrev pub IsPassed : NamedLines → List ℕ → ℕ → Type 0
IsPassed lines above place =
    IsNamedHere lines.rule place above → HasSome (slice_get lines.lines place)
    → IsSome (get nat_cmp lines.paths place)

-- ---- all verdicts

-- these named paths are kept of the verdicts, beside the lines
abbrev pub AreNamedKept : NamedLines → List Told → Type 0
AreNamedKept lines ts =
    AreNamedPaths (certs_in lines.rule) lines.rule.firsts.now lines.rule.anchor ts lines.lines lines.paths

-- lines with named paths are these, once these verdicts were told, where nothing was told of the first
pub record BecameNamed (lines : NamedLines) (ts : List Told) (later : NamedLines) : Type 0 where
  pub rule_is : later.rule ≡ lines.rule
  pub lines_are : BecameLines lines.lines ts later.lines
  pub right : AreRight lines.rule lines.names → AreRight later.rule later.names
  pub paths_are : AreRight lines.rule lines.names → AreLines [] lines.lines → AreNamedKept lines []
      → AreNamedKept later ts

-- where nothing was told they stay
pub named_begins : (lines : NamedLines) → BecameNamed lines [] lines
named_begins lines = record {
  rule_is = refl;
  lines_are = (refl, λ none. none);
  right = λ right. right;
  paths_are = λ right none kept. kept;
}
