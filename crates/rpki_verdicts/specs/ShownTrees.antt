-- Which path of a tree is shown, of all that its walk told (own).
use Rattle.std.specs.Prelude.{◌≡◌, ℕ, List, Some}
use Rattle.rpki_cert.specs.Verification.{Context}
use Rattle.rpki_folder.specs.KeptLines.{paths_in}
use Rattle.rpki_folder.specs.Walks.{IsTold}
use Rattle.rpki_folder.specs.declared.find.FoundPath.{FoundPath}
use Rattle.rpki_folder.specs.declared.lines.AcceptedPaths.{AcceptedPaths}
use Rattle.rpki_folder.specs.declared.lines.Line.TheVariants.{Accepted}
use Rattle.rpki_verdicts.specs.GivenLocators.{LocatorFields}
use Rattle.rpki_verdicts.specs.ShownPaths.{IsNamedPath, IsShownPath, choice_of, named_in, placed_of}
use Rattle.rpki_verdicts.specs.TreeParts.{AreTreesOf}
use Rattle.rpki_verdicts.specs.Trees.{IsTreeOf, TreeFields, line_at}
use Rattle.rpki_verdicts.specs.declared.parts.Trees.{Trees}
use Rattle.rpki_verdicts.specs.declared.unordered.Tree.{Tree}

-- If the walk of a tree accepted a certificate by a named path, that path is the one that is shown,
-- whatever else is among the files
abbrev pub ShowsNamed : Context → TreeFields → Type 0
ShowsNamed x q =
    (trees : Trees) → AreTreesOf x q trees → (l : LocatorFields) (tree : Tree) (is : IsTreeOf x q l tree)
    (place : ℕ) (above : List ℕ) (paths : AcceptedPaths) (path : FoundPath)
    → IsTold is.told above place
    → IsNamedPath (placed_of trees) tree.firsts tree.anchor place above
    → line_at tree place ≡ Some (Accepted paths)
    → IsShownPath (placed_of trees) tree place (choice_of (paths_in paths) (named_in tree place)) path
    → path.above.items ≡ above
