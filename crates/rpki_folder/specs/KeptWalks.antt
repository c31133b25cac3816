-- What is kept of a walk over a folder, from the trust anchor of a locator (own).
use Rattle.std.specs.Prelude.{◌≡◌, ℕ, Bool, List, Ok, Option, Some, length}
use Rattle.rpki_cert.specs.Verification.{Context}
use Rattle.rpki_keys.specs.Locators.{NamedTal}
use Rattle.rpki_path.specs.AskedLists.{by_named_lists}
use Rattle.rpki_folder.specs.FirstPlaces.{AreFirstsIn, IsFirstIn, first_place_of}
use Rattle.rpki_folder.specs.Folders.{FolderFields, string_at}
use Rattle.rpki_folder.specs.FoundAnchors.{IsAnchorAt}
use Rattle.rpki_folder.specs.KeptLines.{AreLines}
use Rattle.rpki_folder.specs.LimitTables.{IsTableOf}
use Rattle.rpki_folder.specs.ReachedLimits.{AreLimitedFrom, LimitedCa}
use Rattle.rpki_folder.specs.Walks.{Told, TellsFrom}
use Rattle.rpki_folder.specs.declared.bounds.Ended.{Ended}
use Rattle.rpki_folder.specs.declared.firsts.Firsts.{Firsts}
use Rattle.rpki_folder.specs.declared.limits.LimitTable.{LimitTable}
use Rattle.rpki_folder.specs.declared.lines.Line.{Line}
use Rattle.rpki_folder.specs.declared.lines.Line.TheVariants.{Accepted}
use Rattle.rpki_folder.specs.declared.walk_error.WalkError.{WalkError}

-- The trust anchor of the locator stands at the place: the greatest of those that are valid. A walk from
-- it, over each certificate at its first place alone, with all lists of the folder, and with names if they
-- are asked, ended so, and told verdicts that are right and complete; the lines are those of its verdicts,
-- and the table has the limits that it reached.
pub record IsKeptWalk (x : Context) (names : Bool) (t : NamedTal) (f : FolderFields) (depth steps : ℕ)
    (anchor : ℕ) (firsts : Firsts) (lines : List Line) (limits : LimitTable) (ended : Ended) : Type 0 where
  pub anchor_is : IsAnchorAt x (by_named_lists names x f.lists) names t f.certs anchor
  pub firsts_are : AreFirstsIn f.certs firsts
  pub told : List Told
  pub tells : TellsFrom {E = WalkError} x (by_named_lists names x f.lists) names (IsFirstIn firsts) t
      (string_at f.certs anchor) f.certs depth steps (Ok ended) told
  pub count_is : length lines ≡ length f.certs
  pub lines_are : AreLines told lines
  pub limited : List LimitedCa
  pub limited_are : AreLimitedFrom x (by_named_lists names x f.lists) names (IsFirstIn firsts) t
      (string_at f.certs anchor) f.certs depth steps limited
  pub limits_are : IsTableOf (first_place_of firsts anchor) (length f.certs) limited limits

-- there is a line, and it accepts its certificate
abbrev pub IsAcceptedBy : Option Line → Type 0
IsAcceptedBy (Some (Accepted paths)) = Unit {0}
IsAcceptedBy _ = ⊥
