-- What is answered of files in no order: the trust anchor among them, and a line for each
-- certificate (RFC 6487 7.2, RFC 8630 3; own: the bounds).
use Rattle.std.specs.List.{AllByRecursion}
use Rattle.std.specs.Prelude.{◌≡◌, ◌==◌, ◌⊎◌, ℕ, List, [], ◌∷◌, length, map, slice_get, Any, Option, Some, Ok, Bool}
use Rattle.rpki_path.specs.Asking.{RevocationChecks}
use Rattle.rpki_path.specs.AskedLists.{by_named_lists}
use Rattle.rpki_folder.specs.FirstPlaces.{AreFirstsIn, IsFirstIn, first_place_of}
use Rattle.rpki_folder.specs.Folders.{FolderFields}
use Rattle.rpki_folder.specs.FoundAnchors.{HasNoValid, IsAnchorAt}
use Rattle.rpki_folder.specs.KeptLines.{AreLines}
use Rattle.rpki_folder.specs.LimitTables.{IsTableOf, reached_at}
use Rattle.rpki_folder.specs.ReachedLimits.{AreLimitedFrom, LimitedCa}
use Rattle.rpki_folder.specs.declared.limits.Reached.{Reached}
use Rattle.rpki_folder.specs.declared.lines.Line.{Line}
use Rattle.rpki_crl.specs.Lists.{CrlState}
use Rattle.rpki_path.specs.declared.located.LocatedError.TheVariants.{OtherKey, NoResources, Path as path}
use Rattle.rpki_path.specs.LocatedPaths.{BeginsWithKey}
use Rattle.rpki_keys.specs.Locators.{NamedTal}
use Rattle.rpki_der.specs.Times.{Moment}
use Rattle.rpki_cert.specs.Verification.{Context}
use Rattle.rpki_folder.specs.declared.walk_error.WalkError.{WalkError}
use Rattle.rpki_folder.specs.declared.walk_error.WalkError.TheVariants.{Anchor, OtherName, Memory}
use Rattle.rpki_folder.specs.Walks.{Told, TellsFrom, IsWhyNone}
use Rattle.rpki_files.specs.Contents.{BeginsWithCertificate}
use Rattle.rpki_verdicts.specs.Reasons.{IsPathReason, locator_reason, name_reason, resources_reason}
use Rattle.rpki_files.specs.Files.{FileFields, contents}
use Rattle.rpki_verdicts.specs.GivenLocators.{LocatorFields}
use Rattle.rpki_verdicts.specs.NamedPaths.{AreNamedPaths}
use Rattle.rpki_verdicts.specs.PathAnswers.{reason_of}
use Rattle.rpki_verdicts.specs.PathFiles.{AreListsOf}
use Rattle.rpki_verdicts.specs.ShownPaths.{placed_in}
use Rattle.rpki_verdicts.specs.declared.path.Fault.{Fault}
use Rattle.rpki_verdicts.specs.declared.unordered.Tree.{Tree}
use Rattle.rpki_verdicts.specs.declared.unordered.TreeAnswer.{TreeAnswer}
use Rattle.rpki_verdicts.specs.declared.unordered.TreeAnswer.TheVariants.{NoAnchor, Walked}
use Rattle.rpki_verdicts.specs.declared.unordered.TreeQuestion.{TreeQuestion}
use Rattle.rpki_verdicts.specs.declared.unordered.WrongAnchor.{WrongAnchor}
pub mod Steps

-- ---- what is asked

-- the files, those given as locators, with what the names begin of files below the directory that is
-- named, whether names have to chain, whether they are read strictly, the moment, how many certificates a
-- path has at most below the trust anchor, and how many are verified at most
pub record TreeFields : Type 0 where
  pub files : List FileFields
  pub locators : List LocatorFields
  pub root : List ℕ
  pub names : Bool
  pub strict : Bool
  pub at : Moment
  pub depth : ℕ
  pub steps : ℕ

-- by the question
abbrev pub asked_of : TreeQuestion → TreeFields
asked_of q = record {
  files = q.files.now;
  locators = q.locators.now;
  root = q.root.now;
  names = q.names;
  strict = q.strict;
  at = q.at;
  depth = q.depth;
  steps = q.steps;
}

-- ---- certificates and lists among files

-- those of the files that begin with certificates, in their order; a place is one among these
abbrev pub AreCertificatesOf : List FileFields → List FileFields → Type 0
AreCertificatesOf [] certs = certs ≡ []
AreCertificatesOf (file ∷ files) certs =
    ((BeginsWithCertificate file.octets → ⊥) × AreCertificatesOf files certs)
    ⊎ ((rest : List FileFields) × BeginsWithCertificate file.octets
    × AreCertificatesOf files rest × (certs ≡ file ∷ rest))

-- the folder has those certificates, and the lists that files are
pub record IsFolderOf (files certs : List FileFields) (folder : FolderFields) : Type 0 where
  pub certs_are : AreCertificatesOf files certs
  pub octets_are : folder.certs ≡ contents certs
  pub lists_are : AreListsOf (contents files) folder.lists

-- ---- the trust anchor

-- the step, the name and the rule of what is wrong with the trust anchor
abbrev pub IsAnchorReason : List ℕ → WalkError → Fault → Type 0
IsAnchorReason octets (Anchor OtherKey) fault = reason_of fault ≡ locator_reason
IsAnchorReason octets (Anchor NoResources) fault = reason_of fault ≡ resources_reason
IsAnchorReason octets (Anchor (path e)) fault = IsPathReason e.fault octets (reason_of fault)
IsAnchorReason octets OtherName fault = reason_of fault ≡ name_reason 0
IsAnchorReason octets Memory fault = ⊥

-- the file has the locator's key, and is wrong so as its trust anchor
pub record IsWrongOf (x : Context) (asked : RevocationChecks) (names : Bool) (t : NamedTal)
    (file : FileFields) (fault : Fault) : Type 0 where
  pub has_key : BeginsWithKey t.tal file.octets
  pub error : WalkError
  pub why : IsWhyNone x asked names t file.octets error
  pub reason_is : IsAnchorReason file.octets error fault

-- ---- the answer

-- the certificates of a tree
abbrev pub certs_of : Tree → List FileFields
certs_of tree = map (λ file. file.now) tree.certs.items

-- The line of the certificate at a place is that of its first place: a copy, whatever is behind it,
-- has no verdict of its own
abbrev pub line_at : Tree → ℕ → Option Line
line_at tree place = slice_get tree.lines (first_place_of tree.firsts place)

-- the limits that were reached at the certificate at a place are those of its first place
abbrev pub reached_in : Tree → ℕ → Reached
reached_in tree place = reached_at tree.limits (first_place_of tree.firsts place)

-- the certificate at the place is the trust anchor, or a copy of it
abbrev pub is_anchor_at : Tree → ℕ → Bool
is_anchor_at tree place = first_place_of tree.firsts place == first_place_of tree.firsts tree.anchor

-- The tree of the files below the trust anchor of a locator, which is a valid one of those that have
-- its key; a walk down from it over all certificates among them, each at its first place alone, with
-- all lists among them, and with names if they are asked, told verdicts that are right and complete;
-- and the line of each place is kept of these, the named paths beside the lines, and the limits that it
-- reached at each place.
pub record IsTreeOf (x : Context) (q : TreeFields) (l : LocatorFields) (tree : Tree) : Type 0 where
  pub certs_are : AreCertificatesOf q.files (certs_of tree)
  pub lists : List CrlState
  pub lists_are : AreListsOf (contents q.files) lists
  pub locator : NamedTal
  pub locator_is : l.read ≡ Ok locator
  pub anchor_is : IsAnchorAt x (by_named_lists q.names x lists) q.names locator
      (contents (certs_of tree)) tree.anchor
  pub anchor : FileFields
  pub stands : slice_get (certs_of tree) tree.anchor ≡ Some anchor
  pub firsts_are : AreFirstsIn (contents (certs_of tree)) tree.firsts
  pub told : List Told
  pub tells : TellsFrom {E = WalkError} x (by_named_lists q.names x lists) q.names
      (IsFirstIn tree.firsts) locator anchor.octets (contents (certs_of tree)) q.depth q.steps
      (Ok tree.ended) told
  pub count_is : length tree.lines ≡ length (certs_of tree)
  pub lines_are : AreLines told tree.lines
  pub named_are : AreNamedPaths (placed_in q.root tree) tree.firsts tree.anchor told tree.lines tree.named
  pub limited : List LimitedCa
  pub limited_are : AreLimitedFrom x (by_named_lists q.names x lists) q.names
      (IsFirstIn tree.firsts) locator anchor.octets (contents (certs_of tree)) q.depth q.steps
      limited
  pub limits_are : IsTableOf (first_place_of tree.firsts tree.anchor) (length (certs_of tree)) limited tree.limits

-- none of the certificates among the files is a valid trust anchor of the locator: these have its
-- key, each with what is wrong with it
pub record HasNoAnchor (x : Context) (q : TreeFields) (l : LocatorFields)
    (wrong : List WrongAnchor) : Type 0 where
  pub certs : List FileFields
  pub certs_are : AreCertificatesOf q.files certs
  pub lists : List CrlState
  pub lists_are : AreListsOf (contents q.files) lists
  pub locator : NamedTal
  pub locator_is : l.read ≡ Ok locator
  pub wrong_are : AllByRecursion
      (λ w. IsWrongOf x (by_named_lists q.names x lists) q.names locator w.file.now w.fault) wrong
  pub wrong_stand : AllByRecursion (λ w. slice_get certs w.place ≡ Some w.file.now) wrong
  pub all : (place : ℕ) (file : FileFields) → slice_get certs place ≡ Some file
      → BeginsWithKey locator.tal file.octets → Any (λ w. w.place ≡ place) wrong
  pub none : HasNoValid x (by_named_lists q.names x lists) q.names locator (contents certs)

-- what is answered of the files below a locator
abbrev pub IsTreeAnswer : Context → TreeFields → LocatorFields → TreeAnswer → Type 0
IsTreeAnswer x q l (NoAnchor wrong) = HasNoAnchor x q l wrong.items
IsTreeAnswer x q l (Walked tree) = IsTreeOf x q l tree
