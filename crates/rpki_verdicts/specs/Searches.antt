-- The path to one file that is sought among others, in no order (RFC 6487 7.2, RFC 8630 3; own: the
-- bounds).
use Rattle.std.specs.Prelude.{◌≡◌, ◌≢◌, ◌⊎◌, ◌+◌, ◌<◌, ℕ, Bool, true, false, All, Any, List, [], ◌∷◌, ◌++◌, length}
use Rattle.std.specs.Prelude.{slice_get, filter_map, Some, IsTrue}
use Rattle.rpki_path.specs.Asking.{RevocationChecks}
use Rattle.rpki_path.specs.AskedLists.{by_named_lists}
use Rattle.rpki_cert.specs.Certificates.{CertFields, IsCertificate}
use Rattle.rpki_der.specs.Encoding.{Means}
use Rattle.rpki_folder.specs.declared.bounds.Ended.{Ended}
use Rattle.rpki_folder.specs.declared.bounds.Ended.TheVariants.{Whole}
use Rattle.rpki_folder.specs.Folders.{HasSubjectKey, NamesSigner}
use Rattle.rpki_path.specs.GivenPaths.{PathStrings}
use Rattle.rpki_path.specs.declared.judging.Judged.{Judged}
use Rattle.rpki_path.specs.Judging.{IsAcceptedWith}
use Rattle.rpki_folder.specs.KeptLines.{paths_in}
use Rattle.rpki_folder.specs.declared.find.FoundPath.{FoundPath}
use Rattle.rpki_folder.specs.declared.lines.AcceptedPaths.{AcceptedPaths}
use Rattle.rpki_folder.specs.declared.lines.Line.TheVariants as line
use Rattle.rpki_cert.specs.Verification.{Context}
use Rattle.rpki_folder.specs.Walks.{AreAdmitted, Covers, IsLookedAt, IsReached, at_anchor}
use Rattle.rpki_files.specs.Contents.{BeginsWithCertificate, IsList}
use Rattle.rpki_files.specs.Files.{FileFields, contents}
use Rattle.rpki_verdicts.specs.GivenLocators.{LocatorFields, HasLocator}
use Rattle.rpki_verdicts.specs.PathFiles.{IsGivenBy}
use Rattle.rpki_verdicts.specs.ShownPaths.{IsShownPath, choice_of, named_in, placed_of}
use Rattle.rpki_verdicts.specs.TreeParts.{AreTreesOf, worst_end, wrong_of}
use Rattle.rpki_verdicts.specs.Trees.{IsTreeOf, TreeFields, certs_of, line_at}
use Rattle.rpki_verdicts.specs.declared.parts.TreePart.{TreePart}
use Rattle.rpki_verdicts.specs.declared.parts.Trees.{Trees}
use Rattle.rpki_verdicts.specs.declared.unordered.Tree.{Tree}
use Rattle.rpki_verdicts.specs.declared.unordered.TreeAnswer.{TreeAnswer}
use Rattle.rpki_verdicts.specs.declared.unordered.TreeAnswer.TheVariants.{NoAnchor, Walked}
use Rattle.rpki_verdicts.specs.declared.unordered.WrongAnchor.{WrongAnchor}

-- ---- valid paths

-- the files at these places
abbrev pub files_at : List FileFields → List ℕ → List FileFields
files_at certs places = filter_map (slice_get certs) places

-- the tree of the files, in which the file is the first certificate
pub record IsTreeWith (x : Context) (q : TreeFields) (l : LocatorFields) (file : FileFields)
    (tree : Tree) : Type 0 where
  pub grown : IsTreeOf x q l tree
  pub first_is : slice_get (certs_of tree) 0 ≡ Some file

-- every certificate is looked at, wherever it stands
abbrev pub every : List ℕ → ℕ → Type 0
every above place = Unit {0}

-- a valid path leads from the trust anchor of the tree, by the CAs at these places, to the first
-- certificate, where all lists among the files are asked; its names chain, if they are asked, and no
-- issuer stands on it twice
abbrev pub Leads : (x : Context) (q : TreeFields) (l : LocatorFields) (tree : Tree)
    → IsTreeOf x q l tree → List ℕ → Type 0
Leads x q l tree is above =
    IsReached x (by_named_lists q.names x is.lists) (at_anchor is.locator is.anchor.octets)
    (contents (certs_of tree)) above 0
    × AreAdmitted (IsLookedAt q.names every is.anchor_is.cert (contents (certs_of tree))) []
    (above ++ 0 ∷ [])

-- the files are a valid path, as the verdict on a path has it, which asks for names and for the
-- last key beside that
pub record IsValidAmong (x : Context) (asked : RevocationChecks) (files : List (List ℕ)) : Type 0 where
  pub strings : PathStrings
  pub given : IsGivenBy files strings
  pub judged : Judged
  pub accepted : IsAcceptedWith x asked strings judged

-- these are the files of such a path, which is valid as the verdict on it has it too
pub record IsValidPathTo (x : Context) (q : TreeFields) (l : LocatorFields) (file : FileFields)
    (path : List FileFields) : Type 0 where
  pub tree : Tree
  pub is : IsTreeWith x q l file tree
  pub above : List ℕ
  pub leads : Leads x q l tree is.grown above
  pub path_is : path ≡ is.grown.anchor ∷ (files_at (certs_of tree) above ++ file ∷ [])
  pub is_valid : IsValidAmong x (by_named_lists q.names x is.grown.lists) (contents path)

-- there is none, of those that the walk of the tree looked at
pub record HasNoValidPath (x : Context) (q : TreeFields) (l : LocatorFields) (file : FileFields)
    (tree : Tree) : Type 0 where
  pub is : IsTreeWith x q l file tree
  pub none : (above : List ℕ) → Covers tree.ended q.depth (length above + 1)
      → Leads x q l tree is.grown above → ⊥

-- ---- lines

-- the line of the certificate at a place accepts it
pub record IsAcceptedAt (tree : Tree) (place : ℕ) : Type 0 where
  pub paths : AcceptedPaths
  pub line_is : line_at tree place ≡ Some (line.Accepted paths)

-- it accepts it, and these are the places of the CAs above it, on the path that is shown; the certificates of
-- the trees are these files
pub record IsShownAbove (certs : List FileFields) (tree : Tree) (place : ℕ) (above : List ℕ)
    : Type 0 where
  pub accepted : IsAcceptedAt tree place
  pub path : FoundPath
  pub is_shown : IsShownPath certs tree place
      (choice_of (paths_in accepted.paths) (named_in tree place)) path
  pub above_is : path.above.items ≡ above

-- the answer accepts the first certificate, which is that of the file, and this is the path to it that is
-- shown
abbrev pub IsAcceptedIn : List FileFields → FileFields → List FileFields → TreeAnswer → Type 0
IsAcceptedIn certs file path (NoAnchor wrong) = ⊥
IsAcceptedIn certs file path (Walked tree) =
    (above : List ℕ) × IsShownAbove certs tree 0 above
    × (path ≡ files_at (certs_of tree) (tree.anchor ∷ above) ++ file ∷ [])

-- it doesn't accept it
abbrev pub DeniesFirst : TreeAnswer → Type 0
DeniesFirst (NoAnchor wrong) = Unit {0}
DeniesFirst (Walked tree) = IsAcceptedAt tree 0 → ⊥

-- ---- what stands above a file to which no valid path leads

-- the file begins with a certificate that has the key of this identifier (RFC 5280 4.2.1.2)
abbrev pub HasKeyNamed : List ℕ → FileFields → Type 0
HasKeyNamed key file = HasSubjectKey key file.octets

-- the certificate at the place has the key, and is accepted, where that is asked
abbrev pub HasKeyAt : Tree → List ℕ → Bool → ℕ → Type 0
HasKeyAt tree key accepted place =
    ((file : FileFields) × (slice_get (certs_of tree) place ≡ Some file) × HasKeyNamed key file)
    × (IsTrue accepted → IsAcceptedAt tree place)

-- no certificate is such
abbrev pub HaveNoneKeyed : Tree → List ℕ → Bool → Type 0
HaveNoneKeyed tree key accepted = (place : ℕ) → HasKeyAt tree key accepted place → ⊥

-- the first such stands at this place
abbrev pub IsFirstKeyed : Tree → List ℕ → Bool → ℕ → Type 0
IsFirstKeyed tree key accepted place =
    HasKeyAt tree key accepted place
    × ((k : ℕ) → k < place → HasKeyAt tree key accepted k → ⊥)

-- this is the issuer of a file, and its place: of the certificates that have the key which the file
-- names as the one that signs it, the first that is accepted, or, where none is, the first (own)
pub record IsIssuerAt (tree : Tree) (file : FileFields) (place : ℕ)
    (issuer : FileFields) : Type 0 where
  pub key : List ℕ
  pub names : NamesSigner key file.octets
  pub taken : IsFirstKeyed tree key true place
      ⊎ (HaveNoneKeyed tree key true × IsFirstKeyed tree key false place)
  pub issuer_is : slice_get (certs_of tree) place ≡ Some issuer

-- the file has none
abbrev pub HasNoIssuer : Tree → FileFields → Type 0
HasNoIssuer tree file =
    (key : List ℕ) → NamesSigner key file.octets → HaveNoneKeyed tree key false

-- These files stand above a file, from the top down, at most so many beside those of a valid path:
-- none, where there may be no more, or the file has no issuer; else the issuer is the last one.
-- Above that stand those of the path that is shown, where it is accepted; none, where it is the trust
-- anchor; and else what stands above it, likewise. Behind them stands whether they reach up to the trust
-- anchor.
pub data AreAbove (certs : List FileFields) (tree : Tree) : ℕ → FileFields → List FileFields → Bool → Type 0 where
  no_more : (file : FileFields) → AreAbove certs tree 0 file [] false
  no_issuer : (most : ℕ) (file : FileFields) → HasNoIssuer tree file
      → AreAbove certs tree (most + 1) file [] false
  accepted : (most : ℕ) (file issuer : FileFields) (place : ℕ) (above : List ℕ)
      → IsIssuerAt tree file place issuer → IsShownAbove certs tree place above
      → AreAbove certs tree (most + 1) file
      (files_at (certs_of tree) (tree.anchor ∷ above) ++ issuer ∷ []) true
  at_top : (most : ℕ) (file issuer : FileFields) → IsIssuerAt tree file tree.anchor issuer
      → (IsAcceptedAt tree tree.anchor → ⊥)
      → AreAbove certs tree (most + 1) file (issuer ∷ []) true
  named : (most : ℕ) (file issuer : FileFields) (place : ℕ) (above : List FileFields)
      (reach : Bool) → IsIssuerAt tree file place issuer
      → (IsAcceptedAt tree place → ⊥)
      → place ≢ tree.anchor → AreAbove certs tree most issuer above reach
      → AreAbove certs tree (most + 1) file (above ++ issuer ∷ []) reach

-- how many are told at most
abbrev pub most_above : ℕ
most_above = 32

-- the path is what stands above the file, which reaches up to the trust anchor or not, and that file
abbrev pub IsNamedPath : List FileFields → Tree → FileFields → Bool → List FileFields → Type 0
IsNamedPath certs tree file reach path =
    (above : List FileFields) × AreAbove certs tree most_above file above reach
    × (path ≡ above ++ file ∷ [])

-- the same of an answer that has a tree
abbrev pub IsNamedIn : List FileFields → TreeAnswer → FileFields → Bool → List FileFields → Type 0
IsNamedIn certs (NoAnchor wrong) file reach path = ⊥
IsNamedIn certs (Walked tree) file reach path = IsNamedPath certs tree file reach path

-- it has no tree, or what stands above the file there doesn't reach up to the trust anchor
abbrev pub DoesNotReach : List FileFields → FileFields → TreeAnswer → Type 0
DoesNotReach certs file (NoAnchor wrong) = Unit {0}
DoesNotReach certs file (Walked tree) =
    (path : List FileFields) × IsNamedPath certs tree file false path

-- the path is so in one of the parts: in one where it reaches up to the trust anchor; or in any,
-- where it does so in none
abbrev pub IsNamedAmong : List FileFields → List TreePart → FileFields → List FileFields → Type 0
IsNamedAmong certs parts file path =
    Any (λ part. IsNamedIn certs part.answer file true path) parts
    ⊎ (Any (λ part. IsNamedIn certs part.answer file false path) parts
    × All (λ part. DoesNotReach certs file part.answer) parts)

-- ---- the path that is sought

-- the file stands alone: it has the key of a locator; or no valid path leads to it, since it is no
-- certificate, or there is no list
abbrev pub StandsAlone : TreeFields → FileFields → Type 0
StandsAlone q file =
    HasLocator q.locators file
    ⊎ ((BeginsWithCertificate file.octets → ⊥) ⊎ All (λ f. IsList f.octets → ⊥) q.files)

-- the first of the files that are wrong as trust anchors, where there is one
abbrev pub first_wrong : List WrongAnchor → List FileFields
first_wrong [] = []
first_wrong (w ∷ wrong) = w.file.now ∷ []

-- no trust anchor is valid
abbrev pub IsUnanchored : TreeAnswer → Type 0
IsUnanchored (NoAnchor wrong) = Unit {0}
IsUnanchored (Walked tree) = ⊥

-- the answer on one locator has no tree, or no valid path there
abbrev pub HasNoValidIn : Context → TreeFields → LocatorFields → FileFields → TreeAnswer → Type 0
HasNoValidIn x q l file (NoAnchor wrong) = Unit {0}
HasNoValidIn x q l file (Walked tree) = HasNoValidPath x q l file tree

-- it is a valid path to the file, and the one by which the answer on the locator shows that it accepts
-- the file
abbrev pub IsShownTo : Context → TreeFields → Trees → TreePart → FileFields → List FileFields → Type 0
IsShownTo x q trees part file path =
    IsValidPathTo x q part.locator.now file path
    × IsAcceptedIn (placed_of trees) file path part.answer

-- The path that is sought to the first of the files: that one alone; where no locator has a valid
-- trust anchor, below one that is wrong, or alone if there is none; a valid path from the trust
-- anchor of one of them, as of its certificates and lists, and of several the one that is shown; or, where
-- there is none, the file below those that name one another as signers, of which the verdict tells what is
-- wrong. Beside it stands how far a valid one was looked for: a bound can only have been met where none was
-- found.
pub data IsSoughtPath (x : Context) (q : TreeFields) (file : FileFields)
    : List FileFields → Ended → Type 0 where
  alone : StandsAlone q file → IsSoughtPath x q file (file ∷ []) Whole
  no_anchor : (trees : Trees) → AreTreesOf x q trees
      → All (λ part. IsUnanchored part.answer) trees.parts.items
      → IsSoughtPath x q file (first_wrong (wrong_of trees.parts.items) ++ file ∷ []) Whole
  valid : (path : List FileFields) (trees : Trees) → AreTreesOf x q trees
      → Any (λ part. IsShownTo x q trees part file path) trees.parts.items
      → IsSoughtPath x q file path Whole
  invalid : (path : List FileFields) (trees : Trees) → AreTreesOf x q trees
      → All (λ part. HasNoValidIn x q part.locator.now file part.answer)
      trees.parts.items
      → IsNamedAmong (placed_of trees) trees.parts.items file path
      → IsSoughtPath x q file path (worst_end trees.parts.items)
