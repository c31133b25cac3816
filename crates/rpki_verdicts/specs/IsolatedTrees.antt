-- What files that strangers add can change of the tree of files (own). Strangers of rpki_folder has what
-- strangers add; ToldWalks of rpki_isolation, when two walks tell alike.
use Rattle.std.specs.Prelude.{List, Contains, Result}
use Rattle.rpki_cert.specs.Certificates.{CertFields}
use Rattle.rpki_cert.specs.Verification.{Context}
use Rattle.rpki_files.specs.Files.{FileFields, contents}
use Rattle.rpki_folder.specs.FirstPlaces.{IsFirstIn}
use Rattle.rpki_folder.specs.Folders.{FolderFields}
use Rattle.rpki_folder.specs.Strangers.{AddsOnly}
use Rattle.rpki_isolation.specs.PathShares.{HasEnoughOn}
use Rattle.rpki_isolation.specs.ToldWalks.{IsToldAccepted, HasToldVerdict}
use Rattle.rpki_parts.specs.Keys.{KeyFields}
use Rattle.rpki_path.specs.Paths.{Path}
use Rattle.rpki_path.specs.declared.judging.Judged.{Judged}
use Rattle.rpki_path.specs.declared.path_fault.PathFault.{PathFault}
use Rattle.rpki_verdicts.specs.GivenLocators.{LocatorFields}
use Rattle.rpki_verdicts.specs.Trees.{IsTreeOf, TreeFields, certs_of}
use Rattle.rpki_verdicts.specs.declared.unordered.Tree.{Tree}

-- the same question about other files
abbrev pub about : TreeFields → List FileFields → TreeFields
about q files = record q { files = files }

-- the certificates and the lists among the files of a tree
abbrev pub folder_of : (x : Context) (q : TreeFields) (l : LocatorFields) (tree : Tree)
    → IsTreeOf x q l tree → FolderFields
folder_of x q l tree is = record { certs = contents (certs_of tree); lists = is.lists }

-- the tree of a question, and that of the same question about files to which strangers added some of
-- these keys, of nobody's, or copies. The locator's key is none of theirs
pub record AreWithAndWithout (x : Context) (q : TreeFields) (files : List FileFields)
    (l : LocatorFields) (keys : List KeyFields) (one other : Tree) : Type 0 where
  pub without : IsTreeOf x q l one
  pub with_them : IsTreeOf x (about q files) l other
  pub adds : AddsOnly x.verifies keys (folder_of x q l one without)
      (folder_of x (about q files) l other with_them)
  pub own_key : Contains keys without.locator.tal.key → ⊥

-- a verdict of the walk of the tree, on the certificate below the CAs of the path
abbrev pub IsVerdictIn : (x : Context) (q : TreeFields) (l : LocatorFields) (tree : Tree)
    → IsTreeOf x q l tree → Path → CertFields → Result Judged PathFault → Type 0
IsVerdictIn x q l tree is p c verdict =
    HasToldVerdict is.anchor.octets (contents (certs_of tree)) is.told p c verdict

-- one of these accepts it
abbrev pub IsAcceptedIn : (x : Context) (q : TreeFields) (l : LocatorFields) (tree : Tree)
    → IsTreeOf x q l tree → Path → CertFields → Type 0
IsAcceptedIn x q l tree is p c =
    IsToldAccepted is.anchor.octets (contents (certs_of tree)) is.told p c

-- the path's CAs have enough steps for their children, within the depth
abbrev pub HasEnoughIn : (x : Context) (q : TreeFields) (l : LocatorFields) (tree : Tree)
    → IsTreeOf x q l tree → Path → Type 0
HasEnoughIn x q l tree is p =
    HasEnoughOn x q.names (IsFirstIn tree.firsts) is.locator is.anchor.octets
    (folder_of x q l tree is) q.depth q.steps p
