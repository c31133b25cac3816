-- The trees of one question with the files of strangers and without them.
use Rattle.std.specs.Prelude.{Ok}
use Rattle.std.proofs.Common.{◌≡◌, ℕ, List, subst}
use Rattle.rpki_cert.specs.Verification.{Context}
use Rattle.rpki_files.specs.Files.{FileFields, contents}
use Rattle.rpki_folder.specs.FirstPlaces.{IsFirstIn}
use Rattle.rpki_folder.specs.Folders.{string_at}
use Rattle.rpki_folder.specs.Walks.{TellsFrom}
use Rattle.rpki_folder.specs.declared.walk_error.WalkError.{WalkError}
use Rattle.rpki_isolation.specs.ToldWalks.{BeginAlike, Walked}
use Rattle.rpki_keys.specs.Locators.{NamedTal}
use Rattle.rpki_path.specs.AskedLists.{by_named_lists}
use Rattle.rpki_verdicts.specs.GivenLocators.{LocatorFields}
use Rattle.rpki_verdicts.specs.IsolatedTrees.{about, folder_of}
use Rattle.rpki_verdicts.specs.Trees.{IsTreeOf, TreeFields, certs_of}
use Rattle.rpki_verdicts.specs.declared.unordered.Tree.{Tree}
use Rattle.rpki_verdicts.proofs.FilesAt.{octets_there}

module _ (x : Context) (q : TreeFields) (l : LocatorFields) (tree : Tree) (is : IsTreeOf x q l tree) where
  -- the walk of the tree
  abbrev pub walk_of : Walked x q.names (IsFirstIn tree.firsts) is.locator is.anchor.octets (folder_of x q l tree is)
  walk_of = record { depth = q.depth; steps = q.steps; ended = tree.ended; verdicts = is.told; tells = is.tells }

  -- the same, where the locator and the trust anchor are called otherwise
  abbrev pub walk_by : (t : NamedTal) → is.locator ≡ t →
      Walked x q.names (IsFirstIn tree.firsts) t is.anchor.octets (folder_of x q l tree is)
  walk_by t same = record {
    depth = q.depth;
    steps = q.steps;
    ended = tree.ended;
    verdicts = is.told;
    tells = subst (λ (u : NamedTal). TellsFrom {E = WalkError} x (by_named_lists q.names x is.lists) q.names
        (IsFirstIn tree.firsts) u is.anchor.octets (contents (certs_of tree)) q.depth q.steps (Ok tree.ended)
        is.told) same is.tells;
  }

  -- the octets of its trust anchor
  pub anchor_octets : string_at (contents (certs_of tree)) tree.anchor ≡ is.anchor.octets
  anchor_octets = octets_there (certs_of tree) tree.anchor is.anchor is.stands

-- a locator is read in one way
pub one_locator : (l : LocatorFields) (t u : NamedTal) → l.read ≡ Ok t → l.read ≡ Ok u → t ≡ u
one_locator l t u here there = cc (here, there)

-- the trust anchors of the two trees begin with one certificate, if what stands at their places does
pub begin_alike : (x : Context) (q : TreeFields) (files : List FileFields) (l : LocatorFields) (one other : Tree)
    (w : IsTreeOf x q l one) (v : IsTreeOf x (about q files) l other)
    → BeginAlike (string_at (contents (certs_of one)) one.anchor)
    (string_at (contents (certs_of other)) other.anchor) → BeginAlike w.anchor.octets v.anchor.octets
begin_alike x q files l one other w v alike =
    subst (λ (o : List ℕ). BeginAlike w.anchor.octets o) (anchor_octets x (about q files) l other v)
    (subst (λ (o : List ℕ). BeginAlike o (string_at (contents (certs_of other)) other.anchor)) (anchor_octets x q l one w) alike)
