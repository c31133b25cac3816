-- Which of the valid paths to a certificate is shown (own): a rule of the paths that are kept, whatever
-- order they were found in. Which ones are kept depends on that order if there are more than eight, but
-- for the named path.
use Rattle.std.specs.BTreeMap.{get}
use Rattle.std.specs.Cmp.Lexicographic.{slice_cmp}
use Rattle.std.specs.List.{AllByRecursion, starts_with}
use Rattle.std.specs.List.Sorted.{IsPermutation}
use Rattle.std.specs.Bool.{MatchBool}
use Rattle.std.specs.Option.{option_map}
use Rattle.std.specs.Ordering.{nat_cmp, ordering_then}
use Rattle.std.specs.declared.cmp.Ordering.{Ordering}
use Rattle.std.specs.declared.cmp.Ordering.TheVariants.{Less}
use Rattle.std.specs.Prelude.{◌≡◌, ◌==◌, ◌⊎◌, ◌+◌, ◌-◌, ◌↔◌, ℕ, Bool, false, if◌then◌else◌, All, Any, Contains, List, []}
use Rattle.std.specs.Prelude.{◌∷◌, ◌++◌, codes, drop, length, map, nat_eq, reverse, slice_get, take, unwrap_or, MatchOption}
use Rattle.std.specs.Prelude.{Option, None, Some}
use Rattle.rpki_blocks.specs.Sets.{AreIn, Block}
use Rattle.rpki_cert.specs.Certificates.{CertFields, IsCertificate}
use Rattle.rpki_cert.specs.Verification.{ResourceFields}
use Rattle.rpki_der.specs.Encoding.{Means}
use Rattle.rpki_files.specs.Contents.{BeginsWithCertificate}
use Rattle.rpki_files.specs.Files.{FileFields}
use Rattle.rpki_folder.specs.FirstPlaces.{first_from, first_place_of}
use Rattle.rpki_folder.specs.KeptLines.{has_path, most_paths, paths_in}
use Rattle.rpki_folder.specs.declared.find.FoundPath.{FoundPath}
use Rattle.rpki_folder.specs.declared.firsts.Firsts.{Firsts}
use Rattle.rpki_folder.specs.declared.lines.AcceptedPaths.{AcceptedPaths}
use Rattle.rpki_verdicts.specs.declared.issuers.NamedFiles.{NamedFiles}
use Rattle.rpki_verdicts.specs.declared.parts.Trees.{Trees}
use Rattle.rpki_verdicts.specs.declared.shown_paths.ShownPaths.{ShownPaths}
use Rattle.rpki_verdicts.specs.declared.unordered.Tree.{Tree}
pub mod Steps

-- ---- names of issuers

-- the part of a name below the directory with whose path names there begin; a name elsewhere whole
abbrev pub name_below : List ℕ → List ℕ → List ℕ
name_below root name = if starts_with nat_eq name root then drop (length root) name else name

-- the file under that name
abbrev pub placed : List ℕ → FileFields → FileFields
placed root file = record { name = name_below root file.name; octets = file.octets }

-- the certificates of trees, as files under these names
abbrev pub placed_of : Trees → List FileFields
placed_of trees = map (λ file. placed trees.root.now file.now) trees.certs.items

-- those of a tree
abbrev pub placed_in : List ℕ → Tree → List FileFields
placed_in root tree = map (λ file. placed root file.now) tree.certs.items

-- the URI that names a file, in a cache that is laid out by URI: what follows `rsync://` is the whole
-- name of the file. Were an end of the name enough, a directory of a stranger's could imitate it
abbrev pub uri_of : FileFields → List ℕ
uri_of file = codes "rsync://" ++ file.name

-- the place of the first of the certificates' files that the URI names
abbrev pub place_by : List FileFields → List ℕ → Option ℕ
place_by certs uri = first_from 0 (map uri_of certs) uri

-- the table has these places
abbrev pub AreNamedFiles : List FileFields → NamedFiles → Type 0
AreNamedFiles certs files =
    (uri : List ℕ) → get (slice_cmp nat_cmp) files.places uri ≡ place_by certs uri

-- that of a URI, where there is one
abbrev pub place_of : List FileFields → Option (List ℕ) → Option ℕ
place_of certs None = None
place_of certs (Some uri) = place_by certs uri

-- the place of the file that the certificate at the start of the octets names as its issuer's (RFC 6487
-- 4.8.7), where it names one
abbrev pub IsNamedIn : List FileFields → List ℕ → Option ℕ → Type 0
IsNamedIn certs octets named =
    ((c : CertFields) × Means IsCertificate c octets
    × (named ≡ place_of certs c.fields.extensions.ca_issuer))
    ⊎ ((BeginsWithCertificate octets → ⊥) × (named ≡ None))

-- that of the certificate at a place
abbrev pub NamesIssuerAt : List FileFields → ℕ → Option ℕ → Type 0
NamesIssuerAt certs place named =
    MatchOption (slice_get certs place) (named ≡ None) (λ file. IsNamedIn certs file.octets named)

-- the file at the place, where there is one, is that of this issuer, or a copy of it
abbrev pub is_issuer_file : Firsts → Option ℕ → ℕ → Bool
is_issuer_file firsts None issuer = false
is_issuer_file firsts (Some named) issuer = first_place_of firsts named == first_place_of firsts issuer

-- So many certificates, from the bottom up, name the file of the one above: that at a place, below the
-- CAs at these places, which stand from the bottom up, and the trust anchor
abbrev pub NameIssuersAbove : List FileFields → Firsts → ℕ → ℕ → List ℕ → ℕ → Type 0
NameIssuersAbove certs firsts anchor place [] n =
    (named : Option ℕ) × NamesIssuerAt certs place named
    × (n ≡ if is_issuer_file firsts named anchor then 1 else 0)
NameIssuersAbove certs firsts anchor place (issuer ∷ above) n =
    (named : Option ℕ) × NamesIssuerAt certs place named
    × MatchBool (is_issuer_file firsts named issuer)
    ((m : ℕ) × NameIssuersAbove certs firsts anchor issuer above m × (n ≡ m + 1)) (n ≡ 0)

-- the path by these CAs, which stand from the top down, is named: each of its certificates names the file of
-- the one above
abbrev pub IsNamedPath : List FileFields → Firsts → ℕ → ℕ → List ℕ → Type 0
IsNamedPath certs firsts anchor place above =
    NameIssuersAbove certs firsts anchor place (reverse above) (length above + 1)

-- ---- the rule

-- what decides of a path whether it is shown: how many of its certificates, from the bottom up, name
-- the file of the one above, and the octets of its CAs, from the top down
pub record Rank : Type 0 where
  pub named : ℕ
  pub cas : List (List ℕ)

-- the octets of the file at a place, and of those at some places
abbrev pub file_octets_at : List FileFields → ℕ → List ℕ
file_octets_at certs place = unwrap_or (option_map (λ file. file.octets) (slice_get certs place)) []

abbrev pub octets_along : List FileFields → List ℕ → List (List ℕ)
octets_along certs places = map (file_octets_at certs) places

-- how two paths stand: the one with more certificates named goes before, then the one with fewer CAs,
-- then the one with the lesser octets. The octets behind a certificate decide nothing: no certificate's
-- octets begin with another's
abbrev pub rank_order : Rank → Rank → Ordering
rank_order r s =
    ordering_then (ordering_then (nat_cmp s.named r.named) (nat_cmp (length r.cas) (length s.cas)))
    (slice_cmp (slice_cmp nat_cmp) r.cas s.cas)

-- the rank of a path to the certificate at a place, in the tree over these files of certificates
pub record IsRank (certs : List FileFields) (tree : Tree) (place : ℕ) (path : FoundPath)
    (rank : Rank) : Type 0 where
  pub named_are : NameIssuersAbove certs tree.firsts tree.anchor place (reverse path.above.items) rank.named
  pub cas_are : rank.cas ≡ octets_along certs path.above.items

-- a path goes before another one
pub record Precedes (certs : List FileFields) (tree : Tree) (place : ℕ) (path other : FoundPath)
    : Type 0 where
  pub rank : Rank
  pub other_rank : Rank
  pub rank_is : IsRank certs tree place path rank
  pub other_is : IsRank certs tree place other other_rank
  pub before : rank_order rank other_rank ≡ Less

-- the named path that is kept beside the line of the certificate at a place, which is that of its first
-- place
abbrev pub named_in : Tree → ℕ → Option FoundPath
named_in tree place = get nat_cmp tree.named (first_place_of tree.firsts place)

-- the paths among which one is shown: those of a line; but the named path in the place of the last, if that is
-- kept beside the line, which doesn't have it
abbrev pub choice_of : List FoundPath → Option FoundPath → List FoundPath
choice_of paths None = paths
choice_of paths (Some named) =
    if has_path paths named.above.items then paths else take (most_paths - 1) paths ++ named ∷ []

-- of these paths it is the one that is shown: none goes before it
pub record IsShownPath (certs : List FileFields) (tree : Tree) (place : ℕ) (paths : List FoundPath)
    (path : FoundPath) : Type 0 where
  pub kept : Contains paths path
  pub first : All (λ other. Precedes certs tree place other path → ⊥) paths

-- ---- what is shown

-- none goes before one that stands in front of it
abbrev pub ArePathsInOrder : List FileFields → Tree → ℕ → List FoundPath → Type 0
ArePathsInOrder certs tree place [] = Unit {0}
ArePathsInOrder certs tree place (path ∷ more) =
    AllByRecursion (λ other. Precedes certs tree place other path → ⊥) more
    × ArePathsInOrder certs tree place more

-- the shown path, and the others behind it
abbrev pub all_of : ShownPaths → List FoundPath
all_of shown = shown.shown.now ∷ map (λ path. path.now) shown.others.items

-- Of the paths that are kept to the certificate at a place one is shown; all are there, in the order of
-- the rule, and it is counted how many aren't there. Where the named path takes the place of another one,
-- these are as many
pub record AreShown (certs : List FileFields) (tree : Tree) (place : ℕ) (paths : AcceptedPaths)
    (shown : ShownPaths) : Type 0 where
  pub all : IsPermutation (choice_of (paths_in paths) (named_in tree place)) (all_of shown)
  pub in_order : ArePathsInOrder certs tree place (all_of shown)
  pub is_shown : IsShownPath certs tree place (choice_of (paths_in paths) (named_in tree place))
      shown.shown.now
  pub more_is : shown.more ≡ paths.more

-- ---- resources

-- each set is in the other
abbrev pub AreSame : List Block → List Block → Type 0
AreSame one other = AreIn one other × AreIn other one

-- the same numbers of each kind are held
pub record HoldSame (one other : ResourceFields) : Type 0 where
  pub v4 : AreSame one.v4 other.v4
  pub v6 : AreSame one.v6 other.v6
  pub as_numbers : AreSame one.as_numbers other.as_numbers

-- ---- that order doesn't matter

-- one of the paths has this rank
abbrev pub HaveRank : List FileFields → Tree → ℕ → List FoundPath → Rank → Type 0
HaveRank certs tree place paths rank = Any (λ path. IsRank certs tree place path rank) paths

-- Two lists of paths of the same ranks, in any order, show paths of one rank: as many certificates are
-- named, and the octets of the CAs are the same. The paths may be those of two trees, as over the same
-- files in another order: a rank has neither places nor an order of files in it
abbrev pub ShowByRanks : Type 0
ShowByRanks =
    (certs files : List FileFields) (tree other : Tree) (place at : ℕ) (paths ways : List FoundPath)
    (path way : FoundPath)
    → ((rank : Rank) → HaveRank certs tree place paths rank ↔ HaveRank files other at ways rank)
    → IsShownPath certs tree place paths path → IsShownPath files other at ways way
    → (rank other_rank : Rank) → IsRank certs tree place path rank
    → IsRank files other at way other_rank → rank ≡ other_rank
