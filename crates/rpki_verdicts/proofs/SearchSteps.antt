-- The path that is sought, file by file.
use Rattle.std.specs.List.{AllByRecursion, cons_option}
use Rattle.std.specs.Prelude.{All, Any, Option, Some, None, Ok, Err, IsFalse, IsTrue, Result, IsOk, slice_get, slice_index_or}
use Rattle.std.proofs.Common.{◌≡◌, ◌+◌, ◌<◌, ℕ, Bool, true, false, not, List, [], ◌∷◌, ◌++◌, length, map, refl, sym}
use Rattle.std.proofs.Common.{ap, subst, ◌∙◌, inl, inr, arith}
use Rattle.std.proofs.lemmas.List.{append_assoc, length-map}
use Rattle.std.proofs.lemmas.List.Elements.{All-contains, All-from_recursion}
use Rattle.std.proofs.lemmas.Option.{slice_get_within}
use Rattle.rpki_der.specs.Encoding.{Means}
use Rattle.rpki_der.specs.Values.{IsUnambiguous}
use Rattle.rpki_path.specs.AskedLists.{by_named_lists}
use Rattle.rpki_path.specs.Asking.{RevocationChecks}
use Rattle.rpki_folder.specs.declared.bounds.Ended.{Ended}
use Rattle.rpki_folder.specs.declared.bounds.Ended.TheVariants.{Whole}
use Rattle.rpki_cert.specs.declared.inspect.Kind.{Kind}
use Rattle.rpki_path.specs.Paths.{Candidate}
use Rattle.rpki_cert.specs.SaidKinds.{BeginsWithKind}
use Rattle.rpki_path.specs.declared.judging.Judged.{Judged}
use Rattle.rpki_folder.specs.KeptLines.{IsLine, IsRejectedWithin}
use Rattle.rpki_folder.specs.declared.lines.AcceptedPaths.{AcceptedPaths}
use Rattle.rpki_folder.specs.declared.lines.Line.{Line}
use Rattle.rpki_folder.specs.declared.lines.Line.TheVariants as line
use Rattle.rpki_path.specs.declared.path_fault.PathFault.{PathFault}
use Rattle.rpki_cert.specs.Certificates.{CertFields, IsCertificate}
use Rattle.rpki_cert.specs.Verification.{Context}
use Rattle.rpki_folder.specs.Walks.{Root, Covers, IsAcceptedAs, IsLookedAt, IsReached, IsRight, IsRightOf, IsTold}
use Rattle.rpki_folder.specs.Walks.{TellsWithin, Told, at_anchor, members_at}
use Rattle.rpki_folder.specs.declared.walk_error.WalkError.{WalkError}
use Rattle.rpki_folder.proofs.SearchSteps.{told_let_in}
use Rattle.rpki_folder.specs.FirstPlaces.{IsFirstIn, first_place_of}
use Rattle.rpki_folder.specs.Folders.{string_at}
use Rattle.rpki_files.specs.Contents.{BeginsWithCertificate}
use Rattle.rpki_files.specs.Files.{FileFields, contents}
use Rattle.rpki_verdicts.specs.Searches.{DeniesFirst, DoesNotReach, HasNoValidIn, HasNoValidPath, IsAcceptedIn}
use Rattle.rpki_verdicts.specs.Searches.{IsNamedAmong, IsNamedIn, IsSoughtPath, alone, no_anchor, valid, invalid}
use Rattle.rpki_verdicts.specs.Searches.{IsTreeWith, IsUnanchored, IsValidAmong, IsValidPathTo, Leads, StandsAlone}
use Rattle.rpki_verdicts.specs.Searches.{IsAcceptedAt, IsShownAbove, files_at, first_wrong}
use Rattle.rpki_verdicts.specs.ShownPaths.{placed_of}
use Rattle.rpki_verdicts.specs.GivenLocators.{LocatorFields}
use Rattle.rpki_verdicts.specs.TreeParts.{AreTreesOf, IsPartOf, worst_end, wrong_of}
use Rattle.rpki_verdicts.specs.Trees.{AreCertificatesOf, IsTreeAnswer, IsTreeOf, TreeFields, certs_of, line_at}
use Rattle.rpki_folder.proofs.FirstPaths.{first_zero, let_in_all, looked_first, reached_first}
use Rattle.rpki_verdicts.proofs.FilesAt.{octets_there}
use Rattle.rpki_verdicts.proofs.ReachedFiles.{reached_files}
use Rattle.rpki_verdicts.proofs.ToldChoices.{line_kept, shown_told}
use Rattle.rpki_verdicts.specs.declared.unordered.Tree.{Tree}
use Rattle.rpki_verdicts.specs.declared.parts.Trees.{Trees}
use Rattle.rpki_verdicts.specs.declared.unordered.TreeAnswer.{TreeAnswer}
use Rattle.rpki_verdicts.specs.declared.unordered.TreeAnswer.TheVariants.{NoAnchor, Walked}

-- ---- files at places

one_more : (o : Option FileFields) (both a b : List FileFields) → both ≡ a ++ b → cons_option o both ≡ cons_option o a ++ b
one_more None both a b same = same
one_more (Some f) both a b same = ap (λ (l : List FileFields). f ∷ l) same

-- at those of two lists
pub files_both : (certs : List FileFields) (a b : List ℕ) → files_at certs (a ++ b) ≡ files_at certs a ++ files_at certs b
files_both certs [] b = refl
files_both certs (k ∷ a) b = one_more (slice_get certs k) (files_at certs (a ++ b)) (files_at certs a)
    (files_at certs b) (files_both certs a b)

-- the file at a place where there is one
pub file_there : (certs : List FileFields) (place : ℕ) (file : FileFields) → slice_get certs place ≡ Some file →
    files_at certs (place ∷ []) ≡ file ∷ []
file_there certs place file is = ap (λ (o : Option FileFields). cons_option o []) is

pub none_there : (certs : List FileFields) (place : ℕ) → slice_get certs place ≡ None → files_at certs (place ∷ []) ≡ []
none_there certs place is = ap (λ (o : Option FileFields). cons_option o []) is

-- those of one place more
pub files_more : (certs before old new : List FileFields) (places : List ℕ) (k : ℕ) →
    old ≡ before ++ files_at certs places → new ≡ old ++ files_at certs (k ∷ []) →
    new ≡ before ++ files_at certs (places ++ k ∷ [])
files_more certs before old new places k so_far one =
    one ∙ ap (λ (l : List FileFields). l ++ files_at certs (k ∷ [])) so_far
    ∙ append_assoc before (files_at certs places) (files_at certs (k ∷ []))
    ∙ ap (λ (l : List FileFields). before ++ l) (sym (files_both certs places (k ∷ [])))

-- ---- what was told of the first certificate

-- a verdict that accepts is right where a path leads
reached_by : (x : Context) (asked : RevocationChecks) (root : Root) (members : List Candidate) (octets : List ℕ)
    (v : Result Judged PathFault) → IsOk v → IsRightOf x asked root members octets v →
    (kind : Kind) × (j : Judged) × BeginsWithKind kind octets × IsAcceptedAs x asked root members kind octets j
reached_by x asked root members octets (Ok j) ok h = (h.0, j, h.1, h.2)
reached_by x asked root members octets (Err e) ok h = absurd cc

pub told_reached : (x : Context) (asked : RevocationChecks) (root : Root) (certs : List (List ℕ)) (ts : List Told) →
    AllByRecursion (IsRight x asked root certs) ts → (above : List ℕ) (place : ℕ) → IsTold ts above place →
    IsReached x asked root certs above place
told_reached x asked root certs ts right above place h =
    let t = h.1 in
    let is : IsRight x asked root certs t = subst (λ (u : Told). IsRight x asked root certs u) h.3
    (All-from_recursion (IsRight x asked root certs) ts right h.0 t h.2) in
    reached_by x asked root (members_at root certs above) (string_at certs place) t.verdict h.4.2
    (subst (λ (p : ℕ). IsRightOf x asked root (members_at root certs above) (string_at certs p) t.verdict) h.4.1
    (subst (λ (l : List ℕ). IsRightOf x asked root (members_at root certs l) (string_at certs t.place) t.verdict) h.4.0 is))

module _ (ts : List Told) (place : ℕ) where
  never : (P : Told → Type 0) → AllByRecursion P ts → (above : List ℕ) (h : IsTold ts above place) → P h.1
  never P all above h = subst P h.3 (All-from_recursion P ts all h.0 h.1 h.2)

  -- its line doesn't accept it
  pub line_denies : (l : Line) → ((paths : AcceptedPaths) → l ≡ line.Accepted paths → ⊥) → IsLine ts place l → (above : List ℕ) →
      IsTold ts above place → ⊥
  line_denies line.Unseen denies kept above h = never (λ t. t.place ≡ place → ⊥) kept above h h.4.1
  line_denies (line.Accepted paths) denies kept above h = absurd (denies paths refl)
  line_denies (line.Rejected n f) denies kept above h = (never (IsRejectedWithin place n) kept.1 above h h.4.1).0 h.4.2

some_there : {X : Type 0} (xs : List X) → 0 < length xs → (x : X) × (slice_get xs 0 ≡ Some x)
some_there [] low = absurd (omega (arith, low))
some_there (x ∷ xs) low = (x, refl)

-- ---- the path

module _ (law : IsUnambiguous IsCertificate) (x : Context) (q : TreeFields) (l : LocatorFields) (file : FileFields)
    (tree : Tree) (is : IsTreeWith x q l file tree) where
  abbrev tree_certs : List (List ℕ)
  tree_certs = contents (certs_of tree)

  abbrev asked : RevocationChecks
  asked = by_named_lists q.names x is.grown.lists

  low : 0 < length (certs_of tree)
  low = slice_get_within (certs_of tree) 0 file is.first_is

  -- no certificate stands before that of the file
  first_place : first_place_of tree.firsts 0 ≡ 0
  first_place =
      let some : 0 < length tree_certs = let few = low in omega (arith, few, length-map (certs_of tree) (λ (f : FileFields). f.octets)) in
      first_zero law tree_certs tree.firsts is.grown.firsts_are some

  first_line_at : line_at tree 0 ≡ slice_get tree.lines 0
  first_line_at = ap (λ (n : ℕ). slice_get tree.lines n) first_place

  kept_first : (l : Line) → line_at tree 0 ≡ Some l → IsLine is.grown.told 0 l
  kept_first l e = line_kept is.grown.told tree.lines 0 is.grown.lines_are l (sym first_line_at ∙ e)

  -- the walk from the tree's trust anchor
  abbrev top : CertFields
  top = is.grown.anchor_is.cert

  abbrev admits : List ℕ → ℕ → Type 0
  admits = IsLookedAt q.names (IsFirstIn tree.firsts) top tree_certs

  tells : TellsWithin {E = WalkError} x asked admits (at_anchor is.grown.locator is.grown.anchor.octets) tree_certs []
      q.depth q.steps (Ok tree.ended) is.grown.told
  tells =
      let begins : Means IsCertificate top is.grown.anchor.octets = subst (λ (o : List ℕ). Means IsCertificate top o)
      (octets_there (certs_of tree) tree.anchor is.grown.anchor is.grown.stands)
      is.grown.anchor_is.valid.stands in
      is.grown.tells top begins

  -- the line of the file accepts it: a valid path leads to it
  pub leads_by : (certs : List FileFields) (above : List ℕ) → IsShownAbove certs tree 0 above → Leads x q l tree is.grown above
  leads_by certs above e =
      let told = subst (λ (a : List ℕ). IsTold is.grown.told a 0) e.above_is
      (shown_told x q l tree is.grown 0 first_place e.accepted.paths (sym first_line_at ∙ e.accepted.line_is) e.path e.is_shown.kept) in (
        told_reached x asked (at_anchor is.grown.locator is.grown.anchor.octets) tree_certs is.grown.told tells.right above 0 told,
        let_in_all q.names top tree_certs tree.firsts [] (above ++ 0 ∷ []) (told_let_in admits 0 is.grown.told above tells.let_in told),
      )

  pub valid_by : (certs : List FileFields) (above : List ℕ) (path : List FileFields) → IsShownAbove certs tree 0 above →
      path ≡ files_at (certs_of tree) (tree.anchor ∷ above) ++ file ∷ [] → IsValidPathTo x q l file path
  valid_by certs above path e path_is =
      let files = path_is ∙ ap (λ (o : Option FileFields). cons_option o (files_at (certs_of tree) above) ++ file ∷ []) is.grown.stands in
      record {
        tree = tree;
        is = is;
        above = above;
        leads = leads_by certs above e;
        path_is = files;
        is_valid = subst (λ (l : List FileFields). IsValidAmong x asked (contents l)) (sym files)
            (reached_files x asked is.grown.locator is.grown.anchor file (certs_of tree) above is.first_is
            (leads_by certs above e).0);
      }

  -- there is a line of the file
  first_line : (l : Line) × (line_at tree 0 ≡ Some l)
  first_line =
      let some : 0 < length tree.lines = let few = low in omega (arith, few, is.grown.count_is) in
      let there = some_there tree.lines some in
      (there.0, first_line_at ∙ there.1)

  -- it doesn't: none leads there, by whichever places
  pub invalid_by : (IsAcceptedAt tree 0 → ⊥) → HasNoValidPath x q l file tree
  invalid_by e = record {
    is = is;
    none = λ above covers leads.
        let firsts = map (first_place_of tree.firsts) above in
        let covers_them : Covers tree.ended q.depth (length firsts + 1) =
        subst (λ (n : ℕ). Covers tree.ended q.depth (n + 1)) (sym (length-map above (first_place_of tree.firsts)))
        covers in
        let looked = looked_first law tree_certs tree.firsts is.grown.firsts_are x asked is.grown.locator
        is.grown.anchor.octets above 0 leads.0 q.names top first_place leads.1 in
        let reached = reached_first law tree_certs tree.firsts is.grown.firsts_are x asked is.grown.locator
        is.grown.anchor.octets above 0 leads.0 in
        line_denies is.grown.told 0 first_line.0 (λ paths is. e (record { paths = paths; line_is = first_line.1 ∙ ap Some is }))
        (kept_first first_line.0 first_line.1) firsts (tells.complete firsts 0 covers_them looked reached);
  }

-- ---- a file alone

pub alone_in : (x : Context) (q : TreeFields) (file : FileFields) (path : List FileFields) → StandsAlone q file →
    path ≡ file ∷ [] → IsSoughtPath x q file path Whole
alone_in x q file path stands path_is = subst (λ (l : List FileFields). IsSoughtPath x q file l Whole) (sym path_is) (alone stands)

-- what is sought to the first of the files is sought to whichever that is
pub of_first : (x : Context) (q : TreeFields) (path : List FileFields) (ended : Ended) (all rest : List FileFields)
    (file : FileFields) → all ≡ file ∷ rest → IsSoughtPath x q file path ended →
    (first : FileFields) (more : List FileFields) → all ≡ first ∷ more → IsSoughtPath x q first path ended
of_first x q path ended all rest file is sought first more e =
    let both : file ∷ rest ≡ first ∷ more = sym is ∙ e in
    let same : file ≡ first = cc in
    subst (λ (f : FileFields). IsSoughtPath x q f path ended) same sought

-- what isn't so
pub no_list_here : (b : Bool) → IsTrue (not b) → IsFalse b
no_list_here true h = absurd cc
no_list_here false h = refl

-- ---- the file is the first certificate

pub first_certificate : (file : FileFields) (more certs : List FileFields) → BeginsWithCertificate file.octets →
    AreCertificatesOf (file ∷ more) certs → slice_get certs 0 ≡ Some file
first_certificate file more certs begins (inl h) = absurd (h.0 begins)
first_certificate file more certs begins (inr h) = ap (λ (l : List FileFields). slice_get l 0) h.3

pub with_first : (x : Context) (q : TreeFields) (l : LocatorFields) (file : FileFields) (more : List FileFields)
    (tree : Tree) → q.files ≡ file ∷ more → BeginsWithCertificate file.octets → IsTreeOf x q l tree →
    IsTreeWith x q l file tree
with_first x q l file more tree files_are begins grown = record {
  grown = grown;
  first_is = first_certificate file more (certs_of tree) begins
      (subst (λ (l : List FileFields). AreCertificatesOf l (certs_of tree)) files_are grown.certs_are);
}

-- ---- of all locators

module _ (law : IsUnambiguous IsCertificate) (x : Context) (q : TreeFields) (file : FileFields)
    (more : List FileFields) (files_are : q.files ≡ file ∷ more) (begins : BeginsWithCertificate file.octets) where
  -- of one of them
  valid_of : (l : LocatorFields) (answer : TreeAnswer) → IsTreeAnswer x q l answer → (certs path : List FileFields) →
      IsAcceptedIn certs file path answer → IsValidPathTo x q l file path
  valid_of l (NoAnchor wrong) is certs path h = absurd h
  valid_of l (Walked tree) is certs path h =
      valid_by law x q l file tree (with_first x q l file more tree files_are begins is) certs h.0 path h.1 h.2

  none_of : (l : LocatorFields) (answer : TreeAnswer) → IsTreeAnswer x q l answer → DeniesFirst answer → HasNoValidIn x q l file answer
  none_of l (NoAnchor wrong) is denies = tt
  none_of l (Walked tree) is denies =
      invalid_by law x q l file tree (with_first x q l file more tree files_are begins is) denies

  module _ (trees : Trees) (are : AreTreesOf x q trees) (path : List FileFields) where
    pub valid_among : Any (λ part. IsAcceptedIn (placed_of trees) file path part.answer) trees.parts.items →
        IsSoughtPath x q file path Whole
    valid_among h =
        let part = h.1 in
        let is : IsPartOf x q part = All-contains (IsPartOf x q) trees.parts.items part are.parts_are (h.0, h.2, h.3) in
        valid path trees are
        (h.0, part, h.2, h.3, (valid_of part.locator.now part.answer is (placed_of trees) path h.4, h.4))

    module _ (denies : All (λ part. DeniesFirst part.answer) trees.parts.items) where
      pub named_sought : IsNamedAmong (placed_of trees) trees.parts.items file path → (ended : Ended) →
          ended ≡ worst_end trees.parts.items → IsSoughtPath x q file path ended
      named_sought named ended ended_is =
          subst (λ (e : Ended). IsSoughtPath x q file path e) (sym ended_is)
          (invalid path trees are
          (λ k d low. none_of (slice_index_or trees.parts.items k d).locator.now
          (slice_index_or trees.parts.items k d).answer (are.parts_are k d low) (denies k d low))
          named)

    pub unanchored_sought : All (λ part. IsUnanchored part.answer) trees.parts.items →
        path ≡ first_wrong (wrong_of trees.parts.items) ++ file ∷ [] → IsSoughtPath x q file path Whole
    unanchored_sought none path_is = subst (λ (l : List FileFields). IsSoughtPath x q file l Whole) (sym path_is) (no_anchor trees are none)

-- ---- those that name one another, part by part

-- an answer without a tree reaches nowhere
pub unanchored_stops : (certs : List FileFields) (file : FileFields) (answer : TreeAnswer) → IsUnanchored answer →
    DoesNotReach certs file answer
unanchored_stops certs file (NoAnchor wrong) none = tt
unanchored_stops certs file (Walked tree) none = absurd none

pub named_stops : (certs : List FileFields) (file : FileFields) (path : List FileFields) (answer : TreeAnswer) →
    IsNamedIn certs answer file false path → DoesNotReach certs file answer
named_stops certs file path (NoAnchor wrong) named = tt
named_stops certs file path (Walked tree) named = (path, named)
