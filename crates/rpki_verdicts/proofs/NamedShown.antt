-- The named path is the one that is shown.
use Rattle.std.specs.BTreeMap.{get}
use Rattle.std.specs.Bool.{MatchBool}
use Rattle.std.specs.List.{AllByRecursion}
use Rattle.std.specs.Cmp.Lexicographic.{slice_cmp}
use Rattle.std.specs.Ordering.{nat_cmp, ordering_then}
use Rattle.std.specs.declared.cmp.Ordering.{Ordering}
use Rattle.std.specs.Cmp.{nat_cmp_is}
use Rattle.std.specs.declared.cmp.Ordering.TheVariants.{Less}
use Rattle.std.specs.Prelude.{Bool, true, false, if◌then◌else◌, Contains, Option, None, Some}
use Rattle.std.specs.Prelude.{is_some, MatchOption, slice_get, reverse}
use Rattle.std.proofs.Common.{Bor, ◌≡◌, ◌+◌, ◌-◌, ◌<◌, ◌≤◌, ℕ, zero, suc, List, [], ◌∷◌, ◌++◌, length, map, take}
use Rattle.std.proofs.Common.{refl, sym, ap, subst, ◌∙◌, inl, inr, arith}
use Rattle.std.proofs.lemmas.Bool.{eqb-true, false≢true}
use Rattle.std.proofs.lemmas.List.{length-reverse, reverse-append, reverse-reverse}
use Rattle.std.proofs.lemmas.List.Elements.{All-from_recursion, Contains-push}
use Rattle.std.proofs.lemmas.List.Folds.{Any-from_list_any}
use Rattle.std.proofs.lemmas.Option.{slice_get_within}
use Rattle.std.proofs.lemmas.Slice.Eq.{bytes_eq-Decides}
use Rattle.std.specs.Str.{bytes_eq}
use Rattle.rpki_cert.specs.Certificates.{CertFields, IsCertificate}
use Rattle.rpki_cert.specs.Verification.{Context}
use Rattle.rpki_der.specs.Encoding.{Means}
use Rattle.rpki_der.specs.Values.{IsUnambiguous}
use Rattle.rpki_files.specs.Contents.{BeginsWithCertificate}
use Rattle.rpki_files.specs.Files.{FileFields, contents}
use Rattle.rpki_folder.specs.FirstPlaces.{IsFirstIn, first_place_of}
use Rattle.rpki_folder.specs.KeptLines.{IsToldBy, has_path, most_paths, paths_in}
use Rattle.rpki_folder.specs.Walks.{AreAdmitted, EndsNoCircle, IsLetIn, IsLookedAt, IsTold, StandsAt, Told}
use Rattle.rpki_folder.specs.declared.find.FoundPath.{FoundPath}
use Rattle.rpki_folder.specs.declared.firsts.Firsts.{Firsts}
use Rattle.rpki_folder.specs.declared.lines.AcceptedPaths.{AcceptedPaths}
use Rattle.rpki_folder.specs.declared.lines.Line.TheVariants.{Accepted}
use Rattle.rpki_folder.proofs.Descent.{less-or-not}
use Rattle.rpki_folder.proofs.FirstPaths.{stands_first}
use Rattle.rpki_folder.proofs.KeptLineSteps.{told_so}
use Rattle.rpki_verdicts.specs.GivenLocators.{LocatorFields}
use Rattle.rpki_verdicts.specs.ShownPaths.{NameIssuersAbove, NamesIssuerAt, IsNamedIn, IsNamedPath, IsRank, IsShownPath, Precedes}
use Rattle.rpki_verdicts.specs.ShownPaths.{Rank, choice_of, is_issuer_file, named_in, octets_along, place_of, placed}
use Rattle.rpki_verdicts.specs.ShownPaths.{placed_in, placed_of}
use Rattle.rpki_verdicts.specs.ShownTrees.{ShowsNamed}
use Rattle.rpki_verdicts.specs.TreeParts.{AreTreesOf, files_of}
use Rattle.rpki_verdicts.specs.Trees.{AreCertificatesOf, IsTreeOf, TreeFields, certs_of}
use Rattle.rpki_verdicts.specs.declared.parts.Trees.{Trees}
use Rattle.rpki_verdicts.specs.declared.unordered.Tree.{Tree}
use Rattle.rpki_verdicts.proofs.FilesAt.{octets_there}
use Rattle.rpki_verdicts.proofs.OrderedPaths.{IsOneMeant, one_by}
use Rattle.rpki_verdicts.proofs.ToldChoices.{shown_told as told_by}

-- ---- counts

if_true : (t : Bool) (n : ℕ) → (n ≡ if t then 1 else 0) → 1 ≤ n → t ≡ true
if_true true n is low = refl
if_true false n is low = absurd (omega (arith, is, low))

if_few : (t : Bool) (n : ℕ) → (n ≡ if t then 1 else 0) → n ≤ 1
if_few true n is = omega (arith, is)
if_few false n is = omega (arith, is)

counts : (P : Type 0) (t : Bool) (n : ℕ) → MatchBool t P (n ≡ 0) → 1 ≤ n → (t ≡ true) × P
counts P true n h low = (refl, h)
counts P false n h low = absurd (omega (arith, h, low))

-- ---- certificates

all_begin : (files certs : List FileFields) → AreCertificatesOf files certs → AllByRecursion (λ f. BeginsWithCertificate f.octets) certs
all_begin [] certs h = subst (λ (l : List FileFields). AllByRecursion (λ f. BeginsWithCertificate f.octets) l) (sym h) tt
all_begin (file ∷ files) certs (inl (none, h)) = all_begin files certs h
all_begin (file ∷ files) certs (inr (rest, begins, h, is)) =
    subst (λ (l : List FileFields). AllByRecursion (λ f. BeginsWithCertificate f.octets) l) (sym is) (begins, all_begin files rest h)

placed_begin : (root : List ℕ) (files : List (Bor FileFields)) →
    AllByRecursion (λ f. BeginsWithCertificate f.octets) (map (λ f. f.now) files)
    → AllByRecursion (λ f. BeginsWithCertificate f.octets) (map (λ f. placed root f.now) files)
placed_begin root [] h = tt
placed_begin root (file ∷ files) h = (h.0, placed_begin root files h.1)

some_named : (all certs : List FileFields) → AllByRecursion (λ f. BeginsWithCertificate f.octets) certs → (place : ℕ)
    → (named : Option ℕ) × MatchOption (slice_get certs place) (named ≡ None) (λ file. IsNamedIn all file.octets named)
some_named all [] h place = (None, refl)
some_named all (f ∷ certs) h zero =
    let c = h.0 in (place_of all c.0.fields.extensions.ca_issuer, inl (c.0, c.1, refl))
some_named all (f ∷ certs) h (suc place) = some_named all certs h.1 place

module _ (certs : List FileFields) (firsts : Firsts) (anchor : ℕ) where
  abbrev Named : ℕ → List ℕ → ℕ → Type 0
  Named place up n = NameIssuersAbove certs firsts anchor place up n

  some_count : ((place : ℕ) → (named : Option ℕ) × NamesIssuerAt certs place named) → (place : ℕ) (up : List ℕ) → (n : ℕ) × Named place up n
  some_count some place [] = let s = some place in ((if is_issuer_file firsts s.0 anchor then 1 else 0), (s.0, s.1, refl))
  some_count some place (issuer ∷ up) =
      let s = some place in
      let more = some_count some issuer up in
      let r = by_test (is_issuer_file firsts s.0 issuer) more in (r.0, (s.0, s.1, r.1)) where
        by_test : (t : Bool) → (n : ℕ) × Named issuer up n → (n : ℕ) × MatchBool t ((m : ℕ) × Named issuer up m × (n ≡ m + 1)) (n ≡ 0)
        by_test true more = (more.0 + 1, (more.0, more.1, refl))
        by_test false more = (0, refl)

  -- what stands on a path is at its first place, and isn't the trust anchor
  abbrev Free : ℕ → Type 0
  Free p = (first_place_of firsts p ≡ p) × (first_place_of firsts p ≡ first_place_of firsts anchor → ⊥)

  one_first : (named : Option ℕ) (a b : ℕ) → is_issuer_file firsts named a ≡ true → is_issuer_file firsts named b ≡ true →
      first_place_of firsts a ≡ first_place_of firsts b
  one_first None a b one two = absurd (false≢true one)
  one_first (Some k) a b one two = sym (eqb-true (first_place_of firsts k) (first_place_of firsts a) one) ∙
      eqb-true (first_place_of firsts k) (first_place_of firsts b) two

  module _ (one : (place : ℕ) (a b : Option ℕ) → NamesIssuerAt certs place a → NamesIssuerAt certs place b → a ≡ b) where
    -- a path of which as many certificates are named is the named one
    pub chain : (place : ℕ) (ups others : List ℕ) (n m : ℕ) → n ≡ length ups + 1 → Named place ups n → Named place others m → n ≤ m
        → AllByRecursion Free ups → AllByRecursion Free others → others ≡ ups
    chain place [] [] n m is a b low free these = refl
    chain place [] (j ∷ others) n m is a b low free these =
        let yes : is_issuer_file firsts a.0 anchor ≡ true = if_true (is_issuer_file firsts a.0 anchor) n a.2 (omega (arith, is)) in
        let same : a.0 ≡ b.0 = one place a.0 b.0 a.1 b.1 in
        let down = counts _ (is_issuer_file firsts b.0 j) m b.2 (omega (arith, is, low)) in
        absurd (these.0.1 (one_first b.0 j anchor down.0 (subst (λ (o : Option ℕ). is_issuer_file firsts o anchor ≡ true) same yes)))
    chain place (i ∷ ups) [] n m is a b low free these =
        let few = if_few (is_issuer_file firsts b.0 anchor) m b.2 in absurd (omega (arith, is, low, few))
    chain place (i ∷ ups) (j ∷ others) n m is a b low free these =
        let same : a.0 ≡ b.0 = one place a.0 b.0 a.1 b.1 in
        let up = counts _ (is_issuer_file firsts a.0 i) n a.2 (omega (arith, is)) in
        let down = counts _ (is_issuer_file firsts b.0 j) m b.2 (omega (arith, is, low)) in
        let yes : is_issuer_file firsts b.0 i ≡ true = subst (λ (o : Option ℕ). is_issuer_file firsts o i ≡ true) same up.0 in
        let at : j ≡ i = sym these.0.0 ∙ one_first b.0 j i down.0 yes ∙ free.0.0 in
        let more = up.1.2 in
        let less = down.1.2 in
        let rest : others ≡ ups =
        chain i ups others up.1.0 down.1.0 (omega (arith, is, more)) up.1.1
        (subst (λ (p : ℕ). Named p others down.1.0) at down.1.1) (omega (arith, low, more, less)) free.1
        these.1 in
        ap (λ (p : ℕ). p ∷ others) at ∙ ap (λ (l : List ℕ). i ∷ l) rest

-- ---- a tree

module _ (law : IsUnambiguous IsCertificate) (meant : IsOneMeant) (x : Context) (q : TreeFields) (l : LocatorFields)
    (tree : Tree) (is : IsTreeOf x q l tree) where
  abbrev certs : List FileFields
  certs = certs_of tree

  -- under their names
  abbrev files : List FileFields
  files = placed_in q.root tree

  abbrev firsts : Firsts
  firsts = tree.firsts

  abbrev top : CertFields
  top = is.anchor_is.cert

  abbrev Admits : List ℕ → ℕ → Type 0
  Admits = IsLookedAt q.names (IsFirstIn firsts) top (contents certs)

  top_stands : StandsAt (contents certs) tree.anchor top
  top_stands = is.anchor_is.valid.stands

  top_begins : Means IsCertificate top is.anchor.octets
  top_begins = subst (λ (o : List ℕ). Means IsCertificate top o) (octets_there certs tree.anchor is.anchor is.stands) top_stands

  let_in : (above : List ℕ) (place : ℕ) → IsTold is.told above place → AreAdmitted Admits [] (above ++ place ∷ [])
  let_in above place h =
      let all = (is.tells top top_begins).let_in in
      let i = subst (λ (u : Told). IsLetIn Admits [] u) h.3 (All-from_recursion (IsLetIn Admits []) is.told all h.0 h.1 h.2) in
      subst (λ (a : List ℕ). AreAdmitted Admits [] (a ++ place ∷ [])) (sym i.1 ∙ h.4.0)
      (subst (λ (p : ℕ). AreAdmitted Admits [] (i.0 ++ p ∷ [])) h.4.1 i.2)

  ends : (above rest : List ℕ) (place : ℕ) → AreAdmitted Admits above (rest ++ place ∷ []) → EndsNoCircle q.names top (contents certs) above
  ends above [] place h = h.0.no_circle
  ends above (p ∷ rest) place h = h.0.no_circle

  top_at : (p : ℕ) → first_place_of firsts p ≡ p → first_place_of firsts p ≡ first_place_of firsts tree.anchor →
      StandsAt (contents certs) p top
  top_at p itself same =
      subst (λ (k : ℕ). StandsAt (contents certs) k top) (sym same ∙ itself)
      (stands_first law (contents certs) firsts is.firsts_are tree.anchor top top_stands)

  all_free : (before rest : List ℕ) (place : ℕ) → AreAdmitted Admits before (rest ++ place ∷ []) →
      AllByRecursion (Free files firsts tree.anchor) rest
  all_free before [] place h = tt
  all_free before (p ∷ rest) place h = (
    (
      h.0.admitted,
      λ same. ends (before ++ p ∷ []) rest place h.1 before p refl top (top_at p h.0.admitted same)
          (top, inl refl, (refl, λ asks. refl)),
    ),
    all_free (before ++ p ∷ []) rest place h.1,
  )

  last_first : (before rest : List ℕ) (place : ℕ) → AreAdmitted Admits before (rest ++ place ∷ []) → first_place_of firsts place ≡ place
  last_first before [] place h = h.0.admitted
  last_first before (p ∷ rest) place h = last_first (before ++ p ∷ []) rest place h.1

  free_last : (ps : List ℕ) (p : ℕ) → AllByRecursion (Free files firsts tree.anchor) ps →
      Free files firsts tree.anchor p → AllByRecursion (Free files firsts tree.anchor) (ps ++ p ∷ [])
  free_last [] p h last = (last, tt)
  free_last (k ∷ ps) p h last = (h.0, free_last ps p h.1 last)

  free_back : (ps : List ℕ) → AllByRecursion (Free files firsts tree.anchor) ps →
      AllByRecursion (Free files firsts tree.anchor) (reverse ps)
  free_back [] h = tt
  free_back (p ∷ ps) h =
      subst (λ (r : List ℕ). AllByRecursion (Free files firsts tree.anchor) r) (sym (reverse-append (p ∷ []) ps))
      (free_last (reverse ps) p (free_back ps h.1) h.0)

  free_up : (above : List ℕ) (place : ℕ) → IsTold is.told above place → AllByRecursion (Free files firsts tree.anchor) (reverse above)
  free_up above place told = free_back above (all_free [] above place (let_in above place told))

  named_at : (place : ℕ) → (named : Option ℕ) × NamesIssuerAt files place named
  named_at place = some_named files files (placed_begin q.root tree.certs.items (all_begin q.files certs is.certs_are)) place

  -- a told path of which as many certificates are named as on the named one
  same_path : (place : ℕ) (above other : List ℕ) (m : ℕ) → IsTold is.told above place → IsTold is.told other place
      → IsNamedPath files firsts tree.anchor place above → NameIssuersAbove files firsts tree.anchor place (reverse other) m →
      length above + 1 ≤ m → other ≡ above
  same_path place above other m told these named count low =
      let long = length-reverse above in
      let back : reverse other ≡ reverse above =
      chain files firsts tree.anchor (one_by meant files) place (reverse above) (reverse other) (length above + 1) m
      (omega (arith, long)) named count low
      (free_up above place told) (free_up other place these) in
      sym (reverse-reverse other) ∙ ap (λ (r : List ℕ). reverse r) back ∙ reverse-reverse above

  module _ (place : ℕ) (above : List ℕ) (paths : AcceptedPaths) (shown : FoundPath) (told : IsTold is.told above place)
      (named : IsNamedPath files firsts tree.anchor place above) (line : slice_get tree.lines place ≡ Some (Accepted paths))
      (is_shown : IsShownPath files tree place (choice_of (paths_in paths) (named_in tree place)) shown) where
    itself : first_place_of firsts place ≡ place
    itself = last_first [] above place (let_in above place told)

    -- one that may be shown has as many certificates named, if it goes not behind
    record Kept (ps : List FoundPath) : Type 0 where
      path : FoundPath
      kept : Contains ps path
      is_told : IsTold is.told path.above.items place
      is_named : IsNamedPath files firsts tree.anchor place path.above.items

    by_kept : (ps : List FoundPath) (a : List ℕ) → has_path ps a ≡ true → (p : FoundPath) × Contains ps p × (p.above.items ≡ a)
    by_kept ps a has =
        let h = Any-from_list_any (λ (p : FoundPath). bytes_eq p.above.items a) ps has in
        (h.1, (h.0, h.2, h.3), (bytes_eq-Decides h.1.above.items a).0 h.4)

    by_has : (path : FoundPath) → IsToldBy is.told place path →
        IsNamedPath files firsts tree.anchor place path.above.items → (b : Bool) →
        has_path (paths_in paths) path.above.items ≡ b →
        Kept (if b then paths_in paths else take (most_paths - 1) (paths_in paths) ++ path ∷ [])
    by_has path its named true has =
        let k = by_kept (paths_in paths) path.above.items has in
        record {
          path = k.0;
          kept = k.1;
          is_told = subst (λ (a : List ℕ). IsTold is.told a place) (sym k.2) (told_so is.told place path its);
          is_named = subst (λ (a : List ℕ). IsNamedPath files firsts tree.anchor place a) (sym k.2) named;
        }
    by_has path its named false lacks = record {
      path = path;
      kept = Contains-push (take (most_paths - 1) (paths_in paths)) path;
      is_told = told_so is.told place path its;
      is_named = named;
    }

    choice_by : (o : Option FoundPath) → get nat_cmp tree.named place ≡ o → Kept (choice_of (paths_in paths) o)
    choice_by None none =
        elim (is.named_are.all place above (slice_get_within tree.lines place (Accepted paths) line) told named) [
          | inl has ↦
              let same : paths ≡ has.0 = cc (line, has.1) in
              let first : paths.first.above.items ≡ above = ap (λ (a : AcceptedPaths). a.first.above.items) same ∙ has.2 in
              record {
                path = paths.first;
                kept = (0, omega arith, refl);
                is_told = subst (λ (a : List ℕ). IsTold is.told a place) (sym first) told;
                is_named = subst (λ (a : List ℕ). IsNamedPath files firsts tree.anchor place a) (sym first) named;
              }
          | inr some ↦ absurd (false≢true (ap is_some (sym none) ∙ some))
        ]
    choice_by (Some path) some =
        let o = is.named_are.only place path some in by_has path o.0 o.1 (has_path (paths_in paths) path.above.items) refl

    choice_is : Kept (choice_of (paths_in paths) (named_in tree place))
    choice_is = choice_by (named_in tree place) (ap (λ (p : ℕ). get nat_cmp tree.named p) (sym itself))

    shown_told : IsTold is.told shown.above.items place
    shown_told = told_by x q l tree is place itself paths line shown is_shown.kept

    abbrev best : FoundPath
    best = choice_is.path

    abbrev its_count : (n : ℕ) × NameIssuersAbove files firsts tree.anchor place (reverse shown.above.items) n
    its_count = some_count files firsts tree.anchor named_at place (reverse shown.above.items)

    ranked : (p : FoundPath) (n : ℕ) → NameIssuersAbove files firsts tree.anchor place (reverse p.above.items) n →
        IsRank files tree place p (record { named = n; cas = octets_along files p.above.items })
    ranked p n is = record { named_are = is; cas_are = refl }

    -- it goes not behind that
    not_less : its_count.0 < length best.above.items + 1 → ⊥
    not_less low =
        let less : nat_cmp its_count.0 (length best.above.items + 1) ≡ Less =
        sym (nat_cmp_is its_count.0 (length best.above.items + 1) Less low) in
        let best_rank : Rank = record { named = length best.above.items + 1; cas = octets_along files best.above.items } in
        let shown_rank : Rank = record { named = its_count.0; cas = octets_along files shown.above.items } in
        let at = choice_is.kept in
        subst (λ (p : FoundPath). Precedes files tree place p shown → ⊥) at.2 (is_shown.first at.0 best at.1)
        (record {
          rank = best_rank;
          other_rank = shown_rank;
          rank_is = ranked best (length best.above.items + 1) choice_is.is_named;
          other_is = ranked shown its_count.0 its_count.1;
          before = ap (λ (o : Ordering).
              ordering_then (ordering_then o (nat_cmp (length best_rank.cas) (length shown_rank.cas)))
              (slice_cmp (slice_cmp nat_cmp) best_rank.cas shown_rank.cas)) less;
        })

    pub named_is_shown : shown.above.items ≡ above
    named_is_shown =
        let enough : length best.above.items + 1 ≤ its_count.0 =
        elim (less-or-not its_count.0 (length best.above.items + 1))
        [ inl low ↦ absurd (not_less low) | inr high ↦ high ] in
        let at_best = same_path place best.above.items shown.above.items its_count.0 choice_is.is_told
        shown_told choice_is.is_named its_count.1 enough in
        let reverse_long = length-reverse best.above.items in
        let one : best.above.items ≡ above = elim (less-or-not (length best.above.items) (length above)) [
          | inl low ↦ sym (same_path place best.above.items above (length above + 1) choice_is.is_told told
              choice_is.is_named named (omega (arith, low)))
          | inr high ↦ same_path place above best.above.items (length best.above.items + 1) told choice_is.is_told
              named choice_is.is_named (omega (arith, high))
        ] in
        at_best ∙ one

-- ---- trees

certs_agree : (files certs others : List FileFields) → AreCertificatesOf files certs → AreCertificatesOf files others → certs ≡ others
certs_agree [] _ _ h k = h ∙ sym k
certs_agree (file ∷ files) certs others (inl a) (inl b) = certs_agree files certs others a.1 b.1
certs_agree (file ∷ _) _ _ (inl a) (inr b) = absurd (a.0 b.1)
certs_agree (file ∷ _) _ _ (inr a) (inl b) = absurd (b.0 a.1)
certs_agree (file ∷ files) _ _ (inr a) (inr b) =
    a.3 ∙ ap (λ (l : List FileFields). file ∷ l) (certs_agree files a.0 b.0 a.2 b.2) ∙ sym b.3

placed_each : (root : List ℕ) (files : List (Bor FileFields)) →
    map (λ f. placed root f.now) files ≡ map (placed root) (map (λ f. f.now) files)
placed_each root [] = refl
placed_each root (file ∷ files) = ap (λ (l : List FileFields). placed root file.now ∷ l) (placed_each root files)

-- the trees' certificates are those of each
same_placed : (x : Context) (q : TreeFields) (trees : Trees) → AreTreesOf x q trees →
    (l : LocatorFields) (tree : Tree) → IsTreeOf x q l tree → placed_of trees ≡ placed_in q.root tree
same_placed x q trees are l tree is =
    placed_each trees.root.now trees.certs.items ∙ ap (λ (r : List ℕ). map (placed r) (files_of trees)) are.root_is
    ∙ ap (λ (cs : List FileFields). map (placed q.root) cs)
    (certs_agree q.files (files_of trees) (certs_of tree) are.certs_are is.certs_are)
    ∙ sym (placed_each q.root tree.certs.items)

pub shows_named : IsUnambiguous IsCertificate → IsOneMeant → (x : Context) (q : TreeFields) → ShowsNamed x q
shows_named law meant x q trees all l tree is place above paths path told named line shown =
    let first = last_first law meant x q l tree is [] above place (let_in law meant x q l tree is above place told) in
    let same = same_placed x q trees all l tree is in
    named_is_shown law meant x q l tree is place above paths path told
    (subst (λ (cs : List FileFields). IsNamedPath cs tree.firsts tree.anchor place above) same named)
    (ap (λ (p : ℕ). slice_get tree.lines p) (sym first) ∙ line)
    (subst (λ (cs : List FileFields). IsShownPath cs tree place (choice_of (paths_in paths) (named_in tree place)) path) same
    shown)
