-- Paths in the order of their ranks.
use Rattle.std.specs.Bool.{MatchBool}
use Rattle.std.specs.List.{AllByRecursion}
use Rattle.std.specs.List.Sorted.{IsPermutation, IsSorted}
use Rattle.std.specs.Ordering.{is_lt}
use Rattle.std.specs.declared.cmp.Ordering.TheVariants.{Less}
use Rattle.std.specs.Prelude.{Bool, true, false, if◌then◌else◌, Contains, Option, None, Some, MatchOption, slice_get, reverse}
use Rattle.std.proofs.Common.{◌≡◌, ◌∙◌, ◌+◌, Bor, ℕ, List, [], ◌∷◌, map, refl, sym, ap, subst, inl, inr, arith}
use Rattle.std.proofs.lemmas.Bool.{false≢true}
use Rattle.std.proofs.lemmas.List.Elements.{All-cons, All-from_recursion, recursion_from_All}
use Rattle.std.proofs.lemmas.List.Sorted.{All-permutation, Contains-permutation, IsPermutation-map}
use Rattle.std.proofs.lemmas.List.Sorted.{IsPermutation-refl, IsPermutation-sym, ranks_by}
use Rattle.rpki_cert.specs.Certificates.{CertFields, IsCertificate}
use Rattle.rpki_der.specs.Encoding.{Means}
use Rattle.rpki_files.specs.Files.{FileFields}
use Rattle.rpki_verdicts.specs.ShownPaths.{ArePathsInOrder, NameIssuersAbove, AreShown, all_of, choice_of, NamesIssuerAt, IsNamedIn, IsRank}
use Rattle.rpki_verdicts.specs.ShownPaths.{IsShownPath, Precedes, Rank, is_issuer_file, named_in, place_of, rank_order}
use Rattle.rpki_verdicts.specs.ShownPaths.Steps.{IsRanked, rank_of, ranked_order}
use Rattle.rpki_verdicts.proofs.PathRanks.{Later, later_of_sorted, not_before_itself, rank_total}
use Rattle.rpki_folder.specs.declared.find.FoundPath.{FoundPath}
use Rattle.rpki_folder.specs.declared.firsts.Firsts.{Firsts}
use Rattle.rpki_verdicts.specs.declared.shown_paths.RankedPath.{RankedPath}
use Rattle.rpki_verdicts.specs.declared.shown_paths.ShownPaths.{ShownPaths}
use Rattle.rpki_folder.specs.declared.lines.AcceptedPaths.{AcceptedPaths}
use Rattle.rpki_verdicts.specs.declared.unordered.Tree.{Tree}
use Rattle.rpki_folder.specs.KeptLines.{paths_in}

-- octets begin with at most one certificate
abbrev pub IsOneMeant : Type 0
IsOneMeant = (c d : CertFields) (octets : List ℕ) → Means IsCertificate c octets → Means IsCertificate d octets → c ≡ d

-- ---- a path has one rank

module _ (one : IsOneMeant) (certs : List FileFields) where
  one_named : (octets : List ℕ) (a b : Option ℕ) → IsNamedIn certs octets a → IsNamedIn certs octets b → a ≡ b
  one_named octets a b (inl m) (inl n) =
      m.2 ∙ ap (λ (c : CertFields). place_of certs c.fields.extensions.ca_issuer) (one m.0 n.0 octets m.1 n.1) ∙ sym n.2
  one_named octets a b (inl m) (inr n) = absurd (n.0 (m.0, m.1))
  one_named octets a b (inr m) (inl n) = absurd (m.0 (n.0, n.1))
  one_named octets a b (inr m) (inr n) = m.1 ∙ sym n.1

  one_of_file : (o : Option FileFields) (a b : Option ℕ)
      → MatchOption o (a ≡ None) (λ file. IsNamedIn certs file.octets a)
      → MatchOption o (b ≡ None) (λ file. IsNamedIn certs file.octets b) → a ≡ b
  one_of_file None a b m n = m ∙ sym n
  one_of_file (Some file) a b m n = one_named file.octets a b m n

  pub one_by : (place : ℕ) (a b : Option ℕ) → NamesIssuerAt certs place a → NamesIssuerAt certs place b → a ≡ b
  one_by place a b m n = one_of_file (slice_get certs place) a b m n

  module _ (firsts : Firsts) (anchor : ℕ) where
    abbrev Named : ℕ → List ℕ → ℕ → Type 0
    Named place up n = NameIssuersAbove certs firsts anchor place up n

    abbrev Counts : ℕ → List ℕ → Bool → ℕ → Type 0
    Counts issuer up t n = MatchBool t ((k : ℕ) × Named issuer up k × (n ≡ k + 1)) (n ≡ 0)

    one_more : (issuer : ℕ) (up : List ℕ) → ((n m : ℕ) → Named issuer up n → Named issuer up m → n ≡ m)
        → (t : Bool) (n m : ℕ) → Counts issuer up t n → Counts issuer up t m → n ≡ m
    one_more issuer up one_above true n m a b = a.2 ∙ ap (λ (k : ℕ). k + 1) (one_above a.0 b.0 a.1 b.1) ∙ sym b.2
    one_more issuer up one_above false n m a b = a ∙ sym b

    pub one_count : (place : ℕ) (up : List ℕ) (n m : ℕ) → Named place up n → Named place up m → n ≡ m
    one_count place [] n m a b =
        a.2 ∙ ap (λ (o : Option ℕ). if is_issuer_file firsts o anchor then 1 else 0) (one_by place a.0 b.0 a.1 b.1) ∙ sym b.2
    one_count place (issuer ∷ up) n m a b =
        one_more issuer up (λ k l. one_count issuer up k l) (is_issuer_file firsts b.0 issuer) n m
        (subst (λ (o : Option ℕ). Counts issuer up (is_issuer_file firsts o issuer) n) (one_by place a.0 b.0 a.1 b.1) a.2)
        b.2

module _ (one : IsOneMeant) (certs : List FileFields) (tree : Tree) where
  module _ (place : ℕ) where
    one_rank_of : (path : FoundPath) (r s : Rank) → IsRank certs tree place path r → IsRank certs tree place path s → r ≡ s
    one_rank_of path r s a b =
        let named = one_count one certs tree.firsts tree.anchor place (reverse path.above.items) r.named s.named a.named_are
        b.named_are in
        let cas = a.cas_are ∙ sym b.cas_are in
        λ i. record { named = named i; cas = cas i }

    -- that of a path whose number is known
    its_rank : (r : RankedPath) → IsRanked certs tree place r → IsRank certs tree place r.path.now (rank_of certs r)
    its_rank r is = record { named_are = is; cas_are = refl }

    -- ---- the order

    none_before : (r s : RankedPath) → IsRanked certs tree place r → IsRanked certs tree place s → is_lt (ranked_order certs s r) ≡ false
        → Precedes certs tree place s.path.now r.path.now → ⊥
    none_before r s a b none p =
        let front = one_rank_of s.path.now p.rank (rank_of certs s) p.rank_is (its_rank s b) in
        let back = one_rank_of r.path.now p.other_rank (rank_of certs r) p.other_is (its_rank r a) in
        let less : rank_order (rank_of certs s) (rank_of certs r) ≡ Less =
        ap (λ (x : Rank). rank_order x (rank_of certs r)) (sym front) ∙ ap (λ (y : Rank). rank_order p.rank y) (sym back) ∙ p.before in
        false≢true (sym none ∙ ap is_lt less)

    none_among : (r : RankedPath) (rs : List RankedPath) → IsRanked certs tree place r → AllByRecursion (IsRanked certs tree place) rs
        → AllByRecursion (λ s. is_lt (ranked_order certs s r) ≡ false) rs
        → AllByRecursion (λ other. Precedes certs tree place other r.path.now → ⊥) (map (λ it. it.path.now) rs)
    none_among r [] a all none = tt
    none_among r (s ∷ rs) a all none = (none_before r s a all.0 none.0, none_among r rs a all.1 none.1)

    pub in_order : (rs : List RankedPath) → AllByRecursion (IsRanked certs tree place) rs
        → Later (λ r s. is_lt (ranked_order certs r s)) rs → ArePathsInOrder certs tree place (map (λ it. it.path.now) rs)
    in_order [] all up = tt
    in_order (r ∷ rs) all up = (none_among r rs all.0 all.1 up.0, in_order rs all.1 up.1)

    not_itself : (path : FoundPath) → Precedes certs tree place path path → ⊥
    not_itself path p =
        let same = one_rank_of path p.other_rank p.rank p.other_is p.rank_is in
        not_before_itself p.rank (ap (λ (s : Rank). rank_order p.rank s) (sym same) ∙ p.before)

    -- ---- the first of them is the one that is shown

    pub first_shown : (path : FoundPath) (more paths : List FoundPath) → IsPermutation paths (path ∷ more)
        → ArePathsInOrder certs tree place (path ∷ more) → IsShownPath certs tree place paths path
    first_shown path more paths moved order =
        let back = IsPermutation-sym paths (path ∷ more) moved in
        let here : Contains (path ∷ more) path = (0, omega arith, refl) in record {
          kept = Contains-permutation (path ∷ more) paths path back here;
          first = All-permutation (λ other. Precedes certs tree place other path → ⊥) (path ∷ more) paths back
              (All-cons (λ other. Precedes certs tree place other path → ⊥) path more (not_itself path)
              (All-from_recursion (λ other. Precedes certs tree place other path → ⊥) more order.0));
        }

    -- a path alone
    pub only_shown : (paths : AcceptedPaths) (shown : ShownPaths) → paths.others.items ≡ [] → named_in tree place ≡ None
        → shown.shown.now ≡ paths.first → shown.others.items ≡ [] → shown.more ≡ paths.more
        → AreShown certs tree place paths shown
    only_shown paths shown alone no_named first none more =
        let choice : List FoundPath = choice_of (paths_in paths) (named_in tree place) in
        let kept : paths_in paths ≡ choice = ap (λ (o : Option FoundPath). choice_of (paths_in paths) o) (sym no_named) in
        let all : all_of shown ≡ choice =
        ap (λ (l : List (Bor FoundPath)). shown.shown.now ∷ map (λ path. path.now) l) none ∙ ap (λ (p : FoundPath). p ∷ []) first
        ∙ ap (λ (l : List FoundPath). paths.first ∷ l) (sym alone) ∙ kept in
        let moved = subst (λ (l : List FoundPath). IsPermutation choice l) (sym all) (IsPermutation-refl choice) in
        let order : ArePathsInOrder certs tree place (all_of shown) =
        subst (λ (l : List (Bor FoundPath)). ArePathsInOrder certs tree place (shown.shown.now ∷ map (λ path. path.now) l))
        (sym none) (tt, tt) in record {
          all = moved;
          in_order = order;
          is_shown = first_shown shown.shown.now (map (λ path. path.now) shown.others.items)
              (choice_of (paths_in paths) (named_in tree place)) moved order;
          more_is = more;
        }

    -- several, which were put in order
    pub several_shown : (paths : AcceptedPaths) (shown : ShownPaths) (ranked ordered : List RankedPath)
        → map (λ it. it.path.now) ranked ≡ choice_of (paths_in paths) (named_in tree place) → IsPermutation ranked ordered
        → AllByRecursion (IsRanked certs tree place) ranked → IsSorted (ranked_order certs) ordered
        → map (λ it. it.path.now) ordered ≡ all_of shown → shown.more ≡ paths.more → AreShown certs tree place paths shown
    several_shown paths shown ranked ordered are moves numbers up all more =
        let paths_of : List RankedPath → List FoundPath = λ rs. map (λ it. it.path.now) rs in
        let moved : IsPermutation (choice_of (paths_in paths) (named_in tree place)) (all_of shown) =
        subst (λ (l : List FoundPath). IsPermutation l (all_of shown)) are
        (subst (λ (l : List FoundPath). IsPermutation (paths_of ranked) l) all
        (IsPermutation-map (λ (it : RankedPath). it.path.now) ranked ordered moves)) in
        let kept = recursion_from_All (IsRanked certs tree place) ordered
        (All-permutation (IsRanked certs tree place) ranked ordered moves
        (All-from_recursion (IsRanked certs tree place) ranked numbers)) in
        let order : ArePathsInOrder certs tree place (all_of shown) =
        subst (λ (l : List FoundPath). ArePathsInOrder certs tree place l) all
        (in_order ordered kept
        (later_of_sorted (λ r s. is_lt (ranked_order certs r s)) (ranks_by rank_total (rank_of certs)) ordered
        up)) in record {
          all = moved;
          in_order = order;
          is_shown = first_shown shown.shown.now (map (λ path. path.now) shown.others.items)
              (choice_of (paths_in paths) (named_in tree place)) moved order;
          more_is = more;
        }
