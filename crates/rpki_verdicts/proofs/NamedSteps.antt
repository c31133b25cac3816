-- One verdict more, in the named paths that are kept beside lines.
use Rattle.std.specs.BTreeMap.{BTreeMap, get, is_at}
use Rattle.std.specs.Cmp.{nat_cmp_is}
use Rattle.std.specs.Map.{lookup}
use Rattle.std.specs.Ordering.{is_eq, nat_cmp}
use Rattle.std.specs.declared.cmp.Ordering.{Ordering}
use Rattle.std.specs.declared.cmp.Ordering.TheVariants.{Less, Equal, Greater}
use Rattle.std.specs.Prelude.{Bool, true, false, Ok, IsOk, Option, None, Some, IsSome, cond, slice_get}
use Rattle.std.proofs.Common.{Bor, ◌≡◌, ◌⊎◌, ◌<◌, ℕ, List, [], ◌∷◌, ◌++◌, length, map, refl, sym, ap, subst, ◌∙◌, inl, inr, arith}
use Rattle.std.proofs.lemmas.Bool.{false≢true}
use Rattle.std.proofs.lemmas.List.{append-nil}
use Rattle.std.proofs.lemmas.Map.Lookups.{exact_unsigned}
use Rattle.rpki_files.specs.Files.{FileFields}
use Rattle.rpki_files.specs.declared.bare.BareObject.{BareObject}
use Rattle.rpki_folder.specs.KeptLines.{AreLines, BecameLines, IsBy, IsToldBy}
use Rattle.rpki_folder.specs.Walks.{IsTold, Told}
use Rattle.rpki_folder.specs.declared.find.FoundPath.{FoundPath}
use Rattle.rpki_folder.specs.declared.firsts.Firsts.{Firsts}
use Rattle.rpki_folder.specs.declared.lines.Line.{Line}
use Rattle.rpki_folder.specs.declared.lines.Line.TheVariants.{Unseen, Accepted, Rejected}
use Rattle.rpki_path.specs.declared.judging.Judged.{Judged}
use Rattle.rpki_verdicts.specs.NamedPaths.{AreNamedPaths, HasFirst, HasSome}
use Rattle.rpki_verdicts.specs.NamedPaths.Steps.{AreRight, BecameNamed, IsChosen, IsPassed, certs_in}
use Rattle.rpki_verdicts.specs.ShownPaths.{IsNamedPath, placed}
use Rattle.rpki_verdicts.specs.declared.named_paths.NameRule.{NameRule}
use Rattle.rpki_verdicts.specs.declared.named_paths.NamedLines.{NamedLines}
use Rattle.rpki_verdicts.proofs.KeptFirsts.{first_later, first_now, told_before, told_last, told_more}

-- ---- numbers as keys

is_at_itself : (n : ℕ) → is_at (nat_cmp n) n ≡ true
is_at_itself n = ap is_eq (sym (nat_cmp_is n n Equal refl))

are_equal : (o : Ordering) → is_eq o ≡ true → o ≡ Equal
are_equal Less is = absurd (false≢true is)
are_equal Equal is = refl
are_equal Greater is = absurd (false≢true is)

is_at_same : (n k : ℕ) → is_at (nat_cmp n) k ≡ true → n ≡ k
is_at_same n k is = exact_unsigned n k (are_equal (nat_cmp n k) is)

-- ---- the paths beside lines

-- the same paths are at all places
abbrev pub AreSamePaths : BTreeMap ℕ FoundPath → BTreeMap ℕ FoundPath → Type 0
AreSamePaths m n = (place : ℕ) → get nat_cmp n place ≡ get nat_cmp m place

-- one is added at a place
abbrev pub IsAdded : ℕ → FoundPath → BTreeMap ℕ FoundPath → BTreeMap ℕ FoundPath → Type 0
IsAdded place path m n = (at : ℕ) → get nat_cmp n at ≡ cond (is_at (nat_cmp place) at) (Some path) (get nat_cmp m at)

-- and taken out
pub taken_out : (place : ℕ) (path : FoundPath) (m n k : BTreeMap ℕ FoundPath) → get nat_cmp m place ≡ None → IsAdded place path m n →
    ((at : ℕ) → get nat_cmp k at ≡ cond (is_at (nat_cmp place) at) None (get nat_cmp n at)) → AreSamePaths m k
taken_out place path m n k none added out = λ at. by_test at (is_at (nat_cmp place) at) refl where
  by_test : (at : ℕ) (b : Bool) → is_at (nat_cmp place) at ≡ b → get nat_cmp k at ≡ get nat_cmp m at
  by_test at true here = out at ∙ ap (λ (b : Bool). cond b None (get nat_cmp n at)) here ∙ sym none ∙
      ap (λ (p : ℕ). get nat_cmp m p) (is_at_same place at here)
  by_test at false other = out at ∙ ap (λ (b : Bool). cond b None (get nat_cmp n at)) other ∙ added at ∙
      ap (λ (b : Bool). cond b (Some path) (get nat_cmp m at)) other

has_or_not : (o : Option Line) → HasSome o ⊎ (HasSome o → ⊥)
has_or_not None = inr (λ h. let is = h.1 in absurd cc)
has_or_not (Some Unseen) = inr (λ h. let is = h.1 in absurd cc)
has_or_not (Some (Accepted paths)) = inl (paths, refl)
has_or_not (Some (Rejected n fault)) = inr (λ h. let is = h.1 in absurd cc)

module _ (certs : List FileFields) (firsts : Firsts) (anchor : ℕ) where
  abbrev Kept : List Told → List Line → BTreeMap ℕ FoundPath → Type 0
  Kept ts lines m = AreNamedPaths certs firsts anchor ts lines m

  -- none was told
  pub none_named : (lines : List Line) (m : BTreeMap ℕ FoundPath) → m.entries ≡ [] → Kept [] lines m
  none_named lines m empty = record {
    only = λ place path is. absurd
        (let none : get nat_cmp m place ≡ None = ap (λ (es : List (ℕ × FoundPath)). lookup (is_at (nat_cmp place)) es) empty in
        cc (none, is));
    all = λ place above low was named. absurd (let less = was.2 in omega (arith, less));
  }

  -- no verdict more
  pub named_still : (ts : List Told) (old new : List Line) → AreLines ts old → AreLines ts new → length new ≡ length old →
      (m n : BTreeMap ℕ FoundPath) → AreSamePaths m n → Kept ts old m → Kept ts new n
  named_still ts old new are now count m n same h =
      let again : AreLines (ts ++ []) new = subst (λ (l : List Told). AreLines l new) (sym (append-nil ts)) now in record {
        only = λ place path is. h.only place path (sym (same place) ∙ is);
        all = λ place above low was named. elim (h.all place above (omega (arith, low, count)) was named) [
          | inl has ↦ inl (first_later ts [] old new are again count place above has)
          | inr some ↦ inr (subst (λ (o : Option FoundPath). IsSome o) (sym (same place)) some)
        ];
      }

  -- one verdict more
  module _ (ts : List Told) (t : Told) (old new : List Line) (are : AreLines ts old) (now : AreLines (ts ++ t ∷ []) new)
      (count : length new ≡ length old) (m n : BTreeMap ℕ FoundPath) (h : Kept ts old m) where
    abbrev Only : ℕ → FoundPath → Type 0
    Only place path = IsToldBy (ts ++ t ∷ []) place path × IsNamedPath certs firsts anchor place path.above.items

    abbrev Found : ℕ → List ℕ → Type 0
    Found place above = HasFirst (slice_get new place) above ⊎ IsSome (get nat_cmp n place)

    only_later : (place : ℕ) (path : FoundPath) → get nat_cmp m place ≡ Some path → Only place path
    only_later place path is = let o = h.only place path is in (told_more (IsBy place path) ts (t ∷ []) o.0, o.1)

    module _ (keeps : (place : ℕ) → IsSome (get nat_cmp m place) → IsSome (get nat_cmp n place))
        (its : t.place < length new → IsOk t.verdict → IsNamedPath certs firsts anchor t.place t.above →
        Found t.place t.above) where
      all_later : (place : ℕ) (above : List ℕ) → place < length new → IsTold (ts ++ t ∷ []) above place →
          IsNamedPath certs firsts anchor place above → Found place above
      all_later place above low was named =
          elim (told_before (λ u. (u.above ≡ above) × (u.place ≡ place) × IsOk u.verdict) ts t was) [
            | inl before ↦ elim (h.all place above (omega (arith, low, count)) before named) [
              | inl has ↦ inl (first_later ts (t ∷ []) old new are now count place above has)
              | inr some ↦ inr (keeps place some)
            ]
            | inr is ↦
                subst (λ (a : List ℕ). Found place a) is.0
                (subst (λ (p : ℕ). Found p t.above) is.1
                (its (subst (λ (p : ℕ). p < length new) (sym is.1) low) is.2
                (subst (λ (p : ℕ). IsNamedPath certs firsts anchor p t.above) (sym is.1)
                (subst (λ (a : List ℕ). IsNamedPath certs firsts anchor place a) (sym is.0) named))))
          ]

    -- by which no path is kept
    pub named_same : AreSamePaths m n →
        (IsOk t.verdict → IsNamedPath certs firsts anchor t.place t.above → HasSome (slice_get old t.place) →
        IsSome (get nat_cmp m t.place)) → Kept (ts ++ t ∷ []) new n
    named_same same passed =
        let keeps = λ (place : ℕ) (some : IsSome (get nat_cmp m place)).
        subst (λ (o : Option FoundPath). IsSome o) (sym (same place)) some in record {
          only = λ place path is. only_later place path (sym (same place) ∙ is);
          all = all_later keeps (λ low ok named. elim (has_or_not (slice_get old t.place)) [
            | inl some ↦ inr (keeps t.place (passed ok named some))
            | inr none ↦ inl (first_now ts t old new are now count (omega (arith, low, count)) ok none)
          ]);
        }

    -- by which a path is kept
    module _ (path : FoundPath) (by : IsBy t.place path t) (named : IsNamedPath certs firsts anchor t.place t.above)
        (added : IsAdded t.place path m n) where
      new_only : Only t.place path
      new_only = (
        told_last (IsBy t.place path) ts t by,
        subst (λ (a : List ℕ). IsNamedPath certs firsts anchor t.place a) by.0 named,
      )

      only_by : (place : ℕ) (other : FoundPath) (b : Bool) → is_at (nat_cmp t.place) place ≡ b →
          cond b (Some path) (get nat_cmp m place) ≡ Some other → Only place other
      only_by place other true here is =
          let same : path ≡ other = cc in
          subst (λ (p : ℕ). Only p other) (is_at_same t.place place here)
          (subst (λ (q : FoundPath). Only t.place q) same new_only)
      only_by place other false here is = only_later place other is

      some_by : (place : ℕ) (b : Bool) → IsSome (get nat_cmp m place) → IsSome (cond b (Some path) (get nat_cmp m place))
      some_by place true some = refl
      some_by place false some = some

      its_path : get nat_cmp n t.place ≡ Some path
      its_path = added t.place ∙ ap (λ (b : Bool). cond b (Some path) (get nat_cmp m t.place)) (is_at_itself t.place)

      pub named_added : Kept (ts ++ t ∷ []) new n
      named_added = record {
        only = λ place other is. only_by place other (is_at (nat_cmp t.place) place) refl (sym (added place) ∙ is);
        all = all_later (λ place some. subst (λ (o : Option FoundPath). IsSome o) (sym (added place))
            (some_by place (is_at (nat_cmp t.place) place) some))
            (λ low ok was. inr (subst (λ (o : Option FoundPath). IsSome o) (sym its_path) refl));
      }

-- ---- lines with their paths

-- what is kept by one rule is by the other
by_rule : (a b : NameRule) → b ≡ a → (ts : List Told) (lines : List Line) (m : BTreeMap ℕ FoundPath) →
    AreNamedPaths (certs_in a) a.firsts.now a.anchor ts lines m → AreNamedPaths (certs_in b) b.firsts.now b.anchor ts lines m
by_rule a b same ts lines m h =
    subst (λ (r : NameRule). AreNamedPaths (certs_in r) r.firsts.now r.anchor ts lines m) (sym same) h

module _ (v a b : NamedLines) (ts : List Told) (h : BecameNamed v ts a) (rule : b.rule ≡ a.rule)
    (right : AreRight a.rule a.names → AreRight b.rule b.names) where
  -- no verdict more
  pub became_same : BecameLines v.lines ts b.lines → (AreRight a.rule a.names → AreSamePaths a.paths b.paths) → BecameNamed v ts b
  became_same lines paths = record {
    rule_is = rule ∙ h.rule_is;
    lines_are = lines;
    right = λ was. right (h.right was);
    paths_are = λ was none kept.
        by_rule a.rule b.rule rule ts b.lines b.paths
        (named_still (certs_in a.rule) a.rule.firsts.now a.rule.anchor ts a.lines b.lines (h.lines_are.1 none) (lines.1 none)
        (lines.0 ∙ sym h.lines_are.0) a.paths b.paths (paths (h.right was)) (h.paths_are was none kept));
  }

  -- nor another line or path
  pub became_kept : b.lines ≡ a.lines → b.paths ≡ a.paths → BecameNamed v ts b
  became_kept lines paths =
      became_same (subst (λ (l : List Line). BecameLines v.lines ts l) (sym lines) h.lines_are)
      (λ right place. ap (λ (m : BTreeMap ℕ FoundPath). get nat_cmp m place) paths)

  module _ (t : Told) (lines : BecameLines v.lines (ts ++ t ∷ []) b.lines) where
    -- one by which no path is kept
    pub became_passed : AreSamePaths a.paths b.paths →
        (AreRight a.rule a.names → IsOk t.verdict → IsPassed a t.above t.place) → BecameNamed v (ts ++ t ∷ []) b
    became_passed paths passed = record {
      rule_is = rule ∙ h.rule_is;
      lines_are = lines;
      right = λ was. right (h.right was);
      paths_are = λ was none kept.
          by_rule a.rule b.rule rule (ts ++ t ∷ []) b.lines b.paths
          (named_same (certs_in a.rule) a.rule.firsts.now a.rule.anchor ts t a.lines b.lines (h.lines_are.1 none)
          (lines.1 none) (lines.0 ∙ sym h.lines_are.0) a.paths b.paths (h.paths_are was none kept) paths
          (λ ok. passed (h.right was) ok));
    }

    -- one by which a path is kept
    pub became_added : (j : Judged) (path : FoundPath) → t.verdict ≡ Ok j → IsAdded t.place path a.paths b.paths →
        (AreRight a.rule a.names → IsChosen a t.above t.place j path) → BecameNamed v (ts ++ t ∷ []) b
    became_added j path is added chosen = record {
      rule_is = rule ∙ h.rule_is;
      lines_are = lines;
      right = λ was. right (h.right was);
      paths_are = λ was none kept.
          let one = chosen (h.right was) in
          by_rule a.rule b.rule rule (ts ++ t ∷ []) b.lines b.paths
          (named_added (certs_in a.rule) a.rule.firsts.now a.rule.anchor ts t a.lines b.lines (h.lines_are.1 none)
          (lines.1 none) (lines.0 ∙ sym h.lines_are.0) a.paths b.paths (h.paths_are was none kept) path
          (sym one.above_is, refl, is ∙ ap (λ (k : Judged). Ok k) (sym one.judged_is)) one.named added);
    }

-- what is kept by a rule over these files
pub kept_over : (rule : NameRule) (root : List ℕ) (certs : List (Bor BareObject)) (firsts : Firsts) (anchor : ℕ) →
    rule.root.now ≡ root → rule.certs.now ≡ certs → rule.firsts.now ≡ firsts → rule.anchor ≡ anchor →
    (ts : List Told) (lines at : List Line) (m n : BTreeMap ℕ FoundPath) → at ≡ lines → n ≡ m →
    AreNamedPaths (certs_in rule) rule.firsts.now rule.anchor ts lines m →
    AreNamedPaths (map (λ file. placed root file.now) certs) firsts anchor ts at n
kept_over rule root certs firsts anchor roots files places anchors ts lines at m n same_lines same_paths h =
    subst (λ (k : BTreeMap ℕ FoundPath). AreNamedPaths (map (λ file. placed root file.now) certs) firsts anchor ts at k)
    (sym same_paths)
    (subst (λ (l : List Line). AreNamedPaths (map (λ file. placed root file.now) certs) firsts anchor ts l m)
    (sym same_lines)
    (subst (λ (k : ℕ). AreNamedPaths (map (λ file. placed root file.now) certs) firsts k ts lines m) anchors
    (subst (λ (f : Firsts). AreNamedPaths (map (λ file. placed root file.now) certs) f rule.anchor ts lines m) places
    (subst (λ (cs : List (Bor BareObject)).
    AreNamedPaths (map (λ file. placed root file.now) cs) rule.firsts.now rule.anchor ts lines m) files
    (subst (λ (r : List ℕ).
    AreNamedPaths (map (λ file. placed r file.now) rule.certs.now) rule.firsts.now rule.anchor ts lines m) roots h)))))
