-- The trust anchor among strings, by the folder into which they are sorted.
use Rattle.std.specs.Prelude.{Bool, Any, Err}
use Rattle.std.proofs.Common.{◌≡◌, ◌<◌, ℕ, List, [], ◌∷◌, ◌++◌, length, get_or, refl, sym, ap, subst, ◌∙◌}
use Rattle.std.proofs.Common.{inl, inr, arith}
use Rattle.std.proofs.lemmas.Bool.{cases_lt, cases_eq}
use Rattle.std.proofs.lemmas.List.{get_or_past}
use Rattle.rpki_der.specs.Values.{IsUnambiguous}
use Rattle.rpki_der.proofs.Formats.{one_meant}
use Rattle.rpki_ext.specs.Kinds.{Means}
use Rattle.rpki_cert.specs.Certificates.{CertFields, IsCertificate}
use Rattle.rpki_cert.specs.Verification.{Context}
use Rattle.rpki_path.specs.Asking.{RevocationChecks}
use Rattle.rpki_path.specs.AskedLists.{by_named_lists}
use Rattle.rpki_keys.specs.Locators.{NamedTal, TalFields}
use Rattle.rpki_path.specs.LocatedPaths.{BeginsWithKey, BeginsWithOtherKey}
use Rattle.rpki_path.specs.Paths.{Finds, IsFault, trust_anchor_demand}
use Rattle.rpki_path.specs.declared.located.LocatedError.TheVariants.{OtherKey, NoResources, Path as path}
use Rattle.rpki_path.specs.declared.path_fault.PathError.{PathError}
use Rattle.rpki_folder.specs.Folders.{string_at}
use Rattle.rpki_folder.specs.FoundAnchors.{AreWrongAnchors, HasNoValid, IsValidAt}
use Rattle.rpki_folder.specs.Walks.{StandsAt, IsValidAnchor, IsWhyNone}
use Rattle.rpki_folder.specs.declared.anchors.WrongCandidate.{WrongCandidate}
use Rattle.rpki_folder.specs.declared.folder.Added.{Added}
use Rattle.rpki_folder.specs.declared.folder.Added.TheVariants.{Certificate, List as list_added, Neither}
use Rattle.rpki_folder.specs.declared.walk_error.WalkError.{WalkError}
use Rattle.rpki_folder.specs.declared.walk_error.WalkError.TheVariants.{Anchor as at_fault, OtherName, Memory}
use Rattle.rpki_folder.proofs.Descent.{no_certificate}
use Rattle.rpki_folder.proofs.TriedAnchors.{least_place}
use Rattle.rpki_c.specs.FolderFates.{HasNoFolderAnchor, IsAddedAs, IsFirstWithKey, IsSorted, NoneHasKey, origin_of}
use Rattle.rpki_c.specs.FolderFates.Steps.{refusal_of, wrong_first}
use Rattle.rpki_c.specs.FolderTelling.{AnswersBelow}
use Rattle.rpki_c.specs.declared.folder_question.FolderTerms.{FolderTerms}
use Rattle.rpki_c.specs.declared.sorting.Sorted.{Sorted}

-- ---- certificates among the strings

module _ (s : Sorted) (sorted : IsSorted s) where
  abbrev all_strings : List (List ℕ)
  all_strings = s.strings.now

  abbrev all_certs : List (List ℕ)
  all_certs = s.folder.certs

  -- the certificate at a place is the string there
  filed_same : (p : ℕ) → string_at all_strings (origin_of s p) ≡ string_at all_certs p
  filed_same p = elim (cases_lt p (length all_certs)) [
    | inl low ↦ sorted.came_from p (length s.added.items) low
    | inr high ↦
        let few = sorted.origin_count in
        let past : origin_of s p ≡ length s.added.items = get_or_past s.origins.items p (length s.added.items)
        (omega (arith, high, few)) in
        let n = sorted.count in
        ap (λ (i : ℕ). string_at all_strings i) past ∙ get_or_past all_strings (length s.added.items) []
        (omega (arith, n)) ∙ sym (get_or_past all_certs p [] high)
  ]

  -- a string that begins with a certificate was added as one
  record IsAddedAt (i : ℕ) (c : CertFields) : Type 0 where
    low : i < length all_strings
    place : ℕ
    added_is : get_or s.added.items i Neither ≡ Certificate place
    inside : place < length all_certs
    from : origin_of s place ≡ i
    stands : StandsAt all_certs place c

  added_as : (i : ℕ) (c : CertFields) → i < length all_strings → StandsAt all_strings i c → (a : Added) →
      get_or s.added.items i Neither ≡ a → IsAddedAs (string_at all_strings i) a → IsAddedAt i c
  added_as i c low stands (Certificate p) is says =
      let at = sorted.placed i p Neither low is in
      let from = at.1 (length s.added.items) in
      record {
        low = low;
        place = p;
        added_is = is;
        inside = at.0;
        from = from;
        stands = subst (λ (o : List ℕ). Means IsCertificate c o)
            (ap (λ (n : ℕ). string_at all_strings n) (sym from) ∙ filed_same p) stands;
      }
  added_as i c low stands list_added is says = absurd (says.1.no_certificate c stands)
  added_as i c low stands Neither is says = absurd (says.0 c stands)

  added_at : (i : ℕ) (c : CertFields) → StandsAt all_strings i c → IsAddedAt i c
  added_at i c stands = elim (cases_lt i (length all_strings)) [
    | inl low ↦ added_as i c low stands (get_or s.added.items i Neither) refl (sorted.begins i Neither low)
    | inr high ↦ absurd (no_certificate c (string_at all_strings i) stands (get_or_past all_strings i [] high))
  ]

  -- ---- the trust anchor

  module _ (x : Context) (asked : RevocationChecks) (names : Bool) (t : NamedTal) where
    -- a string that is a valid one is one in the folder
    valid_filed : (i : ℕ) (c : CertFields) → IsValidAt x asked names t all_strings i c →
        (p : ℕ) × IsValidAt x asked names t all_certs p c
    valid_filed i c valid =
        let at = added_at i c valid.stands in (
          at.place,
          record {
            inside = at.inside;
            stands = at.stands;
            is_valid = subst (λ (o : List ℕ). IsValidAnchor x asked names t o)
                (ap (λ (n : ℕ). string_at all_strings n) (sym at.from) ∙ filed_same at.place) valid.is_valid;
          },
        )

    none_among : HasNoValid x asked names t all_certs → HasNoValid x asked names t all_strings
    none_among none i c valid = let p = valid_filed i c valid in none p.0 c p.1

    -- a string with the locator's key is one of those that are wrong
    module _ (wrong : List WrongCandidate)
        (are : AreWrongAnchors x asked names t all_certs (length all_certs) wrong) where
      wrong_among : (i : ℕ) → BeginsWithKey t.tal (string_at all_strings i) →
          (p : ℕ) × Any (λ w. w.place ≡ p) wrong × (origin_of s p ≡ i)
      wrong_among i key =
          let at = added_at i key.cert key.begins in (
            at.place,
            are.all at.place at.inside
                (record { cert = key.cert; begins = at.stands; key_is = key.key_is }),
            at.from,
          )

    none_has_key : AreWrongAnchors x asked names t all_certs (length all_certs) [] → NoneHasKey t.tal all_strings
    none_has_key are i low key = let w = wrong_among [] are i key in let none = w.1.2 in absurd (omega (arith, none))

    first_among : (w : WrongCandidate) (more : List WrongCandidate) →
        AreWrongAnchors x asked names t all_certs (length all_certs) (w ∷ more) →
        IsFirstWithKey t.tal all_strings (origin_of s w.place)
    unfolding wrong_among added_at
    first_among w more are = record {
      inside = sorted.inside w.place (length s.added.items) are.inside.0;
      has_key = subst (λ (o : List ℕ). BeginsWithKey t.tal o) (sym (filed_same w.place)) are.each.0.has_key;
      none_before = λ i less key.
          let k = wrong_among (w ∷ more) are i key in
          let least = least_place w more are.ascending k.0 k.1 in
          let from = k.2 in
          elim (cases_eq w.place k.0) [
            | inl same ↦
                let here : origin_of s w.place ≡ i = ap (origin_of s) same ∙ from in
                absurd (omega (arith, less, here))
            | inr apart ↦
                let before : w.place < k.0 = omega (arith, least, apart) in
                let at = added_at i key.cert key.begins in
                let q : k.0 < length all_certs = at.inside in
                let later = sorted.ascend w.place k.0 (length s.added.items) (length s.added.items) before q in
                absurd (omega (arith, later, less, from))
          ];
    }

-- ---- a wrong trust anchor

not_both : (t : TalFields) (octets : List ℕ) → IsUnambiguous IsCertificate → BeginsWithKey t octets →
    BeginsWithOtherKey t octets → ⊥
not_both t octets law h other =
    other.key_differs
    (ap (λ (c : CertFields). c.fields.key)
    (one_meant IsCertificate law other.cert h.cert octets other.begins h.begins) ∙ h.key_is)

no_middle : {X : Type 0} (before after : List X) (there : X) → [] ≡ before ++ there ∷ after → ⊥
no_middle [] after there e = absurd cc
no_middle (b ∷ before) after there e = absurd cc

alone : (x : Context) (asked : RevocationChecks) (octets : List ℕ) (e : PathError) → IsFault x asked octets [] e →
    Finds x (trust_anchor_demand x) octets e.fault
alone x asked octets e h = elim h [
  | inl top ↦ top.fault_is
  | inr below ↦ absurd (no_middle below.before below.after below.there below.parts)
]

-- why a walk didn't begin
module _ (x : Context) (t : NamedTal) (all : List (List ℕ)) (top : ℕ) (f : FolderTerms)
    (n : HasNoFolderAnchor x f.asks_names t all top) where
  refused_right : IsUnambiguous IsCertificate → (e : WalkError) →
      IsWhyNone x (by_named_lists f.asks_names x n.lists) f.asks_names t (string_at all top) e
      → AnswersBelow x f t all (Err (refusal_of top e))
  refused_right law Memory h = tt
  refused_right law OtherName h = (n, (n.lists, n.lists_are, h))
  refused_right law (at_fault OtherKey) h =
      absurd (not_both t.tal (string_at all top) law n.first.has_key h.1)
  refused_right law (at_fault NoResources) h = (n, h.1.1)
  refused_right law (at_fault (path e)) h =
      (n, h.0, alone x (by_named_lists f.asks_names x n.lists) (string_at all top) e h.1.0)

-- ---- answers

module _ (x : Context) (t : NamedTal) (f : FolderTerms) (law : IsUnambiguous IsCertificate) where
  abbrev asked_in : Sorted → RevocationChecks
  asked_in s = by_named_lists f.asks_names x s.folder.lists

  -- the answer where there was none
  pub wrong_answered : (s : Sorted) → IsSorted s → (wrong : List WrongCandidate) →
      AreWrongAnchors x (asked_in s) f.asks_names t s.folder.certs (length s.folder.certs) wrong
      → HasNoValid x (asked_in s) f.asks_names t s.folder.certs →
      AnswersBelow x f t s.strings.now (Err (wrong_first s wrong))
  wrong_answered s sorted [] are none = none_has_key s sorted x (asked_in s) f.asks_names t are
  wrong_answered s sorted (w ∷ more) are none =
      let top = origin_of s w.place in
      let n : HasNoFolderAnchor x f.asks_names t s.strings.now top = record {
        first = first_among s sorted x (asked_in s) f.asks_names t w more are;
        lists = s.folder.lists;
        lists_are = sorted.lists_are;
        none = none_among s sorted x (asked_in s) f.asks_names t none;
      } in
      refused_right x t s.strings.now top f n law w.error
      (subst (λ (o : List ℕ). IsWhyNone x (asked_in s) f.asks_names t o w.error) (sym (filed_same s sorted w.place))
      are.each.0.why)
