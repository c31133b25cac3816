-- What is found of certificates as trust anchors, one after the other.
use Rattle.std.specs.Cmp.{IsTotalOrder, on_total, then_total, tied_itself}
use Rattle.std.specs.Cmp.Lexicographic.{nat_list_cmp_total}
use Rattle.std.specs.Global.{Vec}
use Rattle.std.specs.List.{AllByRecursion}
use Rattle.std.specs.declared.cmp.Ordering.TheVariants.{Less, Equal}
use Rattle.std.specs.Prelude.{◌≢◌, Any, Bool, IsTrue}
use Rattle.std.proofs.Common.{◌≡◌, ◌+◌, ◌<◌, ◌≤◌, ℕ, List, [], ◌∷◌, ◌++◌, length, refl, sym, ap, subst, ◌∙◌}
use Rattle.std.proofs.Common.{inl, inr, arith}
use Rattle.std.proofs.lemmas.Bool.{cases_eq}
use Rattle.std.proofs.lemmas.Cmp.{nat_cmp_total}
use Rattle.std.proofs.lemmas.List.Elements.{All-contains, All-from_recursion, Contains-append_left, Contains-push}
use Rattle.rpki_der.specs.Encoding.{Means}
use Rattle.rpki_der.specs.Times.{second_number}
use Rattle.rpki_der.specs.Values.{IsUnambiguous}
use Rattle.rpki_der.proofs.Formats.{one_meant}
use Rattle.rpki_cert.specs.Certificates.{CertFields, IsCertificate}
use Rattle.rpki_cert.specs.Verification.{Context, ResourceFields}
use Rattle.rpki_keys.specs.Locators.{NamedTal}
use Rattle.rpki_path.specs.Asking.{RevocationChecks}
use Rattle.rpki_path.specs.NameChains.{IsSelfNamed}
use Rattle.rpki_path.specs.LocatedPaths.{BeginsWithKey, IsLocatedFault, IsOutOfMemory}
use Rattle.rpki_path.specs.Paths.{UnlessMemory}
use Rattle.rpki_path.specs.declared.located.LocatedError.{LocatedError}
use Rattle.rpki_path.specs.declared.located.LocatedError.TheVariants.{OtherKey as other_key}
use Rattle.rpki_path.specs.declared.located.LocatedError.TheVariants.{NoResources as no_resources, Path as path}
use Rattle.rpki_path.specs.declared.path_fault.PathFault.{PathFault}
use Rattle.rpki_path.specs.declared.path_fault.PathFault.TheVariants.{Decode, Inspect, Verify, Revocation, Memory}
use Rattle.rpki_path.proofs.LocatedPaths.{no_path_from, no_path_below}
use Rattle.rpki_path.proofs.Rejections.{no_valid_path}
use Rattle.rpki_folder.specs.Folders.{string_at}
use Rattle.rpki_folder.specs.FoundAnchors.{HaveAscendingPlaces, AreWrongAnchors, IsFound, IsValidAt, IsWrongAnchor}
use Rattle.rpki_folder.specs.FoundAnchors.{anchor_order}
use Rattle.rpki_folder.specs.FoundAnchors.Steps.{IsFoundAmong, IsKeptFound, IsTried}
use Rattle.rpki_folder.specs.Walks.{LeadsTo, IsValidAnchor, IsWhyNone, at_anchor}
use Rattle.rpki_folder.specs.declared.anchors.FoundAnchor.{FoundAnchor}
use Rattle.rpki_folder.specs.declared.anchors.FoundAnchor.TheVariants as found
use Rattle.rpki_folder.specs.declared.anchors.Tried.{Tried}
use Rattle.rpki_folder.specs.declared.anchors.Tried.TheVariants as tried
use Rattle.rpki_folder.specs.declared.anchors.WrongCandidate.{WrongCandidate}
use Rattle.rpki_folder.specs.declared.walk_error.WalkError.{WalkError}
use Rattle.rpki_folder.specs.declared.walk_error.WalkError.TheVariants as walk_error
use Rattle.rpki_folder.proofs.AnchorSteps.{anchor_is, anchor_top, top_begins}
use Rattle.rpki_folder.proofs.PickedLists.{first_or_further}

-- ---- the order

pub order_total : IsTotalOrder anchor_order
order_total =
    then_total
    (then_total
    (then_total (on_total (λ (c : CertFields). second_number c.fields.validity.not_after) nat_cmp_total)
    (on_total (λ (c : CertFields). second_number c.fields.validity.not_before) nat_cmp_total))
    (on_total (λ (c : CertFields). c.signed_data.message) nat_list_cmp_total))
    (on_total (λ (c : CertFields). c.signed_data.signature.value) nat_list_cmp_total)

never_itself : (c : CertFields) → anchor_order c c ≡ Less → ⊥
never_itself c is = let tied : anchor_order c c ≡ Equal = tied_itself order_total c in absurd (cc (tied, is))

-- ---- lists

module _ (P : WrongCandidate → Type 0) where
  all_both : (l : List WrongCandidate) (w : WrongCandidate) → AllByRecursion P l → P w → AllByRecursion P (l ++ w ∷ [])
  all_both [] w all one = (one, tt)
  all_both (v ∷ l) w all one = (all.0, all_both l w all.1 one)

all_within : (n : ℕ) (l : List WrongCandidate) → AllByRecursion (λ w. w.place < n) l →
    AllByRecursion (λ w. w.place < n + 1) l
all_within n [] all = tt
all_within n (w ∷ l) all = let low = all.0 in (omega (arith, low), all_within n l all.1)

ascending_both : (l : List WrongCandidate) (w : WrongCandidate) → AllByRecursion (λ v. v.place < w.place) l →
    HaveAscendingPlaces l → HaveAscendingPlaces (l ++ w ∷ [])
ascending_both [] w low is = (tt, tt)
ascending_both (v ∷ l) w low is = (all_both (λ u. v.place < u.place) l w is.0 low.0, ascending_both l w low.1 is.1)

any_both : (place : ℕ) (l : List WrongCandidate) (w : WrongCandidate) → Any (λ v. v.place ≡ place) l →
    Any (λ v. v.place ≡ place) (l ++ w ∷ [])
any_both place l w any = let c = Contains-append_left l (w ∷ []) any.1 (any.0, any.2, any.3) in
    (c.0, any.1, c.1, c.2, any.4)

-- the first of them stands before the others
pub least_place : (w : WrongCandidate) (more : List WrongCandidate) → HaveAscendingPlaces (w ∷ more) → (place : ℕ) →
    Any (λ v. v.place ≡ place) (w ∷ more) → w.place ≤ place
least_place w more is place any =
    let at = any.4 in
    elim (first_or_further w more any.1 (any.0, any.2, any.3)) [
      | inl same ↦ let here : w.place ≡ place = ap (λ (v : WrongCandidate). v.place) same ∙ at in omega (arith, here)
      | inr further ↦
          let later : w.place < any.1.place = All-contains (λ v. w.place < v.place) more any.1
          (All-from_recursion (λ v. w.place < v.place) more is.0) further in
          omega (arith, later, at)
    ]

-- ---- one certificate

module _ (x : Context) (asked : RevocationChecks) (t : NamedTal) (octets : List ℕ) where
  -- it begins its octets
  pub begins_anchor : (r : ResourceFields) → LeadsTo x asked (at_anchor t octets) [] r →
      Means IsCertificate r.cert octets
  begins_anchor r h = subst (λ (c : CertFields). Means IsCertificate c octets)
      (sym (anchor_top x asked t octets r h)) (top_begins x asked t octets r h)

  -- a valid one has the locator's key
  valid_key : (names : Bool) → IsValidAnchor x asked names t octets → BeginsWithKey t.tal octets
  valid_key names valid =
      record {
        cert = valid.1.path.anchor;
        begins = valid.1.path_of.anchor_begins;
        key_is =
            valid.1.is_valid.key_is;
      }

  -- what holds unless memory ran out
  unless_not : {P : Type 0} (e : PathFault) → UnlessMemory e P → (e ≡ Memory → ⊥) → P
  unless_not (Decode e) h not = h
  unless_not (Inspect e) h not = h
  unless_not (Verify e) h not = h
  unless_not (Revocation e) h not = h
  unless_not Memory h not = absurd (not refl)

  module _ (law : IsUnambiguous IsCertificate) (names : Bool) where
    -- one that is wrong isn't valid
    never_both : (e : LocatedError) → (IsOutOfMemory e → ⊥) → IsLocatedFault x asked t.tal octets [] e →
        IsValidAnchor x asked names t octets → ⊥
    never_both other_key not fault valid = no_path_from law t.tal octets x asked [] fault valid.1.path
        valid.1.path_of valid.1.is_valid
    never_both no_resources not fault valid = no_path_below law t.tal octets x asked [] fault.1 valid.1.path
        valid.1.path_of valid.1.is_valid
    never_both (path e) not fault valid =
        unless_not e.fault (no_valid_path x asked law octets [] e fault.0) not valid.1.path valid.1.path_of
        valid.1.is_valid.is_valid

    never_wrong : (e : WalkError) → e ≢ walk_error.Memory → IsWhyNone x asked names t octets e →
        IsValidAnchor x asked names t octets → ⊥
    never_wrong (walk_error.Anchor e) not why valid = never_both e why.0 why.1 valid
    never_wrong walk_error.OtherName not why valid =
        let r = why.1.0 in
        let same : valid.0.cert ≡ r.cert = anchor_is x asked t octets valid.0 valid.1 law r.cert
        (begins_anchor r why.1.1) in
        why.1.2 (subst IsSelfNamed same (valid.2 why.0))
    never_wrong walk_error.Memory not why valid = absurd (not refl)

-- ---- one certificate more

module _ (x : Context) (asked : RevocationChecks) (names : Bool) (t : NamedTal) (certs : List (List ℕ)) where
  -- at the beginning nothing was tried
  pub none_tried : (wrong : Vec WrongCandidate) → wrong.items ≡ [] →
      IsFoundAmong x asked names t certs 0 (found.Wrong wrong)
  none_tried wrong none = (
    subst (λ (l : List WrongCandidate). AreWrongAnchors x asked names t certs 0 l) (sym none)
        (record { inside = tt; each = tt; all = λ place low key. absurd (omega (arith, low)); ascending = tt }),
    λ k c low valid. absurd (omega (arith, low)),
  )

  -- all were
  pub all_tried : (f : FoundAnchor) → IsFoundAmong x asked names t certs (length certs) f →
      IsFound x asked names t certs f
  all_tried (found.Valid place r) is =
      (is.0, record { cert = r.cert; valid = is.1; greatest = λ k d valid. is.2 k d valid.inside valid })
  all_tried (found.Wrong wrong) is = (is.0, λ place c valid. is.1 place c valid.inside valid)

  module _ (law : IsUnambiguous IsCertificate) (n : ℕ) (inside : n < length certs) where
    -- what holds of the valid ones so far and of one at this place
    one_more : (P : CertFields → Type 0) →
        ((k : ℕ) (c : CertFields) → k < n → IsValidAt x asked names t certs k c → P c) →
        ((c : CertFields) → IsValidAt x asked names t certs n c → P c) → (k : ℕ) (c : CertFields) → k < n + 1 →
        IsValidAt x asked names t certs k c → P c
    one_more P old here k c low valid = elim (cases_eq k n) [
      | inl at ↦ here c (subst (λ (m : ℕ). IsValidAt x asked names t certs m c) at valid)
      | inr not ↦ let less : k < n = omega (arith, low, not) in old k c less valid
    ]

    all_more : (wrong : List WrongCandidate) →
        ((k : ℕ) → k < n → BeginsWithKey t.tal (string_at certs k) → Any (λ w. w.place ≡ k) wrong) →
        (BeginsWithKey t.tal (string_at certs n) → Any (λ w. w.place ≡ n) wrong) → (k : ℕ) → k < n + 1 →
        BeginsWithKey t.tal (string_at certs k) → Any (λ w. w.place ≡ k) wrong
    all_more wrong old here k low key = elim (cases_eq k n) [
      | inl at ↦ subst (λ (m : ℕ). Any (λ w. w.place ≡ m) wrong) (sym at)
          (here (subst (λ (m : ℕ). BeginsWithKey t.tal (string_at certs m)) at key))
      | inr not ↦ let less : k < n = omega (arith, low, not) in old k less key
    ]

    -- one of another key
    same_wrong : (BeginsWithKey t.tal (string_at certs n) → ⊥) → (wrong : List WrongCandidate) →
        AreWrongAnchors x asked names t certs n wrong → AreWrongAnchors x asked names t certs (n + 1) wrong
    same_wrong none wrong are = record {
      inside = all_within n wrong are.inside;
      each = are.each;
      all = all_more wrong are.all (λ key. absurd (none key));
      ascending = are.ascending;
    }

    no_key : (BeginsWithKey t.tal (string_at certs n) → ⊥) → (f : FoundAnchor) →
        IsFoundAmong x asked names t certs n f → IsFoundAmong x asked names t certs (n + 1) f
    no_key none (found.Valid place r) is = (
      is.0,
      is.1,
      one_more (λ c. anchor_order r.cert c ≡ Less → ⊥) is.2
          (λ c valid. absurd (none (valid_key x asked t (string_at certs n) names valid.is_valid))),
    )
    no_key none (found.Wrong wrong) is = (
      same_wrong none wrong.items is.0,
      one_more (λ c. ⊥) is.1 (λ c valid. none (valid_key x asked t (string_at certs n) names valid.is_valid)),
    )

    -- one that is wrong
    module _ (e : WalkError) (wrong : IsWrongAnchor x asked names t (string_at certs n) e) where
      abbrev this : WrongCandidate
      this = record { place = n; error = e }

      with_this : (l : List WrongCandidate) → AreWrongAnchors x asked names t certs n l →
          AreWrongAnchors x asked names t certs (n + 1) (l ++ this ∷ [])
      with_this l are = record {
        inside = all_both (λ w. w.place < n + 1) l this (all_within n l are.inside) (omega arith);
        each = all_both (λ w. IsWrongAnchor x asked names t (string_at certs w.place) w.error) l this are.each wrong;
        all = all_more (l ++ this ∷ []) (λ k low key. any_both k l this (are.all k low key))
            (λ key. let c = Contains-push l this in (c.0, this, c.1, c.2, refl));
        ascending = ascending_both l this are.inside are.ascending;
      }

      never_valid : (c : CertFields) → IsValidAt x asked names t certs n c → ⊥
      never_valid c valid = never_wrong x asked t (string_at certs n) law names e wrong.no_memory wrong.why
          valid.is_valid

      is_wrong : (old new : FoundAnchor) → IsFoundAmong x asked names t certs n old →
          IsKeptFound old n (tried.Wrong e) new → IsFoundAmong x asked names t certs (n + 1) new
      is_wrong (found.Valid place r) new is kept =
          subst (λ (f : FoundAnchor). IsFoundAmong x asked names t certs (n + 1) f) (sym kept)
          (is.0, is.1, one_more (λ c. anchor_order r.cert c ≡ Less → ⊥) is.2 (λ c valid. absurd (never_valid c valid)))
      is_wrong (found.Wrong l) new is (more, new_is, items_are) =
          subst (λ (f : FoundAnchor). IsFoundAmong x asked names t certs (n + 1) f) (sym new_is) (
            subst (λ (ws : List WrongCandidate). AreWrongAnchors x asked names t certs (n + 1) ws) (sym items_are)
                (with_this l.items is.0),
            one_more (λ c. ⊥) is.1 never_valid,
          )

    -- one that is valid
    module _ (r : ResourceFields) (leads : LeadsTo x asked (at_anchor t (string_at certs n)) [] r)
        (named : IsTrue names → IsSelfNamed r.cert) where
      here : IsValidAt x asked names t certs n r.cert
      here = record {
        inside = inside;
        stands = begins_anchor x asked t (string_at certs n) r leads;
        is_valid =
            (r, leads, named);
      }

      one_cert : (c : CertFields) → IsValidAt x asked names t certs n c → c ≡ r.cert
      one_cert c valid = one_meant IsCertificate law c r.cert (string_at certs n) valid.stands here.stands

      -- it is the greatest
      taken : ((k : ℕ) (c : CertFields) → k < n → IsValidAt x asked names t certs k c →
          anchor_order r.cert c ≡ Less → ⊥) → IsFoundAmong x asked names t certs (n + 1) (found.Valid n r)
      taken before = (
        leads,
        here,
        one_more (λ c. anchor_order r.cert c ≡ Less → ⊥) before
            (λ c valid less. never_itself r.cert
            (subst (λ (d : CertFields). anchor_order r.cert d ≡ Less) (one_cert c valid) less)),
      )

      is_valid : (old new : FoundAnchor) → IsFoundAmong x asked names t certs n old →
          IsKeptFound old n (tried.Valid r) new → IsFoundAmong x asked names t certs (n + 1) new
      is_valid (found.Wrong l) new is kept =
          subst (λ (f : FoundAnchor). IsFoundAmong x asked names t certs (n + 1) f) (sym kept)
          (taken (λ k c low valid less. is.1 k c low valid))
      is_valid (found.Valid place s) new is (inl took) =
          subst (λ (f : FoundAnchor). IsFoundAmong x asked names t certs (n + 1) f) (sym took.1)
          (taken (λ k c low valid less. is.2 k c low valid (order_total.trans s.cert r.cert c took.0 less)))
      is_valid (found.Valid place s) new is (inr (not, kept)) =
          subst (λ (f : FoundAnchor). IsFoundAmong x asked names t certs (n + 1) f) (sym kept) (
            is.0,
            is.1,
            one_more (λ c. anchor_order s.cert c ≡ Less → ⊥) is.2
                (λ c valid less.
                not (subst (λ (d : CertFields). anchor_order s.cert d ≡ Less) (one_cert c valid) less)),
          )

    -- what was found of the certificate is kept
    pub one_tried : (old new : FoundAnchor) (this : Tried) → IsFoundAmong x asked names t certs n old →
        IsTried x asked names t (string_at certs n) this → IsKeptFound old n this new →
        IsFoundAmong x asked names t certs (n + 1) new
    one_tried old new tried.OtherKey is none kept =
        subst (λ (f : FoundAnchor). IsFoundAmong x asked names t certs (n + 1) f) (sym kept) (no_key none old is)
    one_tried old new (tried.Wrong e) is wrong kept = is_wrong e wrong old new is kept
    one_tried old new (tried.Valid r) is valid kept = is_valid r valid.0 valid.1 old new is kept
