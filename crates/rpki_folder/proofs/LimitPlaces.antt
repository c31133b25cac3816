-- The limits of a walk that looks at each certificate at its first place alone are at first places.
use Rattle.std.specs.List.{AllByRecursion}
use Rattle.std.specs.Prelude.{◌==◌, Bool, fold, if◌then◌else◌}
use Rattle.std.proofs.Common.{◌≡◌, ◌∙◌, ℕ, List, [], ◌∷◌, ◌++◌, refl, ap, subst, sym}
use Rattle.std.proofs.lemmas.List.{append-nil}
use Rattle.rpki_cert.specs.Certificates.{CertFields}
use Rattle.rpki_cert.specs.Verification.{Context}
use Rattle.rpki_path.specs.Asking.{RevocationChecks}
use Rattle.rpki_folder.specs.FirstPlaces.{IsFirstIn, first_place_of}
use Rattle.rpki_folder.specs.LimitTables.{both_reached, ca_at, of_limit, reached_more}
use Rattle.rpki_folder.specs.ReachedLimits.{AreLimited, IsLimitAt, LimitedCa}
use Rattle.rpki_folder.specs.Walks.{Root, AreAdmitted, IsLookedAt}
use Rattle.rpki_folder.specs.declared.bounds.Limit.{Limit}
use Rattle.rpki_folder.specs.declared.bounds.Limit.TheVariants.{Depth, Steps as steps}
use Rattle.rpki_folder.specs.declared.firsts.Firsts.{Firsts}
use Rattle.rpki_folder.specs.declared.limits.Reached.{Reached}
use Rattle.rpki_folder.proofs.Descent.{all_weaker}

module _ (x : Context) (asked : RevocationChecks) (names : Bool) (root : Root) (top : CertFields)
    (certs : List (List ℕ)) (firsts : Firsts) (start depth share : ℕ) where
  abbrev Looks : List ℕ → ℕ → Type 0
  Looks = IsLookedAt names (IsFirstIn firsts) top certs

  -- the last of the places that are let in is a first one
  last_first : (p : ℕ) (done above more : List ℕ) → AreAdmitted Looks done (above ++ more) →
      first_place_of firsts (ca_at p above) ≡ ca_at (first_place_of firsts p) above
  last_first p done [] more in_all = refl
  last_first p done (q ∷ above) more (here, rest) = last_first q (done ++ q ∷ []) above more rest ∙
      ap (λ (n : ℕ). ca_at n above) here.admitted

  one_first : (above : List ℕ) (limit : Limit) → IsLimitAt x asked Looks root certs share depth above limit →
      first_place_of firsts (ca_at start above) ≡ ca_at (first_place_of firsts start) above
  one_first above Depth deep = last_first start [] above (deep.below.place ∷ []) deep.below.admitted
  one_first above (steps needed) short =
      last_first start [] above []
      (subst (λ (l : List ℕ). AreAdmitted Looks [] l) (sym (append-nil above)) short.0.admitted)

  pub limited_first : (limited : List LimitedCa) → AreLimited x asked Looks root certs depth share limited →
      AllByRecursion (λ l. first_place_of firsts (ca_at start l.above) ≡ ca_at (first_place_of firsts start)
      l.above) limited
  limited_first limited are =
      all_weaker (λ (l : LimitedCa). IsLimitAt x asked Looks root certs share depth l.above l.limit)
      (λ (l : LimitedCa). first_place_of firsts (ca_at start l.above) ≡ ca_at (first_place_of firsts start) l.above)
      (λ l at. one_first l.above l.limit at) limited are.only

-- so what was reached at the first place of a certificate was reached at any of its copies
pub first_reached : (firsts : Firsts) (start place : ℕ) (limited : List LimitedCa) →
    AllByRecursion (λ l. first_place_of firsts (ca_at start l.above) ≡ ca_at (first_place_of firsts start) l.above)
    limited
    → (r : Reached) → reached_more (first_place_of firsts start) place r limited ≡
    fold (λ s l. if first_place_of firsts (ca_at start l.above) == place then both_reached (of_limit l.limit) s
    else s) r
    limited
first_reached firsts start place [] are r = refl
first_reached firsts start place (l ∷ limited) (is, are) r =
    let here = ap (λ (n : ℕ). if n == place then both_reached (of_limit l.limit) r else r) (sym is) in
    ap (λ (s : Reached). reached_more (first_place_of firsts start) place s limited) here ∙
    first_reached firsts start place limited are
    (if first_place_of firsts (ca_at start l.above) == place then both_reached (of_limit l.limit) r else r)
