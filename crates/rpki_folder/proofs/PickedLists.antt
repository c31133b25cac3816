-- The elements of a list that are picked, in their order, and the latest of them.
use Rattle.std.specs.Prelude.{Contains}
use Rattle.std.proofs.Common.{◌≡◌, ◌⊎◌, ◌<◌, ℕ, zero, suc, List, [], ◌∷◌, ◌++◌, length, map, get_or, refl, sym, ap}
use Rattle.std.proofs.Common.{subst, inl, inr, arith}
use Rattle.rpki_cert.specs.Certificates.{CertFields}
use Rattle.rpki_crl.specs.Lists.{CrlState}
use Rattle.rpki_path.specs.AskedLists.{HaveNone, IsLatest}
use Rattle.rpki_folder.specs.IssuerLists.{ArePicked, IsLatestOf}

-- ---- one element of a list

module _ {X : Type 0} where
  pub in_none : (x : X) → Contains [] x → ⊥
  in_none x at = absurd (omega (arith, at.1))

  pub in_front : (y : X) (xs : List X) (x : X) → y ≡ x → Contains (y ∷ xs) x
  in_front y xs x same = (0, omega arith, same)

  pub further : (y : X) (xs : List X) (x : X) → Contains xs x → Contains (y ∷ xs) x
  further y xs x at = (suc at.0, omega (arith, at.1), at.2)

  pub first_or_further : (y : X) (xs : List X) (x : X) → Contains (y ∷ xs) x → (y ≡ x) ⊎ Contains xs x
  first_or_further y xs x (zero, low, same) = inl same
  first_or_further y xs x (suc k, low, is) = inr (k, omega (arith, low), is)

-- what a function makes of one is among what it makes of all
pub in_mapped : {X Y : Type 0} (f : X → Y) (xs : List X) (i : ℕ) (x : X) → i < length xs → x ≡ get_or xs i x →
    Contains (map f xs) (f x)
in_mapped f [] i x low is = absurd (omega (arith, low))
in_mapped f (y ∷ xs) zero x low is = in_front (f y) (map f xs) (f x) (ap f (sym is))
in_mapped f (y ∷ xs) (suc i) x low is = further (f y) (map f xs) (f x) (in_mapped f xs i x (omega (arith, low)) is)

module _ {X : Type 0} (P : X → Type 0) where
  -- ---- one element more

  pub picked_more : (xs picked : List X) (x : X) → ArePicked P xs picked → P x →
      ArePicked P (xs ++ x ∷ []) (picked ++ x ∷ [])
  picked_more [] picked x is p = inl ([], p, ap (λ (l : List X). l ++ x ∷ []) is, refl)
  picked_more (y ∷ xs) picked x (inl (rest, q, is, h)) p =
      inl (rest ++ x ∷ [], q, ap (λ (l : List X). l ++ x ∷ []) is, picked_more xs rest x h p)
  picked_more (y ∷ xs) picked x (inr (not, h)) p = inr (not, picked_more xs picked x h p)

  pub picked_same : (xs picked : List X) (x : X) → ArePicked P xs picked → (P x → ⊥) → ArePicked P (xs ++ x ∷ []) picked
  picked_same [] picked x is not = inr (not, is)
  picked_same (y ∷ xs) picked x (inl (rest, q, is, h)) not = inl (rest, q, is, picked_same xs rest x h not)
  picked_same (y ∷ xs) picked x (inr (other, h)) not = inr (other, picked_same xs picked x h not)

  -- ---- one of those that are picked

  picked_further : (y : X) (xs : List X) (x : X) → Contains xs x × P x → Contains (y ∷ xs) x × P x
  picked_further y xs x (at, p) = (further y xs x at, p)

  -- it is one of all, and has P
  pub one_of_all : (xs picked : List X) → ArePicked P xs picked → (x : X) → Contains picked x → Contains xs x × P x
  one_of_all [] picked is x at = absurd (in_none x (subst (λ (l : List X). Contains l x) is at))
  one_of_all (y ∷ xs) picked (inl (rest, p, is, h)) x at =
      elim (first_or_further y rest x (subst (λ (l : List X). Contains l x) is at)) [
        | inl same ↦ (in_front y xs x same, subst P same p)
        | inr more ↦ picked_further y xs x (one_of_all xs rest h x more)
      ]
  one_of_all (y ∷ xs) picked (inr (not, h)) x at = picked_further y xs x (one_of_all xs picked h x at)

  -- one of all that has P is one of them
  pub one_of_picked : (xs picked : List X) → ArePicked P xs picked → (x : X) → Contains xs x → P x → Contains picked x
  one_of_picked [] picked is x at p = absurd (in_none x at)
  one_of_picked (y ∷ xs) picked (inl (rest, q, is, h)) x at p = subst (λ (l : List X). Contains l x) (sym is) (
      elim (first_or_further y xs x at) [
        | inl same ↦ in_front y rest x same
        | inr more ↦ further y rest x (one_of_picked xs rest h x more p)
      ]
      )
  one_of_picked (y ∷ xs) picked (inr (not, h)) x at p =
      elim (first_or_further y xs x at) [
        | inl same ↦ absurd (not (subst P (sym same) p))
        | inr more ↦ one_of_picked xs picked h x more p
      ]

-- of those that were picked some are picked
module _ {X : Type 0} (P Q : X → Type 0) where
  abbrev Both : X → Type 0
  Both x = P x × Q x

  one_of_both : (x : X) (xs rest few : List X) → P x →
      ((fewer : List X) → ArePicked Q rest fewer → ArePicked Both xs fewer) → ArePicked Q (x ∷ rest) few →
      ArePicked Both (x ∷ xs) few
  one_of_both x xs rest few p through (inl (fewer, q, same, more)) = inl (fewer, (p, q), same, through fewer more)
  one_of_both x xs rest few p through (inr (not, more)) = inr ((λ h. not h.1), through few more)

  pub picked_through : (xs some few : List X) → ArePicked P xs some → ArePicked Q some few →
      ArePicked (λ x. P x × Q x) xs few
  picked_through [] some few is h = subst (λ (l : List X). ArePicked Q l few) is h
  picked_through (x ∷ xs) some few (inl (rest, p, is, sub)) h =
      one_of_both x xs rest few p (λ fewer more. picked_through xs rest fewer sub more)
      (subst (λ (l : List X). ArePicked Q l few) is h)
  picked_through (x ∷ xs) some few (inr (not, sub)) h = inr ((λ g. not g.0), picked_through xs some few sub h)

-- ---- the latest

module _ (P E : CrlState → Type 0) (c : CertFields) (lists picked : List CrlState) (are : ArePicked P lists picked)
    (meets : (l : CrlState) → E l → P l) where
  -- the latest of those that are picked is the latest of all
  pub latest_of_all : (l : CrlState) → (P l → E l) → IsLatestOf c picked l → IsLatest E c lists l
  latest_of_all l fits h =
      let one = one_of_all P lists picked are l h.inside in
      record {
        inside = one.0;
        has = fits one.1;
        stays = λ other at e. h.stays other (one_of_picked P lists picked are other at (meets other e)) tt;
      }

  -- where none is picked, none is eligible
  pub none_of_all : picked ≡ [] → HaveNone E lists
  none_of_all is other at e =
      in_none other
      (subst (λ (ls : List CrlState). Contains ls other) is
      (one_of_picked P lists picked are other at (meets other e)))
